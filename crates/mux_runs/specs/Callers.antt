-- The callers of a link: own profile.
use Rattle.std.specs.Prelude.{◌≡◌, ℕ, ◌+◌, List, [], ◌∷◌, ◌++◌, map}
use Rattle.turn_cell.specs.Seats.{CellView}
use Rattle.client_mux.specs.Machine.{Mux, History}
use Rattle.client_mux.specs.Callers.{IsCaller, IsShort}
use Rattle.shared_link.specs.Closings.{IsBack}
use Rattle.shared_link.specs.Link.{Sitting}
use Rattle.shared_link.specs.Turns.{IsFresh}
use Rattle.mux_sides.specs.Calling.{IsCall, left_of}
use Rattle.mux_sides.specs.declared.calling.CallEnd.{CallEnd}
use Rattle.mux_runs.specs.declared.jobs.Asking.{Asking}
use Rattle.mux_runs.specs.declared.jobs.CallJob.{CallJob}
use Rattle.mux_runs.specs.declared.jobs.CallDone.{CallDone}

-- each request is short enough for a message
abbrev pub AreShort : List Asking → Type 0
AreShort [] = Unit {0}
AreShort (a ∷ qs) = IsShort a.request × AreShort qs

-- what the jobs ask
abbrev pub asked_by : List CallJob → List Asking
asked_by jobs = map (λ (j : CallJob). j.asking) jobs

-- the seats that callers leave, and what came of their calls
abbrev pub seats_of : List CallDone → List Sitting
seats_of done = map (λ (d : CallDone). d.seat) done

-- what came of the callers' calls
abbrev pub ends_of : List CallDone → List CallEnd
ends_of done = map (λ (d : CallDone). d.end) done

-- a caller with this number that has called nothing, and a request that is short enough
pub record IsReady (cell : CellView Mux) (number : ℕ) (job : CallJob) : Type 0 where
  pub fresh : IsFresh cell number job.seat
  pub caller : IsCaller cell.terms.opening number
  pub short : IsShort job.asking.request

-- such callers, with the numbers from this one on
abbrev pub AreReady : CellView Mux → ℕ → List CallJob → Type 0
AreReady cell first [] = Unit {0}
AreReady cell first (j ∷ js) = IsReady cell first j × AreReady cell (first + 1) js

-- the caller with this number made its call once, which came to this, and left; its seat came back
pub record HasCalled (cell : CellView Mux) (number : ℕ) (asking : Asking) (done : CallDone) : Type 0 where
  pub entries : History
  pub is_call : IsCall number asking.request asking.due done.end entries
  pub mine : done.seat.mine ≡ entries ++ left_of number ∷ []
  pub back : IsBack cell number done.seat

-- all callers did, with the numbers from this one on
abbrev pub HaveCalled : CellView Mux → ℕ → List Asking → List CallDone → Type 0
HaveCalled cell first [] [] = Unit {0}
HaveCalled cell first [] (d ∷ ds) = ⊥
HaveCalled cell first (a ∷ qs) [] = ⊥
HaveCalled cell first (a ∷ qs) (d ∷ ds) = HasCalled cell first a d × HaveCalled cell (first + 1) qs ds
