-- The input of a picture: what its bytes are, and which of its runs is looked for. Own profile.
use Rattle.std.specs.Prelude.{◌≡◌, ℕ, true, false, List, Option, Some, None, slice_get}
use Rattle.trace_reading.specs.Faults.{FaultAt}
use Rattle.trace_reading.specs.Traces.{Trace, AreTraces}
use Rattle.trace_runs.specs.Reading.{IsSound}
use Rattle.trace_reading.specs.Traces.{IsTrace}
use Rattle.picture_runs.specs.declared.found.Found.{Found}
use Rattle.picture_runs.specs.declared.found.Found.TheVariants as found

-- the bytes are runs, and the one of this number among them is this one
pub record HasRun (bytes : List ℕ) (n : ℕ) (run : Trace) : Type 0 where
  pub runs : List Trace
  pub are : AreTraces bytes runs
  pub which : Some run ≡ slice_get runs n

-- the bytes are runs, and there is none of this number
pub record HasNoRun (bytes : List ℕ) (n : ℕ) : Type 0 where
  pub runs : List Trace
  pub are : AreTraces bytes runs
  pub none : None ≡ slice_get runs n

-- what is found in a text that is runs, where the run that is looked for is this one, or there is none
abbrev pub found_of : Option Trace → Found
found_of (Some run) = found.Run run
found_of None = found.Absent

-- what a text is in which a run is looked for: runs, with this one or without; or at fault in a whole line, or only in what isn't one
abbrev pub Finds : List ℕ → ℕ → Found → Type 0
Finds text n (found.Run run) = HasRun text n run × IsTrace run
Finds text n found.Absent = HasNoRun text n
Finds text n (found.Lacking at) = FaultAt text true at × IsSound text
Finds text n (found.AtFault at) = FaultAt text false at
