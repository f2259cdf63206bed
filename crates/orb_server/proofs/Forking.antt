-- Slots side by side, in their order.
use Rattle.std.proofs.Common.{ℕ, ◌+◌, List, [], ◌∷◌, sym, subst}
use Rattle.std.specs.List.{All}
use Rattle.std.proofs.lemmas.List.Elements.{All-nil, All-cons}
use Rattle.orb_base.specs.Links.{AcceptorState}
use Rattle.orb_base.specs.Outside.{SourceState, SinkState}
use Rattle.turn_cell.specs.Seats.{CellView}
use Rattle.lane_machine.specs.State.{State}
use Rattle.adapter_policies.specs.SetupData.{SetupData}
use Rattle.side_by_side.specs.Sides.{Pairs}
use Rattle.orb_server.specs.Jobs.{PoolJob, PoolDone}
use Rattle.orb_server.specs.Threads.{IsJob, AreJobs, acceptors_of, IsDone, AreDone}

module _ {A I O : Type 0} (setup : SetupData) (cell : CellView State) where
  -- each job is that of its own number
  pub job_own : (k : ℕ) (x : PoolJob A I O) → IsJob setup cell k x → IsJob setup cell x.place.who x
  job_own k x j = subst (λ (n : ℕ). IsJob setup cell n x) (sym j.fresh.who_is) j

  pub jobs_own : (P : PoolJob A I O → Type 0) → ((x : PoolJob A I O) → IsJob setup cell x.place.who x → P x) → (slot : ℕ) (js : List (PoolJob A I O)) → AreJobs setup cell slot js → All P js
  jobs_own P f slot [] a = All-nil P
  jobs_own P f slot (x ∷ xs) a = All-cons P x xs (f x (job_own slot x a.0)) (jobs_own P f (slot + 1) xs a.1)

module _ {A I O : Type 0} (state : A → AcceptorState I O) (source : I → SourceState) (sink : O → SinkState) (setup : SetupData) (cell : CellView State) where
  -- what each slot of its own number left, they left in order
  pub done_own : (Q : PoolJob A I O → PoolDone A I O → Type 0) → ((x : PoolJob A I O) (d : PoolDone A I O) → Q x d → IsDone state source sink setup cell x.place.who x.acceptor d)
      → (slot : ℕ) (js : List (PoolJob A I O)) (ds : List (PoolDone A I O)) → AreJobs setup cell slot js → Pairs Q js ds → AreDone state source sink setup cell slot (acceptors_of js) ds
  done_own Q f slot [] [] a p = tt
  done_own Q f slot [] (d ∷ ds) a p = absurd p
  done_own Q f slot (x ∷ xs) [] a p = absurd p
  done_own Q f slot (x ∷ xs) (d ∷ ds) a p = (
    subst (λ (n : ℕ). IsDone state source sink setup cell n x.acceptor d) a.0.fresh.who_is (f x d p.0),
    done_own Q f (slot + 1) xs ds a.1 p.1,
  )
