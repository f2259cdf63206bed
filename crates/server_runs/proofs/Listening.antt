-- What came of asking the net.
use Rattle.std.proofs.Common.{◌≡◌, ◌*◌, ℕ, List, [], Some, refl, sym, subst, inl, inr}
use Rattle.std.specs.Prelude.{Result, Ok, Err}
use Rattle.orb_base.specs.JobRecord.{JobRecord}
use Rattle.orb_base.specs.Links.{AcceptorState}
use Rattle.orb_base.specs.Outside.{SourceState, SinkState}
use Rattle.orb_base.specs.Room.{Room}
use Rattle.orb_base.specs.declared.outcome.Outcome.{Outcome}
use Rattle.orb_nets.specs.Nets.{NetState, Asks, Listens, CountsNetFault}
use Rattle.orb_nets.specs.declared.net_fault.NetFault.{NetFault}
use Rattle.adapter_policies.specs.SetupData.{SetupData}
use Rattle.object_lines.specs.Addresses.{Place}
use Rattle.server_runs.specs.Serving.{Comes, RanRuns, ServesAt, end_of}
use Rattle.server_runs.specs.declared.run_at.Served.{Served}
use Rattle.server_runs.specs.declared.run_plan.RunPlan.{RunPlan}
use Rattle.server_runs.specs.declared.serve_end.ServeEnd.TheVariants.{NoMemory}

module _ {A I O : Type 0} (state : A → AcceptorState I O) (source : I → SourceState) (sink : O → SinkState)
    (setup : SetupData) (outcome : List ℕ → JobRecord → Outcome) where
  -- the net was asked for so many links a slot
  listened : (at : Place) (plan : RunPlan) (served : Served A I O) (answer : Result (Room A) NetFault) (each : ℕ) (net net' : NetState I O) (out out' : SinkState)
      → each ≡ setup.per_slot * plan.runs → Asks (record { host = at.host; port = at.port; slots = Some (setup.slots, each) }) net net'
      → Listens state setup.slots each answer net net' → CountsNetFault answer net net'
      → Comes state source sink setup outcome plan served answer out out'
      → ServesAt state source sink setup outcome at plan served net net' out out'
  listened at plan served answer each net net' out out' is asked listens faults comes = inl (record {
    answer = answer;
    asked = subst (λ (n : ℕ). Asks (record { host = at.host; port = at.port; slots = Some (setup.slots, n) }) net net') is asked;
    listens = subst (λ (n : ℕ). Listens state setup.slots n answer net net') is listens;
    faults = faults;
    comes = comes;
  })

  -- it gave acceptors
  pub served_over : (at : Place) (plan : RunPlan) (served : Served A I O) (answer : Result (Room A) NetFault) (acceptors : Room A) (each : ℕ) (net net' : NetState I O) (out out' : SinkState)
      → answer ≡ Ok acceptors → each ≡ setup.per_slot * plan.runs → Asks (record { host = at.host; port = at.port; slots = Some (setup.slots, each) }) net net'
      → Listens state setup.slots each answer net net' → CountsNetFault answer net net'
      → RanRuns state source sink setup outcome plan served.end served.runs.items acceptors.items served.acceptors.items out out'
      → ServesAt state source sink setup outcome at plan served net net' out out'
  served_over at plan served answer acceptors each net net' out out' ok is asked listens faults ran =
      listened at plan served answer each net net' out out' is asked listens faults
      (subst (λ (r : Result (Room A) NetFault). Comes state source sink setup outcome plan served r out out') (sym ok) ran)

  -- or none
  pub unserved : (at : Place) (plan : RunPlan) (served : Served A I O) (answer : Result (Room A) NetFault) (why : NetFault) (each : ℕ) (net net' : NetState I O) (out : SinkState)
      → answer ≡ Err why → each ≡ setup.per_slot * plan.runs → Asks (record { host = at.host; port = at.port; slots = Some (setup.slots, each) }) net net'
      → Listens state setup.slots each answer net net' → CountsNetFault answer net net'
      → served.end ≡ end_of why → served.runs.items ≡ [] → served.acceptors.items ≡ []
      → ServesAt state source sink setup outcome at plan served net net' out out
  unserved at plan served answer why each net net' out failed is asked listens faults end none empty =
      listened at plan served answer each net net' out out is asked listens faults
      (subst (λ (r : Result (Room A) NetFault). Comes state source sink setup outcome plan served r out out) (sym failed) (end, none, empty, refl))

  -- the net wasn't asked
  pub unasked : (at : Place) (plan : RunPlan) (served : Served A I O) (net : NetState I O) (out : SinkState) → served.end ≡ NoMemory
      → served.runs.items ≡ [] → served.acceptors.items ≡ [] → ServesAt state source sink setup outcome at plan served net net out out
  unasked at plan served net out end none empty = inr (record { end = end; none = none; empty = empty; unasked = refl; output = refl })
