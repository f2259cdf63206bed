-- What came of asking the net.
use Rattle.std.proofs.Common.{◌≡◌, ℕ, List, [], Some, None, refl, sym, subst, inl, inr}
use Rattle.std.specs.Prelude.{Option, Result, Ok, Err}
use Rattle.orb_base.specs.Links.{AcceptorState}
use Rattle.orb_base.specs.Outside.{SourceState, SinkState}
use Rattle.orb_base.specs.Room.{Room}
use Rattle.orb_nets.specs.Nets.{NetState, Asks, Listens, CountsNetFault}
use Rattle.orb_nets.specs.declared.net_fault.NetFault.{NetFault}
use Rattle.adapter_policies.specs.declared.setup.TheConstants.{NAMES_SLOTS, NAMES_PER_SLOT}
use Rattle.object_lines.specs.Addresses.{Place}
use Rattle.names_runs.specs.Lines.{line_of, WritesLine}
use Rattle.names_runs.specs.declared.line.WroteLine.{WroteLine}
use Rattle.names_runs.specs.declared.run.NamesRun.{NamesRun}
use Rattle.names_server.specs.Serving.{Ran, MakesRun, Comes, NamesAt, end_of, end_of_line}
use Rattle.names_server.specs.declared.run_at.NamesServed.{NamesServed}
use Rattle.names_server.specs.declared.names_end.NamesEnd.{NamesEnd}
use Rattle.names_server.specs.declared.names_end.NamesEnd.TheVariants.{NoMemory}

module _ {A I O : Type 0} (state : A → AcceptorState I O) (source : I → SourceState) (sink : O → SinkState) where
  -- the net was asked for so many links a slot
  listened : (at : Place) (served : NamesServed A I O) (answer : Result (Room A) NetFault) (each : ℕ) (net net' : NetState I O) (out out' : SinkState)
      → each ≡ NAMES_PER_SLOT → Asks (record { host = at.host; port = at.port; slots = Some (NAMES_SLOTS, each) }) net net'
      → Listens state NAMES_SLOTS each answer net net' → CountsNetFault answer net net' → Comes state source sink served answer out out'
      → NamesAt state source sink at served net net' out out'
  listened at served answer each net net' out out' is asked listens faults comes = inl (record {
    answer = answer;
    asked = subst (λ (n : ℕ). Asks (record { host = at.host; port = at.port; slots = Some (NAMES_SLOTS, n) }) net net') is asked;
    listens = subst (λ (n : ℕ). Listens state NAMES_SLOTS n answer net net') is listens;
    faults = faults;
    comes = comes;
  })

  -- it gave acceptors
  pub served_over : (at : Place) (served : NamesServed A I O) (answer : Result (Room A) NetFault) (acceptors : Room A) (each : ℕ) (net net' : NetState I O) (out out' : SinkState)
      → answer ≡ Ok acceptors → each ≡ NAMES_PER_SLOT → Asks (record { host = at.host; port = at.port; slots = Some (NAMES_SLOTS, each) }) net net'
      → Listens state NAMES_SLOTS each answer net net' → CountsNetFault answer net net'
      → MakesRun state source sink served.end served.run acceptors.items served.acceptors.items out out'
      → NamesAt state source sink at served net net' out out'
  served_over at served answer acceptors each net net' out out' ok is asked listens faults ran =
      listened at served answer each net net' out out' is asked listens faults
      (subst (λ (r : Result (Room A) NetFault). Comes state source sink served r out out') (sym ok) ran)

  -- or none
  pub unserved : (at : Place) (served : NamesServed A I O) (answer : Result (Room A) NetFault) (why : NetFault) (each : ℕ) (net net' : NetState I O) (out : SinkState)
      → answer ≡ Err why → each ≡ NAMES_PER_SLOT → Asks (record { host = at.host; port = at.port; slots = Some (NAMES_SLOTS, each) }) net net'
      → Listens state NAMES_SLOTS each answer net net' → CountsNetFault answer net net'
      → served.end ≡ end_of why → served.run ≡ None → served.acceptors.items ≡ []
      → NamesAt state source sink at served net net' out out
  unserved at served answer why each net net' out failed is asked listens faults end none empty =
      listened at served answer each net net' out out is asked listens faults
      (subst (λ (r : Result (Room A) NetFault). Comes state source sink served r out out) (sym failed) (end, none, empty, refl))

  -- the net wasn't asked
  pub unasked : (at : Place) (served : NamesServed A I O) (net : NetState I O) (out : SinkState) → served.end ≡ NoMemory → served.run ≡ None
      → served.acceptors.items ≡ [] → NamesAt state source sink at served net net out out
  unasked at served net out end none empty = inr (record { end = end; none = none; empty = empty; unasked = refl; output = refl })

  -- a run was made over the acceptors
  pub made : (run : NamesRun I O) (end : NamesEnd) (wrote : WroteLine) (before behind : List A) (out out' : SinkState) → Ran state source sink run before behind
      → end ≡ end_of_line wrote → WritesLine wrote (line_of run) out out' → MakesRun state source sink end (Some run) before behind out out'
  made run end wrote before behind out out' ran is writes = (ran, (wrote, is, writes))

  -- or none
  pub not_made : (end : NamesEnd) (before behind : List A) (out : SinkState) → end ≡ NoMemory → behind ≡ before → MakesRun state source sink end None before behind out out
  not_made end before behind out is same = (is, same, refl)
