-- A name service at an address: own profile, over CORBA 3.0.3, section 15.7.
use Rattle.std.specs.Prelude.{◌≡◌, ◌⊎◌, List, [], Option, Some, None, Result, Ok, Err}
use Rattle.orb_base.specs.Links.{AcceptorState}
use Rattle.orb_base.specs.Outside.{SourceState, SinkState}
use Rattle.orb_base.specs.Room.{Room}
use Rattle.orb_nets.specs.Nets.{NetState, Asks, Listens, CountsNetFault}
use Rattle.orb_nets.specs.declared.net_fault.NetFault.{NetFault}
use Rattle.orb_nets.specs.declared.net_fault.NetFault.TheVariants as fault
use Rattle.adapter_policies.specs.BuiltIn.{names_setup}
use Rattle.adapter_policies.specs.declared.setup.TheConstants.{NAMES_SLOTS, NAMES_PER_SLOT}
use Rattle.object_lines.specs.Addresses.{Place}
use Rattle.names_hall.specs.Closing.{IsLawful}
use Rattle.names_runs.specs.Lines.{line_of, WritesLine}
use Rattle.names_runs.specs.Runs.{keys_after, AllSlotsRan}
use Rattle.names_runs.specs.declared.line.WroteLine.{WroteLine}
use Rattle.names_runs.specs.declared.line.WroteLine.TheVariants as line
use Rattle.names_runs.specs.declared.run.NamesRun.{NamesRun}
use Rattle.names_server.specs.declared.names_end.NamesEnd.{NamesEnd}
use Rattle.names_server.specs.declared.names_end.NamesEnd.TheVariants.{Done, NetFault as NetFailed, WriteFault, NoMemory}
use Rattle.names_server.specs.declared.run_at.NamesServed.{NamesServed}

-- how a name service comes out of which the line comes out so
abbrev pub end_of_line : WroteLine → NamesEnd
end_of_line line.Whole = Done
end_of_line line.Failed = WriteFault
end_of_line line.NoMemory = NoMemory

-- how a name service comes out to which the net gave no acceptors
abbrev pub end_of : NetFault → NamesEnd
end_of fault.Failed = NetFailed
end_of fault.NoMemory = NoMemory

module _ {A I O : Type 0} (state : A → AcceptorState I O) (source : I → SourceState) (sink : O → SinkState) where
  -- a run over acceptors, which were like this before and after it: all calls of the map are one legal history, in which each was fit for
  -- its caller; the keys are those that the map holds after it; each connection's invocations are what its bytes mean, its output is what
  -- they were answered, and each slot's entries in the history are its invocations that asked the map
  pub record Ran (run : NamesRun I O) (before behind : List A) : Type 0 where
    pub lawful : IsLawful run.history.items
    pub keys : run.keys ≡ keys_after run.history.items
    pub slots : AllSlotsRan state source sink names_setup run before behind

  -- a run was made over the acceptors, and its line was written, or as much of it as `end` says; or memory ran out for the run, and nothing
  -- was done
  abbrev pub MakesRun : NamesEnd → Option (NamesRun I O) → List A → List A → SinkState → SinkState → Type 0
  MakesRun end (Some run) before behind out out' =
      Ran run before behind × ((wrote : WroteLine) × (end ≡ end_of_line wrote) × WritesLine wrote (line_of run) out out')
  MakesRun end None before behind out out' = (end ≡ NoMemory) × (behind ≡ before) × (out' ≡ out)

  -- what came of listening: a run over the acceptors; without acceptors nothing was served, for the net's reason
  abbrev pub Comes : NamesServed A I O → Result (Room A) NetFault → SinkState → SinkState → Type 0
  Comes served (Ok acceptors) out out' = MakesRun served.end served.run acceptors.items served.acceptors.items out out'
  Comes served (Err why) out out' =
      (served.end ≡ end_of why) × (served.run ≡ None) × (served.acceptors.items ≡ []) × (out' ≡ out)

  -- the net was asked once, for as many links a slot as it may serve, and gave an acceptor for each slot, or none
  pub record ListensOnce (at : Place) (served : NamesServed A I O) (net net' : NetState I O) (out out' : SinkState) : Type 0 where
    pub answer : Result (Room A) NetFault
    pub asked : Asks (record { host = at.host; port = at.port; slots = Some (NAMES_SLOTS, NAMES_PER_SLOT) }) net net'
    pub listens : Listens state NAMES_SLOTS NAMES_PER_SLOT answer net net'
    pub faults : CountsNetFault answer net net'
    pub comes : Comes served answer out out'

  -- memory ran out for the setup, and the net wasn't asked
  pub record AsksNothing (served : NamesServed A I O) (net net' : NetState I O) (out out' : SinkState) : Type 0 where
    pub end : served.end ≡ NoMemory
    pub none : served.run ≡ None
    pub empty : served.acceptors.items ≡ []
    pub unasked : net' ≡ net
    pub output : out' ≡ out

  -- the service at an address, or none for which there is no memory
  abbrev pub NamesAt : Place → NamesServed A I O → NetState I O → NetState I O → SinkState → SinkState → Type 0
  NamesAt at served net net' out out' = ListensOnce at served net net' out out' ⊎ AsksNothing served net net' out out'
