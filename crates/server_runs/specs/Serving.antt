-- The runs of a server at an address: own profile, over CORBA 3.0.3, section 15.7, and Real-time CORBA 1.2, Threadpools.
use Rattle.std.specs.Prelude.{◌≡◌, ◌⊎◌, ◌*◌, ◌++◌, ℕ, Bool, true, false, List, [], ◌∷◌, Some, Result, Ok, Err}
use Rattle.orb_base.specs.JobRecord.{JobRecord}
use Rattle.orb_base.specs.Links.{AcceptorState}
use Rattle.orb_base.specs.Outside.{SourceState, SinkState}
use Rattle.orb_base.specs.Room.{Room}
use Rattle.orb_base.specs.declared.outcome.Outcome.{Outcome}
use Rattle.orb_nets.specs.Nets.{NetState, Asks, Listens, CountsNetFault}
use Rattle.orb_nets.specs.declared.net_fault.NetFault.{NetFault}
use Rattle.orb_nets.specs.declared.net_fault.NetFault.TheVariants as fault
use Rattle.adapter_policies.specs.SetupData.{SetupData}
use Rattle.object_lines.specs.Addresses.{Place}
use Rattle.orb_server.specs.Fates.{RunsOnce, RunsInLanes, RunsAdmitted}
use Rattle.orb_server.specs.Runs.{opening_of, IsLawful, AllSlotsRan, WorkersRan}
use Rattle.orb_server.specs.declared.run.Run.{Run}
use Rattle.server_runs.specs.Plans.{after_one, goes_on}
use Rattle.server_runs.specs.RunLines.{lines_of, WritesLines}
use Rattle.server_runs.specs.declared.run_plan.RunPlan.{RunPlan}
use Rattle.server_runs.specs.declared.serve_end.ServeEnd.{ServeEnd}
use Rattle.server_runs.specs.declared.serve_end.ServeEnd.TheVariants.{NetFault as NetFailed, NoMemory}
use Rattle.server_runs.specs.declared.run_at.Served.{Served}

-- how a server comes out to which the net gave no acceptors
abbrev pub end_of : NetFault → ServeEnd
end_of fault.Failed = NetFailed
end_of fault.NoMemory = NoMemory

module _ {A I O : Type 0} (state : A → AcceptorState I O) (source : I → SourceState) (sink : O → SinkState)
    (setup : SetupData) (outcome : List ℕ → JobRecord → Outcome) where
  -- a run over acceptors, which was like this before and after it: all calls are one legal history, in which each was fit for its
  -- caller; each connection's calls are what its bytes mean, and its output is what the history says; each admitted request that its client
  -- did not withdraw ran once, as the servants do, on a thread of its lane or one lent from a lower lane
  pub record Ran (run : Run I O) (before behind : List A) : Type 0 where
    pub lawful : IsLawful setup run.history.items
    pub slots : AllSlotsRan state source sink setup run.history.items before behind run.conns.items run.slots.items
    pub workers : WorkersRan setup outcome run.history.items
    pub once : RunsOnce (opening_of setup) run.history.items
    pub lanes : RunsInLanes (opening_of setup) run.history.items
    pub admitted : RunsAdmitted [] run.history.items

  -- runs were made by a plan, one after another, over acceptors which were like this before the first and after the last. Each wrote its
  -- lines, and another one followed exactly where that one's plan says so; without a run, memory ran out for it, and nothing was done
  abbrev pub RanRuns : RunPlan → ServeEnd → List (Run I O) → List A → List A → SinkState → SinkState → Type 0
  RanRuns plan end [] before behind out out' = (end ≡ NoMemory) × (behind ≡ before) × (out' ≡ out)
  RanRuns plan end (run ∷ runs) before behind out out' =
      (between : List A) × (mid : SinkState) × (wrote : ServeEnd) × Ran run before between
      × WritesLines wrote plan.trace (lines_of plan.trace setup run.history.items) out mid
      × (goes_on wrote plan.runs run.slots.items ≡ true → RanRuns (after_one plan) end runs between behind mid out')
      × (goes_on wrote plan.runs run.slots.items ≡ false → (end ≡ wrote) × (runs ≡ []) × (behind ≡ between) × (out' ≡ mid))

  -- a list of runs grew by those that were made
  pub record RunsOn (plan : RunPlan) (end : ServeEnd) (runs runs' : List (Run I O)) (before behind : List A)
      (out out' : SinkState) : Type 0 where
    pub made : List (Run I O)
    pub grew : runs' ≡ runs ++ made
    pub ran : RanRuns plan end made before behind out out'

  -- what came of listening: the runs over the acceptors; without acceptors nothing was served, for the net's reason
  abbrev pub Comes : RunPlan → Served A I O → Result (Room A) NetFault → SinkState → SinkState → Type 0
  Comes plan served (Ok acceptors) out out' =
      RanRuns plan served.end served.runs.items acceptors.items served.acceptors.items out out'
  Comes plan served (Err why) out out' =
      (served.end ≡ end_of why) × (served.runs.items ≡ []) × (served.acceptors.items ≡ []) × (out' ≡ out)

  -- the net was asked once, for as many links a slot as all runs may serve, and gave an acceptor for each slot, or none
  pub record ListensOnce (at : Place) (plan : RunPlan) (served : Served A I O) (net net' : NetState I O)
      (out out' : SinkState) : Type 0 where
    pub answer : Result (Room A) NetFault
    pub asked : Asks (record { host = at.host; port = at.port; slots = Some (setup.slots, setup.per_slot * plan.runs) }) net net'
    pub listens : Listens state setup.slots (setup.per_slot * plan.runs) answer net net'
    pub faults : CountsNetFault answer net net'
    pub comes : Comes plan served answer out out'

  -- memory ran out for the list of the runs, or a thread of a run couldn't be made, and the net wasn't asked
  pub record AsksNothing (served : Served A I O) (net net' : NetState I O) (out out' : SinkState) : Type 0 where
    pub end : served.end ≡ NoMemory
    pub none : served.runs.items ≡ []
    pub empty : served.acceptors.items ≡ []
    pub unasked : net' ≡ net
    pub output : out' ≡ out

  -- the runs at an address, or none for which there is no room
  abbrev pub ServesAt : Place → RunPlan → Served A I O → NetState I O → NetState I O → SinkState → SinkState → Type 0
  ServesAt at plan served net net' out out' = ListensOnce at plan served net net' out out' ⊎ AsksNothing served net net' out out'
