-- What runs that followed each other have in common: own profile.
use Rattle.std.specs.Prelude.{◌≡◌, ◌≤◌, ◌⊎◌, ◌+◌, ◌++◌, ℕ, false, List, [], ◌∷◌, length}
use Rattle.std.specs.List.{list_any}
use Rattle.orb_base.specs.JobRecord.{JobRecord}
use Rattle.orb_base.specs.Links.{AcceptorState}
use Rattle.orb_base.specs.Outside.{SourceState, SinkState}
use Rattle.orb_base.specs.declared.outcome.Outcome.{Outcome}
use Rattle.adapter_policies.specs.SetupData.{SetupData}
use Rattle.link_slots.specs.Slots.{HandsOut}
use Rattle.orb_server.specs.Runs.{Slot, SlotRan}
use Rattle.orb_server.specs.Slots.{links_of}
use Rattle.orb_server.specs.declared.run.Run.{Run}
use Rattle.server_runs.specs.Complete.{AllComplete, AllWentWell}
use Rattle.server_runs.specs.Plans.{may_go_on}
use Rattle.server_runs.specs.Serving.{Ran}
use Rattle.server_runs.specs.declared.run_plan.RunPlan.{RunPlan}
use Rattle.server_runs.specs.declared.serve_end.ServeEnd.{ServeEnd}
use Rattle.server_runs.specs.declared.serve_end.ServeEnd.TheVariants.{Done}

module _ {A I O : Type 0} (state : A → AcceptorState I O) (source : I → SourceState) (sink : O → SinkState)
    (setup : SetupData) where
  module _ (outcome : List ℕ → JobRecord → Outcome) where
    -- the headline holds of the run, over some acceptors; and where nothing failed at its slots it left nothing out, so that each slot
    -- served all links that were left to it when the run began, up to as many as it may
    pub record Holds (run : Run I O) : Type 0 where
      pub before : List A
      pub behind : List A
      pub ran : Ran state source sink setup outcome run before behind
      pub complete : AllWentWell ran.slots.slots → AllComplete state source sink setup run.history.items 0 ran.slots.slots

    -- so it does of each of these runs
    abbrev pub AllHold : List (Run I O) → Type 0
    AllHold [] = Unit {0}
    AllHold (run ∷ runs) = Holds run × AllHold runs

  -- in a run the slot of this number served its connections on these links, in order, and its acceptor was in these states before and after it
  pub record TakesIn (slot : ℕ) (run : Run I O) (links : List (I × O)) (before behind : A) : Type 0 where
    pub it : Slot A I O
    pub from : it.before ≡ before
    pub to : it.behind ≡ behind
    pub ran : SlotRan state source sink setup run.history.items slot it
    pub links_are : links ≡ links_of ran.cs

  -- in these runs, one after another, it served its connections on these links, run by run
  abbrev pub Takes : ℕ → List (Run I O) → List (I × O) → A → A → Type 0
  Takes slot [] links before behind = (links ≡ []) × (behind ≡ before)
  Takes slot (run ∷ runs) links before behind =
      (here : List (I × O)) × (later : List (I × O)) × (between : A) × TakesIn slot run here before between
      × Takes slot runs later between behind × (links ≡ here ++ later)

  -- it did so on the first of the links that its acceptor knew
  pub record TakesFirst (slot : ℕ) (runs : List (Run I O)) (before behind : A) : Type 0 where
    pub links : List (I × O)
    pub takes : Takes slot runs links before behind
    pub first : HandsOut links (state before) (state behind)

  -- so did the slots from this one on, each by its acceptor
  abbrev pub AllTakeFirst : ℕ → List (Run I O) → List A → List A → Type 0
  AllTakeFirst slot runs [] [] = Unit {0}
  AllTakeFirst slot runs (a ∷ others) (b ∷ ends) = TakesFirst slot runs a b × AllTakeFirst (slot + 1) runs others ends
  AllTakeFirst slot runs [] (b ∷ ends) = ⊥
  AllTakeFirst slot runs (a ∷ others) [] = ⊥

module _ {I O : Type 0} where
  -- the last of these runs left no links to its slots
  abbrev pub LastIsSpent : List (Run I O) → Type 0
  LastIsSpent [] = ⊥
  LastIsSpent (run ∷ []) = list_any may_go_on run.slots.items ≡ false
  LastIsSpent (run ∷ (next ∷ runs)) = LastIsSpent (next ∷ runs)

  -- no more runs were made than planned; and where the last one's lines were written whole, there are as many as planned, or the last one
  -- left no links to its slots
  pub record EndsInPlan (plan : RunPlan) (end : ServeEnd) (runs : List (Run I O)) : Type 0 where
    pub few : length runs ≤ plan.runs
    pub spent : end ≡ Done → (length runs ≡ plan.runs) ⊎ LastIsSpent runs
