-- Runs that follow each other.
use Rattle.std.proofs.Common.{◌≡◌, ◌∙◌, ℕ, Bool, true, false, true≢false, List, [], ◌∷◌, ◌++◌, length, map, refl, sym, ap, append-nil, append_assoc}
use Rattle.std.specs.Prelude.{Result, Ok, Err, IfOk}
use Rattle.std.proofs.lemmas.List.{length-map}
use Rattle.orb_base.specs.JobRecord.{JobRecord}
use Rattle.orb_base.specs.Links.{AcceptorState}
use Rattle.orb_base.specs.Outside.{SourceState, SinkState}
use Rattle.orb_base.specs.declared.no_memory.NoMemory.{NoMemory}
use Rattle.orb_base.specs.declared.outcome.Outcome.{Outcome}
use Rattle.adapter_policies.specs.SetupData.{SetupData}
use Rattle.orb_server.specs.Runs.{Slot, AllSlotsRan}
use Rattle.orb_server.specs.declared.run.Run.{Run}
use Rattle.server_runs.specs.Plans.{after_one, goes_on}
use Rattle.server_runs.specs.RunLines.{lines_of, WritesLines}
use Rattle.server_runs.specs.Serving.{Ran, RanRuns, RunsOn}
use Rattle.server_runs.specs.declared.run_plan.RunPlan.{RunPlan}
use Rattle.server_runs.specs.declared.serve_end.ServeEnd.{ServeEnd}
use Rattle.server_runs.specs.declared.serve_end.ServeEnd.TheVariants as end

module _ {A I O : Type 0} (state : A → AcceptorState I O) (source : I → SourceState) (sink : O → SinkState)
    (setup : SetupData) (outcome : List ℕ → JobRecord → Outcome) where
  -- there are as many acceptors after a run as slots
  pub as_many : (r : Result (Run I O) NoMemory) (before behind : List A)
      → IfOk r (λ run. AllSlotsRan state source sink setup run.history.items before behind run.conns.items run.slots.items)
      → IfOk r (λ run. length behind ≡ setup.slots)
  as_many (Ok run) before behind ran = ap length ran.behind_are ∙ length-map ran.slots (λ (s : Slot A I O). s.behind) ∙ ran.count
  as_many (Err e) before behind ran = tt

  -- memory ran out for a run
  pub none_made : (plan : RunPlan) (runs : List (Run I O)) (before behind : List A) (out : SinkState) → behind ≡ before
      → RunsOn state source sink setup outcome plan end.NoMemory runs runs before behind out out
  none_made plan runs before behind out same = record { made = []; grew = sym (append-nil runs); ran = (refl, same, refl) }

  -- no run follows this one
  pub last_made : (plan : RunPlan) (wrote : ServeEnd) (run : Run I O) (runs runs' : List (Run I O)) (before behind : List A) (out out' : SinkState)
      → runs' ≡ runs ++ run ∷ [] → Ran state source sink setup outcome run before behind
      → WritesLines wrote plan.trace (lines_of plan.trace setup run.history.items) out out' → goes_on wrote plan.runs run.slots.items ≡ false
      → RunsOn state source sink setup outcome plan wrote runs runs' before behind out out'
  last_made plan wrote run runs runs' before behind out out' grew ran lines ends = record {
    made = run ∷ [];
    grew = grew;
    ran = (behind, out', wrote, ran, lines, λ goes. absurd (true≢false (sym goes ∙ ends)), λ e. (refl, refl, refl, refl));
  }

  -- others follow this one
  pub more_made : (plan : RunPlan) (wrote end : ServeEnd) (run : Run I O) (runs runs' runs'' : List (Run I O)) (before between behind : List A) (out mid out' : SinkState)
      → runs' ≡ runs ++ run ∷ [] → Ran state source sink setup outcome run before between
      → WritesLines wrote plan.trace (lines_of plan.trace setup run.history.items) out mid → goes_on wrote plan.runs run.slots.items ≡ true
      → RunsOn state source sink setup outcome (after_one plan) end runs' runs'' between behind mid out'
      → RunsOn state source sink setup outcome plan end runs runs'' before behind out out'
  more_made plan wrote end run runs runs' runs'' before between behind out mid out' grew ran lines goes on = record {
    made = run ∷ on.made;
    grew = on.grew ∙ ap (λ (rs : List (Run I O)). rs ++ on.made) grew ∙ append_assoc runs (run ∷ []) on.made;
    ran = (between, mid, wrote, ran, lines, λ e. on.ran, λ ends. absurd (true≢false (sym goes ∙ ends)));
  }

  -- without a run before, the runs that were made are all
  pub all_made : (plan : RunPlan) (end : ServeEnd) (runs runs' : List (Run I O)) (before behind : List A) (out out' : SinkState) → runs ≡ []
      → RunsOn state source sink setup outcome plan end runs runs' before behind out out'
      → RanRuns state source sink setup outcome plan end runs' before behind out out'
  all_made plan end runs runs' before behind out out' none on =
      let is : runs' ≡ on.made = on.grew ∙ ap (λ (rs : List (Run I O)). rs ++ on.made) none in
      rw is on.ran
