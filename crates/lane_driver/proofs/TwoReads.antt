-- The calls of two reads are one list, for a loop over reads: those of the second are after those of the first, and so do the entries that
-- they made.
use Rattle.std.proofs.Common.{◌≡◌, ℕ, List, [], ◌++◌, Option, refl, ap, ◌∙◌, append_assoc}
use Rattle.orb_base.specs.Outside.{SinkState}
use Rattle.lane_machine.specs.declared.call.LaneCall.{LaneCall}
use Rattle.lane_machine.specs.State.{State}
use Rattle.lane_machine.specs.Histories.{History}
use Rattle.pipe_laws.specs.Groups.{Group, folded}
use Rattle.pipe_laws.specs.Lacking.{Agrees}
use Rattle.pipe_laws.proofs.Folds.{folds_go_on}
use Rattle.lane_driver.specs.Driving.{Servant, Begins, Began, BeganWriting, StoppedWriting}
use Rattle.lane_driver.specs.Feeding.{group_at, feeding, Fed}
use Rattle.lane_driver.proofs.Driving.{leads_both, legal_then, answers_both, logged_both, stays_both}
use Rattle.lane_driver.proofs.Fronts.{agrees_first, agrees_then, begins_then}
use Rattle.lane_driver.proofs.Grow.{grows_folded}
use Rattle.lane_driver.proofs.Items.{wrote_entries, front_entries, stops_later}

-- a second read changes nothing of what was begun
begins_longer : (batch : ℕ) (s : State) (room : ℕ) (calls more : List LaneCall) (a : History) → Begins (feeding batch room calls) s a → Begins (feeding batch room (calls ++ more)) s a
begins_longer batch s room calls more a began servant front is agrees h =
    let g = began servant front is agrees h in
    let f = grows_folded servant batch (folded servant batch (group_at s h room) calls) more in
    (g.0 ++ f.0, ap (λ (x : Group). x.run.history) (folds_go_on servant batch (group_at s h room) calls more) ∙ f.1 ∙ ap (λ (k : History). k ++ f.0) g.1 ∙ append_assoc (h ++ front) g.0 f.0)

module _ (batch : ℕ) (outcome : Servant) (s m : State) (room room1 : ℕ) (calls more : List LaneCall) (log mid : Option History) (out among : SinkState)
    (first : Fed batch outcome s m room room1 calls [] log mid out among) where
  -- from the second read on
  on_from : (servant : Servant) → Agrees servant first.entries → (h : History)
      → folded servant batch (group_at s h room) (calls ++ more) ≡ folded servant batch (group_at m (h ++ first.entries) room1) more
  on_from servant agrees h =
      folds_go_on servant batch (group_at s h room) calls more ∙ ap (λ (g : Group). folded servant batch g more) (first.goes servant agrees h)

  begins_on : (b : History) → Begins (feeding batch room1 more) m b → Begins (feeding batch room (calls ++ more)) s (first.entries ++ b)
  begins_on b began =
      begins_then (feeding batch room (calls ++ more)) s first.entries b (begins_longer batch s room calls more first.entries first.begins) (λ servant agrees rest is later h. (
      let g = began servant rest is later (h ++ first.entries) in
      (g.0, ap (λ (x : Group). x.run.history) (on_from servant agrees h) ∙ g.1)
      ))

  began_on : (b : History) → Began (feeding batch room1 more) outcome m b → Began (feeding batch room (calls ++ more)) outcome s (first.entries ++ b)
  began_on b began = record {
    legal = legal_then b first.leads began.legal;
    answers = answers_both outcome first.entries b first.answers began.answers;
    begins = begins_on b began.begins;
  }

  -- all calls were made
  pub fed_both : (s' : State) (room2 : ℕ) (log' : Option History) (out' : SinkState) → (next : Fed batch outcome m s' room1 room2 more [] mid log' among out')
      → (x : Fed batch outcome s s' room room2 (calls ++ more) [] log log' out out') × (x.entries ≡ first.entries ++ next.entries)
  fed_both s' room2 log' out' next = (
    record {
      entries = first.entries ++ next.entries;
      leads = leads_both first.leads next.leads;
      answers = answers_both outcome first.entries next.entries first.answers next.answers;
      goes = λ servant agrees h.
          on_from servant (agrees_first servant first.entries next.entries agrees) h
          ∙ next.goes servant (agrees_then servant first.entries next.entries agrees) (h ++ first.entries)
          ∙ ap (λ (k : History). group_at s' k room2) (append_assoc h first.entries next.entries);
      begins = begins_on next.entries next.begins;
      logged = logged_both first.entries next.entries log mid log' first.logged next.logged;
      wrote = wrote_entries first.entries next.entries out among out' first.wrote next.wrote;
      stays = stays_both first.stays next.stays;
      some = next.some;
      faults = next.faults ∙ first.faults;
    },
    refl,
  )

  -- a write failed in the second read
  pub stopped_both : (log' : Option History) (out' : SinkState) → (next : StoppedWriting (feeding batch room1 more) outcome m mid log' among out')
      → (x : StoppedWriting (feeding batch room (calls ++ more)) outcome s log log' out out') × (x.entries ≡ first.entries ++ next.entries)
  stopped_both log' out' next = (
    record {
      entries = first.entries ++ next.entries;
      begins = began_on next.entries next.begins;
      logged = logged_both first.entries next.entries log mid log' first.logged next.logged;
      wrote = stops_later first.entries next.entries out among out' first.wrote next.wrote;
    },
    refl,
  )

  -- memory was wanting in the second read
  pub began_both : (out' : SinkState) → BeganWriting (feeding batch room1 more) outcome m among out' → BeganWriting (feeding batch room (calls ++ more)) outcome s out out'
  began_both out' next = record {
    entries = first.entries ++ next.entries;
    begins = began_on next.entries next.begins;
    wrote = front_entries first.entries next.entries out among out' first.wrote next.wrote;
    faults = next.faults ∙ first.faults;
  }
