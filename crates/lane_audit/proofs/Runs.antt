-- A run, one line after another.
use Rattle.std.proofs.Common.{◌≡◌, ℕ, zero, suc, ◌+◌, ◌<◌, ◌≤◌, true, false, List, [], ◌∷◌, ◌++◌, length, take, Some, sym, refl, ap, subst, ◌∙◌, arith, append-nil, append_assoc}
use Rattle.std.specs.Prelude.{slice_get}
use Rattle.std.proofs.lemmas.List.{take_more, take_all}
use Rattle.std.proofs.lemmas.Option.{get_or_from_slice_get, slice_get_within, none-some, same_Some}
use Rattle.orb_base.specs.Room.{Room}
use Rattle.orb_base.specs.declared.job.Job.{Job}
use Rattle.lane_machine.specs.State.{State}
use Rattle.lane_machine.specs.Machine.{step}
use Rattle.lane_machine.specs.Entries.{One}
use Rattle.lane_machine.specs.declared.call.LaneReply.{LaneReply}
use Rattle.lane_machine.specs.Histories.{History, IsLegal, replay}
use Rattle.trace_lines.specs.declared.trace_line.TraceLine.{TraceLine}
use Rattle.trace_lines.specs.ReadBack.{call_by, entry_by, entries_after, history_of, jobs_of, last_len, len_after}
use Rattle.lane_audit.specs.declared.offers.Offers.{Offers}
use Rattle.lane_audit.specs.Verdicts.{IsRight, Judges, IsFirstWrong}
use Rattle.lane_audit.proofs.Resolving.{reply_same}
use Rattle.lane_audit.specs.Resolved.{reply_with, KnowsLens, LensAfter}

legal_push : (s : State) (h : History) (e : One) → IsLegal s h → IsRight (replay s h) e.call e.reply → IsLegal s (h ++ e ∷ [])
legal_push s [] e l r = (r.ready, r.sound, r.answered, tt)
legal_push s (d ∷ ds) e l r = (l.0, l.1, l.2, legal_push (step s d.call).0 ds e l.3 r)

right_last : (s : State) (h : History) (e : One) → IsLegal s (h ++ e ∷ []) → IsRight (replay s h) e.call e.reply
right_last s [] e l = record { ready = l.0; sound = l.1; answered = l.2 }
right_last s (d ∷ ds) e l = right_last (step s d.call).0 ds e l.3

replay_push : (s : State) (h : History) (e : One) → replay s (h ++ e ∷ []) ≡ (step (replay s h) e.call).0
replay_push s [] e = refl
replay_push s (d ∷ ds) e = replay_push (step s d.call).0 ds e

entries_get : (jobs : List Job) (before ls : List TraceLine) (i : ℕ) (l : TraceLine) → slice_get ls i ≡ Some l → slice_get (entries_after jobs before ls) i ≡ Some (entry_by jobs (before ++ take i ls) l)
entries_get jobs before [] i l g = absurd (none-some l g)
entries_get jobs before (x ∷ xs) zero l g = ap (λ (y : TraceLine). Some (entry_by jobs before y)) (same_Some x l g) ∙ ap (λ (b : List TraceLine). Some (entry_by jobs b l)) (sym (append-nil before))
entries_get jobs before (x ∷ xs) (suc i) l g = entries_get jobs (before ++ x ∷ []) xs i l g ∙ ap (λ (b : List TraceLine). Some (entry_by jobs b l)) (append_assoc before (x ∷ []) (take i xs))

pub length-entries : (jobs : List Job) (before ls : List TraceLine) → length (entries_after jobs before ls) ≡ length ls
length-entries jobs before [] = refl
length-entries jobs before (x ∷ xs) = ap suc (length-entries jobs (before ++ x ∷ []) xs)

last_push : (k len : ℕ) (ls : List TraceLine) (l : TraceLine) → last_len k len (ls ++ l ∷ []) ≡ len_after k (last_len k len ls) l.action
last_push k len [] l = refl
last_push k len (x ∷ xs) l = last_push k (len_after k len x.action) xs l

one_longer : {X : Type 0} (xs : List X) (i : ℕ) (x : X) → slice_get xs i ≡ Some x → take (i + 1) xs ≡ take i xs ++ x ∷ []
one_longer {X} xs i x g = take_more xs i x (slice_get_within xs i x g) ∙ ap (λ (y : X). take i xs ++ y ∷ []) (get_or_from_slice_get xs i x x g)

-- the lengths after one more line
pub lens_more : (jobs : List Job) (lens lens' : List ℕ) (lines : List TraceLine) (i : ℕ) (l : TraceLine) → slice_get lines i ≡ Some l → KnowsLens jobs lens (take i lines) → LensAfter lens lens' l.action → KnowsLens jobs lens' (take (i + 1) lines)
lens_more jobs lens lens' lines i l g knows after = record {
  many = after.many ∙ knows.many;
  each = λ k b. after.each k (subst (λ (n : ℕ). k < n) (sym knows.many) b) ∙ ap (λ (n : ℕ). len_after k n l.action) (knows.each k b) ∙ sym (ap (last_len k 0) (one_longer lines i l g) ∙ last_push k 0 (take i lines) l);
}

module _ (s : State) (lines : List TraceLine) (i : ℕ) (l : TraceLine) (g : slice_get lines i ≡ Some l) where
  abbrev here : One
  here = entry_by (jobs_of lines) (take i lines) l

  h_longer : take (i + 1) (history_of lines) ≡ take i (history_of lines) ++ here ∷ []
  h_longer = one_longer (history_of lines) i here (entries_get (jobs_of lines) [] lines i l g)

  -- one more right entry
  pub legal_more : IsLegal s (take i (history_of lines)) → IsRight (replay s (take i (history_of lines))) here.call here.reply → IsLegal s (take (i + 1) (history_of lines))
  legal_more legal right = subst (IsLegal s) (sym h_longer) (legal_push s (take i (history_of lines)) here legal right)

  -- and the state after it
  pub replay_more : replay s (take (i + 1) (history_of lines)) ≡ (step (replay s (take i (history_of lines))) here.call).0
  replay_more = ap (replay s) h_longer ∙ replay_push s (take i (history_of lines)) here

  -- the first entry that isn't right
  pub wrong_here : IsLegal s (take i (history_of lines)) → ¬ IsRight (replay s (take i (history_of lines))) here.call here.reply → IsFirstWrong s (history_of lines) i
  wrong_here legal wrong = record {
    within = let a = slice_get_within lines i l g in let b = length-entries (jobs_of lines) [] lines in omega arith;
    legal = legal;
    wrong = λ below more. wrong (right_last s (take i (history_of lines)) here (subst (IsLegal s) h_longer more));
  }

-- all are right
pub none_wrong : (s : State) (lines : List TraceLine) (i n : ℕ) → n ≡ length lines → length lines ≤ i → IsLegal s (take i (history_of lines)) → IsFirstWrong s (history_of lines) n
none_wrong s lines i n is past legal =
    let many = length-entries (jobs_of lines) [] lines in
    let all : take i (history_of lines) ≡ take n (history_of lines) = take_all i (history_of lines) (omega arith) ∙ sym (take_all n (history_of lines) (omega arith)) in
    record { within = omega arith; legal = subst (IsLegal s) all legal; wrong = λ below. absurd (omega arith) }

-- what is known after so many lines, each of which was right
pub record Ran (s : State) (lines : List TraceLine) (i : ℕ) (desk : State) (offers : Offers) : Type 0 where
  pub legal : IsLegal s (take i (history_of lines))
  pub state : desk ≡ replay s (take i (history_of lines))
  pub asked : offers.asked.items ≡ jobs_of lines
  pub lens : KnowsLens (jobs_of lines) offers.lens.items (take i lines)

module _ (s desk : State) (lines : List TraceLine) (i : ℕ) (l : TraceLine) (offers : Offers) (g : slice_get lines i ≡ Some l) (ran : Ran s lines i desk offers) where
  abbrev entry : One
  entry = entry_by (jobs_of lines) (take i lines) l

  abbrev Right : State → List Job → LaneReply → Type 0
  Right x jobs r = IsRight x (call_by jobs l.action) r

  lens_same : reply_with (jobs_of lines) offers.lens.items l.action ≡ entry.reply
  lens_same = reply_same (jobs_of lines) offers.lens.items (take i lines) l.action ran.lens

  -- the line's entry is right
  is_right : Right desk offers.asked.items (reply_with offers.asked.items offers.lens.items l.action) → IsRight (replay s (take i (history_of lines))) entry.call entry.reply
  is_right right =
      subst (λ (x : State). Right x (jobs_of lines) entry.reply) ran.state (subst (Right desk (jobs_of lines)) lens_same
      (subst (λ (jobs : List Job). Right desk jobs (reply_with jobs offers.lens.items l.action)) ran.asked right))

  -- and back
  was_right : IsRight (replay s (take i (history_of lines))) entry.call entry.reply → Right desk offers.asked.items (reply_with offers.asked.items offers.lens.items l.action)
  was_right right =
      subst (λ (jobs : List Job). Right desk jobs (reply_with jobs offers.lens.items l.action)) (sym ran.asked) (subst (Right desk (jobs_of lines)) (sym lens_same)
      (subst (λ (x : State). Right x (jobs_of lines) entry.reply) (sym ran.state) right))

  -- one more line that is right
  pub one_ran : (desk' : State) (offers' : Offers) → Judges desk (call_by offers.asked.items l.action) (reply_with offers.asked.items offers.lens.items l.action) desk' true
      → offers'.asked ≡ offers.asked → LensAfter offers.lens.items offers'.lens.items l.action → Ran s lines (i + 1) desk' offers'
  one_ran desk' offers' judged same after = record {
    legal = legal_more s lines i l g ran.legal (is_right judged.0);
    state = judged.1 ∙ ap (λ (jobs : List Job). (step desk (call_by jobs l.action)).0) ran.asked ∙ ap (λ (x : State). (step x entry.call).0) ran.state ∙ sym (replay_more s lines i l g);
    asked = ap (λ (x : Room Job). x.items) same ∙ ran.asked;
    lens = lens_more (jobs_of lines) offers.lens.items offers'.lens.items lines i l g ran.lens after;
  }

  -- the first line that isn't
  pub one_wrong : (desk' : State) → Judges desk (call_by offers.asked.items l.action) (reply_with offers.asked.items offers.lens.items l.action) desk' false → IsFirstWrong s (history_of lines) i
  one_wrong desk' judged = wrong_here s lines i l g ran.legal (λ right. judged (was_right right))
