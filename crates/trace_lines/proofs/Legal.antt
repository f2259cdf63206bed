-- The plain form of a legal history is legal.
use Rattle.std.proofs.Common.{◌≡◌, ℕ, ◌≤◌, List, [], ◌∷◌, Option, Some, None, refl, sym, ap, subst, ◌∙◌, arith}
use Rattle.std.specs.Prelude.{map, slice_get, option_map, is_some}
use Rattle.std.proofs.lemmas.Option.{slice_get-map}
use Rattle.orb_base.specs.Outcomes.{body_len}
use Rattle.orb_base.specs.declared.answer.Answer.{Answer}
use Rattle.orb_base.specs.declared.conn_id.ConnId.{ConnId}
use Rattle.orb_base.specs.declared.job.Job.{Job}
use Rattle.orb_base.specs.declared.limits.TheConstants.{MAX_BODY}
use Rattle.thread_borrowing.specs.ThreadList.{Thread}
use Rattle.lane_machine.specs.State.{State, Opens}
use Rattle.lane_machine.specs.Machine.{step}
use Rattle.lane_machine.specs.Readiness.{IsSound, IsBusyWith}
use Rattle.lane_machine.specs.Histories.{History, IsLegal}
use Rattle.lane_machine.specs.declared.call.LaneCall.{LaneCall}
use Rattle.lane_machine.specs.declared.call.LaneCall.TheVariants.{Offer, Post, Cancel, Take, Finish, Collect, End, Leave}
use Rattle.lane_machine.specs.declared.call.LaneReply.{LaneReply}
use Rattle.trace_lines.specs.Offers.{offers, NoNameTwice}
use Rattle.trace_lines.specs.Lines.{lines_of}
use Rattle.trace_lines.specs.ReadBack.{history_of, entries_after}
use Rattle.trace_lines.specs.Plain.{plain_doing, plain_answer, plain_thread, plain_state, plain_call, plain_reply, plain_entry}
use Rattle.lane_machine.specs.Fates.{finished}
use Rattle.trace_lines.proofs.Commutes.{step_plain, ready_plain, length-replicate}
use Rattle.trace_lines.proofs.Offered.{jobs_are, all_among}
use Rattle.trace_lines.proofs.Rebuilds.{rebuilds}
use Rattle.lane_machine.proofs.Fates.{one_place}
use Rattle.trace_lines.proofs.Fit.{fit_plain}
use Rattle.trace_lines.proofs.Once.{admitted_one}
use Rattle.trace_lines.proofs.Opened.{plain_opening, none_waits, none_in_hand, none_owed}
use Rattle.lane_machine.specs.Callers.{AreFit}

busy_plain : (a : Answer) (o : Option Thread) → IsBusyWith a o → IsBusyWith (plain_answer a) (option_map plain_thread o)
busy_plain a (Some thread) b = ap plain_doing b
busy_plain a None b = b

there_plain : (threads : List Thread) (t : ℕ) → is_some (slice_get (map plain_thread threads) t) ≡ is_some (slice_get threads t)
there_plain threads t = ap is_some (slice_get-map plain_thread threads t) ∙ some_map (slice_get threads t)
  where
    some_map : (o : Option Thread) → is_some (option_map plain_thread o) ≡ is_some o
    some_map (Some x) = refl
    some_map None = refl

sound_plain : (s : State) (c : LaneCall) → IsSound s c → IsSound (plain_state s) (plain_call c)
sound_plain s (Offer job) q = q
sound_plain s (Post n) q = tt
sound_plain s (Cancel conn id) q = tt
sound_plain s (Take t) q = there_plain s.threads t ∙ q
sound_plain s (Finish t a) q = (
  subst (IsBusyWith (plain_answer a)) (sym (slice_get-map plain_thread s.threads t)) (busy_plain a (slice_get s.threads t) q.0),
  subst (λ (n : ℕ). n ≤ MAX_BODY) (sym (length-replicate (body_len a.outcome))) q.1,
)
sound_plain s (Collect conn) q = tt
sound_plain s (End conn h) q = q
sound_plain s (Leave slot) q = q

pub legal_plain : (s : State) (h : History) → IsLegal s h → IsLegal (plain_state s) (map plain_entry h)
legal_plain s [] l = tt
legal_plain s (e ∷ es) l = (
  ready_plain s e.call ∙ l.0,
  sound_plain s e.call l.1,
  ap plain_reply l.2 ∙ sym (ap (λ (z : State × LaneReply). z.1) (step_plain s e.call)),
  subst (λ (z : State). IsLegal z (map plain_entry es)) (sym (ap (λ (z : State × LaneReply). z.0) (step_plain s e.call))) (legal_plain (step s e.call).0 es l.3),
)

-- no request is finished twice, where none is offered twice
pub finished_once : (s : State) (h : History) → Opens s → IsLegal s h → NoNameTwice (offers h) → (conn : ConnId) (serial : ℕ) → finished conn serial h ≤ 1
finished_once s h o l once conn serial = let a = one_place conn serial s h o l in let b = admitted_one conn serial h once in omega arith

-- the history that its lines say is its plain form
pub read_back : (s : State) (h : History) → Opens s → IsLegal s h → NoNameTwice (offers h) → history_of (lines_of h) ≡ map plain_entry h
read_back s h o l once =
    ap (λ (z : List Job). entries_after z [] (lines_of h)) (jobs_are (offers h) h)
    ∙ rebuilds (offers h) once [] s h l (all_among (offers h))
    ((λ k job g. absurd (none_waits s o k job g)), (λ t x job g d. absurd (none_in_hand s o t x job g d))) (λ i x g. absurd (none_owed s o i x g))
    (λ conn serial. (let a = finished_once s h o l once conn serial in omega arith))

-- it is legal
pub stays_legal : (s : State) (h : History) → Opens s → IsLegal s h → NoNameTwice (offers h) → IsLegal s (history_of (lines_of h))
stays_legal s h o l once =
    subst (IsLegal s) (sym (read_back s h o l once)) (subst (λ (z : State). IsLegal z (map plain_entry h)) (plain_opening s o) (legal_plain s h l))

-- and fit where the history was
pub stays_fit : (s : State) (h : History) → Opens s → IsLegal s h → NoNameTwice (offers h) → AreFit s h → AreFit s (history_of (lines_of h))
stays_fit s h o l once f = subst (AreFit s) (sym (read_back s h o l once)) (fit_plain s h f)
