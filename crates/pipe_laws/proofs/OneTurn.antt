-- One turn of a thread, from any state: it takes its task and finishes it, and one request less is in hand.
use Rattle.std.proofs.Common.{◌≡◌, ℕ, ◌+◌, ◌≤◌, suc, zero, Bool, true, false, not, cond, List, [], ◌∷◌, Option, Some, None, length, inl, inr, refl, sym, ap, ◌∙◌, subst, arith}
use Rattle.std.specs.Prelude.{slice_get, slice_set, remove, is_some, count_by}
use Rattle.std.proofs.lemmas.Bool.{cases_eq, both_ways}
use Rattle.std.proofs.lemmas.Option.{none-some, same_Some, slice_get_within}
use Rattle.std.proofs.lemmas.List.Sums.{sum_by-cons}
use Rattle.std.proofs.lemmas.List.Edits.{length-remove}
use Rattle.orb_base.specs.JobRecord.{JobRecord}
use Rattle.orb_base.specs.Outcomes.{body_len}
use Rattle.orb_base.specs.declared.answer.Answer.{Answer}
use Rattle.orb_base.specs.declared.limits.TheConstants.{MAX_BODY}
use Rattle.lane_machine.specs.declared.call.LaneCall.TheVariants.{Take, Finish}
use Rattle.lane_machine.specs.declared.call.LaneReply.TheVariants as reply
use Rattle.thread_borrowing.specs.declared.doing.Doing.{Doing}
use Rattle.thread_borrowing.specs.declared.doing.Doing.TheVariants.{Free, Given, Busy}
use Rattle.lane_machine.specs.State.{State}
use Rattle.thread_borrowing.specs.ThreadList.{Thread, is_free, is_given, doing, given}
use Rattle.request_buffer.specs.Next.{next_job}
use Rattle.lane_machine.specs.Machine.{step, taken, begun, finished, answered, freed, handed_on, set_thread}
use Rattle.lane_machine.specs.Readiness.{is_ready, IsSound, IsBusyWith, can_take, can_go_on}
use Rattle.pipe_laws.specs.Piped.{first_given, in_hand}
use Rattle.pipe_laws.specs.Calm.{is_busy, NoneBusy}
use Rattle.thread_borrowing.proofs.Places.{at_place, set_same, set_other, sum_set}
use Rattle.request_buffer.proofs.NextJobs.{next_is}

-- a thread that has a task to take
pub record Turning (s : State) (t : ℕ) : Type 0 where
  pub thread : Thread
  pub job : JobRecord
  pub there : slice_get s.threads t ≡ Some thread
  pub given : thread.doing ≡ Given job

given_job : (d : Doing) → is_given d ≡ true → (job : JobRecord) × (d ≡ Given job)
given_job Free e = absurd cc
given_job (Given job) e = (job, refl)
given_job (Busy job) e = absurd cc

pub turning : (s : State) (t : ℕ) → first_given s ≡ Some t → Turning s t
turning s t e =
    let a = at_place (λ thread. is_given thread.doing) s.threads t e in
    let g = given_job a.0.doing a.2 in
    record { thread = a.0; job = g.0; there = a.1; given = g.1 }

-- after the Take
abbrev pub busy_one : (s : State) (t : ℕ) → Turning s t → Thread
busy_one s t x = doing x.thread (Busy x.job)

abbrev pub busy_at : (s : State) (t : ℕ) → Turning s t → State
busy_at s t x = set_thread s t (busy_one s t x)

pub takes : (s : State) (t : ℕ) (x : Turning s t) → step s (Take t) ≡ (busy_at s t x, reply.Given x.job)
takes s t x = ap (taken s t) x.there ∙ ap (begun s t x.thread) x.given

pub take_ready : (s : State) (t : ℕ) → Turning s t → is_ready s (Take t) ≡ true
take_ready s t x = ap (can_take s) x.there ∙ ap (can_go_on s) x.given

pub take_sound : (s : State) (t : ℕ) → Turning s t → IsSound s (Take t)
take_sound s t x = ap is_some x.there

busy_there : (s : State) (t : ℕ) (x : Turning s t) → slice_get (busy_at s t x).threads t ≡ Some (busy_one s t x)
busy_there s t x = set_same s.threads t x.thread (busy_one s t x) x.there

-- after the Finish
abbrev pub done_at : (s : State) (t : ℕ) → Turning s t → Answer → State
done_at s t x answer = freed (answered (busy_at s t x) answer) t (busy_one s t x) (next_job s.pool.borrowing x.thread.lane s.waiting)

pub finishes : (s : State) (t : ℕ) (x : Turning s t) (answer : Answer) → step (busy_at s t x) (Finish t answer) ≡ (done_at s t x answer, reply.Finished)
finishes s t x answer = ap (finished (busy_at s t x) t answer) (busy_there s t x)

pub busy_sound : (s : State) (t : ℕ) (x : Turning s t) (answer : Answer) → answer.job ≡ x.job → IsBusyWith answer (slice_get (busy_at s t x).threads t)
busy_sound s t x answer same = subst (IsBusyWith answer) (sym (busy_there s t x)) (ap Busy (sym same))

pub finish_sound : (s : State) (t : ℕ) (x : Turning s t) (answer : Answer) → answer.job ≡ x.job → body_len answer.outcome ≤ MAX_BODY → IsSound (busy_at s t x) (Finish t answer)
finish_sound s t x answer same short = (busy_sound s t x answer same, short)

-- ---- the requests in hand

abbrev has_task : Thread → Bool
has_task thread = not (is_free thread.doing)

abbrev tasks : Thread → ℕ
tasks thread = cond (has_task thread) 1 0

one_less : (s : State) (t : ℕ) (thread : Thread) (at : Option ℕ) → slice_get s.threads t ≡ Some thread → tasks thread ≡ 1
    → next_job s.pool.borrowing thread.lane s.waiting ≡ at → in_hand (freed s t thread at) + 1 ≡ in_hand s
one_less s t thread None there one none =
    let sums : count_by has_task (slice_set s.threads t (doing thread Free)) + tasks thread ≡ count_by has_task s.threads + 0 = sum_set tasks s.threads t thread (doing thread Free) there in omega arith
one_less s t thread (Some at) there one next =
    let n = next_is s.pool.borrowing thread.lane s.waiting at next in
    let sums : count_by has_task (slice_set s.threads t (given n.0 thread)) + tasks thread ≡ count_by has_task s.threads + 1 = sum_set tasks s.threads t thread (given n.0 thread) there in
    let fewer = length-remove s.waiting at (slice_get_within s.waiting at n.0 n.1) in
    let all : length (remove s.waiting at) + count_by has_task (slice_set s.threads t (given n.0 thread)) + 1 ≡ length s.waiting + count_by has_task s.threads = omega arith in
    subst (λ (o : Option JobRecord). in_hand (handed_on s t thread at o) + 1 ≡ in_hand s) (sym n.1) all

given_weighs : (d : Doing) → is_given d ≡ true → ◌≡◌ {A = ℕ} (cond (not (is_free d)) 1 0) 1
given_weighs Free e = absurd cc
given_weighs (Given job) e = refl
given_weighs (Busy job) e = refl

-- a turn finishes one of them
pub turn_hands : (s : State) (t : ℕ) (x : Turning s t) (answer : Answer) → in_hand (done_at s t x answer) + 1 ≡ in_hand s
turn_hands s t x answer =
    let sums : count_by has_task (busy_at s t x).threads + tasks x.thread ≡ count_by has_task s.threads + 1 = sum_set tasks s.threads t x.thread (busy_one s t x) x.there in
    let one : tasks x.thread ≡ 1 = given_weighs x.thread.doing (ap is_given x.given) in
    let less = one_less (answered (busy_at s t x) answer) t (busy_one s t x) (next_job s.pool.borrowing x.thread.lane s.waiting) (busy_there s t x) refl refl in
    omega arith

-- where nothing is in hand, nothing is given
free_one : (d e : Doing) → ◌≡◌ {A = ℕ} (cond (not (is_free d)) 1 0) 0 → d ≡ e → is_free e ≡ true
free_one Free e z same = ap is_free (sym same)
free_one (Given job) e z same = absurd (omega arith)
free_one (Busy job) e z same = absurd (omega arith)

none_tasks : (threads : List Thread) → count_by has_task threads ≡ 0 → (t : ℕ) (thread : Thread) → slice_get threads t ≡ Some thread → is_free thread.doing ≡ true
none_tasks [] none t thread there = absurd (none-some thread there)
none_tasks (x ∷ xs) none zero thread there =
    let all : cond {A = ℕ} (has_task x) 1 0 + count_by has_task xs ≡ 0 = sym (sum_by-cons tasks x xs) ∙ none in
    free_one x.doing thread.doing (omega arith) (ap (λ (z : Thread). z.doing) (same_Some x thread there))
none_tasks (x ∷ xs) none (suc t) thread there =
    let all : cond {A = ℕ} (has_task x) 1 0 + count_by has_task xs ≡ 0 = sym (sum_by-cons tasks x xs) ∙ none in
    none_tasks xs (omega arith) t thread there

free_given : (d : Doing) → is_free d ≡ true → is_given d ≡ false
free_given Free e = refl
free_given (Given job) e = absurd cc
free_given (Busy job) e = absurd cc

pub none_in_hand : (s : State) → in_hand s ≡ 0 → (o : Option ℕ) → first_given s ≡ o → o ≡ None
none_in_hand s none None e = refl
none_in_hand s none (Some t) e =
    let x = turning s t e in
    absurd (both_ways (is_given x.thread.doing) (free_given x.thread.doing (none_tasks s.threads (omega arith) t x.thread x.there)) (ap is_given x.given))

-- ---- between turns no thread is busy

pub calm_set : (threads : List Thread) (t : ℕ) (old new : Thread) → slice_get threads t ≡ Some old → is_busy new.doing ≡ false
    → ((k : ℕ) (thread : Thread) → (k ≡ t → ⊥) → slice_get threads k ≡ Some thread → is_busy thread.doing ≡ false) → NoneBusy (slice_set threads t new)
calm_set threads t old new there idle others k thread g = elim (cases_eq k t) [
  | inl e ↦ ap (λ (z : Thread). is_busy z.doing) (same_Some thread new (sym g ∙ (ap (slice_get (slice_set threads t new)) e ∙ set_same threads t old new there))) ∙ idle
  | inr d ↦ others k thread d (sym (set_other threads t k new d) ∙ g)
]

calm_freed : (s : State) (t : ℕ) (thread : Thread) (at : Option ℕ) → slice_get s.threads t ≡ Some thread
    → ((k : ℕ) (other : Thread) → (k ≡ t → ⊥) → slice_get s.threads k ≡ Some other → is_busy other.doing ≡ false)
    → next_job s.pool.borrowing thread.lane s.waiting ≡ at → NoneBusy (freed s t thread at).threads
calm_freed s t thread None there others none = calm_set s.threads t thread (doing thread Free) there refl others
calm_freed s t thread (Some at) there others next =
    let n = next_is s.pool.borrowing thread.lane s.waiting at next in
    subst (λ (o : Option JobRecord). NoneBusy (handed_on s t thread at o).threads) (sym n.1) (calm_set s.threads t thread (given n.0 thread) there refl others)

pub turn_calm : (s : State) (t : ℕ) (x : Turning s t) (answer : Answer) → NoneBusy s.threads → NoneBusy (done_at s t x answer).threads
turn_calm s t x answer calm =
    calm_freed (answered (busy_at s t x) answer) t (busy_one s t x) (next_job s.pool.borrowing x.thread.lane s.waiting) (busy_there s t x)
    (λ k other d g. calm k other (sym (set_other s.threads t k (busy_one s t x) d) ∙ g)) refl
