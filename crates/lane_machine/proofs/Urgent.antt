-- No thread idles beside a request that it may run, and each takes the most urgent one.
use Rattle.std.proofs.Common.{◌≡◌, ℕ, ◌+◌, ◌<◌, ◌≤◌, suc, zero, Bool, true, false, cond, ◌&&◌, List, [], ◌∷◌, ◌++◌, length, Option, Some, None, inl, inr, sym, refl, ap, ◌∙◌, subst, arith, rules}
use Rattle.std.specs.Prelude.{slice_get, slice_set, remove, position}
use Rattle.std.proofs.lemmas.Bool.{and_parts, and_from, both_ways, cases_Bool}
use Rattle.std.proofs.lemmas.Option.{none-some, same_Some}
use Rattle.thread_borrowing.specs.declared.doing.Doing.{Doing}
use Rattle.thread_borrowing.specs.declared.doing.Doing.TheVariants.{Free, Given, Busy}
use Rattle.lane_machine.specs.declared.call.LaneCall.{LaneCall}
use Rattle.lane_machine.specs.Changes.{Change, same, starts, keeps, drops, begins, frees, passes, changes}
use Rattle.orb_base.specs.declared.job.Job.{Job}
use Rattle.orb_base.specs.Pool.{Pool}
use Rattle.lane_machine.specs.State.{State, opening}
use Rattle.thread_borrowing.specs.ThreadList.{Thread, is_free, given, doing}
use Rattle.thread_borrowing.specs.Choice.{chosen_thread, may_run, can_start, rank}
use Rattle.request_buffer.specs.Next.{next_job}
use Rattle.lane_machine.specs.Machine.{step}
use Rattle.lane_machine.specs.Readiness.{is_ready, IsSound}
use Rattle.lane_machine.specs.Urgency.{NoneIdles, IsGiven, IsFirst}
use Rattle.thread_borrowing.proofs.Places.{set_cases, push_cases, remove_cases}
use Rattle.thread_borrowing.proofs.Chosen.{chosen_is, none_chosen}
use Rattle.request_buffer.proofs.NextJobs.{next_is, none_next, next_first}

-- NoneIdles on the lists
abbrev Idle : Pool → List Thread → List Job → Type 0
Idle pool threads waiting = (t : ℕ) (thread : Thread) (k : ℕ) (job : Job) → slice_get threads t ≡ Some thread → is_free thread.doing ≡ true → slice_get waiting k ≡ Some job → may_run pool.borrowing thread.lane job.lane ≡ false

-- a thread that has a task now, or that did before
busy_set : (pool : Pool) (threads : List Thread) (waiting : List Job) (i : ℕ) (new : Thread) → is_free new.doing ≡ false → Idle pool threads waiting → Idle pool (slice_set threads i new) waiting
busy_set pool threads waiting i new busy idle t thread k job g free h = elim (set_cases threads i t new thread g) [
  | inl a ↦ absurd (both_ways (is_free new.doing) busy (ap (λ (x : Thread). is_free x.doing) a.1 ∙ free))
  | inr a ↦ idle t thread k job a free h
]

fewer : (pool : Pool) (threads : List Thread) (waiting : List Job) (at : ℕ) → Idle pool threads waiting → Idle pool threads (remove waiting at)
fewer pool threads waiting at idle t thread k job g free h = let j = remove_cases waiting at k job h in idle t thread j.0 job g free j.1

idles : (pool : Pool) (threads : List Thread) (waiting : List Job) (threads' : List Thread) (waiting' : List Job) → Change pool threads waiting threads' waiting' → Idle pool threads waiting → Idle pool threads' waiting'
idles pool threads waiting threads' waiting' (same p w) idle = subst (λ (z : List Thread × List Job). Idle pool z.0 z.1) (λ i. (sym p i, sym w i)) idle
idles pool threads waiting threads' waiting' (starts t thread job g e p w) idle = subst (λ (z : List Thread × List Job). Idle pool z.0 z.1) (λ i. (sym p i, sym w i)) (busy_set pool threads waiting t (given job thread) refl idle)
idles pool threads waiting threads' waiting' (keeps job e r p w) idle = subst (λ (z : List Thread × List Job). Idle pool z.0 z.1) (λ i. (sym p i, sym w i)) (λ t thread k other g free h. elim (push_cases waiting k job other h) [
  | inl a ↦ idle t thread k other g free a
  | inr a ↦ (let n = none_chosen pool.borrowing job.lane threads t thread e g in elim (cases_Bool (may_run pool.borrowing thread.lane other.lane)) [
    | inl may ↦ absurd (both_ways (can_start pool.borrowing job.lane thread) n (and_from (is_free thread.doing) (may_run pool.borrowing thread.lane job.lane) free (ap (λ (z : Job). may_run pool.borrowing thread.lane z.lane) a ∙ may)))
    | inr f ↦ f
  ])
])
idles pool threads waiting threads' waiting' (drops at job g p w) idle = subst (λ (z : List Thread × List Job). Idle pool z.0 z.1) (λ i. (sym p i, sym w i)) (fewer pool threads waiting at idle)
idles pool threads waiting threads' waiting' (begins t thread job g e p w) idle = subst (λ (z : List Thread × List Job). Idle pool z.0 z.1) (λ i. (sym p i, sym w i)) (busy_set pool threads waiting t (doing thread (Busy job)) refl idle)
idles pool threads waiting threads' waiting' (frees i old g e p w) idle = subst (λ (z : List Thread × List Job). Idle pool z.0 z.1) (λ i. (sym p i, sym w i)) (λ t thread k other h free x. elim (set_cases threads i t (doing old Free) thread h) [
  | inl a ↦ subst (λ (z : Thread). may_run pool.borrowing z.lane other.lane ≡ false) a.1 (none_next pool.borrowing old.lane waiting k other e x)
  | inr a ↦ idle t thread k other a free x
])
idles pool threads waiting threads' waiting' (passes t thread at job g x e p w) idle = subst (λ (z : List Thread × List Job). Idle pool z.0 z.1) (λ i. (sym p i, sym w i)) (fewer pool (slice_set threads t (given job thread)) waiting at (busy_set pool threads waiting t (given job thread) refl idle))

pub none_idles : (s : State) (call : LaneCall) → is_ready s call ≡ true → IsSound s call → NoneIdles s → NoneIdles (step s call).0
none_idles s call r q idle = let c = changes s call in
    subst (λ (p : Pool). Idle p (step s call).0.threads (step s call).0.waiting) (sym c.0) (idles s.pool s.threads s.waiting (step s call).0.threads (step s call).0.waiting c.3 idle)

pub none_idles_first : (pool : Pool) (slots per_slot : ℕ) → NoneIdles (opening pool slots per_slot)
none_idles_first pool slots per_slot t thread k job g free h = absurd (none-some job h)

abbrev First : Pool → List Job → ℕ → Job → Type 0
First pool waiting lane job = (k : ℕ) (other : Job) → slice_get waiting k ≡ Some other → may_run pool.borrowing lane other.lane ≡ true
    → (other.priority ≤ job.priority) × (other.priority ≡ job.priority → (at : ℕ) × (at ≤ k) × (slice_get waiting at ≡ Some job))

abbrev Gets : List Thread → List Thread → ℕ → Thread → Job → Type 0
Gets threads threads' t thread job = (slice_get threads' t ≡ Some thread) × (thread.doing ≡ Given job) × ¬ (slice_get threads t ≡ Some thread)

given_is : (a b : Job) → Given a ≡ Given b → a ≡ b
given_is a b e = cc

unmoved : (threads threads' : List Thread) (t : ℕ) (thread : Thread) (job : Job) → threads' ≡ threads → Gets threads threads' t thread job → ⊥
unmoved threads threads' t thread job p got = got.2 (subst (λ (z : List Thread). slice_get z t ≡ Some thread) p got.0)

-- what a set place tells of a thread that was given a job
set_gets : (threads threads' : List Thread) (i t : ℕ) (new thread : Thread) (job : Job) → threads' ≡ slice_set threads i new → Gets threads threads' t thread job → (t ≡ i) × (new ≡ thread)
set_gets threads threads' i t new thread job p got = elim (set_cases threads i t new thread (subst (λ (z : List Thread). slice_get z t ≡ Some thread) p got.0)) [ inl a ↦ a | inr a ↦ absurd (got.2 a) ]

firsts : (pool : Pool) (threads : List Thread) (waiting : List Job) (threads' : List Thread) (waiting' : List Job) → Change pool threads waiting threads' waiting' → Idle pool threads waiting
    → (t : ℕ) (thread : Thread) (job : Job) → Gets threads threads' t thread job → First pool waiting thread.lane job
firsts pool threads waiting threads' waiting' (same p w) idle t thread job got = absurd (unmoved threads threads' t thread job p got)
firsts pool threads waiting threads' waiting' (starts i old j g e p w) idle t thread job got = let a = set_gets threads threads' i t (given j old) thread job p got in
    let h = chosen_is pool.borrowing j.lane threads i e in let same_old : h.0 ≡ old = same_Some h.0 old (sym h.1 ∙ g) in let free : is_free old.doing ≡ true = ap (λ (x : Thread). is_free x.doing) (sym same_old) ∙ (and_parts (is_free h.0.doing) (may_run pool.borrowing h.0.lane j.lane) h.2).0 in
    subst (λ (x : Thread). First pool waiting x.lane job) a.1 (λ k other x may. absurd (both_ways (may_run pool.borrowing old.lane other.lane) (idle i old k other g free x) may))
firsts pool threads waiting threads' waiting' (keeps j e r p w) idle t thread job got = absurd (unmoved threads threads' t thread job p got)
firsts pool threads waiting threads' waiting' (drops at j g p w) idle t thread job got = absurd (unmoved threads threads' t thread job p got)
firsts pool threads waiting threads' waiting' (begins i old j g e p w) idle t thread job got = let a = set_gets threads threads' i t (doing old (Busy j)) thread job p got in let b : Busy j ≡ Given job = ap (λ (x : Thread). x.doing) a.1 ∙ got.1 in absurd (cc)
firsts pool threads waiting threads' waiting' (frees i old g e p w) idle t thread job got = let a = set_gets threads threads' i t (doing old Free) thread job p got in let b : Free ≡ Given job = ap (λ (x : Thread). x.doing) a.1 ∙ got.1 in absurd (cc)
firsts pool threads waiting threads' waiting' (passes i old at j g x e p w) idle t thread job got = let a = set_gets threads threads' i t (given j old) thread job p got in
    let b : j ≡ job = given_is j job (ap (λ (x : Thread). x.doing) a.1 ∙ got.1) in
    subst (λ (y : Thread). First pool waiting y.lane job) a.1 (subst (First pool waiting old.lane) b (λ k other h may. let f = next_first pool.borrowing old.lane waiting at j e x k other h may in (f.0, λ even. (at, f.1 even, x))))

pub given_first : (s : State) (call : LaneCall) → NoneIdles s → (t : ℕ) (thread : Thread) (job : Job) → IsGiven s (step s call).0 t thread job → IsFirst s thread.lane job
given_first s call idle t thread job got = firsts s.pool s.threads s.waiting (step s call).0.threads (step s call).0.waiting (changes s call).3 idle t thread job got
