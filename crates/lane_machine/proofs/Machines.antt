-- What each call of the machine needs of its numbers.
use Rattle.std.proofs.Common.{◌≡◌, ℕ, Bool, zero, suc, ◌+◌, ◌^◌, ◌≤◌, ◌<◌, true, false, List, [], ◌∷◌, length, Option, Some, None, sym, ap, ◌∙◌, refl, arith}
use Rattle.std.specs.Prelude.{slice_get, is_some, slice_set, remove, IsSomeAnd}
use Rattle.orb_base.specs.declared.limits.TheConstants.{MAX_BODY}
use Rattle.orb_base.specs.declared.job.Job.{Job}
use Rattle.std.proofs.lemmas.Bool.{both_ways}
use Rattle.std.proofs.lemmas.Option.{same_Some}
use Rattle.thread_borrowing.specs.declared.doing.Doing.{Doing}
use Rattle.thread_borrowing.specs.declared.doing.Doing.TheVariants.{Free, Given, Busy}
use Rattle.thread_borrowing.specs.declared.task.Task.TheVariants as task
use Rattle.thread_borrowing.specs.ThreadList.{Thread, task_of, job_of, given, freed, with_found, with_thread}
use Rattle.thread_borrowing.proofs.Places.{set_same}
use Rattle.request_buffer.specs.Kept.{Kept, arrival_of, IsTaken}
use Rattle.request_buffer.specs.Next.{next_job}
use Rattle.lane_machine.specs.Machine as machine
use Rattle.lane_machine.specs.Machine.{handed_on}
use Rattle.lane_machine.specs.Moving.{handed_lists, next_lists, freed_lists, given_next}
use Rattle.lane_machine.specs.State.{State}
use Rattle.lane_machine.specs.Bounds.{IsBounded}

-- a place that has something is within the list
pub is_within : {X : Type 0} (xs : List X) (i : ℕ) → is_some (slice_get xs i) ≡ true → i < length xs
is_within {X} [] i there = absurd (both_ways false refl there)
is_within {X} (x ∷ xs) zero there = omega arith
is_within {X} (x ∷ xs) (suc i) there = let l = is_within xs i there in omega arith

-- the bytes of one more answer can be counted
pub few_after : (s : State) (len : ℕ) → IsBounded s → len ≤ MAX_BODY → s.bytes + len < 2 ^ 64
few_after s len bounded few =
    let a = bounded.few_calls in let b = bounded.few_bytes in let c = bounded.calls in let d = bounded.bytes in omega arith

-- what a thread does, by whether it has a task and by its request
pub given_with : (d : Doing) (job : Job) → task_of d ≡ task.Given → job_of d ≡ Some job → d ≡ Given job
given_with Free job is has = absurd cc
given_with (Given j) job is has = ap Given (same_Some j job has)
given_with (Busy j) job is has = absurd cc

pub busy_with : (d : Doing) (job : Job) → task_of d ≡ task.Busy → job_of d ≡ Some job → d ≡ Busy job
busy_with Free job is has = absurd cc
busy_with (Given j) job is has = absurd cc
busy_with (Busy j) job is has = ap Busy (same_Some j job has)

-- a thread that is set twice is set once
pub set_twice : {X : Type 0} (xs : List X) (i : ℕ) (x y : X) → slice_set (slice_set xs i x) i y ≡ slice_set xs i y
set_twice {X} [] i x y = refl
set_twice {X} (z ∷ xs) zero x y = refl
set_twice {X} (z ∷ xs) (suc i) x y = ap (λ (ys : List X). z ∷ ys) (set_twice xs i x y)

-- the state after the lists of a thread that goes on
handed_on_is : (s : State) (t : ℕ) (thread : Thread) (at : ℕ) (o : Option Job)
    → record s { threads = (handed_lists t s.threads s.waiting thread at o).0; waiting = (handed_lists t s.threads s.waiting thread at o).1 } ≡ handed_on s t thread at o
handed_on_is s t thread at (Some job) = refl
handed_on_is s t thread at None = refl

next_is : (s : State) (t : ℕ) (thread : Thread) (o : Option ℕ)
    → record s { threads = (next_lists t s.threads s.waiting thread o).0; waiting = (next_lists t s.threads s.waiting thread o).1 } ≡ machine.freed s t thread o
next_is s t thread (Some at) = handed_on_is s t thread at (slice_get s.waiting at)
next_is s t thread None = refl

pub goes_on : (s : State) (t : ℕ) (o : Option Thread)
    → record s { threads = (freed_lists s.pool.borrowing t s.threads s.waiting o).0; waiting = (freed_lists s.pool.borrowing t s.threads s.waiting o).1 } ≡ given_next s t o
goes_on s t (Some thread) = next_is s t thread (next_job s.pool.borrowing thread.lane s.waiting)
goes_on s t None = refl

-- a value of which a fact holds is there
some_of : {X : Type 0} (o : Option X) (P : X → Type 0) → IsSomeAnd o P → (x : X) × (o ≡ Some x) × P x
some_of None P h = absurd h
some_of (Some x) P h = (x, refl, h)

-- the lists of a thread that was freed and given the next request
pub goes_on_lists : (b : Bool) (t lane place : ℕ) (threads without with_job : List Thread) (waiting left : Kept) (job : Job)
    → IsSomeAnd (slice_get threads t) (λ thread. lane ≡ thread.lane) → without ≡ with_thread freed threads t
    → arrival_of waiting place ≡ next_job b lane waiting.requests → IsSomeAnd (arrival_of waiting place) (IsTaken waiting left job)
    → with_job ≡ with_thread (given job) without t
    → ◌≡◌ {A = List Thread × List Job} (with_job, left.requests) (freed_lists b t threads waiting.requests (slice_get threads t))
goes_on_lists b t lane place threads without with_job waiting left job of_lane was_freed is_next was_taken was_given =
    let found = some_of (slice_get threads t) (λ thread. lane ≡ thread.lane) of_lane in
    let thread = found.0 in
    let taken = some_of (arrival_of waiting place) (IsTaken waiting left job) was_taken in
    let next : next_job b thread.lane waiting.requests ≡ Some taken.0 = ap (λ (n : ℕ). next_job b n waiting.requests) (sym found.2) ∙ sym is_next ∙ taken.1 in
    let freed_is : without ≡ slice_set threads t (freed thread) = was_freed ∙ ap (with_found freed threads t) found.1 in
    let stands : slice_get without t ≡ Some (freed thread) = ap (λ (xs : List Thread). slice_get xs t) freed_is ∙ set_same threads t thread (freed thread) found.1 in
    let given_is : with_job ≡ slice_set without t (given job thread) = was_given ∙ ap (with_found (given job) without t) stands in
    let both : with_job ≡ slice_set threads t (given job thread) =
    given_is ∙ ap (λ (xs : List Thread). slice_set xs t (given job thread)) freed_is ∙ set_twice threads t (freed thread) (given job thread) in
    let lists : freed_lists b t threads waiting.requests (Some thread) ≡ (slice_set threads t (given job thread), remove waiting.requests taken.0) =
    ap (next_lists t threads waiting.requests thread) next ∙ ap (handed_lists t threads waiting.requests thread taken.0) taken.2.0 in
    let pair : ◌≡◌ {A = List Thread × List Job} (with_job, left.requests) (slice_set threads t (given job thread), remove waiting.requests taken.0) = λ i. (both i, taken.2.1 i) in
    pair ∙ sym lists ∙ ap (freed_lists b t threads waiting.requests) (sym found.1)
