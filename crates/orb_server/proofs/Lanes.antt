-- Each thread runs requests of its lane, or is lent to a higher one.
use Rattle.std.proofs.Common.{◌≡◌, ℕ, zero, suc, ◌+◌, Bool, true, false, List, [], ◌∷◌, ◌++◌, Option, Some, None, inl, inr, ◌⊎◌, refl, sym, ap, subst, ◌∙◌}
use Rattle.std.specs.Prelude.{slice_get, slice_set}
use Rattle.std.proofs.lemmas.Bool.{and_parts}
use Rattle.std.proofs.lemmas.Option.{none-some, same_Some}
use Rattle.orb_base.specs.Pool.{Pool}
use Rattle.orb_base.specs.declared.job.Job.{Job}
use Rattle.orb_base.specs.declared.lane_spec.LaneSpec.{LaneSpec}
use Rattle.thread_borrowing.specs.declared.doing.Doing.{Doing}
use Rattle.thread_borrowing.specs.declared.doing.Doing.TheVariants.{Free, Given, Busy}
use Rattle.thread_borrowing.specs.ThreadList.{Thread, some_threads, pool_threads, is_free, job_of, doing, given}
use Rattle.thread_borrowing.specs.Choice.{may_run}
use Rattle.thread_borrowing.proofs.Chosen.{chosen_is}
use Rattle.thread_borrowing.proofs.Places.{set_cases}
use Rattle.request_buffer.proofs.NextJobs.{next_is}
use Rattle.lane_machine.specs.State.{State, opening}
use Rattle.lane_machine.specs.Machine.{step, taken, begun}
use Rattle.lane_machine.specs.Changes.{Change, changes}
use Rattle.lane_machine.specs.Changes.Change.{same, starts, keeps, drops, begins, frees, passes}
use Rattle.lane_machine.specs.Histories.{History, IsLegal}
use Rattle.lane_machine.specs.declared.call.LaneCall.{LaneCall}
use Rattle.lane_machine.specs.declared.call.LaneCall.TheVariants.{Offer, Post, Cancel, Take, Finish, Collect, End, Leave}
use Rattle.lane_machine.specs.declared.call.LaneReply.{LaneReply}
use Rattle.lane_machine.specs.declared.call.LaneReply.TheVariants as reply
use Rattle.orb_server.specs.Fates.{MayRun, TakesOwn, RunsInLanes}

-- the threads stay in their lanes
abbrev InLanes : List Thread → List Thread → Type 0
InLanes first threads = (t : ℕ) (x : Thread) → slice_get threads t ≡ Some x → (y : Thread) × (slice_get first t ≡ Some y) × (x.lane ≡ y.lane)

-- each thread may run what it has in hand
abbrev MayAll : Bool → List Thread → Type 0
MayAll borrowing threads = (t : ℕ) (x : Thread) (job : Job) → slice_get threads t ≡ Some x → job_of x.doing ≡ Some job → may_run borrowing x.lane job.lane ≡ true

lanes_set : (first threads threads' : List Thread) (t : ℕ) (old new : Thread) → InLanes first threads → slice_get threads t ≡ Some old → new.lane ≡ old.lane → threads' ≡ slice_set threads t new → InLanes first threads'
lanes_set first threads threads' t old new k g n e = λ i x h. elim (set_cases threads t i new x (subst (λ (z : List Thread). slice_get z i ≡ Some x) e h)) [
  | inl a ↦ (let r = k t old g in (r.0, ap (slice_get first) a.0 ∙ r.1, ap (λ (z : Thread). z.lane) (sym a.1) ∙ (n ∙ r.2)))
  | inr a ↦ k i x a
]

may_set : (borrowing : Bool) (threads threads' : List Thread) (t : ℕ) (new : Thread) → MayAll borrowing threads → ((job : Job) → job_of new.doing ≡ Some job → may_run borrowing new.lane job.lane ≡ true) → threads' ≡ slice_set threads t new → MayAll borrowing threads'
may_set borrowing threads threads' t new k n e = λ i x job h d. elim (set_cases threads t i new x (subst (λ (z : List Thread). slice_get z i ≡ Some x) e h)) [
  | inl a ↦ subst (λ (z : Thread). may_run borrowing z.lane job.lane ≡ true) a.1 (n job (ap (λ (z : Thread). job_of z.doing) a.1 ∙ d))
  | inr a ↦ k i x job a d
]

lanes_change : (pool : Pool) (first threads threads' : List Thread) (waiting waiting' : List Job) → Change pool threads waiting threads' waiting' → InLanes first threads → InLanes first threads'
lanes_change pool first threads threads' waiting waiting' (same p w) k = subst (InLanes first) (sym p) k
lanes_change pool first threads threads' waiting waiting' (starts t thread job g e p w) k = lanes_set first threads threads' t thread (given job thread) k g refl p
lanes_change pool first threads threads' waiting waiting' (keeps job e r p w) k = subst (InLanes first) (sym p) k
lanes_change pool first threads threads' waiting waiting' (drops at job g p w) k = subst (InLanes first) (sym p) k
lanes_change pool first threads threads' waiting waiting' (begins t thread job g e p w) k = lanes_set first threads threads' t thread (doing thread (Busy job)) k g refl p
lanes_change pool first threads threads' waiting waiting' (frees t thread g e p w) k = lanes_set first threads threads' t thread (doing thread Free) k g refl p
lanes_change pool first threads threads' waiting waiting' (passes t thread at job g x e p w) k = lanes_set first threads threads' t thread (given job thread) k g refl p

may_change : (pool : Pool) (threads threads' : List Thread) (waiting waiting' : List Job) → Change pool threads waiting threads' waiting' → MayAll pool.borrowing threads → MayAll pool.borrowing threads'
may_change pool threads threads' waiting waiting' (same p w) k = subst (MayAll pool.borrowing) (sym p) k
may_change pool threads threads' waiting waiting' (starts t thread job g e p w) k =
    let h = chosen_is pool.borrowing job.lane threads t e in
    let here : h.0 ≡ thread = same_Some h.0 thread (sym h.1 ∙ g) in
    let may : may_run pool.borrowing thread.lane job.lane ≡ true = subst (λ (z : Thread). may_run pool.borrowing z.lane job.lane ≡ true) here (and_parts (is_free h.0.doing) (may_run pool.borrowing h.0.lane job.lane) h.2).1 in
    may_set pool.borrowing threads threads' t (given job thread) k (λ j d. subst (λ (z : Job). may_run pool.borrowing thread.lane z.lane ≡ true) (same_Some job j d) may) p
may_change pool threads threads' waiting waiting' (keeps job e r p w) k = subst (MayAll pool.borrowing) (sym p) k
may_change pool threads threads' waiting waiting' (drops at job g p w) k = subst (MayAll pool.borrowing) (sym p) k
may_change pool threads threads' waiting waiting' (begins t thread job g e p w) k =
    may_set pool.borrowing threads threads' t (doing thread (Busy job)) k (λ j d. subst (λ (z : Job). may_run pool.borrowing thread.lane z.lane ≡ true) (same_Some job j d) (k t thread job g (ap job_of e))) p
may_change pool threads threads' waiting waiting' (frees t thread g e p w) k = may_set pool.borrowing threads threads' t (doing thread Free) k (λ j d. absurd (none-some j d)) p
may_change pool threads threads' waiting waiting' (passes t thread at job g x e p w) k =
    let h = next_is pool.borrowing thread.lane waiting at e in
    let here : h.0 ≡ job = same_Some h.0 job (sym h.1 ∙ x) in
    may_set pool.borrowing threads threads' t (given job thread) k
    (λ j d. subst (λ (z : Job). may_run pool.borrowing thread.lane z.lane ≡ true) (here ∙ same_Some job j d) h.2) p

-- what holds of each state of a run
record Runs (first s : State) : Type 0 where
  pool : s.pool ≡ first.pool
  lanes : InLanes first.threads s.threads
  may : MayAll s.pool.borrowing s.threads

runs_on : (first s : State) (call : LaneCall) → Runs first s → Runs first (step s call).0
runs_on first s call r = let c = changes s call in record {
  pool = c.0 ∙ r.pool;
  lanes = lanes_change s.pool first.threads s.threads (step s call).0.threads s.waiting (step s call).0.waiting c.3 r.lanes;
  may = subst (λ (z : Pool). MayAll z.borrowing (step s call).0.threads) (sym c.0) (may_change s.pool s.threads (step s call).0.threads s.waiting (step s call).0.waiting c.3 r.may);
}

-- the request of a reply
abbrev told_job : Job → LaneReply → Job
told_job other (reply.Given job) = job
told_job other r = other

begun_own : (first s : State) (t : ℕ) (thread : Thread) (job : Job) (d : Doing) → Runs first s → slice_get s.threads t ≡ Some thread → thread.doing ≡ d → reply.Given job ≡ (begun s t thread d).1 → MayRun first t job
begun_own first s t thread job (Given j) r g e h =
    let here : job ≡ j = ap (told_job job) h in
    let l = r.lanes t thread g in
    let may : may_run s.pool.borrowing thread.lane j.lane ≡ true = r.may t thread j g (ap job_of e) in
    record {
      thread = l.0;
      there = l.1;
      may = (λ i. may_run (sym r.pool i).borrowing (sym l.2 i) (here i).lane) ∙ may;
    }
begun_own first s t thread job Free r g e h = absurd (cc)
begun_own first s t thread job (Busy j) r g e h = absurd (cc)

taken_own : (first s : State) (t : ℕ) (job : Job) (o : Option Thread) → Runs first s → slice_get s.threads t ≡ o → reply.Given job ≡ (taken s t o).1 → MayRun first t job
taken_own first s t job (Some thread) r g h = begun_own first s t thread job thread.doing r g refl h
taken_own first s t job None r g h = absurd (cc)

take_own : (first s : State) (t : ℕ) (r : LaneReply) → Runs first s → r ≡ (step s (Take t)).1 → TakesOwn first (Take t) r
take_own first s t (reply.Given job) k e = taken_own first s t job (slice_get s.threads t) k refl e
take_own first s t _ k e = tt

takes_own : (first s : State) (call : LaneCall) (r : LaneReply) → Runs first s → r ≡ (step s call).1 → TakesOwn first call r
takes_own first s (Take t) r k e = take_own first s t r k e
takes_own first s (Offer job) r k e = tt
takes_own first s (Post notice) r k e = tt
takes_own first s (Cancel conn id) r k e = tt
takes_own first s (Finish t answer) r k e = tt
takes_own first s (Collect conn) r k e = tt
takes_own first s (End conn how) r k e = tt
takes_own first s (Leave slot) r k e = tt

own_from : (first s : State) (h : History) → Runs first s → IsLegal s h → RunsInLanes first h
own_from first s [] k l = tt
own_from first s (e ∷ es) k l = (takes_own first s e.call e.reply k l.2, own_from first (step s e.call).0 es (runs_on first s e.call k) l.3)

-- no thread has a request where a run opens
found_in : (xs ys : List Thread) (i : ℕ) (x : Thread) → slice_get (xs ++ ys) i ≡ Some x → ((k : ℕ) × (slice_get xs k ≡ Some x)) ⊎ ((k : ℕ) × (slice_get ys k ≡ Some x))
found_in [] ys i x g = inr (i, g)
found_in (z ∷ xs) ys zero x g = inl (0, g)
found_in (z ∷ xs) ys (suc i) x g = elim (found_in xs ys i x g) [ inl a ↦ inl (suc a.0, a.1) | inr a ↦ inr a ]

free_some : (t : ℕ) (thread : Thread) (lane : ℕ) (kind : Bool) (n : ℕ) → slice_get (some_threads lane kind n) t ≡ Some thread → job_of thread.doing ≡ None
free_some t thread lane kind zero g = absurd (none-some thread g)
free_some zero thread lane kind (suc n) g = ap (λ (z : Thread). job_of z.doing) (sym (same_Some (record { lane = lane; is_static = kind; started = kind; doing = Free }) thread g))
free_some (suc t) thread lane kind (suc n) g = free_some t thread lane kind n g

pub free_lanes : (t : ℕ) (thread : Thread) (lane : ℕ) (lanes : List LaneSpec) → slice_get (pool_threads lane lanes) t ≡ Some thread → job_of thread.doing ≡ None
free_lanes t thread lane [] g = absurd (none-some thread g)
free_lanes t thread lane (l ∷ ls) g = elim (found_in (some_threads lane true l.statics ++ some_threads lane false l.dynamics) (pool_threads (lane + 1) ls) t thread g) [
  | inl a ↦ elim (found_in (some_threads lane true l.statics) (some_threads lane false l.dynamics) a.0 thread a.1) [ inl b ↦ free_some b.0 thread lane true l.statics b.1 | inr b ↦ free_some b.0 thread lane false l.dynamics b.1 ]
  | inr a ↦ free_lanes a.0 thread (lane + 1) ls a.1
]

pub runs_in_lanes : (pool : Pool) (slots per_slot : ℕ) (h : History) → IsLegal (opening pool slots per_slot) h → RunsInLanes (opening pool slots per_slot) h
runs_in_lanes pool slots per_slot h l = own_from (opening pool slots per_slot) (opening pool slots per_slot) h (record {
  pool = refl;
  lanes = λ t x g. (x, g, refl);
  may = λ t x job g d. absurd (none-some job (sym (free_lanes t x 0 pool.lanes g) ∙ d));
}) l
