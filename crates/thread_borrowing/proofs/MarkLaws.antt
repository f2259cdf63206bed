-- The threads of a pool with the sets of those without a task.
use Rattle.std.proofs.Common.{◌≡◌, ℕ, zero, suc, ◌+◌, ◌<◌, ◌≤◌, Bool, true, false, List, [], ◌∷◌, ◌++◌, length, take, get_or, Some, inl, inr, ◌⊎◌, refl, sym, ap, ◌∙◌, subst, arith}
use Rattle.std.specs.Prelude.{slice_get, slice_set, Option, None, IsSomeAnd}
use Rattle.std.proofs.lemmas.Option.{none-some, slice_get-get_or, get_or_from_slice_get, slice_get_within}
use Rattle.std.proofs.lemmas.List.{length-set, length-take, take_more}
use Rattle.orb_base.specs.declared.limits.TheConstants.{MAX_LANES}
use Rattle.orb_base.specs.declared.job.Job.{Job}
use Rattle.orb_base.specs.declared.lane_spec.LaneSpec.{LaneSpec}
use Rattle.thread_borrowing.specs.declared.probes.LaneSet.{LaneSet}
use Rattle.thread_borrowing.specs.declared.standing.Standing.{Standing}
use Rattle.thread_borrowing.specs.declared.doing.Doing.{Doing}
use Rattle.thread_borrowing.specs.declared.doing.Doing.TheVariants.{Free, Given, Busy}
use Rattle.thread_borrowing.specs.declared.task.Task.TheVariants as task
use Rattle.thread_borrowing.specs.ThreadList.{Thread, is_free, task_of, taken_up, given, begun, freed, some_threads, pool_threads}
use Rattle.thread_borrowing.specs.Choice.{standing}
use Rattle.thread_borrowing.specs.Masks.{IsPut, IsCleared, level, AreSetsOf, IsPlaced, ArePlaced, AreIdle, AreMarked}
use Rattle.thread_borrowing.proofs.Places.{set_cases}
use Rattle.thread_borrowing.proofs.DownLaws.{no_set}
use Rattle.thread_borrowing.proofs.SetLaws.{became_set, became_push, busy_is_out, end_is_out, sets_put, sets_cleared, sets_kept, get_replicate}

-- a thread that was looked up is the one at the place
some_there : (o : Option Thread) (P : Thread → Type 0) → IsSomeAnd o P → (x : Thread) × (o ≡ Some x) × P x
some_there None P none = absurd none
some_there (Some x) P holds = (x, refl, holds)

pub read_there : (threads : List Thread) (at index : ℕ) (x other : Thread) (P : Thread → Type 0) → index ≡ at → IsSomeAnd (slice_get threads at) P → x ≡ get_or threads index other → (slice_get threads at ≡ Some x) × P x
read_there threads at index x other P same there is =
    let y = some_there (slice_get threads at) P there in
    let equal : y.0 ≡ x = sym (is ∙ ap (λ n. get_or threads n other) same ∙ get_or_from_slice_get threads at y.0 other y.1) in
    (y.1 ∙ ap Some equal, subst P equal y.2)

-- which tasks are none
pub given_busy : (doing : Doing) → task_of doing ≡ task.Given → is_free doing ≡ false
given_busy Free e = cc
given_busy (Given job) e = refl
given_busy (Busy job) e = refl

pub begun_busy : (doing : Doing) → task_of doing ≡ task.Given → is_free (taken_up doing) ≡ false
begun_busy Free e = cc
begun_busy (Given job) e = refl
begun_busy (Busy job) e = refl

pub taken_busy : (doing : Doing) → task_of doing ≡ task.Busy → is_free doing ≡ false
taken_busy Free e = cc
taken_busy (Given job) e = refl
taken_busy (Busy job) e = refl

-- a thread that changed keeps its place
placed_set : (threads : List Thread) (at : ℕ) (x y : Thread) → slice_get threads at ≡ Some x → (IsPlaced x → IsPlaced y) → ArePlaced threads → ArePlaced (slice_set threads at y)
placed_set threads at x y g keeps placed = record {
  each = λ k z h. elim (set_cases threads at k y z h) [
    | inl here ↦ subst IsPlaced here.1 (keeps (placed.each at x g))
    | inr other ↦ placed.each k z other
  ];
}

-- the set at an index
old_at : (threads : List Thread) (sets : List LaneSet) (lane : ℕ) → AreSetsOf threads sets → lane < MAX_LANES → slice_get sets lane ≡ Some (get_or sets lane no_set)
old_at threads sets lane are low = slice_get-get_or sets lane no_set (omega (arith, are.all))

-- a thread without a task was given one
pub given_marked : (threads : List Thread) (sets : List LaneSet) (at lane : ℕ) (x : Thread) (job : Job) (new : LaneSet) → slice_get threads at ≡ Some x → lane ≡ x.lane → IsCleared at (get_or sets lane no_set) new
    → AreMarked threads sets → AreMarked (slice_set threads at (given job x)) (slice_set sets lane new)
given_marked threads sets at lane x job new g is cleared marked =
    let low = (marked.placed.each at x g).in_pool in
    let old = old_at threads sets lane marked.sets_of (omega arith) in
    record {
      few = let l = length-set threads at (given job x) in let f = marked.few in omega arith;
      placed = placed_set threads at x (given job x) g (λ p. record { in_pool = p.in_pool; ready = λ _. refl }) marked.placed;
      sets_of = subst (λ (n : ℕ). AreSetsOf (slice_set threads at (given job x)) (slice_set sets n new)) (sym is)
          (sets_cleared threads (slice_set threads at (given job x)) at x (given job x) sets (get_or sets lane no_set) new (became_set threads at x (given job x) g) g refl
          (subst (λ (n : ℕ). slice_get sets n ≡ Some (get_or sets lane no_set)) is old) cleared marked.sets_of);
    }

-- a thread began with its task
pub begun_marked : (threads : List Thread) (sets : List LaneSet) (at : ℕ) (x : Thread) → slice_get threads at ≡ Some x → task_of x.doing ≡ task.Given
    → AreMarked threads sets → AreMarked (slice_set threads at (begun x)) sets
begun_marked threads sets at x g is_given marked = record {
  few = let l = length-set threads at (begun x) in let f = marked.few in omega arith;
  placed = placed_set threads at x (begun x) g (λ p. record { in_pool = p.in_pool; ready = p.ready }) marked.placed;
  sets_of = sets_kept threads (slice_set threads at (begun x)) at (begun x) sets (became_set threads at x (begun x) g) (busy_is_out threads at x g (given_busy x.doing is_given)) (begun_busy x.doing is_given) marked.sets_of;
}

-- a thread with a task has none then
pub freed_marked : (threads : List Thread) (sets : List LaneSet) (at lane : ℕ) (x : Thread) (how : Standing) (new : LaneSet) → slice_get threads at ≡ Some x → lane ≡ x.lane → task_of x.doing ≡ task.Busy → level how ≡ standing (freed x)
    → IsPut at how (get_or sets lane no_set) new → AreMarked threads sets → AreMarked (slice_set threads at (freed x)) (slice_set sets lane new)
freed_marked threads sets at lane x how new g is busy stands put marked =
    let low = (marked.placed.each at x g).in_pool in
    let old = old_at threads sets lane marked.sets_of (omega arith) in
    record {
      few = let l = length-set threads at (freed x) in let f = marked.few in omega arith;
      placed = placed_set threads at x (freed x) g (λ p. record { in_pool = p.in_pool; ready = p.ready }) marked.placed;
      sets_of = subst (λ (n : ℕ). AreSetsOf (slice_set threads at (freed x)) (slice_set sets n new)) (sym is)
          (sets_put threads (slice_set threads at (freed x)) at (freed x) how sets (get_or sets lane no_set) new (became_set threads at x (freed x) g) (busy_is_out threads at x g (taken_busy x.doing busy)) refl stands
          (subst (λ (n : ℕ). slice_get sets n ≡ Some (get_or sets lane no_set)) is old) put marked.sets_of);
    }

-- one more of the threads of a new pool was put into the set of its lane
pub sets_more : (threads : List Thread) (sets : List LaneSet) (n lane : ℕ) (x : Thread) (how : Standing) (new : LaneSet) → slice_get threads n ≡ Some x → lane ≡ x.lane → lane < MAX_LANES → is_free x.doing ≡ true
    → level how ≡ standing x → IsPut n how (get_or sets lane no_set) new → AreSetsOf (take n threads) sets → AreSetsOf (take (n + 1) threads) (slice_set sets lane new)
sets_more threads sets n lane x how new g is low free stands put are =
    let within = slice_get_within threads n x g in
    let long : length (take n threads) ≡ n = simp length-take (omega arith) in
    let more : take (n + 1) threads ≡ take n threads ++ x ∷ [] = take_more threads n x within ∙ ap (λ z. take n threads ++ z ∷ []) (get_or_from_slice_get threads n x x g) in
    let old = old_at (take n threads) sets lane are low in
    subst (λ (ys : List Thread). AreSetsOf ys (slice_set sets lane new)) (sym more)
    (subst (λ (l : ℕ). AreSetsOf (take n threads ++ x ∷ []) (slice_set sets l new)) (sym is)
    (sets_put (take n threads) (take n threads ++ x ∷ []) (length (take n threads)) x how sets (get_or sets lane no_set) new (became_push (take n threads) x) (end_is_out (take n threads)) free stands
    (subst (λ (l : ℕ). slice_get sets l ≡ Some (get_or sets lane no_set)) is old) (subst (λ (m : ℕ). IsPut m how (get_or sets lane no_set) new) (sym long) put) are))

-- the threads of a new pool are placed, and have no task
append_cases : {X : Type 0} (xs ys : List X) (k : ℕ) (z : X) → slice_get (xs ++ ys) k ≡ Some z → ((j : ℕ) × (slice_get xs j ≡ Some z)) ⊎ ((j : ℕ) × (slice_get ys j ≡ Some z))
append_cases [] ys k z g = inr (k, g)
append_cases (x ∷ xs) ys zero z g = inl (zero, g)
append_cases (x ∷ xs) ys (suc k) z g = elim (append_cases xs ys k z g) [ inl a ↦ inl (suc a.0, a.1) | inr a ↦ inr a ]

-- a thread of a new pool
abbrev IsNew : Thread → Type 0
IsNew x = IsPlaced x × (is_free x.doing ≡ true)

some_new : (lane : ℕ) (kind : Bool) (count k : ℕ) (z : Thread) → lane < MAX_LANES → slice_get (some_threads lane kind count) k ≡ Some z → IsNew z
some_new lane kind count k z low g =
    let x : Thread = record { lane = lane; is_static = kind; started = kind; doing = Free } in
    subst IsNew (get_replicate count k x z g) (record { in_pool = low; ready = λ e. e }, refl)

pool_new : (lane : ℕ) (lanes : List LaneSpec) (k : ℕ) (z : Thread) → lane + length lanes ≤ MAX_LANES → slice_get (pool_threads lane lanes) k ≡ Some z → IsNew z
pool_new lane [] k z few g = absurd (none-some z g)
pool_new lane (spec ∷ specs) k z few g =
    let statics = some_threads lane true spec.statics in
    let dynamics = some_threads lane false spec.dynamics in
    elim (append_cases (statics ++ dynamics) (pool_threads (lane + 1) specs) k z g) [
      | inl here ↦ elim (append_cases statics dynamics here.0 z here.1) [
        | inl a ↦ some_new lane true spec.statics a.0 z (omega arith) a.1
        | inr a ↦ some_new lane false spec.dynamics a.0 z (omega arith) a.1
      ]
      | inr later ↦ pool_new (lane + 1) specs later.0 z (omega arith) later.1
    ]

pub pool_placed : (lanes : List LaneSpec) → length lanes ≤ MAX_LANES → ArePlaced (pool_threads 0 lanes)
pool_placed lanes few = record { each = λ k z g. (pool_new 0 lanes k z (omega arith) g).0 }

pub pool_idle : (lanes : List LaneSpec) → length lanes ≤ MAX_LANES → AreIdle (pool_threads 0 lanes)
pool_idle lanes few = record { each = λ k z g. (pool_new 0 lanes k z (omega arith) g).1 }
