-- The sets of the threads without a task, as one thread changes.
use Rattle.std.proofs.Common.{◌≡◌, ℕ, zero, suc, ◌+◌, Bool, true, false, not, ◌==◌, ◌&&◌, ◌||◌, List, [], ◌∷◌, ◌++◌, length, replicate, Option, Some, None, inl, inr, refl, sym, ap, ◌∙◌, subst, arith}
use Rattle.std.specs.Prelude.{slice_get, slice_set, position}
use Rattle.std.proofs.lemmas.Option.{none-some, same_Some, slice_get_past}
use Rattle.std.proofs.lemmas.Bool.{cases_eq, cases_order, eq-eqb, ne_eqb, both_ways, and_from, and_left, and_right, or_left}
use Rattle.std.proofs.lemmas.List.{length-set}
use Rattle.orb_base.specs.declared.limits.TheConstants.{MAX_LANES}
use Rattle.thread_borrowing.specs.declared.mask.Mask.{Mask}
use Rattle.thread_borrowing.specs.declared.probes.LaneSet.{LaneSet}
use Rattle.thread_borrowing.specs.declared.standing.Standing.{Standing}
use Rattle.thread_borrowing.specs.declared.standing.Standing.TheVariants.{Static, Started, Resting}
use Rattle.thread_borrowing.specs.ThreadList.{Thread, is_free}
use Rattle.thread_borrowing.specs.Choice.{standing}
use Rattle.thread_borrowing.specs.Chain.{stands_in}
use Rattle.thread_borrowing.specs.Masks.{has, IsLeast, IsProbed, Gained, Lost, IsPut, IsCleared, level, passes_at, IsMask, IsSetOf, AreSetsOf}
use Rattle.thread_borrowing.proofs.Places.{at_place, before_place, no_place, set_same, set_other}

-- where a test passes there is a thread that passes
passes_there : (p : Thread → Bool) (o : Option Thread) → passes_at p o ≡ true → (x : Thread) × (o ≡ Some x) × (p x ≡ true)
passes_there p None e = absurd (both_ways false refl e)
passes_there p (Some x) e = (x, refl, e)

-- a thread that passes has its number in the mask
in_mask : (p : Thread → Bool) (xs : List Thread) (mask : Mask) (k : ℕ) (x : Thread) → IsMask p xs mask → slice_get xs k ≡ Some x → p x ≡ true → has mask k ≡ true
in_mask p xs mask k x m g passed = m.is k ∙ ap (passes_at p) g ∙ passed

-- and a number in the mask is that of a thread that passes
of_mask : (p : Thread → Bool) (xs : List Thread) (mask : Mask) (k : ℕ) → IsMask p xs mask → has mask k ≡ true → (x : Thread) × (slice_get xs k ≡ Some x) × (p x ≡ true)
of_mask p xs mask k m e = passes_there p (slice_get xs k) (sym (m.is k) ∙ e)

-- the least number of a mask is the place of the first thread that passes
same_place : (p : Thread → Bool) (xs : List Thread) (mask : Mask) (found least : Option ℕ) → IsMask p xs mask → IsLeast mask least → position p xs ≡ found → found ≡ least
same_place p xs mask None None m l e = refl
same_place p xs mask None (Some t) m l e = absurd (let x = of_mask p xs mask t m l.0 in both_ways (p x.0) (no_place p xs t x.0 e x.1) x.2)
same_place p xs mask (Some i) None m l e = absurd (let x = at_place p xs i e in both_ways (has mask i) (l i) (in_mask p xs mask i x.0 m x.1 x.2))
same_place p xs mask (Some i) (Some t) m l e =
    let x = at_place p xs i e in
    let y = of_mask p xs mask t m l.0 in
    elim (cases_order i t) [
      | inl same ↦ ap Some same
      | inr (inl below) ↦ absurd (both_ways (has mask i) (l.1 i below) (in_mask p xs mask i x.0 m x.1 x.2))
      | inr (inr above) ↦ absurd (both_ways (p y.0) (before_place p xs i t y.0 e above y.1) y.2)
    ]

pub least_place : (p : Thread → Bool) (xs : List Thread) (mask : Mask) (least : Option ℕ) → IsMask p xs mask → IsLeast mask least → position p xs ≡ least
least_place p xs mask least m l = same_place p xs mask (position p xs) least m l refl

-- the thread at the least number passes
pub least_passes : (p : Thread → Bool) (xs : List Thread) (mask : Mask) (t : ℕ) → IsMask p xs mask → IsLeast mask (Some t) → (x : Thread) × (slice_get xs t ≡ Some x) × (p x ≡ true)
least_passes p xs mask t m l = of_mask p xs mask t m l.0

-- one thread of a list became another or was put at the end, and the others stayed
pub record Became (xs : List Thread) (at : ℕ) (thread : Thread) (ys : List Thread) : Type 0 where
  pub here : slice_get ys at ≡ Some thread
  pub others : (k : ℕ) → (k ≡ at → ⊥) → slice_get ys k ≡ slice_get xs k

pub became_set : (xs : List Thread) (at : ℕ) (x y : Thread) → slice_get xs at ≡ Some x → Became xs at y (slice_set xs at y)
became_set xs at x y g = record { here = set_same xs at x y g; others = λ k other. set_other xs at k y other }

get_end : (xs : List Thread) (y : Thread) → slice_get (xs ++ y ∷ []) (length xs) ≡ Some y
get_end [] y = refl
get_end (x ∷ xs) y = get_end xs y

get_others : (xs : List Thread) (y : Thread) (k : ℕ) → (k ≡ length xs → ⊥) → slice_get (xs ++ y ∷ []) k ≡ slice_get xs k
get_others [] y zero other = absurd (other refl)
get_others [] y (suc k) other = refl
get_others (x ∷ xs) y zero other = refl
get_others (x ∷ xs) y (suc k) other = get_others xs y k (λ e. other (ap suc e))

pub became_push : (xs : List Thread) (y : Thread) → Became xs (length xs) y (xs ++ y ∷ [])
became_push xs y = record { here = get_end xs y; others = λ k other. get_others xs y k other }

-- the masks of the lists before and after
mask_gained : (p : Thread → Bool) (xs ys : List Thread) (at : ℕ) (y : Thread) (old new : Mask) → Became xs at y ys → p y ≡ true → Gained at old new → IsMask p xs old → IsMask p ys new
mask_gained p xs ys at y old new became passed gained m = record {
  is = λ k. elim (cases_eq k at) [
    | inl same ↦ (gained.is k ∙ or_left (k == at) (has old k) (eq-eqb k at same)
        ∙ sym (ap (λ n. passes_at p (slice_get ys n)) same ∙ ap (passes_at p) became.here ∙ passed))
    | inr other ↦ (gained.is k ∙ ap (λ b. b || has old k) (ne_eqb k at other) ∙ m.is k ∙ ap (passes_at p) (sym (became.others k other)))
  ];
}

mask_lost : (p : Thread → Bool) (xs ys : List Thread) (at : ℕ) (y : Thread) (old new : Mask) → Became xs at y ys → p y ≡ false → Lost at old new → IsMask p xs old → IsMask p ys new
mask_lost p xs ys at y old new became passed lost m = record {
  is = λ k. elim (cases_eq k at) [
    | inl same ↦ (lost.is k ∙ and_left (not (k == at)) (has old k) (ap not (eq-eqb k at same))
        ∙ sym (ap (λ n. passes_at p (slice_get ys n)) same ∙ ap (passes_at p) became.here ∙ passed))
    | inr other ↦ (lost.is k ∙ ap (λ b. not b && has old k) (ne_eqb k at other) ∙ m.is k ∙ ap (passes_at p) (sym (became.others k other)))
  ];
}

mask_kept : (p : Thread → Bool) (xs ys : List Thread) (at : ℕ) (y : Thread) (mask : Mask) → Became xs at y ys → passes_at p (slice_get xs at) ≡ p y → IsMask p xs mask → IsMask p ys mask
mask_kept p xs ys at y mask became alike m = record {
  is = λ k. elim (cases_eq k at) [
    | inl same ↦ (m.is k ∙ ap (λ n. passes_at p (slice_get xs n)) same ∙ alike ∙ sym (ap (λ n. passes_at p (slice_get ys n)) same ∙ ap (passes_at p) became.here))
    | inr other ↦ (m.is k ∙ ap (passes_at p) (sym (became.others k other)))
  ];
}

-- which threads are in no mask, and which are in one
busy_out : (lane how : ℕ) (x : Thread) → is_free x.doing ≡ false → stands_in lane how x ≡ false
busy_out lane how x busy = and_left (is_free x.doing && (x.lane == lane)) (standing x == how) (and_left (is_free x.doing) (x.lane == lane) busy)

elsewhere_out : (lane how : ℕ) (x : Thread) → (lane ≡ x.lane → ⊥) → stands_in lane how x ≡ false
elsewhere_out lane how x other = and_left (is_free x.doing && (x.lane == lane)) (standing x == how) (and_right (is_free x.doing) (x.lane == lane) (ne_eqb x.lane lane (λ e. other (sym e))))

otherwise_out : (lane how : ℕ) (x : Thread) → (standing x ≡ how → ⊥) → stands_in lane how x ≡ false
otherwise_out lane how x other = and_right (is_free x.doing && (x.lane == lane)) (standing x == how) (ne_eqb (standing x) how other)

free_in : (how : ℕ) (x : Thread) → is_free x.doing ≡ true → standing x ≡ how → stands_in x.lane how x ≡ true
free_in how x free stands = and_from (is_free x.doing && (x.lane == x.lane)) (standing x == how)
    (and_from (is_free x.doing) (x.lane == x.lane) free (eq-eqb x.lane x.lane refl)) (eq-eqb (standing x) how stands)

-- a number of no thread, or of a thread with a task
pub record IsOut (xs : List Thread) (at : ℕ) : Type 0 where
  pub is : (lane how : ℕ) → passes_at (stands_in lane how) (slice_get xs at) ≡ false

pub busy_is_out : (xs : List Thread) (at : ℕ) (x : Thread) → slice_get xs at ≡ Some x → is_free x.doing ≡ false → IsOut xs at
busy_is_out xs at x g busy = record { is = λ lane how. ap (passes_at (stands_in lane how)) g ∙ busy_out lane how x busy }

pub end_is_out : (xs : List Thread) → IsOut xs (length xs)
end_is_out xs = record { is = λ lane how. ap (passes_at (stands_in lane how)) (slice_get_past xs (length xs) (omega arith)) }

-- a set that a thread goes into
set_put : (xs ys : List Thread) (at : ℕ) (y : Thread) (how : Standing) (old new : LaneSet) → Became xs at y ys → IsOut xs at → is_free y.doing ≡ true → level how ≡ standing y
    → IsPut at how old new → IsSetOf y.lane xs old → IsSetOf y.lane ys new
set_put xs ys at y Static old new became out free stands put s = record {
  statics = mask_gained (stands_in y.lane 2) xs ys at y old.statics new.statics became (free_in 2 y free (sym stands)) put.0 s.statics;
  started = mask_kept (stands_in y.lane 1) xs ys at y new.started became (out.is y.lane 1 ∙ sym (otherwise_out y.lane 1 y (λ e. absurd (omega (arith, stands, e))))) (subst (IsMask (stands_in y.lane 1) xs) (sym put.1) s.started);
  resting = mask_kept (stands_in y.lane 0) xs ys at y new.resting became (out.is y.lane 0 ∙ sym (otherwise_out y.lane 0 y (λ e. absurd (omega (arith, stands, e))))) (subst (IsMask (stands_in y.lane 0) xs) (sym put.2) s.resting);
}
set_put xs ys at y Started old new became out free stands put s = record {
  statics = mask_kept (stands_in y.lane 2) xs ys at y new.statics became (out.is y.lane 2 ∙ sym (otherwise_out y.lane 2 y (λ e. absurd (omega (arith, stands, e))))) (subst (IsMask (stands_in y.lane 2) xs) (sym put.0) s.statics);
  started = mask_gained (stands_in y.lane 1) xs ys at y old.started new.started became (free_in 1 y free (sym stands)) put.1 s.started;
  resting = mask_kept (stands_in y.lane 0) xs ys at y new.resting became (out.is y.lane 0 ∙ sym (otherwise_out y.lane 0 y (λ e. absurd (omega (arith, stands, e))))) (subst (IsMask (stands_in y.lane 0) xs) (sym put.2) s.resting);
}
set_put xs ys at y Resting old new became out free stands put s = record {
  statics = mask_kept (stands_in y.lane 2) xs ys at y new.statics became (out.is y.lane 2 ∙ sym (otherwise_out y.lane 2 y (λ e. absurd (omega (arith, stands, e))))) (subst (IsMask (stands_in y.lane 2) xs) (sym put.0) s.statics);
  started = mask_kept (stands_in y.lane 1) xs ys at y new.started became (out.is y.lane 1 ∙ sym (otherwise_out y.lane 1 y (λ e. absurd (omega (arith, stands, e))))) (subst (IsMask (stands_in y.lane 1) xs) (sym put.1) s.started);
  resting = mask_gained (stands_in y.lane 0) xs ys at y old.resting new.resting became (free_in 0 y free (sym stands)) put.2 s.resting;
}

-- a set that a thread goes out of
set_cleared : (lane : ℕ) (xs ys : List Thread) (at : ℕ) (y : Thread) (old new : LaneSet) → Became xs at y ys → is_free y.doing ≡ false → IsCleared at old new → IsSetOf lane xs old → IsSetOf lane ys new
set_cleared lane xs ys at y old new became busy cleared s = record {
  statics = mask_lost (stands_in lane 2) xs ys at y old.statics new.statics became (busy_out lane 2 y busy) cleared.statics s.statics;
  started = mask_lost (stands_in lane 1) xs ys at y old.started new.started became (busy_out lane 1 y busy) cleared.started s.started;
  resting = mask_lost (stands_in lane 0) xs ys at y old.resting new.resting became (busy_out lane 0 y busy) cleared.resting s.resting;
}

-- a set that the thread is in neither before nor after
set_kept : (lane : ℕ) (xs ys : List Thread) (at : ℕ) (y : Thread) (set : LaneSet) → Became xs at y ys
    → ((how : ℕ) → passes_at (stands_in lane how) (slice_get xs at) ≡ false) → ((how : ℕ) → stands_in lane how y ≡ false) → IsSetOf lane xs set → IsSetOf lane ys set
set_kept lane xs ys at y set became before after s = record {
  statics = mask_kept (stands_in lane 2) xs ys at y set.statics became (before 2 ∙ sym (after 2)) s.statics;
  started = mask_kept (stands_in lane 1) xs ys at y set.started became (before 1 ∙ sym (after 1)) s.started;
  resting = mask_kept (stands_in lane 0) xs ys at y set.resting became (before 0 ∙ sym (after 0)) s.resting;
}

module _ {X : Type 0} where
  get_set_same : (xs : List X) (i : ℕ) (x y z : X) → slice_get xs i ≡ Some x → slice_get (slice_set xs i y) i ≡ Some z → y ≡ z
  get_set_same xs i x y z g h = same_Some y z (sym (set_same xs i x y g) ∙ h)

-- the set of one lane changed
sets_changed : (xs ys : List Thread) (sets : List LaneSet) (lane : ℕ) (old new : LaneSet) → AreSetsOf xs sets → slice_get sets lane ≡ Some old → (IsSetOf lane xs old → IsSetOf lane ys new)
    → ((other : ℕ) (set : LaneSet) → (other ≡ lane → ⊥) → IsSetOf other xs set → IsSetOf other ys set) → AreSetsOf ys (slice_set sets lane new)
sets_changed xs ys sets lane old new are g changed kept = record {
  all = length-set sets lane new ∙ are.all;
  each = λ k set h. elim (cases_eq k lane) [
    | inl same ↦ (let h' = subst (λ (n : ℕ). slice_get (slice_set sets lane new) n ≡ Some set) same h in
        let is : new ≡ set = get_set_same sets lane old new set g h' in
        subst (λ (n : ℕ). IsSetOf n ys set) (sym same) (subst (IsSetOf lane ys) is (changed (are.each lane old g))))
    | inr other ↦ kept k set other (are.each k set (sym (set_other sets lane k new other) ∙ h))
  ];
}

-- a thread without a task goes into the set of its lane
pub sets_put : (xs ys : List Thread) (at : ℕ) (y : Thread) (how : Standing) (sets : List LaneSet) (old new : LaneSet) → Became xs at y ys → IsOut xs at → is_free y.doing ≡ true → level how ≡ standing y
    → slice_get sets y.lane ≡ Some old → IsPut at how old new → AreSetsOf xs sets → AreSetsOf ys (slice_set sets y.lane new)
sets_put xs ys at y how sets old new became out free stands g put are =
    sets_changed xs ys sets y.lane old new are g (set_put xs ys at y how old new became out free stands put)
    (λ lane set other s. set_kept lane xs ys at y set became (out.is lane) (λ how. elsewhere_out lane how y other) s)

-- a thread that was given a task goes out of the set of its lane
pub sets_cleared : (xs ys : List Thread) (at : ℕ) (x y : Thread) (sets : List LaneSet) (old new : LaneSet) → Became xs at y ys → slice_get xs at ≡ Some x → is_free y.doing ≡ false
    → slice_get sets x.lane ≡ Some old → IsCleared at old new → AreSetsOf xs sets → AreSetsOf ys (slice_set sets x.lane new)
sets_cleared xs ys at x y sets old new became g busy h cleared are =
    sets_changed xs ys sets x.lane old new are h (set_cleared x.lane xs ys at y old new became busy cleared)
    (λ lane set other s. set_kept lane xs ys at y set became (λ how. ap (passes_at (stands_in lane how)) g ∙ elsewhere_out lane how x other) (λ how. busy_out lane how y busy) s)

-- a thread with a task before and after changes no set
pub sets_kept : (xs ys : List Thread) (at : ℕ) (y : Thread) (sets : List LaneSet) → Became xs at y ys → IsOut xs at → is_free y.doing ≡ false → AreSetsOf xs sets → AreSetsOf ys sets
sets_kept xs ys at y sets became out busy are = record {
  all = are.all;
  each = λ lane set g. set_kept lane xs ys at y set became (out.is lane) (λ how. busy_out lane how y busy) (are.each lane set g);
}

-- no thread, and empty sets
pub get_replicate : {X : Type 0} (n k : ℕ) (x z : X) → slice_get (replicate n x) k ≡ Some z → x ≡ z
get_replicate zero k x z g = absurd (none-some z g)
get_replicate (suc n) zero x z g = same_Some x z g
get_replicate (suc n) (suc k) x z g = get_replicate n k x z g

empty_mask : (p : Thread → Bool) (mask : Mask) → IsLeast mask None → IsMask p [] mask
empty_mask p mask none = record { is = none }

empty_set : (lane : ℕ) (set : LaneSet) → IsProbed set None → IsSetOf lane [] set
empty_set lane set none = record {
  statics = empty_mask (stands_in lane 2) set.statics none.0;
  started = empty_mask (stands_in lane 1) set.started none.1;
  resting = empty_mask (stands_in lane 0) set.resting none.2;
}

pub sets_start : (set : LaneSet) (sets : List LaneSet) → IsProbed set None → length sets ≡ MAX_LANES → ((lane : ℕ) (z : LaneSet) → slice_get sets lane ≡ Some z → set ≡ z) → AreSetsOf [] sets
sets_start set sets none long same = record {
  all = long;
  each = λ lane z g. subst (IsSetOf lane []) (same lane z g) (empty_set lane set none);
}
