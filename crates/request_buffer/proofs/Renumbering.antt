-- New stamps keep the order of arrival.
use Rattle.std.proofs.Common.{◌≡◌, ℕ, suc, ◌+◌, ◌<◌, ◌≤◌, List, [], ◌∷◌, ◌++◌, length, map, Some, inl, inr, refl, sym, ap, ◌∙◌, subst, arith, add-one, length-append}
use Rattle.std.specs.Prelude.{slice_get, sum_by}
use Rattle.std.proofs.lemmas.Bool.{cases_lt, le-leb, leb-false, leb-true}
use Rattle.std.proofs.lemmas.List.{length-set, map-append, append_cancel_left}
use Rattle.std.proofs.lemmas.List.Sums.{sum_by-cons}
use Rattle.orb_base.specs.Room.{Room}
use Rattle.orb_base.specs.declared.job.Job.{Job}
use Rattle.thread_borrowing.proofs.Places.{set_cases}
use Rattle.request_buffer.specs.declared.found.Spot.{Spot}
use Rattle.request_buffer.specs.declared.sought.Sought.TheVariants.{From}
use Rattle.request_buffer.specs.Entries.{Entry, InOrder, entries, stamped, arrived, restamped, requests_of}
use Rattle.request_buffer.specs.Finding.{AreQueues, AreStamped, HaveRoom, IsQueue, IsBest, IsRestamped, IsRenumbered, NoneIn, queue_of}
use Rattle.request_buffer.proofs.ListFacts.{one_more, still}
use Rattle.request_buffer.proofs.Arrivals.{between, arrived_later, none_between, none_stamped, none_left, only_one, tally}
use Rattle.request_buffer.proofs.Around.{Among, Swapped, restamped_among, in_all}
use Rattle.request_buffer.proofs.Ordering.{in_order_restamped}
use Rattle.request_buffer.proofs.Keeping.{queued_set, roomy_set, distinct_with, distinct_without}

-- the requests have the stamps below a count, and then those that they had, in the same order
pub record SoFar (room next : ℕ) (old now : List (Room Entry)) (count : ℕ) : Type 0 where
  pub stamped : AreStamped room next now
  pub requests : requests_of next now ≡ requests_of next old
  pub as_many : length (entries now) ≡ length (entries old)
  pub upto : count ≤ next
  pub filled : length (arrived count (entries now)) ≡ count

pub so_far_start : (room next : ℕ) (old : List (Room Entry)) → AreStamped room next old → SoFar room next old old 0
so_far_start room next old are = record { stamped = are; requests = refl; as_many = refl; upto = omega arith; filled = refl }

-- the rest without the request that gets a stamp
record Rest (count next : ℕ) (old new : List Entry) (e : Entry) : Type 0 where
  pub before : List Entry
  pub after : List Entry
  pub old_is : old ≡ before ++ e ∷ after
  pub new_is : new ≡ before ++ restamped count e ∷ after
  pub fresh : stamped e.stamp (before ++ after) ≡ []
  pub unused : (s : ℕ) → count ≤ s → s < e.stamp → stamped s (before ++ after) ≡ []
  pub free : stamped count (before ++ after) ≡ []

rest_of : (count next : ℕ) (old new : List Entry) (e : Entry) → Swapped old new count e → count ≤ e.stamp → ((s : ℕ) → length (stamped s old) ≤ 1)
    → ((k : ℕ) (y : Entry) → slice_get old k ≡ Some y → count ≤ y.stamp → e.stamp ≤ y.stamp) → Rest count next old new e
rest_of count next old new e swapped lower distinct least =
    let xs = swapped.before in
    let ys = swapped.after in
    let fresh : stamped e.stamp (xs ++ ys) ≡ [] = none_left e.stamp e xs ys refl (subst (λ zs. length (stamped e.stamp zs) ≤ 1) swapped.old_is (distinct e.stamp)) in
    let unused : (s : ℕ) → count ≤ s → s < e.stamp → stamped s (xs ++ ys) ≡ [] =
    λ s above below. none_stamped s (xs ++ ys) (λ k y g same. (
    let h = still xs e ys k y g in
    let l = least h.0 y (subst (λ zs. slice_get zs h.0 ≡ Some y) (sym swapped.old_is) h.1) (omega arith) in
    omega arith
    )) in
    record {
      before = xs;
      after = ys;
      old_is = swapped.old_is;
      new_is = swapped.new_is;
      fresh = fresh;
      unused = unused;
      free = elim (cases_lt count e.stamp) [
        | inl less ↦ unused count (omega arith) less
        | inr same ↦ ap (λ (s : ℕ). stamped s (xs ++ ys)) (let z : count ≡ e.stamp = omega arith in z) ∙ fresh
      ];
    }

-- the order of arrival stays
same_order : (count next : ℕ) (old new : List Entry) (e : Entry) → Rest count next old new e → count ≤ e.stamp → e.stamp < next
    → map (λ (x : Entry). x.job) (arrived next new) ≡ map (λ (x : Entry). x.job) (arrived next old)
same_order count next old new e rest lower below =
    let xs = rest.before in
    let ys = rest.after in
    let job : Entry → Job = λ (x : Entry). x.job in
    let was = between next e xs ys below rest.fresh in
    let is = between next (restamped count e) xs ys (omega arith) rest.free in
    let first : arrived e.stamp (xs ++ ys) ≡ arrived count (xs ++ ys) = none_between count e.stamp (xs ++ ys) lower rest.unused in
    let same : was.later ≡ is.later =
    append_cancel_left (arrived count (xs ++ ys)) was.later is.later (ap (λ zs. zs ++ was.later) (sym first) ∙ sym was.without ∙ is.without) in
    let old_jobs : map job (arrived next old) ≡ map job (arrived count (xs ++ ys)) ++ e.job ∷ map job is.later =
    ap (λ zs. map job (arrived next zs)) rest.old_is
    ∙ ap (map job) was.together
    ∙ ap (λ zs. map job (zs ++ e ∷ was.later)) first
    ∙ ap (λ zs. map job (arrived count (xs ++ ys) ++ e ∷ zs)) same
    ∙ map-append job (arrived count (xs ++ ys)) (e ∷ is.later) in
    let new_jobs : map job (arrived next new) ≡ map job (arrived count (xs ++ ys)) ++ e.job ∷ map job is.later =
    ap (λ zs. map job (arrived next zs)) rest.new_is
    ∙ ap (map job) is.together
    ∙ map-append job (arrived count (xs ++ ys)) (restamped count e ∷ is.later) in
    new_jobs ∙ sym old_jobs

-- one more stamp is filled
one_filled : (count next : ℕ) (old new : List Entry) (e : Entry) → Rest count next old new e → count ≤ e.stamp → length (arrived count old) ≡ count → length (arrived (count + 1) new) ≡ count + 1
one_filled count next old new e rest lower filled =
    let xs = rest.before in
    let ys = rest.after in
    let was : arrived count old ≡ arrived count (xs ++ ys) = ap (arrived count) rest.old_is ∙ arrived_later count e xs ys lower in
    let is : arrived count new ≡ arrived count (xs ++ ys) = ap (arrived count) rest.new_is ∙ arrived_later count (restamped count e) xs ys (omega arith) in
    let last : stamped count new ≡ restamped count e ∷ [] = ap (stamped count) rest.new_is ∙ only_one count (restamped count e) xs ys refl rest.free in
    let parts = length-append (arrived count new) (stamped count new) in
    let one : length (stamped count new) ≡ 1 = ap length last in
    let many : length (arrived count new) ≡ length (arrived count old) = ap length (is ∙ sym was) in
    let all : length (arrived (suc count) new) ≡ suc count = omega arith in
    ap (λ (n : ℕ). length (arrived n new)) (add-one count) ∙ all ∙ sym (add-one count)

-- the queues with the new stamp
restamped_kept : (room next count : ℕ) (old new : List (Room Entry)) (q at : ℕ) (e : Entry) → IsRestamped old new q at count e → Rest count next (entries old) (entries new) e
    → count ≤ e.stamp → e.stamp < next → ((k : ℕ) (y : Entry) → slice_get (entries old) k ≡ Some y → count ≤ y.stamp → e.stamp ≤ y.stamp)
    → AreStamped room next old → AreStamped room next new
restamped_kept room next count old new q at e changed rest lower under least are =
    let xs = rest.before in
    let ys = rest.after in
    let e' = restamped count e in
    let was = are.queued q changed.before changed.there in
    let had = are.roomy q changed.before changed.there in
    let spare = changed.room in
    let long : length changed.after.items ≡ length changed.before.items = ap length changed.items ∙ length-set changed.before.items at e' in
    let without : Among (xs ++ ys) (entries old) e = record { before = xs; after = ys; small_is = refl; big_is = rest.old_is } in
    let with_it : Among (xs ++ ys) (entries new) e' = record { before = xs; after = ys; small_is = refl; big_is = rest.new_is } in
    let is : IsQueue q changed.after = record {
      in_order = subst InOrder (sym changed.items) (in_order_restamped changed.before.items at count e was.in_order changed.stood lower
          (λ k y g above. let j = in_all old q k changed.before y changed.there g in least j.0 y j.1 above));
      own = λ k y g. elim (set_cases changed.before.items at k e' y (subst (λ zs. slice_get zs k ≡ Some y) changed.items g)) [
        | inl (here, same) ↦ subst (λ (z : Entry). queue_of z.job.lane ≡ q) same (was.own at e changed.stood)
        | inr other ↦ was.own k y other
      ];
    } in
    record {
      sixteen = ap length changed.set ∙ length-set old q changed.after ∙ are.sixteen;
      queued = subst AreQueues (sym changed.set) (queued_set old q changed.after are.queued is);
      roomy = subst (HaveRoom room) (sym changed.set) (roomy_set room old q changed.after are.roomy (omega arith));
      distinct = distinct_with (xs ++ ys) (entries new) e' with_it rest.free (distinct_without (xs ++ ys) (entries old) e without are.distinct);
      below = λ k y g. elim (one_more xs e' ys k y (subst (λ zs. slice_get zs k ≡ Some y) rest.new_is g)) [
        | inl same ↦ subst (λ (z : Entry). z.stamp < next) same (omega arith)
        | inr (j, other) ↦ (let h = still xs e ys j y other in are.below h.0 y (subst (λ zs. slice_get zs h.0 ≡ Some y) (sym rest.old_is) h.1))
      ];
    }

as_many_restamped : (old new : List Entry) (count : ℕ) (e : Entry) → Swapped old new count e → length new ≡ length old
as_many_restamped old new count e swapped =
    let one = ap length swapped.new_is ∙ length-append swapped.before (restamped count e ∷ swapped.after) in
    let two = ap length swapped.old_is ∙ length-append swapped.before (e ∷ swapped.after) in
    omega arith

pub so_far_more : (room next count : ℕ) (old now new : List (Room Entry)) (spot : Spot) → SoFar room next old now count → (best : IsBest (From count) now spot)
    → IsRestamped now new spot.queue spot.found.at count best.entry → SoFar room next old new (count + 1)
unfolding requests_of
so_far_more room next count old now new spot so_far best changed =
    let e = best.entry in
    let lower : count ≤ e.stamp = leb-true count e.stamp best.fits in
    let stamp_is : spot.found.stamp ≡ e.stamp = ap (λ f. f.stamp) best.is in
    let none_weighs : spot.found.weight ≡ 0 = ap (λ f. f.weight) best.is in
    let least : (k : ℕ) (y : Entry) → slice_get (entries now) k ≡ Some y → count ≤ y.stamp → e.stamp ≤ y.stamp =
    λ k y g above. let l = (best.best k y g (le-leb count y.stamp above)).1 (sym none_weighs) in omega arith in
    let place = in_all now spot.queue spot.found.at best.stands.queue e best.stands.there best.stands.stands in
    let under : e.stamp < next = so_far.stamped.below place.0 e place.1 in
    let swapped = restamped_among now new spot.queue spot.found.at count e changed in
    let rest = rest_of count next (entries now) (entries new) e swapped lower so_far.stamped.distinct least in
    let many = as_many_restamped (entries now) (entries new) count e swapped in
    record {
      stamped = restamped_kept room next count now new spot.queue spot.found.at e changed rest lower under least so_far.stamped;
      requests = same_order count next (entries now) (entries new) e rest lower under ∙ so_far.requests;
      as_many = many ∙ so_far.as_many;
      upto = omega arith;
      filled = one_filled count next (entries now) (entries new) e rest lower so_far.filled;
    }

-- the count is below the stamp that was found, so it rises no further than they
pub so_far_below : (room next count : ℕ) (old now : List (Room Entry)) (spot : Spot) → SoFar room next old now count → IsBest (From count) now spot → count < next
so_far_below room next count old now spot so_far best =
    let place = in_all now spot.queue spot.found.at best.stands.queue best.entry best.stands.there best.stands.stands in
    let under = so_far.stamped.below place.0 best.entry place.1 in
    let lower = leb-true count best.entry.stamp best.fits in
    omega arith

ones : (xs : List Entry) → sum_by (λ (x : Entry). 1) xs ≡ length xs
ones [] = refl
ones (x ∷ xs) = let rest = ones xs in let more = sum_by-cons (λ (x : Entry). 1) x xs in omega arith

-- as many arrived as there are
pub all_arrived : (next : ℕ) (xs : List Entry) → ((k : ℕ) (e : Entry) → slice_get xs k ≡ Some e → e.stamp < next) → length (arrived next xs) ≡ length xs
all_arrived next xs below = sym (ones (arrived next xs)) ∙ tally (λ (x : Entry). 1) next xs below ∙ ones xs

pub so_far_end : (room next count : ℕ) (old now : List (Room Entry)) → SoFar room next old now count → NoneIn (From count) (entries now)
    → IsRenumbered room next count old now × (count ≤ length (entries old))
unfolding requests_of
so_far_end room next count old now so_far none =
    let below : (k : ℕ) (e : Entry) → slice_get (entries now) k ≡ Some e → e.stamp < count = λ k e g. leb-false count e.stamp (none k e g) in
    let are = so_far.stamped in
    let many = so_far.as_many in
    let filled = so_far.filled in
    let all = all_arrived count (entries now) below in
    let same : arrived next (entries now) ≡ arrived count (entries now) =
    none_between count next (entries now) so_far.upto (λ s above under. none_stamped s (entries now) (λ k e g is. let l = below k e g in omega arith)) in (
      record {
        stamped = record { sixteen = are.sixteen; queued = are.queued; roomy = are.roomy; distinct = are.distinct; below = below };
        requests = ap (map (λ (x : Entry). x.job)) (sym same) ∙ so_far.requests;
        as_many = so_far.as_many;
      },
      omega arith,
    )

-- nothing is renumbered where stamps are left
pub not_renumbered : (room next : ℕ) (old : List (Room Entry)) → AreStamped room next old → IsRenumbered room next next old old
not_renumbered room next old are = record { stamped = are; requests = refl; as_many = refl }

-- the steps of it
pub ruleset so_far_steps = (so_far_start, so_far_more, so_far_below, so_far_end)
