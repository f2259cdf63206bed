-- Bases by ids are bases by places, and these are before what is derived from them.
use Rattle.std.proofs.Common.{◌≡◌, ℕ, ◌<◌, suc, zero, Bool, true, false, List, [], ◌∷◌, ◌++◌, length, take, drop, Option, Some, None, ◌↔◌, inl, inr, refl, sym, ap, ◌∙◌, subst, arith, append_assoc, length-take, take-append-drop}
use Rattle.std.specs.Prelude.{◌==◌, slice_get, IsTrue, is_some}
use Rattle.std.specs.Option.{option_map_or, option_and_then}
use Rattle.std.specs.List.{list_any, list_all}
use Rattle.std.specs.Str.{bytes_eq}
use Rattle.std.proofs.lemmas.Bool.{and_parts, eqb-true, eq-eqb, both_ways}
use Rattle.std.proofs.lemmas.Option.{none-some, same_Some, slice_get_within}
use Rattle.std.proofs.lemmas.Slice.Eq.{bytes_eq-Decides}
use Rattle.std.proofs.lemmas.List.{append-nil}
use Rattle.idl_types.specs.Things.{Thing, constant, named, exception, interface, id_of, bases_of}
use Rattle.idl_types.specs.Finding.{has_id, place_named, thing_named, as_interface, is_interface, bases_named, has_base, Leads, Descends, IsA, object_id}
use Rattle.idl_types.specs.Sound.{has_bases_in, are_based}
use Rattle.idl_types.specs.Bases.{is_place, bases_at, is_base_at}
use Rattle.idl_types.specs.Walk.{Trail, Reached}
use Rattle.idl_types.proofs.Places.{at_place, found_at, not_found, position_front, any_all, any_more, any_among}

-- each thing's bases are interfaces among those before it
based_at : (before ts : List Thing) → are_based before ts ≡ true → (a : ℕ) (t : Thing) → slice_get ts a ≡ Some t → has_bases_in (before ++ take a ts) t ≡ true
based_at before [] all a t at = absurd (none-some t at)
based_at before (u ∷ us) all zero t at =
    subst (λ (v : Thing). has_bases_in (before ++ []) v ≡ true) (same_Some u t at)
    (ap (λ (xs : List Thing). has_bases_in xs u) (append-nil before) ∙ (and_parts (has_bases_in before u) (are_based (before ++ u ∷ []) us) all).0)
based_at before (u ∷ us) all (suc a) t at =
    ap (λ (xs : List Thing). has_bases_in xs t) (sym (append_assoc before (u ∷ []) (take a us)))
    ∙ based_at (before ++ u ∷ []) us (and_parts (has_bases_in before u) (are_based (before ++ u ∷ []) us) all).1 a t at

-- an interface has a place
pub has_place : (ts : List Thing) (id : List ℕ) → is_interface ts id ≡ true → (i : ℕ) × (place_named ts id ≡ Some i)
has_place ts id there = on (place_named ts id) refl
  where
    on : (o : Option ℕ) → place_named ts id ≡ o → (i : ℕ) × (place_named ts id ≡ Some i)
    on None e = absurd (both_ways false refl (sym (ap (λ (x : Option Thing). is_some (option_and_then as_interface x)) (not_found (has_id id) ts e)) ∙ there))
    on (Some i) e = (i, e)

pub bases_seen : (o : Option Thing) → option_map_or (λ i. i.bases) (option_and_then as_interface o) [] ≡ option_map_or bases_of o []
bases_seen None = refl
bases_seen (Some (constant c)) = refl
bases_seen (Some (named t)) = refl
bases_seen (Some (exception e)) = refl
bases_seen (Some (interface i)) = refl

-- the bases that an id names, by its place
pub bases_placed : (ts : List Thing) (id : List ℕ) (i : ℕ) → place_named ts id ≡ Some i → bases_named ts id ≡ bases_at ts i
bases_placed ts id i e = bases_seen (thing_named ts id) ∙ ap (λ (o : Option Thing). option_map_or bases_of o []) (found_at (has_id id) ts i e)

pub same_name : (a b : List ℕ) → bytes_eq a b ≡ true → a ≡ b
same_name a b e = (bytes_eq-Decides a b).0 e

pub own_name : (a : List ℕ) → bytes_eq a a ≡ true
own_name a = (bytes_eq-Decides a a).1 refl

placed_within : (ts : List Thing) (id : List ℕ) (i : ℕ) → place_named ts id ≡ Some i → i < length ts
placed_within ts id i e = let h = at_place (has_id id) ts i e in slice_get_within ts i h.0 h.1

-- the place that is asked for
pub asked_place : (ts : List Thing) (k : ℕ) (id : List ℕ) → is_place ts k id ≡ true → place_named ts id ≡ Some k
asked_place ts k id e = on (place_named ts id) refl
  where
    on : (o : Option ℕ) → place_named ts id ≡ o → place_named ts id ≡ Some k
    on None is = absurd (both_ways false refl (sym (ap (λ (x : Option ℕ). option_map_or (λ i. i == k) x false) is) ∙ e))
    on (Some i) is = is ∙ ap Some (eqb-true i k (sym (ap (λ (x : Option ℕ). option_map_or (λ j. j == k) x false) is) ∙ e))

module _ (ts : List Thing) (based : are_based [] ts ≡ true) where
  -- all bases of the thing at a place are interfaces before it
  all_before : (a : ℕ) → list_all (is_interface (take a ts)) (bases_at ts a) ≡ true
  all_before a = on (slice_get ts a) refl
    where
      on : (o : Option Thing) → slice_get ts a ≡ o → list_all (is_interface (take a ts)) (option_map_or bases_of o []) ≡ true
      on None e = refl
      on (Some t) e = based_at [] ts based a t e

  -- an interface before a place has a lower one
  placed_before : (a : ℕ) (id : List ℕ) → is_interface (take a ts) id ≡ true → (i : ℕ) × (place_named ts id ≡ Some i) × (i < a)
  placed_before a id there =
      let h = has_place (take a ts) id there in
      let w = placed_within (take a ts) id h.0 h.1 in
      (h.0, ap (λ (xs : List Thing). place_named xs id) (sym (take-append-drop a ts)) ∙ position_front (has_id id) (take a ts) (drop a ts) h.0 h.1, omega (arith, w, length-take a ts))

  -- bases go to lower places
  pub lower : (a k : ℕ) → is_base_at ts a k ≡ true → k < a
  lower a k e =
      let h = any_all (is_place ts k) (is_interface (take a ts)) (bases_at ts a) e (all_before a) in
      let p = placed_before a h.0 h.2 in
      let s : p.0 ≡ k = same_Some p.0 k (sym p.1 ∙ asked_place ts k h.0 h.1) in
      omega (arith, s, p.2)

  -- a base by its id has a place, and is a base by that
  base_placed : (id next : List ℕ) (a : ℕ) → place_named ts id ≡ Some a → has_base ts id next ≡ true → (k : ℕ) × (place_named ts next ≡ Some k) × (is_base_at ts a k ≡ true)
  base_placed id next a at e =
      let here : list_any (bytes_eq next) (bases_at ts a) ≡ true = ap (λ (bs : List (List ℕ)). list_any (bytes_eq next) bs) (sym (bases_placed ts id a at)) ∙ e in
      let h = any_all (bytes_eq next) (is_interface (take a ts)) (bases_at ts a) here (all_before a) in
      let p = placed_before a next (ap (is_interface (take a ts)) (same_name next h.0 h.1) ∙ h.2) in (
        p.0,
        p.1,
        any_more (bytes_eq next) (is_place ts p.0) (bases_at ts a)
            (λ x same. ap (λ (o : Option ℕ). option_map_or (λ i. i == p.0) o false) (ap (place_named ts) (sym (same_name next x same)) ∙ p.1) ∙ eq-eqb p.0 p.0 refl) here,
      )

  -- a path of ids is a path of places
  trail_of : (path : List (List ℕ)) (id other : List ℕ) (a b : ℕ) → place_named ts id ≡ Some a → place_named ts other ≡ Some b → Leads ts id path other → Reached (is_base_at ts) a b
  trail_of [] id other a b at to l = record { path = []; trail = same_Some a b (sym at ∙ ap (place_named ts) l ∙ to) }
  trail_of (next ∷ path) id other a b at to l =
      let h = base_placed id next a at l.0 in
      let r = trail_of path next other h.0 b h.1 to l.1 in
      record { path = h.0 ∷ r.path; trail = (h.2, r.trail) }

  -- and the other way round
  path_of : (xs : List ℕ) (id other : List ℕ) (a b : ℕ) → place_named ts id ≡ Some a → place_named ts other ≡ Some b → Trail (is_base_at ts) a xs b → Descends ts id other
  path_of [] id other a b at to t =
      let x = at_place (has_id id) ts a at in
      let y = at_place (has_id other) ts b to in
      let same : x.0 ≡ y.0 = same_Some x.0 y.0 (sym x.1 ∙ ap (slice_get ts) t ∙ y.1) in
      record { path = []; leads = same_name id (id_of x.0) x.2 ∙ ap id_of same ∙ sym (same_name other (id_of y.0) y.2) }
  path_of (k ∷ ks) id other a b at to t =
      let h = any_among bytes_eq (is_place ts k) own_name (bases_at ts a) t.0 in
      let r = path_of ks h.0 other k b (asked_place ts k h.0 h.1) to t.1 in
      record { path = h.0 ∷ r.path; leads = (ap (λ (bs : List (List ℕ)). list_any (bytes_eq h.0) bs) (bases_placed ts id a at) ∙ h.2, r.leads) }

  pub descends_by_places : (id other : List ℕ) (a b : ℕ) → place_named ts id ≡ Some a → place_named ts other ≡ Some b → Reached (is_base_at ts) a b ↔ Descends ts id other
  descends_by_places id other a b at to = ((λ r. path_of r.path id other a b at to r.trail), (λ d. trail_of d.path id other a b at to d.leads))

  end_placed : (path : List (List ℕ)) (id other : List ℕ) (a : ℕ) → place_named ts id ≡ Some a → Leads ts id path other → (b : ℕ) × (place_named ts other ≡ Some b)
  end_placed [] id other a at l = (a, ap (place_named ts) (sym l) ∙ at)
  end_placed (next ∷ path) id other a at l = let h = base_placed id next a at l.0 in end_placed path next other h.0 h.1 l.1

  -- nothing descends from what isn't declared
  pub no_descent : (id other : List ℕ) (a : ℕ) → place_named ts id ≡ Some a → place_named ts other ≡ None → Descends ts id other → ⊥
  no_descent id other a at none d = let h = end_placed d.path id other a at d.leads in none-some h.0 (sym none ∙ h.1)

-- the cases of the whole test
pub none_a : (ts : List Thing) (id other : List ℕ) → is_interface ts id ≡ false → (IsTrue false → IsA ts id other) × (IsA ts id other → IsTrue false)
none_a ts id other none = ((λ e. absurd (both_ways false refl e)), (λ a. absurd (both_ways (is_interface ts id) none a.declared)))

pub object_a : (ts : List Thing) (id other : List ℕ) → is_interface ts id ≡ true → other ≡ object_id → (IsTrue true → IsA ts id other) × (IsA ts id other → IsTrue true)
object_a ts id other there is = ((λ e. record { declared = there; kin = inl is }), (λ a. refl))

pub kin_a : (ts : List Thing) (id other : List ℕ) (found : Bool) → is_interface ts id ≡ true → (other ≡ object_id → ⊥) → (IsTrue found ↔ Descends ts id other)
    → (IsTrue found → IsA ts id other) × (IsA ts id other → IsTrue found)
kin_a ts id other found there not_object both =
    ((λ e. record { declared = there; kin = inr (both.0 e) }), (λ a. elim a.kin [ inl e ↦ absurd (not_object e) | inr d ↦ both.1 d ]))
