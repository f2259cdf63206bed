-- The test of kin tells what bases lead to, since they are before what is derived from them.
use Rattle.std.proofs.Common.{◌≡◌, ℕ, ◌≤◌, suc, zero, Bool, true, ◌||◌, List, [], ◌∷◌, length, Option, Some, None, ◌↔◌, inl, inr, refl, sym, ap, ◌∙◌, arith}
use Rattle.std.specs.Cmp.{both_ways}
use Rattle.std.specs.Prelude.{IsTrue}
use Rattle.std.specs.List.{list_any}
use Rattle.std.specs.Str.{bytes_eq}
use Rattle.std.proofs.lemmas.Bool.{and_parts, and_from, or_cases, or_left, or_right}
use Rattle.std.proofs.lemmas.Option.{same_Some, slice_get_within}
use Rattle.idl_types.specs.Things.{Thing, id_of}
use Rattle.idl_types.specs.Finding.{has_id, place_named, is_interface, bases_named, object_id, Descends, IsA}
use Rattle.idl_types.specs.Sound.{are_based}
use Rattle.idl_types.specs.Bases.{is_place, bases_at, is_base_at}
use Rattle.idl_types.specs.Walk.{Trail}
use Rattle.idl_types.proofs.Places.{at_place, any_among, any_more}
use Rattle.idl_types.proofs.Descent.{same_name, own_name, bases_placed, has_place, asked_place, lower, descends_by_places, no_descent}
use Rattle.dynamic_servants.specs.Kin.{leads_within, is_one_of}

-- ---- what the test finds is there

leads_there : (n : ℕ) (ts : List Thing) (id other : List ℕ) → leads_within n ts id other ≡ true → Descends ts id other
leads_there zero ts id other e = record { path = []; leads = same_name id other e }
leads_there (suc n) ts id other e =
    elim (or_cases (bytes_eq id other) (list_any (λ next. leads_within n ts next other) (bases_named ts id)) e) [
      | inl h ↦ record { path = []; leads = same_name id other h }
      | inr h ↦
          let b = any_among bytes_eq (λ next. leads_within n ts next other) own_name (bases_named ts id) h in
          let d = leads_there n ts b.0 other b.1 in
          record { path = b.0 ∷ d.path; leads = (b.2, d.leads) }
    ]

-- ---- what is there is found

-- one place has one id
one_id : (ts : List Thing) (id other : List ℕ) (a : ℕ) → place_named ts id ≡ Some a → place_named ts other ≡ Some a → id ≡ other
one_id ts id other a at to =
    let x = at_place (has_id id) ts a at in
    let y = at_place (has_id other) ts a to in
    let same : x.0 ≡ y.0 = same_Some x.0 y.0 (sym x.1 ∙ y.1) in
    same_name id (id_of x.0) x.2 ∙ ap id_of same ∙ sym (same_name other (id_of y.0) y.2)

here_found : (n : ℕ) (ts : List Thing) (id other : List ℕ) → id ≡ other → leads_within n ts id other ≡ true
here_found zero ts id other e = ap (bytes_eq id) (sym e) ∙ own_name id
here_found (suc n) ts id other e = or_left (bytes_eq id other) _ (ap (bytes_eq id) (sym e) ∙ own_name id)

trail_found : (ts : List Thing) (based : are_based [] ts ≡ true) (xs : List ℕ) (n : ℕ) (id other : List ℕ) (a b : ℕ) → place_named ts id ≡ Some a
    → place_named ts other ≡ Some b → a ≤ n → Trail (is_base_at ts) a xs b → leads_within n ts id other ≡ true
trail_found ts based [] n id other a b at to le t = here_found n ts id other (one_id ts id other a at (to ∙ ap Some (sym t)))
trail_found ts based (k ∷ ks) zero id other a b at to le t = let lt = lower ts based a k t.0 in absurd (omega arith)
trail_found ts based (k ∷ ks) (suc n) id other a b at to le t =
    let lt = lower ts based a k t.0 in
    let on : (next : List ℕ) → is_place ts k next ≡ true → leads_within n ts next other ≡ true =
    λ next is. trail_found ts based ks n next other k b (asked_place ts k next is) to (omega arith) t.1 in
    or_right (bytes_eq id other) (list_any (λ next. leads_within n ts next other) (bases_named ts id))
    (ap (λ (bs : List (List ℕ)). list_any (λ next. leads_within n ts next other) bs) (bases_placed ts id a at)
    ∙ any_more (is_place ts k) (λ next. leads_within n ts next other) (bases_at ts a) on t.0)

descent_found : (ts : List Thing) (based : are_based [] ts ≡ true) (id other : List ℕ) (a : ℕ) → place_named ts id ≡ Some a → Descends ts id other
    → leads_within (length ts) ts id other ≡ true
descent_found ts based id other a at d = on (place_named ts other) refl
  where
    on : (o : Option ℕ) → place_named ts other ≡ o → leads_within (length ts) ts id other ≡ true
    on None e = absurd (no_descent ts based id other a at e d)
    on (Some b) e =
        let r = (descends_by_places ts based id other a b at e).1 d in
        let x = at_place (has_id id) ts a at in
        let w = slice_get_within ts a x.0 x.1 in
        trail_found ts based r.path (length ts) id other a b at e (omega arith) r.trail

-- ---- the whole test

tested : (ts : List Thing) (id other : List ℕ) → is_one_of ts id other ≡ true → IsA ts id other
tested ts id other e =
    let h = and_parts (is_interface ts id) (bytes_eq other object_id || leads_within (length ts) ts id other) e in
    elim (or_cases (bytes_eq other object_id) (leads_within (length ts) ts id other) h.1) [
      | inl o ↦ record { declared = h.0; kin = inl (same_name other object_id o) }
      | inr l ↦ record { declared = h.0; kin = inr (leads_there (length ts) ts id other l) }
    ]

passes : (ts : List Thing) (based : are_based [] ts ≡ true) (id other : List ℕ) → IsA ts id other → is_one_of ts id other ≡ true
passes ts based id other a =
    let p = has_place ts id a.declared in
    and_from (is_interface ts id) (bytes_eq other object_id || leads_within (length ts) ts id other) a.declared
    (elim a.kin [
      | inl o ↦ or_left (bytes_eq other object_id) _ (ap (bytes_eq other) (sym o) ∙ own_name other)
      | inr d ↦ or_right (bytes_eq other object_id) (leads_within (length ts) ts id other) (descent_found ts based id other p.0 p.1 d)
    ])

pub told_kin : (ts : List Thing) (based : are_based [] ts ≡ true) (id other : List ℕ) (b : Bool) → IsTrue b ↔ IsA ts id other → b ≡ is_one_of ts id other
told_kin ts based id other b both = both_ways b (is_one_of ts id other) (λ e. passes ts based id other (both.0 e)) (λ e. both.1 (tested ts id other e))
