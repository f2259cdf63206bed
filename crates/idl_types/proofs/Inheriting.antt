-- What is inherited stays the same with one thing more.
use Rattle.std.proofs.Common.{◌≡◌, ℕ, Bool, true, false, cond, List, [], ◌∷◌, ◌++◌, Option, Some, None, inl, inr, refl, sym, ap, ◌∙◌, append_assoc}
use Rattle.std.specs.Prelude.{find, is_some}
use Rattle.std.specs.List.{list_all, starts_with}
use Rattle.std.specs.Option.{option_map_or, option_and_then, option_or}
use Rattle.std.specs.Str.{bytes_eq}
use Rattle.std.proofs.lemmas.Bool.{cases_Bool, and_parts, and_from, both_ways}
use Rattle.std.proofs.lemmas.Option.{none-some, same_Some}
use Rattle.std.proofs.lemmas.List.Folds.{list_all-append, find-append}
use Rattle.idl_types.specs.Things.{InterfaceView, Thing, bases_of, operations_of}
use Rattle.idl_types.specs.Finding.{has_id, as_interface, is_interface, interface_named}
use Rattle.idl_types.specs.Names.{operation_names, once}
use Rattle.idl_types.specs.Inherited.{operations_named, given_names, inherits_in}
use Rattle.idl_types.specs.Sound.{has_bases_in, are_based}
use Rattle.idl_types.proofs.EachOnce.{all_once}

module _ {X : Type 0} where
  all_more : (p q : X → Bool) (xs : List X) → ((x : X) → p x ≡ true → q x ≡ true) → list_all p xs ≡ true → list_all q xs ≡ true
  all_more p q [] more all = refl
  all_more p q (x ∷ xs) more all =
      let h = and_parts (p x) (list_all p xs) all in
      and_from (q x) (list_all q xs) (more x h.0) (all_more p q xs more h.1)

  all_both : (p q r : X → Bool) (xs : List X) → ((x : X) → p x ≡ true → q x ≡ true → r x ≡ true) → list_all p xs ≡ true → list_all q xs ≡ true → list_all r xs ≡ true
  all_both p q r [] both one other = refl
  all_both p q r (x ∷ xs) both one other =
      let h = and_parts (p x) (list_all p xs) one in
      let k = and_parts (q x) (list_all q xs) other in
      and_from (r x) (list_all r xs) (both x h.0 k.0) (all_both p q r xs both h.1 k.1)

  -- what is found passes a test that all pass
  pub found_passes : (p q : X → Bool) (xs : List X) (x : X) → find p xs ≡ Some x → list_all q xs ≡ true → q x ≡ true
  found_passes p q [] x e all = absurd (none-some x e)
  found_passes p q (y ∷ ys) x e all =
      let h = and_parts (q y) (list_all q ys) all in
      elim (cases_Bool (p y)) [
        | inl t ↦ ap q (sym (same_Some y x (sym (ap (λ (b : Bool). cond b (Some y) (find p ys)) t) ∙ e))) ∙ h.0
        | inr f ↦ found_passes p q ys x (sym (ap (λ (b : Bool). cond b (Some y) (find p ys)) f) ∙ e) h.1
      ]

module _ (xs ys : List Thing) where
  -- an interface is the same with more things
  named_on : (id : List ℕ) → is_interface xs id ≡ true → interface_named (xs ++ ys) id ≡ interface_named xs id
  named_on id there = ap (option_and_then as_interface) (find-append (has_id id) xs ys) ∙ on (find (has_id id) xs) there
    where
      on : (o : Option Thing) → is_some (option_and_then as_interface o) ≡ true → option_and_then as_interface (option_or o (find (has_id id) ys)) ≡ option_and_then as_interface o
      on None e = absurd (both_ways false refl e)
      on (Some t) e = refl

  interface_on : (id : List ℕ) → is_interface xs id ≡ true → is_interface (xs ++ ys) id ≡ true
  interface_on id there = ap (λ (o : Option InterfaceView). is_some o) (named_on id there) ∙ there

  given_on : (ids : List (List ℕ)) → list_all (is_interface xs) ids ≡ true → given_names (xs ++ ys) ids ≡ given_names xs ids
  given_on [] all = refl
  given_on (id ∷ ids) all =
      let h = and_parts (is_interface xs id) (list_all (is_interface xs) ids) all in
      ap (λ (o : Option InterfaceView). operation_names (option_map_or (λ i. i.operations) o []) ++ given_names (xs ++ ys) ids) (named_on id h.0)
      ∙ ap (λ (ns : List (List ℕ)). operation_names (operations_named xs id) ++ ns) (given_on ids h.1)

  -- and what is inherited too
  pub inherits_on : (t : Thing) → has_bases_in xs t ≡ true → inherits_in (xs ++ ys) t ≡ inherits_in xs t
  inherits_on t based =
      ap (λ (ns : List (List ℕ)). starts_with bytes_eq (operation_names (operations_of t)) (once ns)) (given_on (once (bases_of t)) (all_once (is_interface xs) (bases_of t) based))

  bases_on : (t : Thing) → has_bases_in xs t ≡ true → has_bases_in (xs ++ ys) t ≡ true
  bases_on t based = all_more (is_interface xs) (is_interface (xs ++ ys)) (bases_of t) interface_on based

-- each thing's bases are there
based_all : (before ts : List Thing) → are_based before ts ≡ true → list_all (has_bases_in (before ++ ts)) ts ≡ true
based_all before [] all = refl
based_all before (t ∷ ts) all =
    let h = and_parts (has_bases_in before t) (are_based (before ++ t ∷ []) ts) all in
    and_from (has_bases_in (before ++ t ∷ ts) t) (list_all (has_bases_in (before ++ t ∷ ts)) ts) (bases_on before (t ∷ ts) t h.0)
    (ap (λ (all : List Thing). list_all (has_bases_in all) ts) (sym (append_assoc before (t ∷ []) ts)) ∙ based_all (before ++ t ∷ []) ts h.1)

-- all things go on beginning with what they inherit
pub inherited_on : (ts : List Thing) (t : Thing) → are_based [] ts ≡ true → list_all (inherits_in ts) ts ≡ true → has_bases_in ts t ≡ true → inherits_in ts t ≡ true
    → list_all (inherits_in (ts ++ t ∷ [])) (ts ++ t ∷ []) ≡ true
inherited_on ts t based all bases one =
    list_all-append (inherits_in (ts ++ t ∷ [])) ts (t ∷ [])
    ∙ and_from (list_all (inherits_in (ts ++ t ∷ [])) ts) (list_all (inherits_in (ts ++ t ∷ [])) (t ∷ []))
    (all_both (has_bases_in ts) (inherits_in ts) (inherits_in (ts ++ t ∷ [])) ts (λ u b i. inherits_on ts (t ∷ []) u b ∙ i) (based_all [] ts based) all)
    (and_from (inherits_in (ts ++ t ∷ []) t) true (inherits_on ts (t ∷ []) t bases ∙ one) refl)
