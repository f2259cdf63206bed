-- Places and finds in lists, and in lists of views.
use Rattle.std.proofs.Common.{◌≡◌, ℕ, ◌+◌, suc, Bool, true, false, cond, not, ltb, List, [], ◌∷◌, ◌++◌, length, map, Option, Some, None, inl, inr, sym, refl, ap, ◌∙◌, subst, arith}
use Rattle.std.specs.Prelude.{slice_get, position, find, Vec, is_some}
use Rattle.std.specs.Option.{option_map}
use Rattle.std.specs.List.{position_or_len, prefix_len, list_any, list_all}
use Rattle.std.specs.Str.{bytes_eq}
use Rattle.std.specs.Map.{keys_of}
use Rattle.std.specs.declared.alloc.Global.{Global}
use Rattle.std.proofs.lemmas.Option.{slice_get_past, slice_get_cases, cond_some, none-some}
use Rattle.std.proofs.lemmas.List.Quantifiers.{position-Some}
use Rattle.std.proofs.lemmas.List.Folds.{find_at}
use Rattle.std.proofs.lemmas.Bool.{ltb-true, ltb-false, lt-ltb, le-ltb, cases_Bool, cases_lt, and_parts, or_cases, or_left, or_right, or_from, both_ways, false_from_ne_true}
use Rattle.std.proofs.lemmas.Slice.Eq.{bytes_eq-Decides}
use Rattle.orb_base.proofs.Places.{position_map, cond_is_none}
use Rattle.idl_types.specs.Things.{OperationView, Thing, id_of}
use Rattle.idl_types.specs.Finding.{has_id, has_name, place_named, thing_named}
use Rattle.idl_types.specs.Names.{names_in, operation_names}
use Rattle.idl_types.specs.Entries.{Entry, AreKeyed, entry_things}

front_on : (o r : Option ℕ) (i : ℕ) → ((j : ℕ) → o ≡ Some j → r ≡ Some j) → option_map suc o ≡ Some i → option_map suc r ≡ Some i
front_on None r i more h = absurd (none-some i h)
front_on (Some j) r i more h = ap (option_map suc) (more j refl) ∙ h

module _ {X : Type 0} (p : X → Bool) where
  -- what is at a place that was looked up
  pub at_place : (xs : List X) (i : ℕ) → position p xs ≡ Some i → (x : X) × (slice_get xs i ≡ Some x) × (p x ≡ true)
  at_place xs i e = let h = cond_some (ltb (position_or_len p xs) (length xs)) (position_or_len p xs) i e in let w = ltb-true (position_or_len p xs) (length xs) h.0 in
      elim (slice_get_cases xs i).1 [
        | inl c ↦ (c.0, c.2, subst (λ (y : X). p y ≡ true) c.3 (position-Some p xs i c.0 e).1)
        | inr c ↦ absurd (omega (arith, h.1))
      ]

  -- the element found is the one at the place
  pub found_at : (xs : List X) (i : ℕ) → position p xs ≡ Some i → find p xs ≡ slice_get xs i
  found_at xs i e = find_at p xs ∙ ap (slice_get xs) (cond_some (ltb (position_or_len p xs) (length xs)) (position_or_len p xs) i e).1

  -- and none is found without a place
  pub not_found : (xs : List X) → position p xs ≡ None → find p xs ≡ None
  not_found xs e = find_at p xs ∙ slice_get_past xs (position_or_len p xs) (ltb-false (position_or_len p xs) (length xs) (cond_is_none (ltb (position_or_len p xs) (length xs)) (position_or_len p xs) e))

  -- a place is the first or one after it
  position_here : (x : X) (xs : List X) → p x ≡ true → position p (x ∷ xs) ≡ Some 0
  position_here x xs t = ap (λ (b : Bool). cond (ltb (cond (not b) (1 + prefix_len (λ y. not (p y)) xs) 0) (suc (length xs))) (Some (cond (not b) (1 + prefix_len (λ y. not (p y)) xs) 0)) None) t
      ∙ ap (λ (b : Bool). cond b (Some 0) None) (lt-ltb 0 (suc (length xs)) (omega arith))

  shifted : (l n : ℕ) → cond (ltb (1 + l) (suc n)) (Some (1 + l)) None ≡ option_map suc (cond (ltb l n) (Some l) None)
  shifted l n = elim (cases_lt l n) [
    | inl h ↦ ap (λ (b : Bool). cond b (Some (1 + l)) None) (lt-ltb (1 + l) (suc n) (omega arith)) ∙ ap Some (let e : 1 + l ≡ suc l = omega arith in e)
        ∙ sym (ap (λ (b : Bool). option_map suc (cond b (Some l) None)) (lt-ltb l n h))
    | inr h ↦ ap (λ (b : Bool). cond b (Some (1 + l)) None) (le-ltb (1 + l) (suc n) (omega arith))
        ∙ sym (ap (λ (b : Bool). option_map suc (cond b (Some l) None)) (le-ltb l n h))
  ]

  position_later : (x : X) (xs : List X) → p x ≡ false → position p (x ∷ xs) ≡ option_map suc (position p xs)
  position_later x xs f = ap (λ (b : Bool). cond (ltb (cond (not b) (1 + prefix_len (λ y. not (p y)) xs) 0) (suc (length xs))) (Some (cond (not b) (1 + prefix_len (λ y. not (p y)) xs) 0)) None) f
      ∙ shifted (prefix_len (λ y. not (p y)) xs) (length xs)

  -- a place in a prefix is the place
  pub position_front : (xs ys : List X) (i : ℕ) → position p xs ≡ Some i → position p (xs ++ ys) ≡ Some i
  position_front [] ys i e = absurd (none-some i e)
  position_front (x ∷ xs) ys i e = elim (cases_Bool (p x)) [
    | inl t ↦ position_here x (xs ++ ys) t ∙ sym (position_here x xs t) ∙ e
    | inr f ↦ position_later x (xs ++ ys) f ∙ front_on (position p xs) (position p (xs ++ ys)) i (λ j is. position_front xs ys j is) (sym (position_later x xs f) ∙ e)
  ]

pub none_of : {X : Type 0} (o : Option X) → is_some o ≡ false → o ≡ None
none_of None e = refl
none_of (Some x) e = absurd (both_ways true e refl)

-- a list without a place has no element that passes
later_none : (o : Option ℕ) → option_map suc o ≡ None → o ≡ None
later_none None e = refl
later_none (Some i) e = absurd (none-some (suc i) (sym e))

pub none_any : {X : Type 0} (p : X → Bool) (xs : List X) → position p xs ≡ None → list_any p xs ≡ false
none_any p [] e = refl
none_any p (x ∷ xs) e = elim (cases_Bool (p x)) [
  | inl t ↦ absurd (none-some 0 (sym e ∙ position_here p x xs t))
  | inr f ↦ or_from (p x) (list_any p xs) f (none_any p xs (later_none (position p xs) (sym (position_later p x xs f) ∙ e)))
]

-- an element that passes one test, where all pass the other
pub any_all : {X : Type 0} (p q : X → Bool) (xs : List X) → list_any p xs ≡ true → list_all q xs ≡ true → (x : X) × (p x ≡ true) × (q x ≡ true)
any_all p q [] any all = absurd (both_ways false refl any)
any_all p q (x ∷ xs) any all = elim (or_cases (p x) (list_any p xs) any) [
  | inl t ↦ (x, t, (and_parts (q x) (list_all q xs) all).0)
  | inr t ↦ any_all p q xs t (and_parts (q x) (list_all q xs) all).1
]

-- where one test follows from the other
pub any_more : {X : Type 0} (p q : X → Bool) (xs : List X) → ((x : X) → p x ≡ true → q x ≡ true) → list_any p xs ≡ true → list_any q xs ≡ true
any_more p q [] more any = any
any_more p q (x ∷ xs) more any = elim (or_cases (p x) (list_any p xs) any) [
  | inl t ↦ or_left (q x) (list_any q xs) (more x t)
  | inr t ↦ or_right (q x) (list_any q xs) (any_more p q xs more t)
]

-- an element that passes is among them
pub any_among : {X : Type 0} (same : X → X → Bool) (p : X → Bool) → ((x : X) → same x x ≡ true) → (xs : List X) → list_any p xs ≡ true
    → (x : X) × (p x ≡ true) × (list_any (same x) xs ≡ true)
any_among same p own [] any = absurd (both_ways false refl any)
any_among same p own (y ∷ ys) any = elim (or_cases (p y) (list_any p ys) any) [
  | inl t ↦ (y, t, or_left (same y y) (list_any (same y) ys) (own y))
  | inr t ↦ (let h = any_among same p own ys t in (h.0, h.1, or_right (same h.0 y) (list_any (same h.0) ys) h.2))
]

-- the thing of an id is at its place
pub thing_at_place : (ts : List Thing) (id : List ℕ) (i : ℕ) → place_named ts id ≡ Some i → thing_named ts id ≡ slice_get ts i
thing_at_place ts id i e = found_at (has_id id) ts i e

-- and without a place there is none
pub no_thing : (ts : List Thing) (id : List ℕ) → place_named ts id ≡ None → thing_named ts id ≡ None
no_thing ts id e = not_found (has_id id) ts e

-- a place in a list of views is the place in the list
view_position : {X Y : Type 0} (p : Y → Bool) (f : X → Y) (xs : List X) → position p (map f xs) ≡ position (λ x. p (f x)) xs
view_position p f xs = position_map p (λ x. p (f x)) f (λ x. refl) xs

-- a place among the keys is the place of the id
pub place_by_key : (id : List ℕ) (es : List Entry) → AreKeyed es → position (λ k. bytes_eq id k.items) (keys_of es) ≡ place_named (entry_things es) id
place_by_key id es keyed =
    view_position (λ k. bytes_eq id k.items) (λ e. e.0) es ∙ sym (view_position (bytes_eq id) (λ e. e.0.items) es) ∙ ap (position (bytes_eq id)) keyed ∙ view_position (bytes_eq id) id_of (entry_things es)

-- a place among the kept names is that of the operation
pub place_by_name : (name : List ℕ) (ns : List (Vec ℕ Global)) (os : List OperationView) → names_in ns ≡ operation_names os
    → position (λ n. bytes_eq name n.items) ns ≡ position (has_name name) os
place_by_name name ns os same =
    sym (view_position (bytes_eq name) (λ n. n.items) ns) ∙ ap (position (bytes_eq name)) same ∙ view_position (bytes_eq name) (λ o. o.name) os

-- a test that says whether two texts are the same
pub test_is : (r : Bool) (xs ys : List ℕ) → (r ≡ true → xs ≡ ys) → (xs ≡ ys → r ≡ true) → r ≡ bytes_eq xs ys
test_is true xs ys to from = sym ((bytes_eq-Decides xs ys).1 (to refl))
test_is false xs ys to from = sym (false_from_ne_true (bytes_eq xs ys) (λ e. both_ways false refl (from ((bytes_eq-Decides xs ys).0 e))))
