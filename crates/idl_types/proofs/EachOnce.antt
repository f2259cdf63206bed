-- Names, each once.
use Rattle.std.proofs.Common.{◌≡◌, ℕ, Bool, true, false, cond, not, ◌&&◌, ◌||◌, List, [], ◌∷◌, ◌++◌, inl, inr, refl, sym, ap, ◌∙◌, append_assoc}
use Rattle.std.specs.Prelude.{Vec, if◌then◌else◌, filter}
use Rattle.std.specs.List.{list_all, list_any}
use Rattle.std.specs.Str.{bytes_eq}
use Rattle.std.specs.declared.alloc.Global.{Global}
use Rattle.std.proofs.lemmas.Bool.{cases_Bool, and_parts, and_from}
use Rattle.std.proofs.lemmas.List.{append-nil, map-append}
use Rattle.std.proofs.lemmas.List.Folds.{list_any-append}
use Rattle.std.proofs.lemmas.Slice.Eq.{bytes_eq-Decides}
use Rattle.indexmap.specs.IndexSet.{insert_key}
use Rattle.idl_types.specs.Names.{names_in, once, with_name, with_names}
use Rattle.orb_base.proofs.Places.{any_map}

-- a name that is put into an index
pub put_once : (ns : List (Vec ℕ Global)) (n : Vec ℕ Global) → names_in (insert_key (λ (a b : Vec ℕ Global). bytes_eq a.items b.items) ns n) ≡ with_name (names_in ns) n.items
put_once ns n =
    on (list_any (λ (v : Vec ℕ Global). bytes_eq n.items v.items) ns)
    ∙ ap (λ (b : Bool). if b then names_in ns else names_in ns ++ n.items ∷ []) (sym (any_map (bytes_eq n.items) (λ (v : Vec ℕ Global). v.items) ns))
  where
    on : (b : Bool) → names_in (if b then ns else ns ++ n ∷ []) ≡ (if b then names_in ns else names_in ns ++ n.items ∷ [])
    on true = refl
    on false = map-append (λ (v : Vec ℕ Global). v.items) ns (n ∷ [])

-- names after others, a part at a time
pub with_both : (ns xs ys : List (List ℕ)) → with_names ns (xs ++ ys) ≡ with_names (with_names ns xs) ys
with_both ns [] ys = refl
with_both ns (x ∷ xs) ys = with_both (with_name ns x) xs ys

module _ {X : Type 0} where
  -- what passes two tests, one after the other
  filter_both : (p q r : X → Bool) → ((x : X) → r x ≡ (q x && p x)) → (xs : List X) → filter p (filter q xs) ≡ filter r xs
  filter_both p q r is [] = refl
  filter_both p q r is (x ∷ xs) = elim (cases_Bool (q x)) [
    | inl t ↦ ap (λ (b : Bool). filter p (cond b (x ∷ filter q xs) (filter q xs))) t
        ∙ ap (λ (ys : List X). cond (p x) (x ∷ ys) ys) (filter_both p q r is xs)
        ∙ ap (λ (b : Bool). cond b (x ∷ filter r xs) (filter r xs)) (sym (is x ∙ ap (λ (b : Bool). b && p x) t))
    | inr f ↦ ap (λ (b : Bool). filter p (cond b (x ∷ filter q xs) (filter q xs))) f
        ∙ filter_both p q r is xs
        ∙ ap (λ (b : Bool). cond b (x ∷ filter r xs) (filter r xs)) (sym (is x ∙ ap (λ (b : Bool). b && p x) f))
  ]

  filter_whole : (xs : List X) → filter (λ x. true) xs ≡ xs
  filter_whole [] = refl
  filter_whole (x ∷ xs) = ap (λ (ys : List X). x ∷ ys) (filter_whole xs)

  all_filtered : (p q : X → Bool) (xs : List X) → list_all p xs ≡ true → list_all p (filter q xs) ≡ true
  all_filtered p q [] all = refl
  all_filtered p q (x ∷ xs) all =
      let h = and_parts (p x) (list_all p xs) all in
      on (q x) h.0 (all_filtered p q xs h.1)
    where
      on : (b : Bool) → p x ≡ true → list_all p (filter q xs) ≡ true → list_all p (cond b (x ∷ filter q xs) (filter q xs)) ≡ true
      on true one rest = and_from (p x) (list_all p (filter q xs)) one rest
      on false one rest = rest

-- a test that all pass, they pass each once too
pub all_once : (p : List ℕ → Bool) (ns : List (List ℕ)) → list_all p ns ≡ true → list_all p (once ns) ≡ true
all_once p [] all = refl
all_once p (n ∷ ns) all =
    let h = and_parts (p n) (list_all p ns) all in
    and_from (p n) (list_all p (filter (λ m. not (bytes_eq m n)) (once ns))) h.0 (all_filtered p (λ m. not (bytes_eq m n)) (once ns) (all_once p ns h.1))

-- whether a name isn't among others
abbrev is_other : List (List ℕ) → List ℕ → Bool
is_other ns m = not (list_any (bytes_eq m) ns)

known_again : (ns : List (List ℕ)) (n m : List ℕ) → list_any (bytes_eq n) ns ≡ true → is_other ns m ≡ (not (bytes_eq m n) && is_other ns m)
known_again ns n m there = elim (cases_Bool (bytes_eq m n)) [
  | inl t ↦ ap (λ (x : List ℕ). not (list_any (bytes_eq x) ns)) ((bytes_eq-Decides m n).0 t) ∙ ap not there ∙ sym (ap (λ (b : Bool). not b && is_other ns m) t)
  | inr f ↦ sym (ap (λ (b : Bool). not b && is_other ns m) f)
]

one_more : (ns : List (List ℕ)) (n m : List ℕ) → is_other (ns ++ n ∷ []) m ≡ (not (bytes_eq m n) && is_other ns m)
one_more ns n m = ap not (list_any-append (bytes_eq m) ns (n ∷ [])) ∙ on (list_any (bytes_eq m) ns) (bytes_eq m n)
  where
    on : (a b : Bool) → not (a || (b || false)) ≡ (not b && not a)
    on true true = refl
    on true false = refl
    on false true = refl
    on false false = refl

-- after others come those that aren't among them, each once
behind : (ns more : List (List ℕ)) → with_names ns more ≡ ns ++ filter (is_other ns) (once more)
behind ns [] = sym (append-nil ns)
behind ns (n ∷ more) = elim (cases_Bool (list_any (bytes_eq n) ns)) [
  | inl t ↦ ap (λ (b : Bool). with_names (if b then ns else ns ++ n ∷ []) more) t
      ∙ behind ns more
      ∙ ap (λ (xs : List (List ℕ)). ns ++ xs) (sym (filter_both (is_other ns) (λ m. not (bytes_eq m n)) (is_other ns) (λ m. known_again ns n m t) (once more)))
      ∙ ap (λ (b : Bool). ns ++ cond (not b) (n ∷ filter (is_other ns) (filter (λ m. not (bytes_eq m n)) (once more))) (filter (is_other ns) (filter (λ m. not (bytes_eq m n)) (once more)))) (sym t)
  | inr f ↦ ap (λ (b : Bool). with_names (if b then ns else ns ++ n ∷ []) more) f
      ∙ behind (ns ++ n ∷ []) more
      ∙ append_assoc ns (n ∷ []) (filter (is_other (ns ++ n ∷ [])) (once more))
      ∙ ap (λ (xs : List (List ℕ)). ns ++ n ∷ xs) (sym (filter_both (is_other ns) (λ m. not (bytes_eq m n)) (is_other (ns ++ n ∷ [])) (λ m. one_more ns n m) (once more)))
      ∙ ap (λ (b : Bool). ns ++ cond (not b) (n ∷ filter (is_other ns) (filter (λ m. not (bytes_eq m n)) (once more))) (filter (is_other ns) (filter (λ m. not (bytes_eq m n)) (once more)))) (sym f)
]

-- names one by one after none
pub one_by_one : (ns : List (List ℕ)) → with_names [] ns ≡ once ns
one_by_one ns = behind [] ns ∙ filter_whole (once ns)
