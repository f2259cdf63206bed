-- Each key is among those of its name.
use Rattle.std.proofs.Common.{◌≡◌, ℕ, zero, suc, ◌+◌, Bool, true, false, List, [], ◌∷◌, ◌++◌, length, map, Some, Result, Ok, Err, OnOk, OnErr, inl, inr, refl, sym, subst, ◌∙◌, arith, ltb}
use Rattle.std.specs.Prelude.{Vec, position, slice_get, ◌==◌, if◌then◌else◌}
use Rattle.std.specs.declared.alloc.Global.{Global}
use Rattle.std.specs.List.{list_any, position_or_len}
use Rattle.std.specs.Str.{bytes_eq}
use Rattle.std.proofs.lemmas.Bool.{and_parts, and_from, ltb-true}
use Rattle.std.proofs.lemmas.List.Quantifiers.{position-Some}
use Rattle.std.proofs.lemmas.Option.{cond_some, none-some, same_Some, slice_get_cases}
use Rattle.std.proofs.lemmas.Slice.Eq.{bytes_eq-Decides}
use Rattle.indexmap.specs.IndexMap.{get_by}
use Rattle.indexmap.specs.IndexSet.{insert_key}
use Rattle.orb_base.proofs.Places.{position_map}
use Rattle.idl_scopes.specs.Bases.{holds}
use Rattle.idl_scopes.specs.Declarations.{known_of}
use Rattle.idl_scopes.specs.Finding.{is_at}
use Rattle.idl_scopes.specs.Groups.{listed, numbers_of, same_name, named_in}
use Rattle.idl_scopes.specs.declared.groups.Groups.{Groups}
use Rattle.idl_scopes.specs.declared.known.Known.{Known}

-- what is at a place that was looked up
pub placed : {X : Type 0} (p : X → Bool) (xs : List X) (i : ℕ) → position p xs ≡ Some i → (x : X) × (slice_get xs i ≡ Some x) × (p x ≡ true)
placed {X} p xs i e =
    let h = cond_some (ltb (position_or_len p xs) (length xs)) (position_or_len p xs) i e in
    let w = ltb-true (position_or_len p xs) (length xs) h.0 in
    elim (slice_get_cases xs i).1 [
      | inl c ↦ (c.0, c.2, subst (λ (y : X). p y ≡ true) c.3 (position-Some p xs i c.0 e).1)
      | inr c ↦ absurd (omega (arith, h.1))
    ]

abbrev Named : Groups (Vec ℕ Global) → Known → ℕ → Bool
Named g k n = holds (numbers_of same_name g k.name) n

module _ (g : Groups (Vec ℕ Global)) where
  at : (n : ℕ) (ks : List Known) (i : ℕ) (k : Known) → named_in g n ks ≡ true → slice_get ks i ≡ Some k → Named g k (n + i) ≡ true
  at n [] i k all is = absurd (none-some k is)
  at n (x ∷ xs) zero k all is =
      let p = and_parts (Named g x n) (named_in g (n + 1) xs) all in
      let e : n + 0 ≡ n = omega arith in
      subst (λ (y : Known). Named g y (n + 0) ≡ true) (same_Some x k is) (subst (λ (m : ℕ). Named g x m ≡ true) (sym e) p.0)
  at n (x ∷ xs) (suc i) k all is =
      let p = and_parts (Named g x n) (named_in g (n + 1) xs) all in
      let e : (n + 1) + i ≡ n + suc i = omega arith in
      subst (λ (m : ℕ). Named g k m ≡ true) e (at (n + 1) xs i k p.1 is)

  -- where a key has a place, that is among those of its name
  pub held : (ks : List Known) (low : Vec ℕ Global) (scope i : ℕ) → named_in g 0 ks ≡ true → position (is_at scope low.items) (map known_of ks) ≡ Some i → holds (numbers_of same_name g low) i ≡ true
  held ks low scope i all found =
      let q = placed (λ (k : Known). is_at scope low.items (known_of k)) ks i (sym (position_map (is_at scope low.items) (λ (k : Known). is_at scope low.items (known_of k)) known_of (λ k. refl) ks) ∙ found) in
      let same = and_parts (scope == q.0.scope) (bytes_eq low.items q.0.name.items) q.2 in
      let e : 0 + i ≡ i = omega arith in
      subst (λ (zs : List ℕ). holds (listed g.lists.items (get_by (λ (x : Vec ℕ Global). bytes_eq zs x.items) g.numbered)) i ≡ true) (sym ((bytes_eq-Decides low.items q.0.name.items).0 same.1))
      (subst (λ (m : ℕ). Named g q.0 m ≡ true) e (at 0 ks i q.0 all q.1))

  behind : (n : ℕ) (ks : List Known) (k : Known) → named_in g n ks ≡ true → Named g k (n + length ks) ≡ true → named_in g n (ks ++ k ∷ []) ≡ true
  behind n [] k all one =
      let e : n + 0 ≡ n = omega arith in
      and_from (Named g k n) true (subst (λ (m : ℕ). Named g k m ≡ true) e one) refl
  behind n (x ∷ xs) k all one =
      let p = and_parts (Named g x n) (named_in g (n + 1) xs) all in
      let e : n + suc (length xs) ≡ (n + 1) + length xs = omega arith in
      and_from (Named g x n) (named_in g (n + 1) (xs ++ k ∷ [])) p.0 (behind (n + 1) xs k p.1 (subst (λ (m : ℕ). Named g k m ≡ true) e one))

  -- one more key, whose place is among them
  pub named_put : {E : Type 0} (eq : Known → Known → Bool) (r : Result Bool E) (ks later : List Known) (k : Known) (n : ℕ) → OnOk r (later ≡ insert_key eq ks k) → OnErr r (later ≡ ks) → n ≡ length ks
      → named_in g 0 ks ≡ true → Named g k n ≡ true → named_in g 0 later ≡ true
  named_put eq (Ok b) ks later k n put none last all one = subst (λ (xs : List Known). named_in g 0 xs ≡ true) (sym put) (by (list_any (eq k) ks))
    where
      by : (b : Bool) → named_in g 0 (if b then ks else ks ++ k ∷ []) ≡ true
      by true = all
      by false = let e : n ≡ 0 + length ks = omega (arith, last) in behind 0 ks k all (subst (λ (m : ℕ). Named g k m ≡ true) e one)
  named_put eq (Err e) ks later k n put none last all one = subst (λ (xs : List Known). named_in g 0 xs ≡ true) (sym none) all

-- where no number is lost
pub named_kept : (g g' : Groups (Vec ℕ Global)) (n : ℕ) (ks : List Known) → ((k : Vec ℕ Global) (m : ℕ) → holds (numbers_of same_name g k) m ≡ true → holds (numbers_of same_name g' k) m ≡ true)
    → named_in g n ks ≡ true → named_in g' n ks ≡ true
named_kept g g' n [] kept all = refl
named_kept g g' n (k ∷ ks) kept all =
    let p = and_parts (Named g k n) (named_in g (n + 1) ks) all in
    and_from (Named g' k n) (named_in g' (n + 1) ks) (kept k.name n p.0) (named_kept g g' (n + 1) ks kept p.1)
