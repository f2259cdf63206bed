-- Ids tell declarations apart, case aside, where the scopes of a text are in order.
use Rattle.std.proofs.Common.{◌≡◌, ◌⊎◌, inl, inr, ℕ, zero, suc, ◌-◌, ◌<◌, ◌≤◌, arith, false, List, [], ◌∷◌, ◌++◌, length, codes, append_assoc, refl, sym, ap, ◌∙◌}
use Rattle.std.specs.Prelude.{if◌then◌else◌}
use Rattle.std.proofs.lemmas.List.{map-append, append_cancel_left, append_cancel_right}
use Rattle.std.specs.Char.{to_ascii_lowercase}
use Rattle.idl_scopes.specs.Table.{Table}
use Rattle.idl_scopes.specs.Finding.{lowered, scope_at, name_at, outer}
use Rattle.idl_scopes.specs.Ids.{within, id_of}
use Rattle.idl_scopes.proofs.Within.{is_not_0, around_file}
use Rattle.idl_reader.proofs.CutNames.{has_slash, cut_last, cut_name, cut_path}

-- the scopes of a text in order: a name has no `/`, a scope's number is at most that of what is in it, and a scope has no
-- two names that differ in case alone
pub record InOrder (t : Table) : Type 0 where
  pub plain : (i : ℕ) → has_slash (lowered (name_at t i)) ≡ false
  pub inwards : (i : ℕ) → scope_at t i ≤ i
  pub apart : (i j : ℕ) → i < length t.declared → j < length t.declared → scope_at t i ≡ scope_at t j → lowered (name_at t i) ≡ lowered (name_at t j) → i ≡ j

pub zero_or_more : (n : ℕ) → (n ≡ 0) ⊎ (0 < n)
zero_or_more zero = inl refl
zero_or_more (suc n) = inr (omega arith)

pub one_more : (n : ℕ) (t : Table) (scope : ℕ) → 0 < scope → within (suc n) t scope ≡ (within n t (outer t scope) ++ name_at t (scope - 1)) ++ codes "/"
unfolding within
one_more n t scope k = ap (λ b. if b then [] else ((within n t (outer t scope) ++ name_at t (scope - 1)) ++ codes "/")) (is_not_0 scope k)

-- a path in lower case, with a name after it, is cut between them
cut_empty : (w n : List ℕ) → w ≡ [] → has_slash (lowered n) ≡ false → cut_last (lowered w ++ lowered n) ≡ (lowered w, lowered n)
cut_empty w n e h = ap (λ (z : List ℕ). cut_last (lowered z ++ lowered n)) e ∙ cut_name (lowered n) h ∙ ap (λ (z : List ℕ). (lowered z, lowered n)) (sym e)

cut_full : (w y n : List ℕ) → w ≡ y ++ codes "/" → has_slash (lowered n) ≡ false → cut_last (lowered w ++ lowered n) ≡ (lowered w, lowered n)
cut_full w y n e h =
    let low : lowered w ≡ lowered y ++ 47 ∷ [] = ap lowered e ∙ map-append to_ascii_lowercase y (codes "/") in
    ap (λ (z : List ℕ). cut_last (z ++ lowered n)) low
    ∙ ap cut_last (append_assoc (lowered y) (47 ∷ []) (lowered n))
    ∙ cut_path (lowered y) (lowered n) h
    ∙ ap (λ (z : List ℕ). (z, lowered n)) (sym low)

pub cut_within : (k : ℕ) (t : Table) (s : ℕ) (n : List ℕ) → has_slash (lowered n) ≡ false → cut_last (lowered (within k t s) ++ lowered n) ≡ (lowered (within k t s), lowered n)
unfolding within
cut_within zero t s n h = cut_empty [] n refl h
cut_within (suc k) t s n h = elim (zero_or_more s) [
  | inl e ↦ cut_empty (within (suc k) t s) n (around_file (suc k) t s e) h
  | inr p ↦ cut_full (within (suc k) t s) (within k t (outer t s) ++ name_at t (s - 1)) n (one_more k t s p) h
]

-- what is cut the same way is the same
pub parts_same : (a b c d : List ℕ) → cut_last (a ++ b) ≡ (a, b) → cut_last (c ++ d) ≡ (c, d) → a ++ b ≡ c ++ d → (a ≡ c) × (b ≡ d)
parts_same a b c d p q e =
    let both : ◌≡◌ {A = List ℕ × List ℕ} (a, b) (c, d) = sym p ∙ ap cut_last e ∙ q in
    (ap (λ (x : List ℕ × List ℕ). x.0) both, ap (λ (x : List ℕ × List ℕ). x.1) both)

pub not_empty : (x : List ℕ) (c : ℕ) → [] ≡ x ++ c ∷ [] → ⊥
not_empty [] c e = absurd cc
not_empty (b ∷ x) c e = absurd cc

pub low_more : (k : ℕ) (t : Table) (s : ℕ) → 0 < s → lowered (within (suc k) t s) ≡ (lowered (within k t (outer t s)) ++ lowered (name_at t (s - 1))) ++ 47 ∷ []
low_more k t s p =
    ap lowered (one_more k t s p) ∙ map-append to_ascii_lowercase (within k t (outer t s) ++ name_at t (s - 1)) (codes "/")
    ∙ ap (λ (z : List ℕ). z ++ 47 ∷ []) (map-append to_ascii_lowercase (within k t (outer t s)) (name_at t (s - 1)))

module _ (t : Table) (o : InOrder t) where
  pub outer_less : (s : ℕ) → 0 < s → outer t s < s
  outer_less s p = let h = o.inwards (s - 1) in omega arith

  -- the path of a scope tells the scope
  pub same_scope : (j k s u : ℕ) → s ≤ j → u ≤ k → s ≤ length t.declared → u ≤ length t.declared → lowered (within j t s) ≡ lowered (within k t u) → s ≡ u
  same_scope zero zero s u a b c d e = omega arith
  same_scope zero (suc k) s u a b c d e = elim (zero_or_more u) [
    | inl is ↦ omega arith
    | inr p ↦
        let none : within zero t s ≡ [] = around_file zero t s (omega arith) in
        absurd (not_empty _ 47 (sym (ap lowered none) ∙ e ∙ low_more k t u p))
  ]
  same_scope (suc j) zero s u a b c d e = elim (zero_or_more s) [
    | inl is ↦ omega arith
    | inr p ↦
        let none : within zero t u ≡ [] = around_file zero t u (omega arith) in
        absurd (not_empty _ 47 (sym (ap lowered none) ∙ sym e ∙ low_more j t s p))
  ]
  same_scope (suc j) (suc k) s u a b c d e = elim (zero_or_more s) [
    | inl is ↦ elim (zero_or_more u) [
      | inl it ↦ omega arith
      | inr q ↦ absurd (not_empty _ 47 (sym (ap lowered (around_file (suc j) t s is)) ∙ e ∙ low_more k t u q))
    ]
    | inr p ↦ elim (zero_or_more u) [
      | inl it ↦ absurd (not_empty _ 47 (sym (ap lowered (around_file (suc k) t u it)) ∙ sym e ∙ low_more j t s p))
      | inr q ↦
          let less = outer_less s p in
          let less' = outer_less u q in
          let same = append_cancel_right (lowered (within j t (outer t s)) ++ lowered (name_at t (s - 1))) (lowered (within k t (outer t u)) ++ lowered (name_at t (u - 1))) (47 ∷ [])
          (sym (low_more j t s p) ∙ e ∙ low_more k t u q) in
          let parts = parts_same (lowered (within j t (outer t s))) (lowered (name_at t (s - 1))) (lowered (within k t (outer t u))) (lowered (name_at t (u - 1)))
          (cut_within j t (outer t s) (name_at t (s - 1)) (o.plain (s - 1))) (cut_within k t (outer t u) (name_at t (u - 1)) (o.plain (u - 1))) same in
          let around = same_scope j k (outer t s) (outer t u) (omega arith) (omega arith) (omega arith) (omega arith) parts.0 in
          let it = o.apart (s - 1) (u - 1) (omega arith) (omega arith) around parts.1 in
          omega arith
    ]
  ]

  pub low_id : (i : ℕ) → lowered (id_of t i) ≡ ((lowered (codes "IDL:") ++ lowered (within (length t.declared) t (scope_at t i))) ++ lowered (name_at t i)) ++ lowered (codes ":1.0")
  low_id i =
      let w = within (length t.declared) t (scope_at t i) in
      map-append to_ascii_lowercase ((codes "IDL:" ++ w) ++ name_at t i) (codes ":1.0")
      ∙ ap (λ (z : List ℕ). z ++ lowered (codes ":1.0")) (map-append to_ascii_lowercase (codes "IDL:" ++ w) (name_at t i))
      ∙ ap (λ (z : List ℕ). (z ++ lowered (name_at t i)) ++ lowered (codes ":1.0")) (map-append to_ascii_lowercase (codes "IDL:") w)

  -- the id of a declaration tells the declaration, case aside
  pub same_id : (i j : ℕ) → i < length t.declared → j < length t.declared → lowered (id_of t i) ≡ lowered (id_of t j) → i ≡ j
  same_id i j a b e =
      let n = length t.declared in
      let w = lowered (within n t (scope_at t i)) in
      let v = lowered (within n t (scope_at t j)) in
      let x = lowered (name_at t i) in
      let y = lowered (name_at t j) in
      let c = append_cancel_right ((lowered (codes "IDL:") ++ w) ++ x) ((lowered (codes "IDL:") ++ v) ++ y) (lowered (codes ":1.0")) (sym (low_id i) ∙ e ∙ low_id j) in
      let d = append_cancel_left (lowered (codes "IDL:")) (w ++ x) (v ++ y) (sym (append_assoc (lowered (codes "IDL:")) w x) ∙ c ∙ append_assoc (lowered (codes "IDL:")) v y) in
      let parts = parts_same w x v y (cut_within n t (scope_at t i) (name_at t i) (o.plain i)) (cut_within n t (scope_at t j) (name_at t j) (o.plain j)) d in
      let p = o.inwards i in
      let q = o.inwards j in
      let around = same_scope n n (scope_at t i) (scope_at t j) (omega arith) (omega arith) (omega arith) (omega arith) parts.0 in
      o.apart i j a b around parts.1
