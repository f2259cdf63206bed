-- No id of a text's declarations is in the built-in module.
use Rattle.std.proofs.Common.{◌≡◌, inl, inr, ℕ, zero, suc, ◌-◌, ◌<◌, ◌≤◌, arith, false, List, [], ◌∷◌, ◌++◌, length, take, drop, codes, append_assoc, refl, sym, ap, ◌∙◌}
use Rattle.std.specs.Str.{str_eq_ignore_ascii_case}
use Rattle.std.proofs.lemmas.Bool.{or_from, false_from_ne_true}
use Rattle.std.proofs.lemmas.List.{map-append, append_cancel_left, append_cancel_right, take-append-drop, take-map}
use Rattle.std.proofs.lemmas.Slice.Eq.{bytes_eq-Decides}
use Rattle.std.specs.Char.{to_ascii_lowercase}
use Rattle.idl_scopes.specs.Table.{Table}
use Rattle.idl_scopes.specs.Finding.{lowered, scope_at, name_at, outer}
use Rattle.idl_scopes.specs.Ids.{within, id_of}
use Rattle.idl_types.specs.Sound.{is_reserved}
use Rattle.idl_reader.proofs.CutNames.{cut_name, orb_in_front}
use Rattle.idl_scopes.proofs.Within.{around_file}
use Rattle.idl_reader.proofs.Ids.{InOrder, zero_or_more, one_more, not_empty, low_more, cut_within, parts_same, outer_less, low_id}

-- the name of the built-in module, in lower case
abbrev orb : List ℕ
orb = 111 ∷ 114 ∷ 98 ∷ []

joins : (a b c d : List ℕ) → (((a ++ 47 ∷ b) ++ c) ++ d) ≡ a ++ 47 ∷ (b ++ (c ++ d))
joins a b c d = append_assoc (a ++ 47 ∷ b) c d ∙ append_assoc a (47 ∷ b) (c ++ d)

not_around : (k : ℕ) (t : Table) (s : ℕ) → 0 < k → 0 < s → lowered (within k t s) ≡ [] → ⊥
not_around zero t s h p e = absurd (omega arith)
not_around (suc k) t s h p e = not_empty _ 47 (sym e ∙ low_more k t s p)

module _ (t : Table) (o : InOrder t) (free : (i : ℕ) → scope_at t i ≡ 0 → lowered (name_at t i) ≡ codes "orb" → ⊥) where
  -- the outermost of the scopes around a declaration
  root : (k s : ℕ) → s ≤ k → 0 < s → (r : ℕ) × (more : List ℕ) × (scope_at t r ≡ 0) × (within k t s ≡ name_at t r ++ 47 ∷ more)
  root zero s h p = absurd (omega arith)
  root (suc k) s h p = elim (zero_or_more (outer t s)) [
    | inl z ↦ (s - 1, [], z, one_more k t s p ∙ ap (λ (w : List ℕ). (w ++ name_at t (s - 1)) ++ codes "/") (around_file k t (outer t s) z))
    | inr q ↦
        let less = outer_less t o s p in
        let r = root k (outer t s) (omega arith) q in (
          r.0,
          r.1 ++ (name_at t (s - 1) ++ codes "/"),
          r.2,
          one_more k t s p ∙ ap (λ (w : List ℕ). (w ++ name_at t (s - 1)) ++ codes "/") r.3 ∙ joins (name_at t r.0) r.1 (name_at t (s - 1)) (codes "/"),
        )
  ]

  -- an id isn't the module's
  not_module : (i : ℕ) → i < length t.declared → lowered (id_of t i) ≡ lowered (codes "IDL:Orb:1.0") → ⊥
  not_module i h e =
      let n = length t.declared in
      let w = lowered (within n t (scope_at t i)) in
      let x = lowered (name_at t i) in
      let c = append_cancel_right ((lowered (codes "IDL:") ++ w) ++ x) (lowered (codes "IDL:") ++ orb) (lowered (codes ":1.0")) (sym (low_id t o i) ∙ e) in
      let d = append_cancel_left (lowered (codes "IDL:")) (w ++ x) orb (sym (append_assoc (lowered (codes "IDL:")) w x) ∙ c) in
      let parts = parts_same w x [] orb (cut_within n t (scope_at t i) (name_at t i) (o.plain i)) (cut_name orb refl) d in
      elim (zero_or_more (scope_at t i)) [
        | inl z ↦ free i z parts.1
        | inr p ↦ not_around n t (scope_at t i) (omega arith) p parts.0
      ]

  not_in_front : (i : ℕ) → i < length t.declared → (tail : List ℕ)
      → lowered (within (length t.declared) t (scope_at t i) ++ (name_at t i ++ codes ":1.0")) ≡ 111 ∷ 114 ∷ 98 ∷ 47 ∷ tail → ⊥
  not_in_front i h tail e =
      let n = length t.declared in
      let w = within n t (scope_at t i) in
      let x = name_at t i in
      elim (zero_or_more (scope_at t i)) [
        | inl z ↦
            let flat : lowered (w ++ (x ++ codes ":1.0")) ≡ lowered x ++ lowered (codes ":1.0") = ap (λ (v : List ℕ). lowered (v ++ (x ++ codes ":1.0"))) (around_file n t (scope_at t i) z) ∙ map-append to_ascii_lowercase x (codes ":1.0") in
            free i z (orb_in_front (lowered x) (49 ∷ 46 ∷ 48 ∷ []) 58 (λ q. omega arith) (λ q. omega arith) (λ q. omega arith) (o.plain i) (tail, sym flat ∙ e))
        | inr p ↦
            let k = o.inwards i in
            let r = root n (scope_at t i) (omega arith) p in
            let y = name_at t r.0 in
            let more = r.1 ++ (x ++ codes ":1.0") in
            let flat : w ++ (x ++ codes ":1.0") ≡ y ++ 47 ∷ more = ap (λ (v : List ℕ). v ++ (x ++ codes ":1.0")) r.3 ∙ append_assoc y (47 ∷ r.1) (x ++ codes ":1.0") in
            let low : lowered (w ++ (x ++ codes ":1.0")) ≡ lowered y ++ 47 ∷ lowered more = ap lowered flat ∙ map-append to_ascii_lowercase y (47 ∷ more) in
            free r.0 r.2 (orb_in_front (lowered y) (lowered more) 47 (λ q. omega arith) (λ q. omega arith) (λ q. omega arith) (o.plain r.0) (tail, sym low ∙ e))
      ]

  four_more : (rest : List ℕ) → lowered (take 4 rest) ≡ 111 ∷ 114 ∷ 98 ∷ 47 ∷ [] → lowered rest ≡ 111 ∷ 114 ∷ 98 ∷ 47 ∷ drop 4 (lowered rest)
  four_more rest e = sym (take-append-drop 4 (lowered rest)) ∙ ap (λ (z : List ℕ). z ++ drop 4 (lowered rest)) (take-map to_ascii_lowercase 4 rest ∙ e)

  behind_id : (rest : List ℕ) → lowered (take 8 (codes "IDL:" ++ rest)) ≡ lowered (codes "IDL:Orb/") → lowered (take 4 rest) ≡ 111 ∷ 114 ∷ 98 ∷ 47 ∷ []
  behind_id rest e = let h : 105 ∷ 100 ∷ 108 ∷ 58 ∷ lowered (take 4 rest) ≡ 105 ∷ 100 ∷ 108 ∷ 58 ∷ 111 ∷ 114 ∷ 98 ∷ 47 ∷ [] = e in cc

  -- nor does it are in it
  pub own_id : (i : ℕ) → i < length t.declared → is_reserved (id_of t i) ≡ false
  own_id i h =
      let n = length t.declared in
      let w = within n t (scope_at t i) in
      let x = name_at t i in
      let rest = w ++ (x ++ codes ":1.0") in
      let is : id_of t i ≡ codes "IDL:" ++ rest = append_assoc (codes "IDL:" ++ w) x (codes ":1.0") ∙ append_assoc (codes "IDL:") w (x ++ codes ":1.0") in
      or_from (str_eq_ignore_ascii_case (take 8 (id_of t i)) (codes "IDL:Orb/")) (str_eq_ignore_ascii_case (id_of t i) (codes "IDL:Orb:1.0"))
      (false_from_ne_true (str_eq_ignore_ascii_case (take 8 (id_of t i)) (codes "IDL:Orb/")) (λ same.
      let low = (bytes_eq-Decides (lowered (take 8 (id_of t i))) (lowered (codes "IDL:Orb/"))).0 same in
      let four = behind_id rest (ap (λ (z : List ℕ). lowered (take 8 z)) (sym is) ∙ low) in
      not_in_front i h (drop 4 (lowered rest)) (four_more rest four)))
      (false_from_ne_true (str_eq_ignore_ascii_case (id_of t i) (codes "IDL:Orb:1.0")) (λ same.
      not_module i h ((bytes_eq-Decides (lowered (id_of t i)) (lowered (codes "IDL:Orb:1.0"))).0 same)))
