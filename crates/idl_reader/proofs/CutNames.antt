-- A path of names, each with a `/` after it, and a name after them: the last `/` tells them apart.
use Rattle.std.proofs.Common.{◌≡◌, ℕ, Bool, true, false, List, [], ◌∷◌, ◌++◌, refl, ap, ◌∙◌}
use Rattle.std.specs.Prelude.{◌==◌, if◌then◌else◌}
use Rattle.std.specs.List.{list_any}
use Rattle.std.proofs.lemmas.Bool.{or_parts, or_right}

-- a byte is `/`
abbrev pub is_slash : ℕ → Bool
is_slash b = b == 47

-- a text has one
abbrev pub has_slash : List ℕ → Bool
has_slash z = list_any is_slash z

-- a text up to its last `/`, and what is after that
abbrev pub cut_last : List ℕ → List ℕ × List ℕ
cut_last [] = ([], [])
cut_last (b ∷ z) = if has_slash z then (b ∷ (cut_last z).0, (cut_last z).1) else (if is_slash b then (b ∷ [], z) else ([], b ∷ z))

-- a name alone
pub cut_name : (n : List ℕ) → has_slash n ≡ false → cut_last n ≡ ([], n)
cut_name [] h = refl
cut_name (b ∷ z) h =
    let p = or_parts (is_slash b) (has_slash z) h in
    ap (λ (x : Bool). if x then (b ∷ (cut_last z).0, (cut_last z).1) else (if is_slash b then (b ∷ [], z) else ([], b ∷ z))) p.1
    ∙ ap (λ (x : Bool). if x then (b ∷ [], z) else ([], b ∷ z)) p.0

slash_there : (x n : List ℕ) → has_slash (x ++ 47 ∷ n) ≡ true
slash_there [] n = refl
slash_there (b ∷ x) n = or_right (is_slash b) (has_slash (x ++ 47 ∷ n)) (slash_there x n)

-- a name after a path
pub cut_path : (x n : List ℕ) → has_slash n ≡ false → cut_last (x ++ 47 ∷ n) ≡ (x ++ 47 ∷ [], n)
cut_path [] n h = ap (λ (y : Bool). if y then (47 ∷ (cut_last n).0, (cut_last n).1) else (47 ∷ [], n)) h
cut_path (b ∷ x) n h =
    let r = x ++ 47 ∷ n in
    ap (λ (y : Bool). if y then (b ∷ (cut_last r).0, (cut_last r).1) else (if is_slash b then (b ∷ [], r) else ([], b ∷ r))) (slash_there x n)
    ∙ ap (λ (p : List ℕ × List ℕ). (b ∷ p.0, p.1)) (cut_path x n h)

-- the first four bytes are `orb/`
abbrev pub IsOrb : List ℕ → Type 0
IsOrb z = (tail : List ℕ) × (z ≡ 111 ∷ 114 ∷ 98 ∷ 47 ∷ tail)

-- then a name that comes before, with a byte after it that is none of them but the last, is `orb`
pub orb_in_front : (n rest : List ℕ) (c : ℕ) → ((c ≡ 111) → ⊥) → ((c ≡ 114) → ⊥) → ((c ≡ 98) → ⊥) → has_slash n ≡ false → IsOrb (n ++ c ∷ rest) → n ≡ 111 ∷ 114 ∷ 98 ∷ []
orb_in_front [] rest c x y z h o = let e = o.1 in absurd (x cc)
orb_in_front (a ∷ []) rest c x y z h o = let e = o.1 in absurd (y cc)
orb_in_front (a ∷ b ∷ []) rest c x y z h o = let e = o.1 in absurd (z cc)
orb_in_front (a ∷ b ∷ d ∷ []) rest c x y z h o = let e = o.1 in cc
orb_in_front (a ∷ b ∷ d ∷ s ∷ n) rest c x y z h o =
    let e = o.1 in
    let is : s ≡ 47 = cc in
    let p = or_parts (is_slash a) (has_slash (b ∷ d ∷ s ∷ n)) h in
    let q = or_parts (is_slash b) (has_slash (d ∷ s ∷ n)) p.1 in
    let r = or_parts (is_slash d) (has_slash (s ∷ n)) q.1 in
    let u = or_parts (is_slash s) (has_slash n) r.1 in
    let t : is_slash s ≡ true = ap is_slash is in
    absurd cc
