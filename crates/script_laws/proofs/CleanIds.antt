-- The ids of what a text declares have no NUL.
use Rattle.std.proofs.Common.{◌≡◌, ℕ, zero, suc, ◌+◌, ◌-◌, ◌==◌, Bool, true, false, cond, not, List, [], ◌∷◌, ◌++◌, length, codes, Option, Some, None, refl, ap, ◌∙◌, slice_get, arith}
use Rattle.std.specs.List.{position_or_len}
use Rattle.std.proofs.lemmas.Bool.{or_parts, or_from, le-ltb}
use Rattle.std.proofs.lemmas.List.Folds.{list_any-append}
use Rattle.orb_base.specs.NulFree.{nul_at}
use Rattle.idl_scopes.specs.Table.{Table, Declared}
use Rattle.idl_scopes.specs.Finding.{name_in, name_at, scope_at, outer}
use Rattle.idl_scopes.specs.Ids.{within, id_of}
use Rattle.script_laws.proofs.CleanNames.{has_nul, IsClean}

behind_clean : (xs ys : List ℕ) → has_nul xs ≡ false → has_nul ys ≡ false → has_nul (xs ++ ys) ≡ false
behind_clean xs ys a b = list_any-append (λ x. x == 0) xs ys ∙ or_from (has_nul xs) (has_nul ys) a b

name_clean : (t : Table) → IsClean t → (i : ℕ) (o : Option Declared) → slice_get t.declared i ≡ o → has_nul (name_in o) ≡ false
name_clean t h i None e = refl
name_clean t h i (Some d) e = h i d e

cond_clean : (b : Bool) (xs : List ℕ) → has_nul xs ≡ false → has_nul (cond b [] xs) ≡ false
cond_clean true xs h = refl
cond_clean false xs h = h

within_clean : (n : ℕ) (t : Table) → IsClean t → (scope : ℕ) → has_nul (within n t scope) ≡ false
unfolding within
within_clean zero t h scope = refl
within_clean (suc n) t h scope =
    cond_clean (scope == 0) ((within n t (outer t scope) ++ name_at t (scope - 1)) ++ codes "/")
    (behind_clean (within n t (outer t scope) ++ name_at t (scope - 1)) (codes "/")
    (behind_clean (within n t (outer t scope)) (name_at t (scope - 1)) (within_clean n t h (outer t scope)) (name_clean t h (scope - 1) (slice_get t.declared (scope - 1)) refl)) refl)

id_clean : (t : Table) → IsClean t → (i : ℕ) → has_nul (id_of t i) ≡ false
id_clean t h i =
    behind_clean ((codes "IDL:" ++ within (length t.declared) t (scope_at t i)) ++ name_at t i) (codes ":1.0")
    (behind_clean (codes "IDL:" ++ within (length t.declared) t (scope_at t i)) (name_at t i)
    (behind_clean (codes "IDL:") (within (length t.declared) t (scope_at t i)) refl (within_clean (length t.declared) t h (scope_at t i)))
    (name_clean t h i (slice_get t.declared i) refl)) refl

nowhere : (xs : List ℕ) → has_nul xs ≡ false → position_or_len (λ b. b == 0) xs ≡ length xs
nowhere [] h = refl
nowhere (x ∷ xs) h =
    let p = or_parts (x == 0) (has_nul xs) h in
    ap (λ (b : Bool). cond (not b) (1 + position_or_len (λ c. c == 0) xs) 0) p.0 ∙ (let e = nowhere xs p.1 in omega (arith, e))

pub no_nul : (xs : List ℕ) → has_nul xs ≡ false → nul_at xs ≡ None
no_nul xs h =
    let e = nowhere xs h in
    ap (λ (b : Bool). cond b (Some (position_or_len (λ c. c == 0) xs)) None) (le-ltb (position_or_len (λ c. c == 0) xs) (length xs) (omega (arith, e)))

pub id_has_none : (t : Table) → IsClean t → (i : ℕ) → nul_at (id_of t i) ≡ None
id_has_none t h i = no_nul (id_of t i) (id_clean t h i)
