-- The names of a scope and of those around it, one at a time.
use Rattle.std.proofs.Common.{◌≡◌, ◌-◌, ◌<◌, arith, ℕ, zero, suc, false, List, [], ◌∷◌, ◌++◌, codes, append_assoc, refl, sym, ap, ◌∙◌}
use Rattle.std.specs.Prelude.{if◌then◌else◌, ◌==◌}
use Rattle.std.proofs.lemmas.Bool.Decides.{nat_tests}
use Rattle.idl_scopes.specs.Table.{Table}
use Rattle.idl_scopes.specs.Finding.{outer, name_at}
use Rattle.idl_scopes.specs.Ids.{within}

nothing_more : (xs ys : List ℕ) → ys ≡ [] → xs ≡ xs ++ ys
nothing_more [] ys e = sym e
nothing_more (x ∷ xs) ys e = ap (λ zs. x ∷ zs) (nothing_more xs ys e)

pub around_file : (n : ℕ) (t : Table) (scope : ℕ) → scope ≡ 0 → within n t scope ≡ []
unfolding within
around_file zero t scope h = refl
around_file (suc n) t scope h = ap (λ k. if k == 0 then [] else ((within n t (outer t k) ++ name_at t (k - 1)) ++ codes "/")) h

past_none : (n : ℕ) (t : Table) (scope : ℕ) → n ≡ 0 → within n t scope ≡ []
unfolding within
past_none zero t scope h = refl
past_none (suc n) t scope h = absurd (omega arith)

-- around the file, and where no more is asked, nothing is written
pub none_around : (n : ℕ) (t : Table) (scope : ℕ) (out : List ℕ) → scope ≡ 0 → out ≡ out ++ within n t scope
none_around n t scope out h = nothing_more out (within n t scope) (around_file n t scope h)

pub none_asked : (n : ℕ) (t : Table) (scope : ℕ) (out : List ℕ) → n ≡ 0 → out ≡ out ++ within n t scope
none_asked n t scope out h = nothing_more out (within n t scope) (past_none n t scope h)

pub is_not_0 : (scope : ℕ) → 0 < scope → (scope == 0) ≡ false
is_not_0 scope h = grind (arith, nat_tests)

one_more : (n : ℕ) (t : Table) (scope : ℕ) → 0 < n → 0 < scope → within n t scope ≡ (within (n - 1) t (outer t scope) ++ name_at t (scope - 1)) ++ codes "/"
unfolding within
one_more zero t scope h k = absurd (omega arith)
one_more (suc n) t scope h k =
    let e : suc n - 1 ≡ n = omega arith in
    rw e (ap (λ b. if b then [] else ((within n t (outer t scope) ++ name_at t (scope - 1)) ++ codes "/")) (is_not_0 scope k))

joins : (a b c d : List ℕ) → ((a ++ b) ++ c) ++ d ≡ a ++ ((b ++ c) ++ d)
joins a b c d = simp append_assoc

-- what was written around, then the scope's name, then a `/`
pub wrote : (n : ℕ) (t : Table) (scope : ℕ) (out first second third : List ℕ) (around : ℕ) (name : List ℕ) → 0 < n → 0 < scope → around ≡ outer t scope
    → first ≡ out ++ within (n - 1) t around → name ≡ name_at t (scope - 1) → second ≡ first ++ name → third ≡ second ++ 47 ∷ [] → third ≡ out ++ within n t scope
wrote n t scope out first second third around name pos_n pos_scope is_around is_first is_name is_second is_third =
    is_third
    ∙ (λ j. is_second j ++ 47 ∷ [])
    ∙ (λ j. (is_first j ++ is_name j) ++ 47 ∷ [])
    ∙ (λ j. ((out ++ within (n - 1) t (is_around j)) ++ name_at t (scope - 1)) ++ 47 ∷ [])
    ∙ joins out (within (n - 1) t (outer t scope)) (name_at t (scope - 1)) (codes "/")
    ∙ ap (λ zs. out ++ zs) (sym (one_more n t scope pos_n pos_scope))
