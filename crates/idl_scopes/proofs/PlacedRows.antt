-- Each declaration is among those of its scope.
use Rattle.std.proofs.Common.{◌≡◌, ℕ, zero, suc, ◌+◌, Bool, true, false, List, [], ◌∷◌, ◌++◌, length, set, Some, refl, sym, ap, subst, ◌∙◌, arith}
use Rattle.std.specs.Prelude.{slice_get, nat_eq, if◌then◌else◌}
use Rattle.std.proofs.lemmas.Bool.{and_parts, and_from}
use Rattle.std.proofs.lemmas.Option.{none-some, same_Some}
use Rattle.idl_scopes.specs.Bases.{holds}
use Rattle.idl_scopes.specs.Groups.{numbers_of, placed_in}
use Rattle.idl_scopes.specs.declared.declared.Declared.{Declared}
use Rattle.idl_scopes.specs.declared.groups.Groups.{Groups}

abbrev Placed : Groups ℕ → Declared → ℕ → Bool
Placed g d n = holds (numbers_of nat_eq g d.scope) n

-- where no number is lost
pub placed_kept : (g g' : Groups ℕ) (n : ℕ) (ds : List Declared) → ((k m : ℕ) → holds (numbers_of nat_eq g k) m ≡ true → holds (numbers_of nat_eq g' k) m ≡ true)
    → placed_in g n ds ≡ true → placed_in g' n ds ≡ true
placed_kept g g' n [] kept all = refl
placed_kept g g' n (d ∷ ds) kept all =
    let p = and_parts (Placed g d n) (placed_in g (n + 1) ds) all in
    and_from (Placed g' d n) (placed_in g' (n + 1) ds) (kept d.scope n p.0) (placed_kept g g' (n + 1) ds kept p.1)

module _ (g : Groups ℕ) where
  -- what is at a place is there
  at : (n : ℕ) (ds : List Declared) (i : ℕ) (d : Declared) → placed_in g n ds ≡ true → slice_get ds i ≡ Some d → Placed g d (n + i) ≡ true
  at n [] i d all is = absurd (none-some d is)
  at n (x ∷ xs) zero d all is =
      let p = and_parts (Placed g x n) (placed_in g (n + 1) xs) all in
      let e : n + 0 ≡ n = omega arith in
      subst (λ (y : Declared). Placed g y (n + 0) ≡ true) (same_Some x d is) (subst (λ (m : ℕ). Placed g x m ≡ true) (sym e) p.0)
  at n (x ∷ xs) (suc i) d all is =
      let p = and_parts (Placed g x n) (placed_in g (n + 1) xs) all in
      let e : (n + 1) + i ≡ n + suc i = omega arith in
      subst (λ (m : ℕ). Placed g d m ≡ true) e (at (n + 1) xs i d p.1 is)

  pub placed_at : (ds : List Declared) (i : ℕ) (d : Declared) (scope : ℕ) → placed_in g 0 ds ≡ true → slice_get ds i ≡ Some d → d.scope ≡ scope → holds (numbers_of nat_eq g scope) i ≡ true
  placed_at ds i d scope all is there =
      let e : 0 + i ≡ i = omega arith in
      subst (λ (s : ℕ). holds (numbers_of nat_eq g s) i ≡ true) there (subst (λ (m : ℕ). Placed g d m ≡ true) e (at 0 ds i d all is))

  behind : (n : ℕ) (ds : List Declared) (d : Declared) → placed_in g n ds ≡ true → Placed g d (n + length ds) ≡ true → placed_in g n (ds ++ d ∷ []) ≡ true
  behind n [] d all one =
      let e : n + 0 ≡ n = omega arith in
      and_from (Placed g d n) true (subst (λ (m : ℕ). Placed g d m ≡ true) e one) refl
  behind n (x ∷ xs) d all one =
      let p = and_parts (Placed g x n) (placed_in g (n + 1) xs) all in
      let e : n + suc (length xs) ≡ (n + 1) + length xs = omega arith in
      and_from (Placed g x n) (placed_in g (n + 1) (xs ++ d ∷ [])) p.0 (behind (n + 1) xs d p.1 (subst (λ (m : ℕ). Placed g d m ≡ true) e one))

  -- one more declaration, which is among those of its scope
  pub placed_put : (ds later : List Declared) (d : Declared) (b : Bool) (n : ℕ) → later ≡ (if b then ds ++ d ∷ [] else ds) → n ≡ length ds
      → placed_in g 0 ds ≡ true → Placed g d n ≡ true → placed_in g 0 later ≡ true
  placed_put ds later d true n is last all one =
      let e : n ≡ 0 + length ds = omega (arith, last) in
      subst (λ (xs : List Declared). placed_in g 0 xs ≡ true) (sym is) (behind 0 ds d all (subst (λ (m : ℕ). Placed g d m ≡ true) e one))
  placed_put ds later d false n is last all one = subst (λ (xs : List Declared). placed_in g 0 xs ≡ true) (sym is) all

  written : (n : ℕ) (ds : List Declared) (i : ℕ) (d e : Declared) → slice_get ds i ≡ Some d → e.scope ≡ d.scope → placed_in g n ds ≡ true → placed_in g n (set ds i e) ≡ true
  written n [] i d e is same all = absurd (none-some d is)
  written n (x ∷ xs) zero d e is same all =
      let p = and_parts (Placed g x n) (placed_in g (n + 1) xs) all in
      and_from (Placed g e n) (placed_in g (n + 1) xs)
      (subst (λ (s : ℕ). holds (numbers_of nat_eq g s) n ≡ true) (ap (λ (y : Declared). y.scope) (same_Some x d is) ∙ sym same) p.0) p.1
  written n (x ∷ xs) (suc i) d e is same all =
      let p = and_parts (Placed g x n) (placed_in g (n + 1) xs) all in
      and_from (Placed g x n) (placed_in g (n + 1) (set xs i e)) p.0 (written (n + 1) xs i d e is same p.1)

  -- a declaration of the same scope in its place
  pub placed_written : (ds : List Declared) (i : ℕ) (d e : Declared) → slice_get ds i ≡ Some d → e.scope ≡ d.scope → placed_in g 0 ds ≡ true → placed_in g 0 (set ds i e) ≡ true
  placed_written ds i d e is same all = written 0 ds i d e is same all
