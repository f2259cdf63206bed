-- The numbers of a register's seats, as tests split and join them.
use Rattle.std.proofs.Common.{◌≡◌, ℕ, zero, suc, ◌+◌, ◌<◌, ◌&&◌, Bool, List, [], ◌∷◌, ◌++◌, map, Some, None, sym, ap, ap₂, refl, subst, ◌∙◌, arith, inl, inr}
use Rattle.std.specs.Prelude.{if◌then◌else◌, nat_lt}
use Rattle.std.proofs.lemmas.Bool.{le-leb, eq-eqb}
use Rattle.std.proofs.Math.Dec.{eqb}
use Rattle.std.proofs.lemmas.Option.{same_Some}
use Rattle.turn_cell.specs.declared.board.Gone.{Gone}
use Rattle.turn_cell.specs.Numbers.{Has, IsWhole}
use Rattle.turn_cell.specs.Register.{heir}
use Rattle.turn_cell.specs.RegisterHeirs.{tells}
use Rattle.turn_cell.specs.Team.{team}
use Rattle.turn_cell.specs.Whole.{numbers}

-- the first seat has an heir below 8
pub there : (n k : ℕ) → n ≡ 0 → k < 8 → heir n k ≡ Some (k + 1)
there n k e f = ap₂ (λ (b c : Bool). if b && c then Some (k + 1) else None) (eq-eqb n 0 e) (le-leb (suc k) 8 (omega arith))

-- the first seat's heir
pub heir_is : (n k m : ℕ) → n ≡ 0 → k < 8 → heir n k ≡ Some m → m ≡ k + 1
heir_is n k m e f h = sym (same_Some (k + 1) m (sym (there n k e f) ∙ h))

module _ {O C R : Type 0} where
  abbrev pairs : List (Gone O C R) → List (ℕ × ℕ)
  pairs = map {B = ℕ × ℕ} (λ (d : Gone O C R). (d.number, d.splits))

  pairs_append : (ds : List (Gone O C R)) (d : Gone O C R) → pairs (ds ++ d ∷ []) ≡ pairs ds ++ (d.number, d.splits) ∷ []
  pairs_append [] d = refl
  pairs_append (x ∷ xs) d = ap (λ l. (x.number, x.splits) ∷ l) (pairs_append xs d)

  -- a seat that is joined adds its number
  pub adds : (n k : ℕ) (ds : List (Gone O C R)) (d : Gone O C R) → numbers n k (ds ++ d ∷ []) ≡ numbers n k ds ++ (d.number, d.splits) ∷ []
  adds n k ds d = ap (λ l. (n, k) ∷ l) (pairs_append ds d)

-- two seats
pub two : IsWhole heir ((0, 1) ∷ (1, 0) ∷ [])
two = (
  inl refl,
  (
    (λ k lt m e. let t = tells (eqb 0 0) (nat_lt k 8) k m e in let p = t.1 in inr (inl (omega arith))),
    ((λ k lt m e. absurd (omega arith)), tt),
  ),
)

-- the heirs of the first seat are in the team
stands : (k : ℕ) → k < 7 → Has (k + 1) (team 7)
stands zero l = inr (inl refl)
stands (suc zero) l = inr (inr (inl refl))
stands (suc (suc zero)) l = inr (inr (inr (inl refl)))
stands (suc (suc (suc zero))) l = inr (inr (inr (inr (inl refl))))
stands (suc (suc (suc (suc zero)))) l = inr (inr (inr (inr (inr (inl refl)))))
stands (suc (suc (suc (suc (suc zero))))) l = inr (inr (inr (inr (inr (inr (inl refl))))))
stands (suc (suc (suc (suc (suc (suc zero)))))) l = inr (inr (inr (inr (inr (inr (inr (inl refl)))))))
stands (suc (suc (suc (suc (suc (suc (suc k))))))) l = absurd (omega arith)

none_below : (n : ℕ) → (k : ℕ) → k < 0 → (m : ℕ) → heir n k ≡ Some m → Has m (team 7)
none_below n k l m e = absurd (omega arith)

-- eight seats
pub eight : IsWhole heir (team 7)
eight = (
  inl refl,
  (
    (λ k l m e. let t = tells (eqb 0 0) (nat_lt k 8) k m e in subst (λ (z : ℕ). Has z (team 7)) t.1 (stands k l)),
    (none_below 1, (none_below 2, (none_below 3, (none_below 4, (none_below 5, (none_below 6, (none_below 7, tt))))))),
  ),
)
