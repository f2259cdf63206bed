-- No two seats of a register have one heir, and none has the first seat.
use Rattle.std.specs.Prelude.{◌≡◌, ℕ, Bool, true, false, ◌&&◌, nat_lt, ◌+◌, Option, Some, None, if◌then◌else◌}
use Rattle.std.proofs.lemmas.Option.{same_Some}
use Rattle.std.proofs.Common.{refl, sym, ap, ◌∙◌, arith}
use Rattle.std.proofs.Math.Dec.{eqb}
use Rattle.std.proofs.lemmas.Bool.{eqb-true}
use Rattle.turn_cell.specs.Numbers.{Injects, NotFirst}
use Rattle.turn_cell.specs.Register.{heir}

none_is : {A : Type 0} (b : ℕ) → ◌≡◌ {A = Option ℕ} None (Some b) → A
none_is b e = absurd (cc)

-- what an heir tells
pub tells : (b c : Bool) (k p : ℕ) → ◌≡◌ {A = Option ℕ} (if b && c then Some (k + 1) else None) (Some p)
    → (b ≡ true) × (k + 1 ≡ p)
tells true true k p e = (refl, same_Some (k + 1) p e)
tells true false k p e = none_is p e
tells false c k p e = none_is p e

pub one_parent_of : Injects heir
one_parent_of n k m j p e f =
    let a = tells (eqb n 0) (nat_lt k 8) k p e in let b = tells (eqb m 0) (nat_lt j 8) j p f in
    let x = a.1 in let y = b.1 in (eqb-true n 0 a.0 ∙ sym (eqb-true m 0 b.0), omega arith)

pub never_first_of : NotFirst heir
never_first_of n k e =
    let a = tells (eqb n 0) (nat_lt k 8) k 0 e in let x = a.1 in absurd (omega arith)
