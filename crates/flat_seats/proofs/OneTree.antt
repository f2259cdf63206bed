-- No two seats have one heir, and none has the first seat.
use Rattle.std.specs.Prelude.{◌≡◌, ℕ, Bool, true, false, ◌&&◌, nat_lt, ◌+◌, Option, Some, None, if◌then◌else◌}
use Rattle.std.proofs.lemmas.Option.{same_Some}
use Rattle.std.proofs.Common.{refl, sym, ◌∙◌, arith}
use Rattle.std.proofs.Math.Dec.{eqb}
use Rattle.std.proofs.lemmas.Bool.{eqb-true}
use Rattle.turn_cell.specs.Numbers.{Injects, NotFirst}
use Rattle.flat_seats.specs.Flat.{flat}

none_is : {A : Type 0} (b : ℕ) → ◌≡◌ {A = Option ℕ} None (Some b) → A
none_is b e = absurd (cc)

-- what an heir says of its seat
says : (b c : Bool) (k p : ℕ) → ◌≡◌ {A = Option ℕ} (if b && c then Some (k + 1) else None) (Some p)
    → (b ≡ true) × (k + 1 ≡ p)
says true true k p e = (refl, same_Some (k + 1) p e)
says true false k p e = none_is p e
says false c k p e = none_is p e

pub flat_injects : (most : ℕ) → Injects (flat most)
flat_injects most n k m j p e f =
    let a = says (eqb n 0) (nat_lt k most) k p e in let b = says (eqb m 0) (nat_lt j most) j p f in
    let x = a.1 in let y = b.1 in (eqb-true n 0 a.0 ∙ sym (eqb-true m 0 b.0), omega arith)

pub flat_not_first : (most : ℕ) → NotFirst (flat most)
flat_not_first most n k e =
    let a = says (eqb n 0) (nat_lt k most) k 0 e in let x = a.1 in absurd (omega arith)
