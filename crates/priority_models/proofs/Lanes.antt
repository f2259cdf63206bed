-- The lane of a priority is one of the pool's.
use Rattle.std.proofs.Common.{◌≡◌, ◌==◌, ℕ, Bool, true, false, cond, Some, position, length, arith, refl, sym, ◌∙◌}
use Rattle.std.proofs.lemmas.Bool.{false≢true}
use Rattle.std.proofs.lemmas.Bool.Decides.{nat_tests}
use Rattle.std.proofs.lemmas.List.Quantifiers.{position-Some}
use Rattle.orb_base.specs.Pool.{Pool, IsWellFormed}
use Rattle.orb_base.specs.Priorities.{lane_of}
use Rattle.priority_models.specs.Placing.{IsLaneOf}

same : (a b : ℕ) → (a == b) ≡ true → a ≡ b
same a b h = grind (arith, nat_tests)

lane_by : (pool : Pool) (p lane : ℕ) (b : Bool) → pool.laned ≡ b → (b ≡ false → length pool.lanes ≡ 1)
    → cond b (position (λ l. l.priority == p) pool.lanes) (Some 0) ≡ Some lane → IsLaneOf pool p lane
lane_by pool p lane true is flat h = record {
  inside = (position-Some (λ l. l.priority == p) pool.lanes lane (record { priority = 0; statics = 0; dynamics = 0 }) h).0;
  priority = λ laned d. same _ p (position-Some (λ l. l.priority == p) pool.lanes lane d h).1;
}
lane_by pool p lane false is flat h =
    let one = flat refl in
    let first : lane ≡ 0 = cc in
    record { inside = omega arith; priority = λ laned. absurd (false≢true (sym is ∙ laned)) }

pub lane_is : (pool : Pool) (p lane : ℕ) → IsWellFormed pool → lane_of pool p ≡ Some lane → IsLaneOf pool p lane
lane_is pool p lane well h = lane_by pool p lane pool.laned refl well.flat.one_lane h
