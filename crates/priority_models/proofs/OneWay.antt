-- Each request is placed in one way.
use Rattle.std.proofs.Common.{◌≡◌, ℕ, Bool, true, false, ◌&&◌, nat_le, Option, Some, None, Result, Ok, Err, arith, refl, sym, ap, ◌∙◌, ◌⊎◌, inl, inr}
use Rattle.std.proofs.lemmas.Option.{same_Some}
use Rattle.std.proofs.lemmas.Bool.Decides.{nat_tests}
use Rattle.orb_base.specs.Pool.{Pool}
use Rattle.orb_base.specs.Priorities.{lane_of}
use Rattle.orb_base.specs.Span.{Span, Holds}
use Rattle.priority_models.specs.Placing.{Placed, IsAllowed}
use Rattle.priority_models.specs.Laws.{PlacesOneWay}
use Rattle.priority_models.specs.declared.misplaced.Misplaced.{Misplaced}
use Rattle.priority_models.specs.declared.misplaced.Misplaced.TheVariants.{OutsideBand, NoLane}

held_or_not : (band : Span) (p : ℕ) (b : Bool) → (nat_le band.low p && nat_le p band.high) ≡ b → Holds band p ⊎ (Holds band p → ⊥)
held_or_not band p true is = inl (grind (arith, nat_tests))
held_or_not band p false is = inr (λ h. grind (arith, nat_tests))

allowed_or_not : (band : Option Span) (p : ℕ) → IsAllowed band p ⊎ (IsAllowed band p → ⊥)
allowed_or_not None p = inl tt
allowed_or_not (Some band) p = held_or_not band p (nat_le band.low p && nat_le p band.high) refl

placed_by : (pool : Pool) (band : Option Span) (p : ℕ) (lane : Option ℕ) → lane_of pool p ≡ lane → IsAllowed band p → (result : Result ℕ Misplaced) × Placed pool band p result
placed_by pool band p (Some lane) is allowed = (Ok lane, (allowed, is))
placed_by pool band p None is allowed = (Err NoLane, (allowed, is))

one_of : (pool : Pool) (band : Option Span) (p : ℕ) (a b : Result ℕ Misplaced) → Placed pool band p a → Placed pool band p b → a ≡ b
one_of pool band p (Ok x) (Ok y) h k = ap Ok (same_Some x y (sym h.1 ∙ k.1))
one_of pool band p (Ok x) (Err OutsideBand) h k = absurd (k h.0)
one_of pool band p (Ok x) (Err NoLane) h k = absurd (cc)
one_of pool band p (Err OutsideBand) (Ok y) h k = absurd (h k.0)
one_of pool band p (Err OutsideBand) (Err OutsideBand) h k = refl
one_of pool band p (Err OutsideBand) (Err NoLane) h k = absurd (h k.0)
one_of pool band p (Err NoLane) (Ok y) h k = absurd (cc)
one_of pool band p (Err NoLane) (Err OutsideBand) h k = absurd (k h.0)
one_of pool band p (Err NoLane) (Err NoLane) h k = refl

pub places_one_way : PlacesOneWay
places_one_way = record {
  some = λ pool band p. elim (allowed_or_not band p) [
    | inl allowed ↦ placed_by pool band p (lane_of pool p) refl allowed
    | inr outside ↦ (Err OutsideBand, outside)
  ];
  one = one_of;
}
