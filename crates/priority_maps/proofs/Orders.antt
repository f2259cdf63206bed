-- What linear maps keep.
use Rattle.std.proofs.Common.{◌≡◌, ℕ, ℤ, ◌+◌, ◌-◌, ◌*◌, ◌/◌, ◌<◌, ◌≤◌, Some, pos, ◌+ℤ◌, ◌-ℤ◌, ◌≤ℤ◌, unsigned_abs, arith, refl, ap, ◌∙◌}
use Rattle.std.proofs.lemmas.Int.{ints}
use Rattle.std.proofs.lemmas.Nat.{le-div}
use Rattle.std.proofs.Math.Nat.{mul-div_cancel, zero-div, zero-mul}
use Rattle.priority_maps.specs.Linear.{LinearMap, natives, corbas, share, identity}
use Rattle.priority_maps.specs.Maps.{linear}
use Rattle.priority_maps.specs.Laws.{IsOrdered, KeepsOrder, KeepsEnds, IsIdentity}
use Rattle.priority_maps.proofs.Shares.{share_below, share_rises}
use Rattle.priority_maps.proofs.Natives.{native_of, native_within, within}

pub keeps_order : (m : LinearMap) → IsOrdered m → KeepsOrder m
keeps_order m h = λ p q a b le hp hq.
    let (low, high, at) = native_of m p a hp in
    let (low', high', at') = native_of m q b hq in
    let rises : share (natives m) (corbas m) (p - m.low) ≤ share (natives m) (corbas m) (q - m.low)
    = share_rises (natives m) (corbas m) (p - m.low) (q - m.low) (omega arith) (omega arith) in
    omega (arith, ints)

-- the last place has the last share, unless there are more shares than places
last_share : (u k : ℕ) → u + 1 ≤ k + 1 → share (u + 1) (k + 1) k ≡ u
last_share u k few =
    let left : u * (k + 1) ≡ u * k + u = grind arith in
    let right : k * (u + 1) ≡ u * k + k = grind arith in
    let low : u ≤ k * (u + 1) / (k + 1) = le-div u (k * (u + 1)) (k + 1) (omega arith) (omega arith) in
    let high : share (u + 1) (k + 1) k < u + 1 = share_below (u + 1) (k + 1) k (omega arith) (omega arith) in
    omega arith

span_of : (low high : ℤ) → low ≤ℤ high → low +ℤ pos (unsigned_abs (high -ℤ low)) ≡ high
span_of low high h = omega (arith, ints)

none_of : (n c : ℕ) → 0 * n / c ≡ 0
none_of n c = ap (λ k. k / c) (zero-mul n) ∙ zero-div c

at_low : (z : ℤ) (s : ℕ) → s ≡ 0 → z +ℤ pos s ≡ z
at_low z s h = omega (arith, ints)

pub keeps_ends : (m : LinearMap) → IsOrdered m → KeepsEnds m
keeps_ends m h = record {
  low =
      let none : m.low - m.low ≡ 0 = omega arith in
      rw (within m.low m.low m.high (omega arith) h.corba, none) (ap Some (at_low m.native_low _ (none_of (natives m) (corbas m))));
  high = λ few.
      rw (within m.low m.high m.high h.corba (omega arith), last_share (unsigned_abs (m.native_high -ℤ m.native_low)) (m.high - m.low) few)
      (ap Some (span_of m.native_low m.native_high h.native));
  within = λ p n at. native_within m p n h.native at;
}

at_place : (z : ℤ) (s p q : ℕ) → z ≡ pos 0 → s ≡ q → p ≡ q → z +ℤ pos s ≡ pos p
at_place z s p q h k l = omega (arith, ints)

pub is_identity : IsIdentity (linear identity)
is_identity p h =
    let there : (p - 0) * 32768 / 32768 ≡ p - 0 = mul-div_cancel (p - 0) {n = 32768} (omega arith) in
    rw (within 0 p 32767 (omega arith) (omega arith)) (ap Some (at_place (pos 0) ((p - 0) * 32768 / 32768) p (p - 0) refl there (omega arith)))
