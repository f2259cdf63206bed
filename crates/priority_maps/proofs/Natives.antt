-- The least CORBA priority of a native one, by the first place of its share.
use Rattle.std.proofs.Common.{◌≡◌, ℕ, ℤ, ◌+◌, ◌-◌, ◌<◌, ◌≤◌, Bool, true, false, ◌&&◌, nat_le, cond, Some, None, pos, ◌+ℤ◌, ◌-ℤ◌, ◌≤ℤ◌, ◌<ℤ◌, unsigned_abs, arith, refl, ◌∙◌, ◌⊎◌, inl, inr}
use Rattle.std.proofs.lemmas.Bool.Decides.{nat_tests}
use Rattle.std.proofs.lemmas.Int.{ints}
use Rattle.priority_maps.specs.Linear.{LinearMap, natives, corbas, share, linear_native}
use Rattle.priority_maps.specs.Least.{HasNone, IsLeast, FindsPlace}
use Rattle.priority_maps.proofs.Shares.{share_below}

under : (b : Bool) (x y : ℤ) → cond b (Some x) None ≡ Some y → (b ≡ true) × (x ≡ y)
under true x y h = (refl, cc)
under false x y h = absurd (cc)

same_share : (z : ℤ) (a b : ℕ) → z +ℤ pos a ≡ z +ℤ pos b → a ≡ b
same_share z a b h = omega (arith, ints)

bounds : (a b c : ℕ) → (nat_le a b && nat_le b c) ≡ true → (a ≤ b) × (b ≤ c)
bounds a b c h = grind (arith, nat_tests)

pub within : (a b c : ℕ) → a ≤ b → b ≤ c → (nat_le a b && nat_le b c) ≡ true
within a b c h k = grind (arith, nat_tests)

-- what a priority with a native one is
pub native_of : (m : LinearMap) (q : ℕ) (n : ℤ) → linear_native m q ≡ Some n
    → (m.low ≤ q) × (q ≤ m.high) × (m.native_low +ℤ pos (share (natives m) (corbas m) (q - m.low)) ≡ n)
native_of m q n h =
    let parts = under (nat_le m.low q && nat_le q m.high) _ _ h in
    let ends = bounds m.low q m.high parts.0 in
    (ends.0, ends.1, parts.1)

span_of : (low high : ℤ) → low ≤ℤ high → pos (unsigned_abs (high -ℤ low)) ≡ high -ℤ low
span_of low high h = omega (arith, ints)

-- native priorities lie in the native range
pub native_within : (m : LinearMap) (q : ℕ) (n : ℤ) → m.native_low ≤ℤ m.native_high → linear_native m q ≡ Some n → (m.native_low ≤ℤ n) × (n ≤ℤ m.native_high)
native_within m q n rises h =
    let (low, high, same) = native_of m q n h in
    let below : share (natives m) (corbas m) (q - m.low) < natives m = share_below (natives m) (corbas m) (q - m.low) (omega arith) (omega arith) in
    let span = span_of m.native_low m.native_high rises in
    (omega (arith, ints), omega (arith, ints))

pub least_found : (m : LinearMap) (n : ℤ) (o k : ℕ) → m.low ≤ m.high → n ≡ m.native_low +ℤ pos o → FindsPlace (natives m) (corbas m) o (Some k) → IsLeast (linear_native m) n (m.low + k)
least_found m n o k h same found =
    let (inside, e, least) = found in
    let back : (m.low + k) - m.low ≡ k = omega arith in
    record {
      has = rw (within m.low (m.low + k) m.high (omega arith) (omega arith), back, e, same);
      least = λ q hq.
          let (low, high, at) = native_of m q n hq in
          let there : share (natives m) (corbas m) (q - m.low) ≡ o = same_share m.native_low _ _ (at ∙ same) in
          let first : k ≤ q - m.low = least (q - m.low) (omega arith) there in
          omega arith;
    }

pub least_missing : (m : LinearMap) (n : ℤ) (o : ℕ) → m.low ≤ m.high → n ≡ m.native_low +ℤ pos o → FindsPlace (natives m) (corbas m) o None → HasNone (linear_native m) n
least_missing m n o h same none = λ q hq.
    let (low, high, at) = native_of m q n hq in
    none (q - m.low) (omega arith) (same_share m.native_low _ _ (at ∙ same))

pub outside : (m : LinearMap) (n : ℤ) → m.native_low ≤ℤ m.native_high → (n <ℤ m.native_low) ⊎ (m.native_high <ℤ n) → HasNone (linear_native m) n
outside m n rises (inl h) = λ q hq. let both = native_within m q n rises hq in absurd (omega (arith, ints))
outside m n rises (inr h) = λ q hq. let both = native_within m q n rises hq in absurd (omega (arith, ints))
