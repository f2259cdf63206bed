-- The least place whose share is a given one.
use Rattle.std.proofs.Common.{◌≡◌, ℕ, ◌+◌, ◌-◌, ◌*◌, ◌/◌, ◌<◌, ◌≤◌, arith, Some, None, inl, inr}
use Rattle.std.proofs.lemmas.Bool.{cases_lt}
use Rattle.std.proofs.lemmas.Nat.{div_below, le-div}
use Rattle.std.proofs.Math.Nat.{div-lt_iff_lt-mul, le-div_iff_mul-le, mul-lt-mul_of_pos_right, mul_comm, add-mul, one-mul, mul-le-mul_right, lt-div-mul-add, div-mul-le_self, le_refl}
use Rattle.priority_maps.specs.Linear.{share}
use Rattle.priority_maps.specs.Least.{FindsPlace}

-- a place below the number of CORBA priorities has a share below the number of natives
pub share_below : (n c k : ℕ) → k < c → 0 < n → share n c k < n
share_below n c k h some = div_below (k * n) c n (omega arith) (rw (mul_comm n c) (mul-lt-mul_of_pos_right h some))

pub share_rises : (n c j k : ℕ) → 0 < c → j ≤ k → share n c j ≤ share n c k
share_rises n c j k hc h =
    let down : j * n / c * c ≤ j * n = div-mul-le_self (j * n) c in
    let more : j * n ≤ k * n = mul-le-mul_right n h in
    le-div (j * n / c) (k * n) c hc (omega arith)

-- the first place whose share is at least o
abbrev pub first_place : ℕ → ℕ → ℕ → ℕ
first_place n c o = (o * c + (n - 1)) / n

pub below_first : (n c o k : ℕ) → 0 < n → 0 < c → k < first_place n c o → share n c k < o
below_first n c o k hn hc h =
    let room : (k + 1) * n ≤ o * c + (n - 1) = (le-div_iff_mul-le {k = n} {x = k + 1} {y = o * c + (n - 1)} hn).0 (omega arith) in
    let split : (k + 1) * n ≡ k * n + 1 * n = add-mul k 1 n in
    let one : 1 * n ≡ n = one-mul n in
    let below : k * n < o * c = omega arith in
    (div-lt_iff_lt-mul {k = c} {x = k * n} {y = o} hc).1 below

pub from_first : (n c o k : ℕ) → 0 < n → 0 < c → first_place n c o ≤ k → o ≤ share n c k
from_first n c o k hn hc h =
    let above : o * c + (n - 1) < first_place n c o * n + n = lt-div-mul-add hn in
    let more : first_place n c o * n ≤ k * n = mul-le-mul_right n h in
    le-div o (k * n) c hc (omega arith)

first_low : (n c o k : ℕ) → 0 < n → 0 < c → share n c k ≡ o → first_place n c o ≤ k
first_low n c o k hn hc e =
    elim (cases_lt k (first_place n c o)) [ inl h ↦ let low : share n c k < o = below_first n c o k hn hc h in absurd (omega arith) | inr h ↦ h ]

-- the first place with at least this share has it, if any place has
pub first_has : (n c o k : ℕ) → 0 < n → 0 < c → share n c k ≡ o → (first_place n c o ≤ k) × (share n c (first_place n c o) ≡ o)
first_has n c o k hn hc e =
    let low : first_place n c o ≤ k = first_low n c o k hn hc e in
    let up : o ≤ share n c (first_place n c o) = from_first n c o (first_place n c o) hn hc (le_refl (first_place n c o)) in
    let down : share n c (first_place n c o) ≤ share n c k = share_rises n c _ k hc low in
    (low, omega arith)

pub place_found : (n c o : ℕ) → 0 < n → 0 < c → first_place n c o < c → share n c (first_place n c o) ≡ o → FindsPlace n c o (Some (first_place n c o))
place_found n c o hn hc h e = (h, e, λ j hj ej. (first_has n c o j hn hc ej).0)

pub place_missing : (n c o : ℕ) → 0 < n → 0 < c → (first_place n c o < c → share n c (first_place n c o) ≡ o → ⊥) → FindsPlace n c o None
place_missing n c o hn hc h = λ k hk ek.
    let found = first_has n c o k hn hc ek in
    let low : first_place n c o ≤ k = found.0 in
    h (omega arith) found.1

pub place_high : (n c o : ℕ) → 0 < n → 0 < c → c ≤ first_place n c o → FindsPlace n c o None
place_high n c o hn hc h = place_missing n c o hn hc (λ low e. absurd (omega arith))

pub place_off : (n c o : ℕ) → 0 < n → 0 < c → (share n c (first_place n c o) ≡ o → ⊥) → FindsPlace n c o None
place_off n c o hn hc off = place_missing n c o hn hc (λ low e. off e)
