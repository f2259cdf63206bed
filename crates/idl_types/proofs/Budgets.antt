-- What is left when two numbers are taken off one after the other.
use Rattle.std.proofs.Common.{◌≡◌, ℕ, ◌+◌, ◌-◌, ◌*◌, ◌/◌, ◌<◌, ◌≤◌, Bool, Some, None, inl, inr, sym, ap, ◌∙◌, arith}
use Rattle.std.specs.Prelude.{if◌then◌else◌, is_some, max, nat_le, ◌&&◌}
use Rattle.std.proofs.lemmas.Bool.{le-leb, lt-leb, cases_lt, and_left, and_right, and_from}
use Rattle.std.proofs.lemmas.Option.{none-some, same_Some}
use Rattle.std.proofs.Math.Nat.{le-div_iff_mul-le}
use Rattle.idl_types.specs.Budget.{left}

left_yes : (b n : ℕ) → n ≤ b → left b n ≡ Some (b - n)
left_yes b n le = ap (λ (t : Bool). if t then Some (b - n) else None) (le-leb n b le)

left_no : (b n : ℕ) → b < n → left b n ≡ None
left_no b n lt = ap (λ (t : Bool). if t then Some (b - n) else None) (lt-leb n b lt)

-- what was left says that it was enough
pub enough : (b n r : ℕ) → left b n ≡ Some r → (n ≤ b) × (r ≡ b - n)
enough b n r e = elim (cases_lt b n) [
  | inl lt ↦ absurd (none-some r (sym (left_no b n lt) ∙ e))
  | inr le ↦ (le, same_Some r (b - n) (sym e ∙ left_yes b n le))
]

-- and what wasn't, that it was too little
pub short : (b n : ℕ) → left b n ≡ None → b < n
short b n e = elim (cases_lt b n) [ inl lt ↦ lt | inr le ↦ absurd (none-some (b - n) (sym e ∙ left_yes b n le)) ]

-- the two taken off at once
pub left_on : (b m n r : ℕ) → left b m ≡ Some r → left r n ≡ left b (m + n)
left_on b m n r e =
    let h = enough b m r e in
    elim (cases_lt r n) [
      | inl lt ↦ left_no r n lt ∙ sym (left_no b (m + n) (omega (arith, h.0, h.1)))
      | inr le ↦ left_yes r n le ∙ ap Some (let is : r - n ≡ b - (m + n) = omega (arith, h.0, h.1) in is) ∙ sym (left_yes b (m + n) (omega (arith, h.0, h.1)))
    ]

pub left_short : (b m n : ℕ) → left b m ≡ None → left b (m + n) ≡ None
left_short b m n e = left_no b (m + n) (omega (arith, short b m e))

pub left_none : (b : ℕ) → left b 0 ≡ Some b
left_none b = left_yes b 0 (omega arith) ∙ ap Some (let is : b - 0 ≡ b = omega arith in is)

-- a test of what is left
pub left_test : (b n : ℕ) → is_some (left b n) ≡ nat_le n b
left_test b n = elim (cases_lt b n) [
  | inl lt ↦ ap is_some (left_no b n lt) ∙ sym (lt-leb n b lt)
  | inr le ↦ ap is_some (left_yes b n le) ∙ sym (le-leb n b le)
]

-- so many times what is taken off of a part
pub left_times : (b n a r : ℕ) → 0 < n → left (b / n) a ≡ Some r → Some (b - (b / n - r) * n) ≡ left b (a * n)
left_times b n a r some e =
    let h = enough (b / n) a r e in
    let fits : a * n ≤ b = (le-div_iff_mul-le {k = n} {x = a} {y = b} some).0 h.0 in
    let back : b / n - r ≡ a = omega (arith, h.0, h.1) in
    ap (λ (x : ℕ). Some (b - x * n)) back ∙ sym (left_yes b (a * n) fits)

pub short_times : (b n a : ℕ) → 0 < n → left (b / n) a ≡ None → None ≡ left b (a * n)
short_times b n a some e = sym (left_no b (a * n) (below (a * n) b (λ fits. gone ((le-div_iff_mul-le {k = n} {x = a} {y = b} some).1 fits))))
  where
    lt : b / n < a
    lt = short (b / n) a e

    gone : a ≤ b / n → ⊥
    gone le = omega (arith, lt, le)

    below : (x y : ℕ) → (x ≤ y → ⊥) → y < x
    below x y never = elim (cases_lt y x) [ inl h ↦ h | inr h ↦ absurd (never h) ]

-- the part that is taken off fits
pub part_fits : (b n r : ℕ) → 0 < n → (b / n - r) * n ≤ b
part_fits b n r some = (le-div_iff_mul-le {k = n} {x = b / n - r} {y = b} some).0 (omega arith)

-- a limit on the greater of two is one on both
pub max_test : (a b n : ℕ) → nat_le (max a b) n ≡ (nat_le a n && nat_le b n)
max_test a b n = elim (cases_lt n a) [
  | inl lt ↦ lt-leb (max a b) n (omega (arith, lt)) ∙ sym (and_left (nat_le a n) (nat_le b n) (lt-leb a n lt))
  | inr le ↦ elim (cases_lt n b) [
    | inl lt ↦ lt-leb (max a b) n (omega (arith, lt)) ∙ sym (and_right (nat_le a n) (nat_le b n) (lt-leb b n lt))
    | inr also ↦ le-leb (max a b) n (omega (arith, le, also)) ∙ sym (and_from (nat_le a n) (nat_le b n) (le-leb a n le) (le-leb b n also))
  ]
]

-- what is left is no more
pub rest_within : (b n r : ℕ) → Some r ≡ left b n → r ≤ b
rest_within b n r e = let h = enough b n r (sym e) in omega (arith, h.1)
