-- The table of counts as one of its cells changes.
use Rattle.std.proofs.Common.{◌≡◌, ◌≢◌, ℕ, zero, suc, ◌+◌, ◌*◌, ◌<◌, Bool, true, false, List, length, replicate, inl, inr, sym, ap, ◌∙◌, refl, arith, eq-eqb, get_or-set_same, get_or-set_other}
use Rattle.std.specs.Prelude.{slice_set, slice_index, nat_lt, ◌==◌, if◌then◌else◌}
use Rattle.std.proofs.lemmas.List.{length-replicate}
use Rattle.std.proofs.lemmas.Bool.{and_parts, and_from, cases_Bool, cases_lt, ltb-true, both_ways}
use Rattle.orb_base.specs.Conn.{same_conn}
use Rattle.orb_base.specs.declared.conn_id.ConnId.{ConnId}
use Rattle.lane_machine.specs.SeatLaws.{conn_is}
use Rattle.lane_audit.specs.Counting.{in_reach, place_of, cell, share, Moves, IsClear, AreZeros}

-- no number of a list of zeros is another
zero_at : (n k : ℕ) → slice_index (replicate n 0) k ≡ 0
zero_at zero k = refl
zero_at (suc n) zero = refl
zero_at (suc n) (suc k) = zero_at n k

-- so many zeros
pub are_zeros : (n : ℕ) → AreZeros (replicate n 0) n
are_zeros n = record { many = length-replicate n 0; each = λ k. zero_at n k }

-- a table of zeros is clear
pub all_clear : (table : List ℕ) (n : ℕ) → AreZeros table n → IsClear table
all_clear table n zeros = record { each = λ c r. zeros.each (place_of c) }

-- a connection that the table has a cell for
reach_slot : (c : ConnId) → in_reach c ≡ true → c.slot < 16
reach_slot c r = ltb-true c.slot 16 (and_parts (nat_lt c.slot 16) (nat_lt c.nth 128) r).0

reach_nth : (c : ConnId) → in_reach c ≡ true → c.nth < 128
reach_nth c r = ltb-true c.nth 128 (and_parts (nat_lt c.slot 16) (nat_lt c.nth 128) r).1

-- its cell is within the table
pub within : (c : ConnId) → in_reach c ≡ true → place_of c < 2048
within c r = let a = reach_slot c r in let b = reach_nth c r in omega arith

same_slot : (a b c d : ℕ) → b < 128 → d < 128 → 128 * a + b ≡ 128 * c + d → a ≡ c
same_slot a b c d low high e = elim (cases_lt a c) [
  | inl l ↦ absurd (omega arith)
  | inr l ↦ elim (cases_lt c a) [ inl m ↦ absurd (omega arith) | inr m ↦ omega arith ]
]

-- two connections have two cells
one_cell : (a b : ConnId) → in_reach a ≡ true → in_reach b ≡ true → place_of a ≡ place_of b → same_conn a b ≡ true
one_cell a b r q e =
    let s : a.slot ≡ b.slot = same_slot a.slot a.nth b.slot b.nth (reach_nth a r) (reach_nth b q) e in
    let n : a.nth ≡ b.nth = omega arith in
    and_from (a.slot == b.slot) (a.nth == b.nth) (eq-eqb a.slot b.slot s) (eq-eqb a.nth b.nth n)

share_mine : (a b : ConnId) (n : ℕ) → same_conn a b ≡ true → share a b n ≡ n
share_mine a b n e = ap (λ (x : Bool). if x then n else 0) e

share_other : (a b : ConnId) (n : ℕ) → same_conn a b ≡ false → share a b n ≡ 0
share_other a b n e = ap (λ (x : Bool). if x then n else 0) e

-- the cell of a connection is set
pub one_moved : (table : List ℕ) (conn : ConnId) (v more less : ℕ) → in_reach conn ≡ true → length table ≡ 2048 → v + less ≡ cell table conn + more
    → Moves table (slice_set table (place_of conn) v) conn more less
one_moved table conn v more less r long e = record {
  each = λ c q. elim (cases_Bool (same_conn conn c)) [
    | inl same ↦ (let is : cell (slice_set table (place_of conn) v) c ≡ v = ap (cell (slice_set table (place_of conn) v)) (sym (conn_is conn c same)) ∙ get_or-set_same table (place_of conn) v 0 (let w = within conn r in omega arith) in
        let was : cell table c ≡ cell table conn = ap (cell table) (sym (conn_is conn c same)) in let s = share_mine conn c less same in let t = share_mine conn c more same in omega arith)
    | inr other ↦ (let ne : place_of c ≢ place_of conn = λ p. both_ways (same_conn conn c) other (one_cell conn c r q (sym p)) in
        let is : cell (slice_set table (place_of conn) v) c ≡ cell table c = get_or-set_other table (place_of conn) (place_of c) v 0 ne in let s = share_other conn c less other in let t = share_other conn c more other in omega arith)
  ];
}

-- the table has no cell for the connection
pub none_moved : (table : List ℕ) (conn : ConnId) (more less : ℕ) → in_reach conn ≡ false → Moves table table conn more less
none_moved table conn more less out = record {
  each = λ c q. elim (cases_Bool (same_conn conn c)) [
    | inl same ↦ absurd (both_ways (in_reach conn) out (ap in_reach (conn_is conn c same) ∙ q))
    | inr other ↦ (let s = share_other conn c less other in let t = share_other conn c more other in omega arith)
  ];
}
