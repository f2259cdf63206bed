-- The seats that are split from the first one, and from a slot's.
use Rattle.std.proofs.Common.{◌≡◌, ℕ, ◌+◌, ◌*◌, ◌<◌, Bool, cond, Some, None, ap, ◌∙◌, add-one}
use Rattle.std.specs.Prelude.{nat_lt}
use Rattle.std.proofs.lemmas.Bool.{lt-ltb, and_from}
use Rattle.lane_machine.specs.Callers.{heir, writer_seat}

pub heir_of_first : (n k : ℕ) → n ≡ 0 → k < 80 → heir n k ≡ Some (k + 1)
heir_of_first n k e l = ap (λ (m : ℕ). heir m k) e ∙ ap (λ (b : Bool). cond b (Some (k + 1)) None) (lt-ltb k 80 l)

pub heir_of_slot : (n slot s k : ℕ) → n ≡ slot + 1 → s ≡ k → slot < 16 → k < 128 → heir n s ≡ Some (writer_seat (record { slot = slot; nth = k }))
heir_of_slot n slot s k e f few l = ap (λ (p : ℕ × ℕ). heir p.0 p.1) (λ i. ((e ∙ add-one slot) i, f i))
    ∙ ap (λ (b : Bool). cond b (Some (81 + 128 * slot + k)) None) (and_from (nat_lt slot 16) (nat_lt k 128) (lt-ltb slot 16 few) (lt-ltb k 128 l))
