-- A slot that has not left is enough.
use Rattle.std.proofs.Common.{◌≡◌, ◌==◌, ℕ, false, sym, rules}
use Rattle.std.specs.List.{list_any}
use Rattle.lane_machine.proofs.Slots.{one_stays}
use Rattle.lane_audit.proofs.scans.all_left.Goals as goal

pub returns-then-not-has_left : goal.returns-then-not-has_left
returns-then-not-has_left c =
    let out : list_any (λ (l : ℕ). l == c.loop-slot.slot) c.args.left.now ≡ false = search rules in
    sym (one_stays (λ slot. list_any (λ l. l == slot) c.args.left.now) c.loop-slot.slot c.args.slots c.loop-slot-test.true out)
