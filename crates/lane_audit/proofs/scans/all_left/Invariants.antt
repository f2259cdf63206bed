-- Each slot so far left.
use Rattle.std.proofs.Common.{◌≡◌, true, ◌==◌}
use Rattle.std.specs.List.{list_any}
use Rattle.lane_machine.specs.Readiness.{all_below}
use Rattle.lane_audit.proofs.scans.all_left.Given as goal

abbrev pub invariant-loop-slot : goal.invariant-loop-slot
invariant-loop-slot l = all_below (λ slot. list_any (λ x. x == slot) l.left) l.slot ≡ true
