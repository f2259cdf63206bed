use Rattle.std.proofs.Common.{◌≡◌, ◌-◌, ◌≤◌, drop}
use Rattle.orb_base.specs.Apart.{climb}
use Rattle.orb_base.proofs.apart.climb.Given as goal

abbrev pub invariant-loop-at : goal.invariant-loop-at
invariant-loop-at l = record { behind : climb (drop (l.at - 1) l.bands) ≡ climb l.bands; some : 1 ≤ l.at }
