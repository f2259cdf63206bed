use Rattle.std.proofs.Common.{◌≡◌, take}
use Rattle.fit_audit.specs.Counts as count
use Rattle.fit_audit.proofs.counts.longest_wait.Given as goal

abbrev pub invariant-loop-n : goal.invariant-loop-n
invariant-loop-n l = l.longest ≡ count.longest_from l.kept.items 0 (take l.n l.lines)
