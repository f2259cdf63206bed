use Rattle.std.proofs.Common.{◌≡◌, take}
use Rattle.fit_audit.specs.Counts as count
use Rattle.fit_audit.proofs.counts.kept_lines.Given as goal

abbrev pub invariant-loop-n : goal.invariant-loop-n
invariant-loop-n l = l.kept.items ≡ count.kept_lines 0 (take l.n l.lines)
