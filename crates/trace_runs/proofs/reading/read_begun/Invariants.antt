use Rattle.std.proofs.Common.{◌≡◌, ◌++◌, length}
use Rattle.trace_runs.specs.Begun.{IsBegun, begun_text}
use Rattle.trace_runs.proofs.reading.read_begun.Given as goal

abbrev pub invariant-loop-cut : goal.invariant-loop-cut
invariant-loop-cut l = IsBegun l.run × (l.text ≡ begun_text l.run ++ l.rest)

abbrev pub decreases-loop-cut : goal.decreases-loop-cut
decreases-loop-cut l = length l.rest
