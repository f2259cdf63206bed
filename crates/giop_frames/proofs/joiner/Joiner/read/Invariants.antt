use Rattle.std.proofs.Common.{length, ◌-◌}
use Rattle.giop_frames.specs.Joining.{SoFar}
use Rattle.giop_frames.proofs.joiner.Joiner.read.Given as goal

abbrev pub invariant-loop-taken : goal.invariant-loop-taken
invariant-loop-taken l = SoFar l.taken l.input l.initial.whole.items l.initial.self l.whole.items l.self

abbrev pub decreases-loop-taken : goal.decreases-loop-taken
decreases-loop-taken l = length l.input - l.taken
