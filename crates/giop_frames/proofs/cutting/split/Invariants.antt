use Rattle.std.proofs.Common.{length}
use Rattle.giop_frames.proofs.PieceLaws.{CutSoFar}
use Rattle.giop_frames.proofs.cutting.split.Given as goal

abbrev pub invariant-loop-left : goal.invariant-loop-left
invariant-loop-left l = CutSoFar l.limit l.message l.pieces.items l.left

abbrev pub decreases-loop-left : goal.decreases-loop-left
decreases-loop-left l = length l.left
