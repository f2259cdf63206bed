use Rattle.std.proofs.Common.{◌≡◌, ◌+◌, drop}
use Rattle.trace_picture.specs.Shapes.{scene_after}
use Rattle.trace_picture.proofs.drawing.pass_over.Given as goal

abbrev pub invariant-loop-i : goal.invariant-loop-i
invariant-loop-i l = scene_after l.fn.scene l.first l.lines ≡ scene_after l.scene (l.first + l.i) (drop l.i l.lines)
