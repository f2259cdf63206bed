use Rattle.std.proofs.Common.{◌≡◌, ◌+◌, ◌++◌, drop}
use Rattle.trace_picture.specs.Shapes.{shapes}
use Rattle.trace_picture.proofs.drawing.put_shapes.Given as goal

abbrev pub invariant-loop-i : goal.invariant-loop-i
invariant-loop-i l = l.fn.shapes.items ++ shapes l.fn.scene l.first l.lines ≡ l.shapes.items ++ shapes l.scene (l.first + l.i) (drop l.i l.lines)
