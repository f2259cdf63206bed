use Rattle.std.proofs.Common.{◌≡◌, ◌++◌, take}
use Rattle.std.specs.Prelude.{map}
use Rattle.trace_picture.specs.Scenes.{bar_to}
use Rattle.trace_picture.proofs.drawing.put_bars.Given as goal

abbrev pub invariant-loop-r : goal.invariant-loop-r
invariant-loop-r l = l.shapes.items ≡ l.fn.shapes.items ++ map (bar_to l.n) (take l.r-index l.running)
