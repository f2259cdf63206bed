use Rattle.std.proofs.Common.{◌≡◌, ◌++◌, take}
use Rattle.std.specs.Prelude.{map}
use Rattle.trace_picture.specs.Scenes.{wait_to}
use Rattle.trace_picture.specs.declared.shape.WaitEnd.TheVariants as how
use Rattle.trace_picture.proofs.drawing.put_waits.Given as goal

abbrev pub invariant-loop-w : goal.invariant-loop-w
invariant-loop-w l = l.shapes.items ≡ l.fn.shapes.items ++ map (wait_to l.n how.Open) (take l.w-index l.waiting)
