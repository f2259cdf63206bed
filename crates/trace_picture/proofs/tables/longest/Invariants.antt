use Rattle.std.proofs.Common.{◌≡◌, drop}
use Rattle.std.specs.Prelude.{max}
use Rattle.trace_picture.specs.Tables.{longest}
use Rattle.trace_picture.proofs.tables.longest.Given as goal

abbrev pub invariant-loop-shape : goal.invariant-loop-shape
invariant-loop-shape l = longest l.lane l.shapes ≡ max (longest l.lane (drop l.shape-index l.shapes)) l.most
