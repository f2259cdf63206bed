use Rattle.std.proofs.Common.{take}
use Rattle.priority_maps.specs.Rows.{HasBands}
use Rattle.priority_maps.proofs.table.have_ends.Given as goal

abbrev pub invariant-loop-row : goal.invariant-loop-row
invariant-loop-row l = HasBands (take l.row-index l.rows)
