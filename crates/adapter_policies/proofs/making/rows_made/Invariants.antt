use Rattle.std.proofs.Common.{◌≡◌, ◌++◌, drop, map}
use Rattle.adapter_policies.specs.SetupData.{transform_row_of}
use Rattle.adapter_policies.proofs.making.rows_made.Given as goal

abbrev pub invariant-loop-row : goal.invariant-loop-row
invariant-loop-row l = l.made.items ++ map transform_row_of (drop l.row-index l.rows) ≡ map transform_row_of l.rows
