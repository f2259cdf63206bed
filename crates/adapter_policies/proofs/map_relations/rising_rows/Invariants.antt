use Rattle.std.proofs.Common.{◌≡◌, ◌++◌, drop, map, None}
use Rattle.adapter_policies.specs.MapRelations.{rows_rise, row_made}
use Rattle.adapter_policies.proofs.map_relations.rising_rows.Given as goal

abbrev pub invariant-loop-row : goal.invariant-loop-row
invariant-loop-row l = record {
  same : rows_rise l.before (drop l.row-index l.rows) ≡ rows_rise None l.rows;
  whole : l.made.items ++ map row_made (drop l.row-index l.rows) ≡ map row_made l.rows;
}
