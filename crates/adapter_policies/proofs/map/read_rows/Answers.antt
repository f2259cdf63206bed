use Rattle.config_tables.proofs.Each.{each_ok}
use Rattle.adapter_policies.specs.Tables.{row_of}
use Rattle.adapter_policies.proofs.map.read_rows.Goals as goal

pub returns-clause-value : goal.returns-clause-value
returns-clause-value c = each_ok row_of _ _ c.entries_where.ensures.value
