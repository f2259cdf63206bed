use Rattle.config_tables.proofs.Each.{each_ok}
use Rattle.adapter_policies.specs.Tables.{lane_at}
use Rattle.adapter_policies.proofs.pool.read_lanes.Goals as goal

pub returns-clause-value : goal.returns-clause-value
returns-clause-value c = each_ok lane_at _ _ c.free_entries.ensures.value
