use Rattle.config_tables.proofs.Each.{each_ok}
use Rattle.adapter_policies.specs.Tables.{inbound_of}
use Rattle.adapter_policies.proofs.adapter.read_inbound.Goals as goal

pub returns-clause-value : goal.returns-clause-value
returns-clause-value c = each_ok inbound_of _ _ c.free_entries.ensures.value
