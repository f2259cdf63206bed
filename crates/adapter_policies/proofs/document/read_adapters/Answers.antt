use Rattle.config_tables.proofs.Each.{each_ok}
use Rattle.adapter_policies.specs.Tables.{adapter_of}
use Rattle.adapter_policies.proofs.document.read_adapters.Goals as goal

pub returns-clause-value : goal.returns-clause-value
returns-clause-value c = each_ok adapter_of _ _ c.read_entries.ensures.value
