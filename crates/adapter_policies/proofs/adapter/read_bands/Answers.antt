use Rattle.config_tables.proofs.Each.{each_ok}
use Rattle.adapter_policies.specs.Tables.{band_of}
use Rattle.adapter_policies.proofs.adapter.read_bands.Goals as goal

pub returns-clause-value : goal.returns-clause-value
returns-clause-value c = each_ok band_of _ _ c.free_entries.ensures.value
