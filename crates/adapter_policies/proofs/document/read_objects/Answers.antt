use Rattle.config_tables.proofs.Each.{each_ok}
use Rattle.adapter_policies.specs.Tables.{object_of}
use Rattle.adapter_policies.proofs.document.read_objects.Goals as goal

pub returns-clause-value : goal.returns-clause-value
returns-clause-value c = each_ok object_of _ _ c.read_entries.ensures.value
