use Rattle.priority_models.proofs.Rows.{counts_by_bands}
use Rattle.priority_models.proofs.laws.transforms_map_by_bands.Goals as goal

pub returns-clause-by_bands : goal.returns-clause-by_bands
returns-clause-by_bands c = counts_by_bands
