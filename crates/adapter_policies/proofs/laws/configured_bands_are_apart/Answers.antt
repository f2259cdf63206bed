use Rattle.adapter_policies.proofs.Together.{bands_apart}
use Rattle.adapter_policies.proofs.laws.configured_bands_are_apart.Goals as goal

pub returns : goal.returns
returns c = bands_apart
