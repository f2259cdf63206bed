use Rattle.adapter_policies.proofs.Together.{configured_keys}
use Rattle.adapter_policies.proofs.laws.configured_keys_differ.Goals as goal

pub returns : goal.returns
returns c = configured_keys
