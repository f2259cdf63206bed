use Rattle.object_refs.proofs.OneWay.{one_first}
use Rattle.object_refs.proofs.laws.first_profiles_one_way.Goals as goal

pub returns : goal.returns
returns c = one_first
