use Rattle.object_refs.proofs.OneWay.{one_profile}
use Rattle.object_refs.proofs.laws.profiles_one_way.Goals as goal

pub returns : goal.returns
returns c = one_profile
