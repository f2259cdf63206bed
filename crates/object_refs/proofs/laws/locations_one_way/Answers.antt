use Rattle.object_refs.proofs.OneWay.{one_location}
use Rattle.object_refs.proofs.laws.locations_one_way.Goals as goal

pub returns : goal.returns
returns c = one_location
