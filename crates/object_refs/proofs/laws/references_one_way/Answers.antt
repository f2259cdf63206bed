use Rattle.object_refs.proofs.OneWay.{one_reference}
use Rattle.object_refs.proofs.laws.references_one_way.Goals as goal

pub returns : goal.returns
returns c = one_reference
