use Rattle.priority_maps.proofs.Orders.{keeps_ends}
use Rattle.priority_maps.proofs.laws.linear_keeps_ends.Goals as goal

pub returns : goal.returns
returns c = keeps_ends
