use Rattle.halls.proofs.Whole.{nothing_left_out}
use Rattle.halls.proofs.laws.connections_without_fault_are_whole.Goals as goal

pub returns : goal.returns
returns c = nothing_left_out
