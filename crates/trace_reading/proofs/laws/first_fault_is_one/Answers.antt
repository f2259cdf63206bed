use Rattle.trace_reading.proofs.OneFault.{one_fault}
use Rattle.trace_reading.proofs.laws.first_fault_is_one.Goals as goal

pub returns : goal.returns
returns c = λ bytes ended at at' f g. one_fault bytes ended at at' f g
