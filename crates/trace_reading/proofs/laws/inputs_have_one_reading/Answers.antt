use Rattle.trace_reading.proofs.OneReading.{one_reading}
use Rattle.trace_reading.proofs.laws.inputs_have_one_reading.Goals as goal

pub returns : goal.returns
returns c = λ bytes ts us a b. one_reading bytes ts us a b
