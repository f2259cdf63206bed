-- A request is admitted only where it is offered.
use Rattle.trace_lines.proofs.Once.{admitted_one}
use Rattle.trace_lines.proofs.laws.offers_admit_once.Goals as goal

pub returns : goal.returns
returns c = λ conn serial h once. admitted_one conn serial h once
