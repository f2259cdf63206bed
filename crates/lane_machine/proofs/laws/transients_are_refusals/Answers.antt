-- Each call brings a TRANSIENT only where it refuses.
use Rattle.lane_machine.proofs.Refused.{transients_are_refused}
use Rattle.lane_machine.proofs.laws.transients_are_refusals.Goals as goal

pub returns : goal.returns
returns c = λ s h o l i job g. transients_are_refused s h o l i job g
