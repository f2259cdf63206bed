-- Where all threads rest, nothing waits.
use Rattle.lane_laws.proofs.Done.{all_done}
use Rattle.lane_laws.proofs.laws.all_is_done.Goals as goal

pub returns : goal.returns
returns c = λ s h o l f over conn serial. all_done s h o l f over conn serial
