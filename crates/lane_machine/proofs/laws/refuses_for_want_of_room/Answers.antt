-- An Offer that is refused.
use Rattle.lane_machine.specs.Machine.{is_over}
use Rattle.lane_machine.proofs.First.{offer_full}
use Rattle.lane_machine.proofs.laws.refuses_for_want_of_room.Goals as goal

pub returns : goal.returns
returns c = λ s job e. offer_full s job (is_over s job.size) e
