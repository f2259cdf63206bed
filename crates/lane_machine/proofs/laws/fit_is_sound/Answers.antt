-- What the entries of a caller tell of the state.
use Rattle.lane_machine.specs.SeatLaws.{enough}
use Rattle.lane_machine.proofs.laws.fit_is_sound.Goals as goal

pub returns : goal.returns
returns c = λ s h n call o l f fit. enough s h n call o l f fit
