use Rattle.mux_runs.proofs.LossCauses.{loss_caused}
use Rattle.mux_runs.proofs.laws.losses_have_their_causes.Goals as goal

pub returns : goal.returns
returns c = loss_caused
