use Rattle.pipe_laws.proofs.Replays as laws
use Rattle.pipe_laws.proofs.laws.piped_is_replayed.Goals as goal

pub returns : goal.returns
returns c = laws.piped_is_replayed
