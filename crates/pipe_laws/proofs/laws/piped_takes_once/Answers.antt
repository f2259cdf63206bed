use Rattle.pipe_laws.proofs.Taking as laws
use Rattle.pipe_laws.proofs.laws.piped_takes_once.Goals as goal

pub returns : goal.returns
returns c = laws.piped_takes_once
