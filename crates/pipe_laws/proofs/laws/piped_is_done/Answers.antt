use Rattle.pipe_laws.proofs.Standing as laws
use Rattle.pipe_laws.proofs.laws.piped_is_done.Goals as goal

pub returns : goal.returns
returns c = laws.piped_is_done
