use Rattle.pipe_laws.proofs.Standing as laws
use Rattle.pipe_laws.proofs.laws.piped_owes_nothing.Goals as goal

pub returns : goal.returns
returns c = laws.piped_owes_nothing
