use Rattle.pipe_laws.proofs.Making as laws
use Rattle.pipe_laws.proofs.laws.piped_makes_calls.Goals as goal

pub returns : goal.returns
returns c = laws.piped_makes_calls
