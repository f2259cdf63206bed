use Rattle.pipe_laws.proofs.Lacks as laws
use Rattle.pipe_laws.proofs.laws.lacks_are_there.Goals as goal

pub returns : goal.returns
returns c = laws.lacks_are_there
