use Rattle.pipe_laws.proofs.Once as laws
use Rattle.pipe_laws.proofs.laws.offered_finishes_once.Goals as goal

pub returns : goal.returns
returns c = laws.offered_finishes_once
