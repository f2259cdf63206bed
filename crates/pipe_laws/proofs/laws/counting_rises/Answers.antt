use Rattle.pipe_laws.proofs.Rising as laws
use Rattle.pipe_laws.proofs.laws.counting_rises.Goals as goal

pub returns : goal.returns
returns c = laws.counting_rises
