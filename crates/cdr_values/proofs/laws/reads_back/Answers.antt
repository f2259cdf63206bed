use Rattle.cdr_values.proofs.LawProofs.{reads_back_law}
use Rattle.cdr_values.proofs.laws.reads_back.Goals as goal

pub returns : goal.returns
returns c = reads_back_law
