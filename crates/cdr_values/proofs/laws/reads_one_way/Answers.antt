use Rattle.cdr_values.proofs.LawProofs.{reads_one_way_law}
use Rattle.cdr_values.proofs.laws.reads_one_way.Goals as goal

pub returns : goal.returns
returns c = reads_one_way_law
