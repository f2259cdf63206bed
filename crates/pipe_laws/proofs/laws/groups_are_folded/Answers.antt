use Rattle.pipe_laws.proofs.Folds as laws
use Rattle.pipe_laws.proofs.laws.groups_are_folded.Goals as goal

pub returns-clause-same : goal.returns-clause-same
returns-clause-same c = laws.groups_are_folded

pub returns-clause-more : goal.returns-clause-more
returns-clause-more c = laws.folds_go_on
