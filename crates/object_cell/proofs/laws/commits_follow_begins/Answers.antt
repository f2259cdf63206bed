use Rattle.object_cell.proofs.Turns.{own_commit, next_begins}
use Rattle.object_cell.proofs.laws.commits_follow_begins.Goals as goal

pub returns-clause-commit : goal.returns-clause-commit
returns-clause-commit g c = own_commit g.S.Staging.staged

pub returns-clause-begin : goal.returns-clause-begin
returns-clause-begin g c = next_begins g.S.Staging.staged
