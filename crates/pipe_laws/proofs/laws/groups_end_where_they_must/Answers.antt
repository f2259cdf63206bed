use Rattle.pipe_laws.proofs.Grouping.{groups_end}
use Rattle.pipe_laws.proofs.laws.groups_end_where_they_must.Goals as goal

pub returns : goal.returns
returns c = groups_end
