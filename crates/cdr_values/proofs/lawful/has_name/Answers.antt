use Rattle.cdr_values.proofs.LawfulLoops.{any_name}
use Rattle.cdr_values.proofs.lawful.has_name.Goals as goal

pub returns : goal.returns
returns c = any_name c.args.name.now c.args.members.now c.is_name_of.result c.is_name_of.ensures
