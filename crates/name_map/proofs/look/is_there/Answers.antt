use Rattle.std.proofs.Common.{rules, ◌∙◌, Some, None}
use Rattle.name_map.proofs.Changing.{has_at}
use Rattle.name_map.proofs.look.is_there.Goals as goal

pub returns-in-Some-clause-value : goal.returns-in-Some-clause-value
returns-in-Some-clause-value c = c.is_same.ensures ∙ has_at c.args.key.now c.args.bindings.now c.args.index (Some c.in-Some.binding.now) c.requires.rises c.requires.place (search rules)

pub returns-in-None-clause-value : goal.returns-in-None-clause-value
returns-in-None-clause-value c = has_at c.args.key.now c.args.bindings.now c.args.index None c.requires.rises c.requires.place (search rules)
