use Rattle.std.proofs.lemmas.List.{map-set}
use Rattle.cdr_values.specs.Values.{value_of}
use Rattle.script_values.proofs.slots.put.Goals as goal

pub returns-then-at-len : goal.returns-then-at-len
returns-then-at-len c = map-set value_of c.args.values.now.items c.args.at c.args.value
