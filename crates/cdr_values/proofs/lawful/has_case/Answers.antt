use Rattle.std.specs.Int.{w128}
use Rattle.std.proofs.lemmas.Int.{to_z-of_z}
use Rattle.cdr_values.proofs.LawfulLoops.{any_label}
use Rattle.cdr_values.proofs.lawful.has_case.Goals as goal

pub returns : goal.returns
returns c = any_label c.args.label _ c.args.cases.now c.is_label_of.result (to_z-of_z w128 c.args.label c.ranges.label) c.is_label_of.ensures
