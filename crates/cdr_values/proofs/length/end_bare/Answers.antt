use Rattle.std.specs.Int.{w128}
use Rattle.std.proofs.lemmas.Int.{to_z-of_z}
use Rattle.cdr_values.specs.Kinds.{kind_of, cases_view}
use Rattle.cdr_values.specs.Trees.{cases_of}
use Rattle.cdr_values.proofs.Ending.{bare_ends}
use Rattle.cdr_values.proofs.length.end_bare.Goals as goal

pub returns : goal.returns
returns c = λ name.
    bare_ends c.args.place c.end_tag.result name (kind_of c.args.tag.now) (cases_of (cases_view c.args.cases.now)) c.args.number _
    (to_z-of_z w128 c.args.number c.ranges.number) c.end_tag.ensures
