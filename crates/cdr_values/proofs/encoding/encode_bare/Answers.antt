use Rattle.std.specs.Int.{w128}
use Rattle.std.proofs.lemmas.Int.{to_z-of_z}
use Rattle.cdr_values.specs.Kinds.{kind_of, cases_view}
use Rattle.cdr_values.specs.Trees.{cases_of}
use Rattle.cdr_values.proofs.Wrote.{bare_wrote}
use Rattle.cdr_values.proofs.encoding.encode_bare.Goals as goal

pub returns : goal.returns
returns c = λ name.
    bare_wrote c.encode_tag.result c.args.into.now c.encode_tag.new.into name (kind_of c.args.tag.now) (cases_of (cases_view c.args.cases.now)) c.args.number _
    (to_z-of_z w128 c.args.number c.ranges.number) c.encode_tag.ensures
