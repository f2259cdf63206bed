use Rattle.std.specs.Int.{w128}
use Rattle.std.proofs.lemmas.Int.{to_z-of_z}
use Rattle.cdr_values.specs.Kinds.{kind_of, cases_view}
use Rattle.cdr_values.specs.Trees.{cases_of}
use Rattle.cdr_values.proofs.HasFields.{bare_number}
use Rattle.cdr_values.proofs.fitting.fits_without.Goals as goal

pub returns-then-is_number : goal.returns-then-is_number
returns-then-is_number c =
    bare_number (kind_of c.args.tag.now) (cases_of (cases_view c.args.cases.now)) c.args.number _ c.chosen_case.result c.is_number.result c.is_bare.result
    (to_z-of_z w128 c.args.number c.ranges.number) c.is_number.ensures c.if-is_number.true c.chosen_case.ensures.value c.is_bare.ensures
