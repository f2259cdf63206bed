use Rattle.std.proofs.Common.{◌≡◌, ℤ, ◌∙◌, subst}
use Rattle.std.specs.Prelude.{position}
use Rattle.std.specs.Int.{w128}
use Rattle.std.proofs.lemmas.Int.{to_z-of_z}
use Rattle.cdr_values.specs.declared.kind.Case.{Case}
use Rattle.cdr_values.specs.Choice.{has_label}
use Rattle.cdr_values.proofs.Choosing.{chooses}
use Rattle.value_json.proofs.choice.chosen_case.Goals as goal

pub returns : goal.returns
returns c =
    let tag = to_z-of_z w128 c.args.tag c.ranges.tag in
    let found = subst (λ (z : ℤ). c.labelled.result ≡ position (λ (x : Case). has_label z x.labels.items) c.args.cases.now) tag c.labelled.ensures in
    c.first_of.ensures ∙ chooses c.args.tag c.args.cases.now c.labelled.result c.default_case.result found c.default_case.ensures
