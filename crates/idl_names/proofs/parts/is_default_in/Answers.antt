use Rattle.std.proofs.Common.{sym, ◌∙◌}
use Rattle.std.specs.List.{list_any}
use Rattle.cdr_values.specs.Trees.{Branch}
use Rattle.cdr_values.specs.Kinds.{case_of}
use Rattle.cdr_values.specs.declared.kind.Case.{Case}
use Rattle.cdr_values.proofs.Choosing.{default_of}
use Rattle.orb_base.proofs.Places.{any_map}
use Rattle.idl_names.proofs.parts.is_default_in.Goals as goal

pub returns : goal.returns
returns c =
    let cases = c.args.cases.now in
    c.has_default_case.ensures ∙ sym (any_map (λ (b : Branch). b.1) case_of cases ∙ (λ i. list_any (λ (x : Case). default_of x i) cases))
