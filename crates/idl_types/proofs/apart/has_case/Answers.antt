use Rattle.std.proofs.Common.{◌∙◌, sym, List, ℕ}
use Rattle.std.specs.Str.{str_eq_ignore_ascii_case}
use Rattle.idl_types.proofs.Parts.{any_case}
use Rattle.idl_types.proofs.apart.has_case.Goals as goal

pub returns : goal.returns
returns c = c.any_case_is_like.ensures ∙ sym (any_case (λ (y : List ℕ). str_eq_ignore_ascii_case y c.args.name.now) c.args.cases.now)
