use Rattle.std.proofs.Common.{◌∙◌, sym, List, ℕ}
use Rattle.std.specs.Str.{str_eq_ignore_ascii_case}
use Rattle.idl_types.proofs.Parts.{any_param}
use Rattle.idl_types.proofs.soundness.has_param.Goals as goal

pub returns : goal.returns
returns c = c.any_is_like.ensures ∙ sym (any_param (λ (y : List ℕ). str_eq_ignore_ascii_case y c.args.name.now) c.args.params.now)
