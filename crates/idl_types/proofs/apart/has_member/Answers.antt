use Rattle.std.proofs.Common.{◌∙◌, sym, List, ℕ}
use Rattle.std.specs.Str.{str_eq_ignore_ascii_case}
use Rattle.idl_types.proofs.Parts.{any_member}
use Rattle.idl_types.proofs.apart.has_member.Goals as goal

pub returns : goal.returns
returns c = c.any_member_is_like.ensures ∙ sym (any_member (λ (y : List ℕ). str_eq_ignore_ascii_case y c.args.name.now) c.args.members.now)
