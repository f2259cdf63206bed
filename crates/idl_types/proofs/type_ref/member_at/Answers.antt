use Rattle.std.proofs.Common.{◌∙◌, ap, sym}
use Rattle.std.specs.Option.{option_map}
use Rattle.cdr_values.specs.declared.kind.Member.{Member}
use Rattle.cdr_values.specs.Kinds.{kind_of}
use Rattle.idl_types.proofs.Parts.{member_by_index}
use Rattle.idl_types.proofs.type_ref.member_at.Goals as goal

pub returns-in-Some : goal.returns-in-Some
returns-in-Some c = ap (option_map (λ (m : Member). kind_of m.kind)) c.in-Some.ensures ∙ sym (member_by_index c.args.members.now c.args.at)

pub returns-in-None : goal.returns-in-None
returns-in-None c = ap (option_map (λ (m : Member). kind_of m.kind)) c.in-None.ensures ∙ sym (member_by_index c.args.members.now c.args.at)
