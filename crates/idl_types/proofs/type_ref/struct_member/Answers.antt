use Rattle.std.proofs.Common.{◌∙◌, sym, ap}
use Rattle.cdr_values.specs.Kinds.{members_view}
use Rattle.idl_types.specs.References.{member_kind}
use Rattle.idl_types.proofs.Parts.{member_by_place}
use Rattle.idl_types.proofs.type_ref.struct_member.Goals as goal

pub returns : goal.returns
returns c = c.member_at.ensures ∙ sym (member_by_place (members_view c.struct_members.result.now) c.args.at) ∙ ap (member_kind c.args.at) c.struct_members.ensures
