use Rattle.std.proofs.Common.{◌∙◌, sym}
use Rattle.idl_scopes.specs.Views.{table_of}
use Rattle.idl_scopes.proofs.NotTaken.{part_absent}
use Rattle.idl_scopes.proofs.scopes.Scopes.declare_parameter.Goals as goal

pub add-requires : goal.add-requires
add-requires c = part_absent (table_of c.args.self.now) c.args.name.now c.args.scope (sym c.in_ok-is_taken_part.ensures ∙ c.if-branch.false)
