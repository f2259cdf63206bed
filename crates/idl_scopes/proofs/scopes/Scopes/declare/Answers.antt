use Rattle.std.proofs.Common.{◌∙◌, sym}
use Rattle.idl_scopes.specs.Views.{table_of}
use Rattle.idl_scopes.proofs.NotTaken.{absent_here}
use Rattle.idl_scopes.proofs.scopes.Scopes.declare.Goals as goal

pub add-requires : goal.add-requires
add-requires c = absent_here (table_of c.args.self.now) c.args.name.now c.args.scope (sym c.in_ok-is_taken.ensures ∙ c.if-branch.false)
