use Rattle.std.proofs.Common.{sym}
use Rattle.idl_scopes.specs.Pieces.{whole_of}
use Rattle.idl_scopes.specs.Views.{table_of}
use Rattle.idl_scopes.proofs.NoHolders.{no_operation}
use Rattle.idl_scopes.proofs.scopes.Scopes.is_operation_listed.Goals as goal

pub returns-then-is_none : goal.returns-then-is_none
returns-then-is_none c =
    sym (no_operation (table_of c.args.self.now) c.args.name.now c.in_ok-owners.owners.scopes.items (whole_of c.args.scopes.now) (c.in_ok-owners.ensures (c.is_none.ensures.few c.if-is_none.true)) (c.is_none.ensures.none c.if-is_none.true))
