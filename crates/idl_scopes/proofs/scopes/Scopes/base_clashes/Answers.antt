use Rattle.std.proofs.Common.{sym, ap, length}
use Rattle.idl_scopes.specs.Finding.{scopes_of}
use Rattle.idl_scopes.specs.Inherited.{list_of}
use Rattle.idl_scopes.specs.Views.{table_of}
use Rattle.idl_scopes.proofs.FirstBase.{first_base}
use Rattle.idl_scopes.proofs.scopes.Scopes.base_clashes.Goals as goal

pub returns-then-is_none : goal.returns-then-is_none
returns-then-is_none c =
    sym (first_base (table_of c.args.self.now) (list_of c.args.given.now) (scopes_of (table_of c.args.self.now) c.args.base) (ap length (c.is_none.ensures c.if-is_none.true)))
