use Rattle.std.proofs.Common.{sym}
use Rattle.idl_scopes.specs.Views.{table_of}
use Rattle.idl_scopes.proofs.NoHolders.{among_none}
use Rattle.idl_scopes.proofs.scopes.Scopes.among.Goals as goal

pub returns-then-is_none : goal.returns-then-is_none
returns-then-is_none c =
    sym (among_none (table_of c.args.self.now) c.args.name.now c.in_ok-holders.holders.scopes.items c.args.scopes.now (c.in_ok-holders.ensures (c.is_none.ensures.few c.if-is_none.true)) (c.is_none.ensures.none c.if-is_none.true))
