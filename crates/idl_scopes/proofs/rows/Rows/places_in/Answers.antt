use Rattle.std.proofs.Common.{◌≡◌, true, sym, subst}
use Rattle.idl_scopes.specs.Bases.{holds}
use Rattle.idl_scopes.proofs.PlacedRows.{placed_at}
use Rattle.idl_scopes.proofs.rows.Rows.places_in.Goals as goal

pub returns : goal.returns
returns c = λ i d at there. subst (λ (ns : _). holds ns i ≡ true) (sym c.of.ensures) (placed_at c.args.self.now.by_scope c.args.self.now.declared.items i d c.args.scope c.args.self.now.placed at there)
