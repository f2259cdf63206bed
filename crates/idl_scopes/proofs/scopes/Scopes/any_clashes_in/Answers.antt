use Rattle.std.proofs.Common.{refl, ◌∙◌}
use Rattle.idl_scopes.specs.Pieces.{whole_of}
use Rattle.idl_scopes.specs.Views.{table_of}
use Rattle.idl_scopes.proofs.ClashingScopes.{by_places}
use Rattle.idl_scopes.proofs.scopes.Scopes.any_clashes_in.Goals as goal

pub returns : goal.returns
returns c =
    c.in_ok-any.ensures ∙ by_places (table_of c.args.self.now) (whole_of c.args.earlier.now) c.args.later.now c.args.scope c.args.self.now.rows.declared.items c.places_in-places.result.now refl c.places_in-places.ensures
