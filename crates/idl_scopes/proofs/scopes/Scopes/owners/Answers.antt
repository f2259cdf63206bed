use Rattle.std.proofs.Common.{◌≡◌, Some, map, sym, subst}
use Rattle.std.specs.Prelude.{position}
use Rattle.idl_scopes.specs.Declarations.{known_of}
use Rattle.idl_scopes.specs.Finding.{is_at}
use Rattle.idl_scopes.specs.Groups.{AreOwners}
use Rattle.idl_scopes.specs.Views.{table_of}
use Rattle.idl_scopes.proofs.GatheredScopes.{all_owners}
use Rattle.idl_scopes.proofs.scopes.Scopes.owners.Goals as goal

pub returns : goal.returns
returns c = λ few.
    subst (λ scopes. AreOwners (table_of c.args.self.now) c.args.name.now scopes) (sym c.in_ok-scopes.ensures)
    (all_owners (table_of c.args.self.now) c.args.name.now c.places_of.result.now
    (λ scope i found. c.places_of.ensures scope i (subst (λ low. position (is_at scope low) (map known_of c.args.self.now.index.known.keys) ≡ Some i) (sym c.in_ok-low.ensures.ok) found)))
