use Rattle.std.proofs.Common.{◌≡◌, true, sym, subst}
use Rattle.idl_scopes.specs.Bases.{holds}
use Rattle.idl_scopes.proofs.NamedKeys.{held}
use Rattle.idl_scopes.proofs.index.Index.places_of.Goals as goal

pub returns : goal.returns
returns c = λ scope i at. subst (λ (ns : _). holds ns i ≡ true) (sym c.of.ensures) (held c.args.self.now.by_name c.args.self.now.known.keys c.args.low.now scope i c.args.self.now.named at)
