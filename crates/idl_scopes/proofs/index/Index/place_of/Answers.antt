use Rattle.std.proofs.Common.{◌∙◌, sym, refl}
use Rattle.idl_scopes.specs.Finding.{is_at}
use Rattle.idl_scopes.specs.Declarations.{known_of}
use Rattle.orb_base.proofs.Places.{position_map}
use Rattle.idl_scopes.proofs.index.Index.place_of.Goals as goal

pub returns : goal.returns
returns c = c.get_index_of.ensures.index ∙ sym (position_map (is_at c.args.key.now.scope c.args.key.now.name.items) (λ k. is_at c.args.key.now.scope c.args.key.now.name.items (known_of k)) known_of (λ k. refl) c.args.self.now.known.keys)
