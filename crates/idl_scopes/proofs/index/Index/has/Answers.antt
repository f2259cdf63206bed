use Rattle.std.proofs.Common.{◌∙◌, sym}
use Rattle.idl_scopes.specs.Finding.{is_at}
use Rattle.idl_scopes.specs.Declarations.{known_of}
use Rattle.orb_base.proofs.Places.{any_map}
use Rattle.idl_scopes.proofs.index.Index.has.Goals as goal

pub returns : goal.returns
returns c = c.contains.ensures ∙ sym (any_map (is_at c.args.key.now.scope c.args.key.now.name.items) known_of c.args.self.now.known.keys)
