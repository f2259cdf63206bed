use Rattle.std.proofs.Common.{◌∙◌}
use Rattle.idl_types.proofs.Places.{place_by_key}
use Rattle.idl_types.proofs.repository.Repository.place_of.Goals as goal

pub returns-clause-place : goal.returns-clause-place
returns-clause-place c = c.get_index_of.ensures.index ∙ place_by_key c.args.id.now c.args.self.now.declared.entries c.args.self.now.keyed
