use Rattle.std.proofs.Common.{◌∙◌, sym}
use Rattle.idl_types.specs.Contents.{things_of}
use Rattle.idl_types.proofs.Places.{thing_at_place, no_thing}
use Rattle.idl_types.proofs.repository.Repository.held.Goals as goal

pub returns-in-Some : goal.returns-in-Some
returns-in-Some c = c.held_at.ensures ∙ sym (thing_at_place (things_of c.args.self.now) c.args.id.now c.in-Some.at (sym c.in-Some.ensures.place))

pub returns-in-None : goal.returns-in-None
returns-in-None c = sym (no_thing (things_of c.args.self.now) c.args.id.now (sym c.in-None.ensures.place))
