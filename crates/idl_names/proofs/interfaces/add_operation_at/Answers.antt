use Rattle.std.proofs.Common.{get_or}
use Rattle.std.proofs.lemmas.Option.{slice_get-get_or}
use Rattle.idl_names.proofs.ChangedThings.{gains}
use Rattle.idl_names.proofs.interfaces.add_operation_at.Goals as goal

pub returns-in_ok-and_operation : goal.returns-in_ok-and_operation
returns-in_ok-and_operation c =
    let things = c.args.things.now in
    let old = c.index-things-owner.result in
    gains things c.args.owner c.args.at (get_or things c.args.owner old) c.and_operation.new.thing (slice_get-get_or things c.args.owner old c.if-owner-things.true) c.in_ok-and_operation.ensures
