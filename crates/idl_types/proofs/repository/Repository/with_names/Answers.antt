use Rattle.idl_types.specs.Views.{thing_of}
use Rattle.idl_types.specs.Contents.{things_of}
use Rattle.idl_types.proofs.BuiltInAdded.{all_added}
use Rattle.idl_types.proofs.repository.Repository.with_names.Goals as goal

pub returns : goal.returns
returns c =
    all_added c.with_added-4.result (things_of c.args.self) (things_of c.in_ok-repository.repository) (things_of c.in_ok-repository-2.repository)
    (things_of c.in_ok-repository-3.repository) (thing_of c.in_ok-not_found.field-0) (thing_of c.in_ok-already_bound.field-0) (thing_of c.in_ok-no_room.field-0)
    (thing_of c.in_ok-names.field-0) c.in_ok-not_found.ensures c.in_ok-already_bound.ensures c.in_ok-no_room.ensures c.in_ok-names.ensures
    c.in_ok-repository.ensures c.in_ok-repository-2.ensures c.in_ok-repository-3.ensures c.with_added-4.ensures
