use Rattle.std.proofs.Common.{◌≡◌, drop, []}
use Rattle.idl_types.specs.Names.{names_in, with_names}
use Rattle.idl_types.specs.Inherited.{given_names}
use Rattle.idl_types.specs.Contents.{things_of}
use Rattle.idl_types.proofs.repository.Repository.names_given.Given as goal

abbrev pub invariant-loop-id : goal.invariant-loop-id
invariant-loop-id l = with_names (names_in l.names.keys) (given_names (things_of l.self) (names_in (drop l.id-index l.ids))) ≡ with_names [] (given_names (things_of l.self) (names_in l.ids))
