use Rattle.std.proofs.Common.{◌≡◌, ◌++◌, drop, map}
use Rattle.idl_types.specs.Views.{operation_of}
use Rattle.idl_names.specs.Views.{thing_of}
use Rattle.idl_reader.specs.Declared.{operations_at}
use Rattle.idl_reader.proofs.interfaces.operations_in.Given as goal

abbrev pub invariant-loop-place : goal.invariant-loop-place
invariant-loop-place l =
    map operation_of l.found.items ++ operations_at (map thing_of l.things) (drop l.place-index l.places) ≡ operations_at (map thing_of l.things) l.places
