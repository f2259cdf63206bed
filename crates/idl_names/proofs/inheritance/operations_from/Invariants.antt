use Rattle.std.proofs.Common.{◌≡◌, [], drop, map}
use Rattle.idl_names.specs.Interfaces.{operations_from}
use Rattle.idl_names.specs.Views.{thing_of}
use Rattle.idl_names.proofs.inheritance.operations_from.Given as goal

abbrev pub invariant-loop-base : goal.invariant-loop-base
invariant-loop-base l = operations_from (map thing_of l.things) l.found.keys (drop l.base-index l.bases) ≡ operations_from (map thing_of l.things) [] l.bases
