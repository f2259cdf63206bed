use Rattle.std.proofs.Common.{◌≡◌, length, map}
use Rattle.std.specs.List.{starts_with}
use Rattle.std.specs.Str.{bytes_eq}
use Rattle.idl_types.specs.Views.{operation_of}
use Rattle.idl_types.specs.Names.{names_in, operation_names}
use Rattle.idl_types.proofs.inheritance.begin_with.Given as goal

abbrev pub invariant-loop-left : goal.invariant-loop-left
invariant-loop-left l = starts_with bytes_eq (operation_names (map operation_of l.rest)) (names_in l.left) ≡ starts_with bytes_eq (operation_names (map operation_of l.operations)) (names_in l.names)

abbrev pub decreases-loop-left : goal.decreases-loop-left
decreases-loop-left l = length l.left
