-- The lines of the operations so far are after the text.
use Rattle.std.proofs.Common.{◌≡◌, ◌++◌, string_bytes, take}
use Rattle.std.specs.List.{flat_map}
use Rattle.idl_types.specs.Views.{operation_of}
use Rattle.idl_lines.specs.Listing.{operation_line}
use Rattle.idl_lines.proofs.lines.put_operations.Given as goal

abbrev pub invariant-loop-operation : goal.invariant-loop-operation
invariant-loop-operation l =
    string_bytes l.text ≡ string_bytes l.fn.text ++ flat_map (λ o. operation_line (operation_of o)) (take l.operation-index l.operations)
