use Rattle.std.proofs.Common.{◌≡◌, drop, map}
use Rattle.idl_types.specs.Names.{operation_names}
use Rattle.idl_types.specs.Views.{operation_of}
use Rattle.script_names.specs.Meanings.{unused, declared_name}
use Rattle.script_names.specs.Views.{pairs_of, with_pairs}
use Rattle.script_names.proofs.putting.put_operations.Given as goal

abbrev pub invariant-loop-operation : goal.invariant-loop-operation
invariant-loop-operation l = with_pairs (pairs_of l.index.entries) (unused l.scope (map declared_name (operation_names (map operation_of (drop l.operation-index l.operations)))))
    ≡ with_pairs (pairs_of l.initial.index.entries) (unused l.scope (map declared_name (operation_names (map operation_of l.operations))))
