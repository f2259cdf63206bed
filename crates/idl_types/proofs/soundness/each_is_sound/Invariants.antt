use Rattle.std.proofs.Common.{◌≡◌, drop, map}
use Rattle.std.specs.List.{list_all}
use Rattle.idl_types.specs.Sound.{is_sound_operation}
use Rattle.idl_types.specs.Views.{operation_of}
use Rattle.idl_types.proofs.soundness.each_is_sound.Given as goal

abbrev pub invariant-loop-operation : goal.invariant-loop-operation
invariant-loop-operation l = list_all is_sound_operation (map operation_of (drop l.operation-index l.operations)) ≡ list_all is_sound_operation (map operation_of l.operations)
