use Rattle.std.proofs.Common.{◌≡◌, map, take}
use Rattle.idl_types.specs.Views.{param_of}
use Rattle.idl_reader.proofs.copies.copy_params.Given as goal

abbrev pub invariant-loop-param : goal.invariant-loop-param
invariant-loop-param l = map param_of l.copies.items ≡ map param_of (take l.param-index l.params)
