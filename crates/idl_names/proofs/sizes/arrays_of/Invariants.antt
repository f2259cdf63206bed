use Rattle.std.proofs.Common.{◌≡◌, drop}
use Rattle.idl_names.specs.Sizes.{arrays_of}
use Rattle.idl_names.specs.Views.{sized_of}
use Rattle.idl_names.proofs.sizes.arrays_of.Given as goal

abbrev pub invariant-loop-len : goal.invariant-loop-len
invariant-loop-len l = arrays_of (drop l.len-index l.lengths) (sized_of l.array) ≡ arrays_of l.lengths (sized_of l.initial.array)
