use Rattle.std.proofs.Common.{◌≡◌, drop}
use Rattle.idl_names.specs.Sizes.{array_leaves}
use Rattle.idl_names.proofs.sizes.array_leaves.Given as goal

abbrev pub invariant-loop-len : goal.invariant-loop-len
invariant-loop-len l = array_leaves (drop l.len-index l.lengths) l.total ≡ array_leaves l.lengths l.leaves
