use Rattle.std.proofs.Common.{◌≡◌, drop}
use Rattle.idl_names.specs.Sizes.{array_levels}
use Rattle.idl_names.proofs.sizes.array_levels.Given as goal

abbrev pub invariant-loop-len : goal.invariant-loop-len
invariant-loop-len l = array_levels (drop l._len-index l.lengths) l.total ≡ array_levels l.lengths l.levels
