use Rattle.std.proofs.Common.{◌≡◌, length}
use Rattle.idl_types.specs.Apart.{are_apart}
use Rattle.idl_types.proofs.apart.labels_are_apart.Given as goal

abbrev pub invariant-loop-rest : goal.invariant-loop-rest
invariant-loop-rest l = are_apart l.rest ≡ are_apart l.labels

abbrev pub decreases-loop-rest : goal.decreases-loop-rest
decreases-loop-rest l = length l.rest
