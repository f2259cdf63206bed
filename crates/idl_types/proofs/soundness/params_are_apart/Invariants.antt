use Rattle.std.proofs.Common.{◌≡◌, length, map}
use Rattle.idl_types.specs.Apart.{are_apart}
use Rattle.idl_types.specs.Views.{param_of}
use Rattle.idl_types.proofs.soundness.params_are_apart.Given as goal

abbrev pub invariant-loop-rest : goal.invariant-loop-rest
invariant-loop-rest l = are_apart (map (λ p. p.name) (map param_of l.rest)) ≡ are_apart (map (λ p. p.name) (map param_of l.params))

abbrev pub decreases-loop-rest : goal.decreases-loop-rest
decreases-loop-rest l = length l.rest
