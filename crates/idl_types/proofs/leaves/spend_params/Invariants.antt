use Rattle.std.proofs.Common.{◌≡◌, map, drop}
use Rattle.std.specs.Prelude.{sum_by}
use Rattle.idl_types.specs.Budget.{left}
use Rattle.idl_types.specs.Counting.{leaves_of}
use Rattle.idl_types.specs.Views.{param_of}
use Rattle.idl_types.proofs.leaves.spend_params.Given as goal

abbrev pub invariant-loop-param : goal.invariant-loop-param
invariant-loop-param l = left l.rest (sum_by (λ p. leaves_of p.kind) (map param_of (drop l.param-index l.params))) ≡ left l.budget (sum_by (λ p. leaves_of p.kind) (map param_of l.params))
