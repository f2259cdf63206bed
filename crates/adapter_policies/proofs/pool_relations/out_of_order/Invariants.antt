use Rattle.std.proofs.Common.{◌≡◌, map, drop, None}
use Rattle.adapter_policies.specs.PoolRelations.{out_of_order}
use Rattle.adapter_policies.proofs.pool_relations.out_of_order.Given as goal

abbrev pub invariant-loop-n : goal.invariant-loop-n
invariant-loop-n l = out_of_order l.before l.n (map (λ p. p.priority) (drop l.n l.lanes)) ≡ out_of_order None 0 (map (λ p. p.priority) l.lanes)
