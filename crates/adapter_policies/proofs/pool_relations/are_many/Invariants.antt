use Rattle.std.proofs.Common.{◌≡◌, ◌+◌, ◌≤◌, drop, nat_lt}
use Rattle.std.specs.List.{sum_by}
use Rattle.adapter_policies.proofs.pool_relations.are_many.Given as goal

abbrev pub invariant-loop-lane : goal.invariant-loop-lane
invariant-loop-lane l = record {
  same : nat_lt 64 (sum_by (λ p. p.statics + p.dynamics) (drop l.lane-index l.lanes) + l.total) ≡ nat_lt 64 (sum_by (λ p. p.statics + p.dynamics) l.lanes + l.own);
  few : l.total ≤ 574;
}
