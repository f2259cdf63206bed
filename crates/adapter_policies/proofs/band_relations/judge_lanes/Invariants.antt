use Rattle.std.proofs.Common.{◌≡◌, drop}
use Rattle.adapter_policies.specs.BandRelations.{outside_fault}
use Rattle.adapter_policies.specs.Found.{adapters_fault}
use Rattle.adapter_policies.proofs.band_relations.judge_lanes.Given as goal

abbrev pub invariant-loop-n : goal.invariant-loop-n
invariant-loop-n l = adapters_fault (outside_fault l.pool) l.n (drop l.n l.adapters) ≡ adapters_fault (outside_fault l.pool) 0 l.adapters
