use Rattle.std.proofs.Common.{◌≡◌, drop}
use Rattle.adapter_policies.specs.BandRelations.{shares_fault}
use Rattle.adapter_policies.specs.Found.{adapters_fault}
use Rattle.adapter_policies.proofs.band_relations.judge_overlaps.Given as goal

abbrev pub invariant-loop-n : goal.invariant-loop-n
invariant-loop-n l = adapters_fault shares_fault l.n (drop l.n l.adapters) ≡ adapters_fault shares_fault 0 l.adapters
