use Rattle.std.proofs.Common.{◌≡◌, drop}
use Rattle.adapter_policies.specs.BandRelations.{ends_fault}
use Rattle.adapter_policies.specs.Found.{adapters_fault}
use Rattle.adapter_policies.proofs.band_relations.judge_ends.Given as goal

abbrev pub invariant-loop-n : goal.invariant-loop-n
invariant-loop-n l = adapters_fault ends_fault l.n (drop l.n l.adapters) ≡ adapters_fault ends_fault 0 l.adapters
