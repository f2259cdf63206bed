use Rattle.std.proofs.Common.{◌≡◌, drop}
use Rattle.config_tables.specs.declared.fault.ConfigCause.TheVariants.{NoNative}
use Rattle.adapter_policies.specs.Found.{adapters_fault}
use Rattle.adapter_policies.specs.MapRelations.{has_native}
use Rattle.adapter_policies.specs.PriorityRelations.{level_fault}
use Rattle.adapter_policies.proofs.priority_relations.judge_adapters_natives.Given as goal

abbrev pub invariant-loop-n : goal.invariant-loop-n
invariant-loop-n l =
    adapters_fault (level_fault NoNative (has_native l.map)) l.n (drop l.n l.adapters)
    ≡ adapters_fault (level_fault NoNative (has_native l.map)) 0 l.adapters
