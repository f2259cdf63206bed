use Rattle.std.proofs.Common.{◌≡◌, drop}
use Rattle.config_tables.specs.declared.fault.ConfigCause.TheVariants.{PriorityNotALane}
use Rattle.adapter_policies.specs.Found.{adapters_fault}
use Rattle.adapter_policies.specs.PriorityRelations.{has_lane, level_fault}
use Rattle.adapter_policies.proofs.priority_relations.judge_adapters_in_lanes.Given as goal

abbrev pub invariant-loop-n : goal.invariant-loop-n
invariant-loop-n l =
    adapters_fault (level_fault PriorityNotALane (has_lane l.pool)) l.n (drop l.n l.adapters)
    ≡ adapters_fault (level_fault PriorityNotALane (has_lane l.pool)) 0 l.adapters
