use Rattle.std.proofs.Common.{take}
use Rattle.std.specs.List.{flat_map}
use Rattle.cdr_core.specs.Lists.{tagged_fields}
use Rattle.giop_messages.specs.Lengths.{Ends}
use Rattle.giop_messages.proofs.length.behind_tagged_list.Given as goal

abbrev pub invariant-loop-tagged : goal.invariant-loop-tagged
invariant-loop-tagged l = Ends l.fn.place (flat_map tagged_fields (take l.tagged-index l.list)) l.at
