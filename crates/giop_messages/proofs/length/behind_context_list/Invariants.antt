use Rattle.std.proofs.Common.{take}
use Rattle.std.specs.List.{flat_map}
use Rattle.cdr_core.specs.Lists.{context_fields}
use Rattle.giop_messages.specs.Lengths.{Ends}
use Rattle.giop_messages.proofs.length.behind_context_list.Given as goal

abbrev pub invariant-loop-context : goal.invariant-loop-context
invariant-loop-context l = Ends l.fn.place (flat_map context_fields (take l.context-index l.list)) l.at
