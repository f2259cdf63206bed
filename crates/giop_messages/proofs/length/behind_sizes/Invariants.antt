use Rattle.std.proofs.Common.{take}
use Rattle.std.specs.List.{flat_map}
use Rattle.giop_messages.specs.Lengths.{Ends}
use Rattle.giop_messages.proofs.SizedContexts.{blank_context}
use Rattle.giop_messages.proofs.length.behind_sizes.Given as goal

abbrev pub invariant-loop-size : goal.invariant-loop-size
invariant-loop-size l = Ends l.fn.place (flat_map blank_context (take l.size-index l.sizes)) l.at
