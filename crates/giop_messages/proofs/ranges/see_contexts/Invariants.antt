use Rattle.giop_messages.specs.Ranges.{HasId}
use Rattle.giop_messages.proofs.RangeLaws.{EachTo}
use Rattle.giop_messages.proofs.ranges.see_contexts.Given as goal

abbrev pub invariant-loop-context : goal.invariant-loop-context
invariant-loop-context l = EachTo HasId l.context-index l.contexts
