use Rattle.std.proofs.Common.{take}
use Rattle.service_contexts.specs.Telling.{Tells}
use Rattle.service_contexts.proofs.contexts.contexts_of.Given as goal

abbrev pub invariant-loop-context : goal.invariant-loop-context
invariant-loop-context l = Tells (take l.context-index l.context-items) l.told
