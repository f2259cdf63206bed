use Rattle.std.proofs.Common.{◌-◌}
use Rattle.cdr_core.specs.Lists.{made_at, context_of}
use Rattle.cdr_core.specs.Sequence.{times}
use Rattle.service_contexts.proofs.AtList.{SoFar}
use Rattle.service_contexts.proofs.contexts.told_by.Given as goal

abbrev pub invariant-loop : goal.invariant-loop
invariant-loop l = SoFar l.told (l.count - l.counter) l.reader (times (made_at context_of) l.count l.initial.reader)
