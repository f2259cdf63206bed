-- The thread's hands have the request that it was given, where it was given one.
use Rattle.machine_tests.proofs.Known.{take_known, begin_known}
use Rattle.machine_tests.proofs.replay.Replay.take.Goals as goal

pub invariant_of-self-in-Some-2 : goal.invariant_of-self-in-Some-2
invariant_of-self-in-Some-2 c = begin_known _ _ _ _ _ _ c.args.thread _ _ _ _ c.from-at.ensures c.replace.ensures.after c.in-Some.ensures c.in_ok-reply.ensures c.self.invariant

pub invariant_of-self-in_default : goal.invariant_of-self-in_default
invariant_of-self-in_default c = take_known _ _ _ _ _ _ c.args.thread c.tried.result c.tried.ensures c.self.invariant
