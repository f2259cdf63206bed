-- An Offer, a Post, a Cancel and a Collect leave what is known.
use Rattle.machine_tests.proofs.Known.{quiet_known}
use Rattle.machine_tests.proofs.replay.Replay.ask.Goals as goal

pub invariant_of-self : goal.invariant_of-self
invariant_of-self c = quiet_known _ _ _ _ _ _ c.args.call.now c.tried.result c.requires.quiet c.tried.ensures c.self.invariant
