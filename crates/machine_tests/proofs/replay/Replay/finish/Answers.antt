-- The thread's hands are empty, whether it finishes or not.
use Rattle.machine_tests.proofs.Known.{let_go, finish_known}
use Rattle.machine_tests.proofs.replay.Replay.finish.Goals as goal

pub invariant_of-self : goal.invariant_of-self
invariant_of-self c = finish_known _ _ _ _ _ _ c.args.thread _ _ c.tried.result _ c.from-at.ensures c.replace.ensures.after c.tried.ensures c.self.invariant

pub invariant_of-self-else-is_same : goal.invariant_of-self-else-is_same
invariant_of-self-else-is_same c = let_go _ c.self.inside.lanes _ _ _ _ _ _ c.replace.ensures.after c.self.invariant

pub invariant_of-self-in_default : goal.invariant_of-self-in_default
invariant_of-self-in_default c = let_go _ c.self.inside.lanes _ _ _ _ _ _ c.replace.ensures.after c.self.invariant
