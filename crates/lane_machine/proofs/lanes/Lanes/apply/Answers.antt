-- Each sound call keeps the bounds.
use Rattle.lane_machine.specs.Machine.{step}
use Rattle.lane_machine.proofs.Counts.{closes, step_bounded}
use Rattle.lane_machine.proofs.lanes.Lanes.apply.Goals as goal

pub invariant_of-self : goal.invariant_of-self
invariant_of-self c =
    let sound = rw (← c.self.view_is) at c.requires.sound in
    closes c.self.inside.machine (step c.self.inside.machine c.args.call.now) c.apply.new.self c.apply.result c.apply.ensures c.self.invariant
    (step_bounded c.self.inside.machine c.args.call.now sound c.self.invariant)
