use Rattle.std.proofs.Common.{sym, ◌∙◌}
use Rattle.pipe_laws.specs.Lacking.{served}
use Rattle.lane_driver.proofs.Driving.{turns_more, turns_done, turns_none}
use Rattle.lane_driver.proofs.turns.run_to_rest.Goals as goal

pub loop-thread-init : goal.loop-thread-init
loop-thread-init g c = turns_none (served c.args.setup.now (g.S.Serving.outcome c.args.servants.now)) c.args.lanes.now c.args.log.now c.requires

pub loop-thread-preserved : goal.loop-thread-preserved
loop-thread-preserved g c =
    turns_more (served c.args.setup.now (g.S.Serving.outcome c.args.servants.now)) c.args.lanes.now c.loop-thread.lanes c.turn.new.lanes c.args.log.now c.loop-thread.log c.turn.new.log
    c.loop-thread.invariant c.in_ok-turn.ensures

pub returns : goal.returns
returns g c =
    turns_done (served c.args.setup.now (g.S.Serving.outcome c.args.servants.now)) c.args.lanes.now c.loop-thread.lanes c.args.log.now c.loop-thread.log
    c.loop-thread.invariant (sym c.first_given.ensures ∙ c.in_default.is)
