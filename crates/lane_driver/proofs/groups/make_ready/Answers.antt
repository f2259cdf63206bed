use Rattle.std.proofs.Common.{refl, sym, ◌∙◌}
use Rattle.pipe_laws.specs.Lacking.{served}
use Rattle.lane_driver.proofs.Calls.{ready_at_once, ready_settled, ready_whole}
use Rattle.lane_driver.proofs.Driving.{stays_self}
use Rattle.lane_driver.proofs.groups.make_ready.Goals as goal

pub returns-then-ready-clause-drives : goal.returns-then-ready-clause-drives
returns-then-ready-clause-drives g c = (ready_at_once (served c.args.setup.now (g.S.Serving.outcome c.args.servants.now)) c.args.call.now c.args.lanes.now c.args.log.now (g.O.Sink.state c.args.sink.now) (sym c.ready.ensures ∙ c.if-ready.true), refl)

pub returns-then-ready-clause-ready : goal.returns-then-ready-clause-ready
returns-then-ready-clause-ready g c = (stays_self c.args.lanes.now c.requires.between, sym c.ready.ensures ∙ c.if-ready.true)

pub returns-clause-drives : goal.returns-clause-drives
returns-clause-drives g c = ready_settled (served c.args.setup.now (g.S.Serving.outcome c.args.servants.now)) c.args.call.now c.settle.result c.args.lanes.now c.settle.new.lanes c.args.log.now c.settle.new.log _ _ (sym c.ready.ensures ∙ c.if-ready.false) c.settle.ensures.drives

pub returns-clause-ready : goal.returns-clause-ready
returns-clause-ready g c = ready_whole c.args.call.now c.settle.result c.args.lanes.now c.settle.new.lanes c.requires.heard c.settle.ensures.stays
