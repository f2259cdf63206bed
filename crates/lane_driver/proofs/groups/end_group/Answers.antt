use Rattle.std.proofs.Common.{refl, ne_eqb, eq-eqb}
use Rattle.pipe_laws.specs.Lacking.{served}
use Rattle.lane_driver.proofs.Calls.{room_stays, room_taken, stays_settled}
use Rattle.lane_driver.proofs.groups.end_group.Goals as goal

pub returns-then-left-ne0-clause-drives : goal.returns-then-left-ne0-clause-drives
returns-then-left-ne0-clause-drives g c = (room_stays (served c.args.setup.now (g.S.Serving.outcome c.args.servants.now)) c.args.left c.args.lanes.now c.args.log.now (g.O.Sink.state c.args.sink.now) (ne_eqb c.args.left 0 c.if-left-ne0.true), refl)

pub returns-clause-drives : goal.returns-clause-drives
returns-clause-drives g c = room_taken (served c.args.setup.now (g.S.Serving.outcome c.args.servants.now)) c.args.left c.settle.result c.args.lanes.now c.settle.new.lanes c.args.log.now c.settle.new.log _ _ (eq-eqb c.args.left 0 c.if-left-ne0.false) c.settle.ensures.drives

pub returns-clause-stays : goal.returns-clause-stays
returns-clause-stays g c = stays_settled c.settle.result c.args.lanes.now c.settle.new.lanes c.settle.ensures.stays
