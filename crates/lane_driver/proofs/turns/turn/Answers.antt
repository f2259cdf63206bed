use Rattle.pipe_laws.specs.Lacking.{served}
use Rattle.lane_driver.proofs.Driving.{turns_once, is_busy_with}
use Rattle.lane_driver.proofs.turns.turn.Goals as goal

pub finish-requires-clause-busy : goal.finish-requires-clause-busy
finish-requires-clause-busy g c = is_busy_with c.args.lanes.now c.take.new.lanes c.args.thread c.in_ok-job.job c.carry_out-answer.result c.requires.given c.in_ok-job.ensures.state c.in_ok-job.ensures.reply c.carry_out-answer.ensures.same_job

pub returns : goal.returns
returns g c =
    turns_once (served c.args.setup.now (g.S.Serving.outcome c.args.servants.now)) c.args.lanes.now c.take.new.lanes c.finish.new.lanes c.args.log.now c.take.new.log c.finish.new.log
    c.args.thread c.in_ok-job.job c.carry_out-answer.result c.requires.between c.requires.given c.in_ok-job.ensures c.carry_out-answer.ensures c.in_ok-finish.ensures
