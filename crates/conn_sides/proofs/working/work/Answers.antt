use Rattle.pipe_laws.specs.Lacking.{served}
use Rattle.conn_sides.proofs.Tasks.{carries_answer, worked_start, worked_more, worked_out}
use Rattle.conn_sides.proofs.working.work.Goals as goal

pub loop-init : goal.loop-init
loop-init g c = worked_start c.args.pool.now.cell (served c.args.setup.now (g.S.Serving.outcome c.args.servants.now)) c.args.pass.now c.requires

pub finish-requires-clause-carries : goal.finish-requires-clause-carries
finish-requires-clause-carries g c =
    carries_answer c.args.pool.now.cell (served c.args.setup.now (g.S.Serving.outcome c.args.servants.now)) c.in-Job.job c.carry_out-answer.result c.take.new.pass c.in-Job.ensures.next c.carry_out-answer.ensures

pub finish-requires-clause-short : goal.finish-requires-clause-short
finish-requires-clause-short g c = c.carry_out-answer.ensures.short

pub loop-preserved : goal.loop-preserved
loop-preserved g c =
    worked_more c.args.pool.now.cell (served c.args.setup.now (g.S.Serving.outcome c.args.servants.now)) c.in-Job.job c.carry_out-answer.result c.args.pass.now c.loop.pass c.take.new.pass c.finish.new.pass
    c.loop.invariant c.in-Job.ensures.made c.in-Job.ensures.next c.carry_out-answer.ensures c.finish.ensures.made c.finish.ensures.next

pub returns-in-Ended : goal.returns-in-Ended
returns-in-Ended g c =
    worked_out c.args.pool.now.cell (served c.args.setup.now (g.S.Serving.outcome c.args.servants.now)) c.args.pass.now c.loop.pass c.take.new.pass c.loop.invariant c.in-Ended.ensures.made
