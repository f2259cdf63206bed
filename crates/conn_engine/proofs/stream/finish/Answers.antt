-- The end of the last group, and then that of the connection.
use Rattle.std.proofs.lemmas.Result.{err_from_is_err_and}
use Rattle.pipe_laws.specs.Lacking.{served}
use Rattle.pipe_laws.specs.Piped.{settled}
use Rattle.lane_driver.specs.Feeding.{ending}
use Rattle.lane_driver.proofs.Calls.{grows_ending, stopped_of, whole_of}
use Rattle.lane_driver.proofs.Items.{drives_then, want_first}
use Rattle.conn_engine.proofs.stream.finish.Goals as goal

pub returns-in_err-settle : goal.returns-in_err-settle
returns-in_err-settle g c =
    let p = err_from_is_err_and c.from_residual.result c.from_residual.ensures.1 in
    rw p.1 (want_first settled (ending c.args.how) (served c.args.setup.now (g.S.Serving.outcome c.args.servants.now)) c.args.lanes.now _ _ (grows_ending c.args.how) c.in_err-settle.ensures.drives)

pub returns-in-Whole : goal.returns-in-Whole
returns-in-Whole g c =
    let outcome = served c.args.setup.now (g.S.Serving.outcome c.args.servants.now) in
    let one = whole_of settled outcome c.in_ok-settle.field-0 c.args.lanes.now c.settle.new.lanes c.args.log.now c.settle.new.log _ _ c.in-Whole.is c.in_ok-settle.ensures.drives in
    drives_then settled (ending c.args.how) outcome c.end_run.result c.args.lanes.now c.settle.new.lanes c.end_run.new.lanes c.args.log.now c.settle.new.log c.end_run.new.log _ _ _ (grows_ending c.args.how) one.0 one.1 c.end_run.ensures

pub returns-in-Stopped : goal.returns-in-Stopped
returns-in-Stopped g c =
    stopped_of settled (ending c.args.how) (served c.args.setup.now (g.S.Serving.outcome c.args.servants.now)) c.in_ok-settle.field-0 c.args.lanes.now c.settle.new.lanes c.args.log.now c.settle.new.log _ _ c.in-Stopped.is (grows_ending c.args.how) c.in_ok-settle.ensures.drives
