use Rattle.std.proofs.Common.{◌∙◌}
use Rattle.std.specs.Prelude.{Result, Ok}
use Rattle.std.proofs.lemmas.Result.{err_from_is_err_and}
use Rattle.lane_driver.specs.declared.course.Course.{Course}
use Rattle.pipe_laws.specs.Lacking.{served}
use Rattle.lane_driver.proofs.Whole.{fed_want, fed_stopped, fed_whole, fed_settles, settled_want_as, settled_stopped, ended_whole}
use Rattle.lane_driver.proofs.Calls.{settles_of}
use Rattle.lane_driver.proofs.runs.run_calls.Goals as goal

abbrev Ok_of : Course → Result Course ⊥
Ok_of course = Ok course

pub returns-in_err-feed : goal.returns-in_err-feed
returns-in_err-feed g c =
    let p = err_from_is_err_and c.from_residual.result c.from_residual.ensures.1 in
    rw p.1 (fed_want (served c.args.setup.now (g.S.Serving.outcome c.args.servants.now)) c.args.batch c.args.calls.now c.args.how c.args.lanes.now _ _ c.in_err-feed.ensures)

pub returns-in-Stopped : goal.returns-in-Stopped
returns-in-Stopped g c =
    fed_stopped (served c.args.setup.now (g.S.Serving.outcome c.args.servants.now)) c.args.batch c.args.calls.now c.args.how c.in_ok-feed.field-0 c.args.lanes.now c.feed.new.lanes c.feed.new.room c.args.log.now c.feed.new.log _ _ c.in-Stopped.is c.in_ok-feed.ensures

pub settle-requires : goal.settle-requires
settle-requires g c =
    (fed_whole c.args.batch (served c.args.setup.now (g.S.Serving.outcome c.args.servants.now)) c.in_ok-feed.field-0 c.args.lanes.now c.feed.new.lanes c.feed.new.room c.args.calls.now c.args.log.now c.feed.new.log _ _ c.in-Whole.is c.in_ok-feed.ensures).stays.between

pub returns-in_err-settle : goal.returns-in_err-settle
returns-in_err-settle g c =
    let p = err_from_is_err_and c.from_residual-in_err-settle.result c.from_residual-in_err-settle.ensures.1 in
    rw p.1 (settled_want_as (served c.args.setup.now (g.S.Serving.outcome c.args.servants.now)) c.args.batch c.args.calls.now c.args.how c.in_ok-feed.field-0 c.args.lanes.now c.feed.new.lanes c.settle.new.lanes c.feed.new.room
    c.args.log.now c.feed.new.log c.settle.new.log _ _ _ c.in-Whole.is c.in_ok-feed.ensures c.in_err-settle.ensures.drives)

pub end_run-requires-clause-between : goal.end_run-requires-clause-between
end_run-requires-clause-between g c = (settles_of c.in_ok-settle.field-0 c.feed.new.lanes c.settle.new.lanes c.in-Whole-2.is c.in_ok-settle.ensures.stays).0.between

pub end_run-requires-clause-going : goal.end_run-requires-clause-going
end_run-requires-clause-going g c =
    (settles_of c.in_ok-settle.field-0 c.feed.new.lanes c.settle.new.lanes c.in-Whole-2.is c.in_ok-settle.ensures.stays).0.ended
    ∙ (fed_whole c.args.batch (served c.args.setup.now (g.S.Serving.outcome c.args.servants.now)) c.in_ok-feed.field-0 c.args.lanes.now c.feed.new.lanes c.feed.new.room c.args.calls.now c.args.log.now c.feed.new.log _ _ c.in-Whole.is c.in_ok-feed.ensures).stays.ended
    ∙ c.requires.going

pub returns-in-Whole-2 : goal.returns-in-Whole-2
returns-in-Whole-2 g c =
    let settles = fed_settles (served c.args.setup.now (g.S.Serving.outcome c.args.servants.now)) c.args.batch c.args.calls.now c.in_ok-feed.field-0 (Ok_of c.in_ok-settle.field-0) c.args.lanes.now c.feed.new.lanes c.settle.new.lanes c.feed.new.room c.args.log.now c.feed.new.log c.settle.new.log _ _ _ c.in-Whole.is c.in_ok-feed.ensures c.in_ok-settle.ensures.drives in
    ended_whole (served c.args.setup.now (g.S.Serving.outcome c.args.servants.now)) c.args.batch c.args.calls.now c.args.how c.in_ok-settle.field-0 c.end_run.result c.args.lanes.now c.settle.new.lanes c.end_run.new.lanes c.args.log.now c.settle.new.log c.end_run.new.log _ _ _ c.in-Whole-2.is settles c.end_run.ensures

pub returns-in-Stopped-2 : goal.returns-in-Stopped-2
returns-in-Stopped-2 g c =
    let settles = fed_settles (served c.args.setup.now (g.S.Serving.outcome c.args.servants.now)) c.args.batch c.args.calls.now c.in_ok-feed.field-0 (Ok_of c.in_ok-settle.field-0) c.args.lanes.now c.feed.new.lanes c.settle.new.lanes c.feed.new.room c.args.log.now c.feed.new.log c.settle.new.log _ _ _ c.in-Whole.is c.in_ok-feed.ensures c.in_ok-settle.ensures.drives in
    settled_stopped (served c.args.setup.now (g.S.Serving.outcome c.args.servants.now)) c.args.batch c.args.calls.now c.args.how c.in_ok-settle.field-0 c.args.lanes.now c.settle.new.lanes c.args.log.now c.settle.new.log _ _ c.in-Stopped-2.is settles
