use Rattle.std.proofs.Common.{refl}
use Rattle.std.specs.Prelude.{Result, Ok}
use Rattle.lane_driver.specs.declared.course.Course.{Course}
use Rattle.lane_driver.specs.declared.course.Course.TheVariants.{Stopped}
use Rattle.std.proofs.lemmas.Result.{err_from_is_err_and}
use Rattle.lane_driver.specs.Feeding.{ending}
use Rattle.pipe_laws.specs.Lacking.{served}
use Rattle.lane_driver.proofs.Items.{want_at_once}
use Rattle.lane_driver.proofs.Calls.{ends_so, end_drives, end_stopped, end_settled, end_between, settles_of, last_collect, grows_ending, end_want_as}
use Rattle.lane_driver.proofs.groups.end_run.Goals as goal

abbrev Ok_of : Course → Result Course ⊥
Ok_of course = Ok course

pub returns-in_err-apply_call : goal.returns-in_err-apply_call
returns-in_err-apply_call g c =
    let p = err_from_is_err_and c.from_residual.result c.from_residual.ensures.1 in
    rw p.1 (want_at_once (ending c.args.how) (served c.args.setup.now (g.S.Serving.outcome c.args.servants.now)) c.args.lanes.now _ _ (grows_ending c.args.how) refl)

pub settle-requires : goal.settle-requires
settle-requires g c = (end_between c.args.lanes.now c.apply_call.new.lanes c.last_how-last.result c.args.log.now c.apply_call.new.log _ c.requires.between c.requires.going c.in_ok-apply_call.ensures).0

pub returns-in_err-settle : goal.returns-in_err-settle
returns-in_err-settle g c =
    let p = err_from_is_err_and c.from_residual-in_err-settle.result c.from_residual-in_err-settle.ensures.1 in
    rw p.1 (end_want_as (served c.args.setup.now (g.S.Serving.outcome c.args.servants.now)) c.args.how c.last_how-last.result c.args.lanes.now c.apply_call.new.lanes c.settle.new.lanes c.args.log.now c.apply_call.new.log c.settle.new.log _ _ _ c.last_how-last.ensures c.in_ok-apply_call.ensures c.in_err-settle.ensures.drives)

pub collect-requires-clause-between : goal.collect-requires-clause-between
collect-requires-clause-between g c = (settles_of c.in_ok-settle.field-0 c.apply_call.new.lanes c.settle.new.lanes c.in-Whole.is c.in_ok-settle.ensures.stays).0.between

pub collect-requires-clause-ready : goal.collect-requires-clause-ready
collect-requires-clause-ready g c =
    let x = settles_of c.in_ok-settle.field-0 c.apply_call.new.lanes c.settle.new.lanes c.in-Whole.is c.in_ok-settle.ensures.stays in
    last_collect c.apply_call.new.lanes c.settle.new.lanes c.last_how-last.result (end_between c.args.lanes.now c.apply_call.new.lanes c.last_how-last.result c.args.log.now c.apply_call.new.log _ c.requires.between c.requires.going c.in_ok-apply_call.ensures).1 x.0 x.2

pub returns-in-Whole : goal.returns-in-Whole
returns-in-Whole g c =
    let settled = end_settled (served c.args.setup.now (g.S.Serving.outcome c.args.servants.now)) c.last_how-last.result (Ok_of c.in_ok-settle.field-0) c.args.lanes.now c.apply_call.new.lanes c.settle.new.lanes c.args.log.now c.apply_call.new.log c.settle.new.log _ _ _ c.in_ok-apply_call.ensures c.in_ok-settle.ensures.drives in
    ends_so (served c.args.setup.now (g.S.Serving.outcome c.args.servants.now)) c.args.how c.last_how-last.result c.collect.result c.args.lanes.now c.collect.new.lanes c.args.log.now c.collect.new.log _ _ c.last_how-last.ensures
    (end_drives (served c.args.setup.now (g.S.Serving.outcome c.args.servants.now)) c.last_how-last.result c.in_ok-settle.field-0 c.collect.result c.args.lanes.now c.settle.new.lanes c.collect.new.lanes c.args.log.now c.settle.new.log c.collect.new.log _ _ _ c.in-Whole.is settled c.collect.ensures)

pub returns-in-Stopped : goal.returns-in-Stopped
returns-in-Stopped g c =
    let settled = end_settled (served c.args.setup.now (g.S.Serving.outcome c.args.servants.now)) c.last_how-last.result (Ok_of c.in_ok-settle.field-0) c.args.lanes.now c.apply_call.new.lanes c.settle.new.lanes c.args.log.now c.apply_call.new.log c.settle.new.log _ _ _ c.in_ok-apply_call.ensures c.in_ok-settle.ensures.drives in
    ends_so {E = ⊥} (served c.args.setup.now (g.S.Serving.outcome c.args.servants.now)) c.args.how c.last_how-last.result (Ok_of Stopped) c.args.lanes.now c.settle.new.lanes c.args.log.now c.settle.new.log _ _ c.last_how-last.ensures
    (end_stopped (served c.args.setup.now (g.S.Serving.outcome c.args.servants.now)) c.last_how-last.result c.in_ok-settle.field-0 c.args.lanes.now c.settle.new.lanes c.args.log.now c.settle.new.log _ _ c.in-Stopped.is settled)
