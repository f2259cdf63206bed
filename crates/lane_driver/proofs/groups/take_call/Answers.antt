use Rattle.std.proofs.Common.{subst, sym}
use Rattle.std.proofs.lemmas.Result.{err_from_is_err_and}
use Rattle.orb_base.specs.Pool.{Pool}
use Rattle.pipe_laws.specs.Setup.{pipe_conn}
use Rattle.pipe_laws.specs.Legality.{IsHeardCall}
use Rattle.pipe_laws.specs.Lacking.{served}
use Rattle.lane_driver.proofs.Calls.{call_want, call_stopped, call_want_then, call_drives, call_stays, ready_of, stays_then}
use Rattle.lane_driver.proofs.Driving.{stays_both}
use Rattle.lane_driver.proofs.groups.take_call.Goals as goal

pub returns-in_err-make_ready-clause-drives : goal.returns-in_err-make_ready-clause-drives
returns-in_err-make_ready-clause-drives g c =
    let p = err_from_is_err_and c.from_residual.result c.from_residual.ensures.1 in
    rw p.1 (call_want (served c.args.setup.now (g.S.Serving.outcome c.args.servants.now)) c.args.left c.args.call c.args.lanes.now _ _ c.in_err-make_ready.ensures.drives)

pub returns-in-Stopped-clause-drives : goal.returns-in-Stopped-clause-drives
returns-in-Stopped-clause-drives g c =
    call_stopped (served c.args.setup.now (g.S.Serving.outcome c.args.servants.now)) c.args.left c.args.call c.in_ok-make_ready.field-0 c.args.lanes.now c.make_ready.new.lanes c.args.log.now c.make_ready.new.log _ _ c.in-Stopped.is c.in_ok-make_ready.ensures.drives

pub returns-in_err-apply_call-clause-drives : goal.returns-in_err-apply_call-clause-drives
returns-in_err-apply_call-clause-drives g c =
    let p = err_from_is_err_and c.from_residual-in_err-apply_call.result c.from_residual-in_err-apply_call.ensures.1 in
    rw p.1 (call_want_then (served c.args.setup.now (g.S.Serving.outcome c.args.servants.now)) c.args.left c.args.call c.in_ok-make_ready.field-0 c.args.lanes.now c.make_ready.new.lanes c.args.log.now c.make_ready.new.log _ _ c.in-Whole.is c.in_ok-make_ready.ensures.drives)

pub end_group-requires : goal.end_group-requires
end_group-requires g c =
    let ready = ready_of c.args.call c.in_ok-make_ready.field-0 c.args.lanes.now c.make_ready.new.lanes c.in-Whole.is c.in_ok-make_ready.ensures.ready in
    let heard = subst (λ (p : Pool). IsHeardCall p pipe_conn c.args.call) (sym ready.0.pool) c.requires.heard in
    (call_stays c.args.call c.make_ready.new.lanes c.apply_call.new.lanes c.make_ready.new.log c.apply_call.new.log _ ready.0.between heard ready.1 c.in_ok-apply_call.ensures).between

pub returns-clause-drives : goal.returns-clause-drives
returns-clause-drives g c =
    call_drives (served c.args.setup.now (g.S.Serving.outcome c.args.servants.now)) c.args.left c.args.call c.in_ok-make_ready.field-0 c.end_group.result c.args.lanes.now c.make_ready.new.lanes c.apply_call.new.lanes c.end_group.new.lanes
    c.args.log.now c.make_ready.new.log c.apply_call.new.log c.end_group.new.log _ _ _ _ c.in-Whole.is c.requires.heard c.in_ok-make_ready.ensures.drives c.in_ok-apply_call.ensures c.end_group.ensures.drives

pub returns-clause-stays : goal.returns-clause-stays
returns-clause-stays g c =
    let ready = ready_of c.args.call c.in_ok-make_ready.field-0 c.args.lanes.now c.make_ready.new.lanes c.in-Whole.is c.in_ok-make_ready.ensures.ready in
    let heard = subst (λ (p : Pool). IsHeardCall p pipe_conn c.args.call) (sym ready.0.pool) c.requires.heard in
    let stays = call_stays c.args.call c.make_ready.new.lanes c.apply_call.new.lanes c.make_ready.new.log c.apply_call.new.log _ ready.0.between heard ready.1 c.in_ok-apply_call.ensures in
    stays_then c.end_group.result c.args.lanes.now c.apply_call.new.lanes c.end_group.new.lanes (stays_both ready.0 stays) c.end_group.ensures.stays
