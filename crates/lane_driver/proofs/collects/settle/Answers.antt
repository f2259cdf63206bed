use Rattle.std.proofs.Common.{refl}
use Rattle.std.proofs.lemmas.Result.{err_from_is_err_and}
use Rattle.pipe_laws.specs.Piped.{settled}
use Rattle.pipe_laws.specs.Lacking.{served}
use Rattle.lane_driver.proofs.Items.{want_at_once, grows_settling, settle_drives, settles_whole}
use Rattle.lane_driver.proofs.collects.settle.Goals as goal

pub returns-in_err-run_to_rest-clause-drives : goal.returns-in_err-run_to_rest-clause-drives
returns-in_err-run_to_rest-clause-drives g c =
    let p = err_from_is_err_and c.from_residual.result c.from_residual.ensures.1 in
    rw p.1 (want_at_once settled (served c.args.setup.now (g.S.Serving.outcome c.args.servants.now)) c.args.lanes.now _ _ grows_settling refl)

pub returns-clause-drives : goal.returns-clause-drives
returns-clause-drives g c =
    let outcome = served c.args.setup.now (g.S.Serving.outcome c.args.servants.now) in
    settle_drives outcome c.collect_all.result c.args.lanes.now c.run_to_rest.new.lanes c.collect_all.new.lanes c.args.log.now c.run_to_rest.new.log c.collect_all.new.log _ _
    c.in_ok-run_to_rest.ensures (c.collect_all.ensures.drives outcome)

pub returns-clause-stays : goal.returns-clause-stays
returns-clause-stays g c =
    let outcome = served c.args.setup.now (g.S.Serving.outcome c.args.servants.now) in
    settles_whole outcome c.collect_all.result c.args.lanes.now c.run_to_rest.new.lanes c.collect_all.new.lanes c.args.log.now c.run_to_rest.new.log c.in_ok-run_to_rest.ensures c.collect_all.ensures.stays
