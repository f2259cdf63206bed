use Rattle.std.proofs.Common.{sym, ◌∙◌, ◌+◌, drop}
use Rattle.std.proofs.lemmas.Result.{err_from_is_err_and}
use Rattle.pipe_laws.specs.Lacking.{served}
use Rattle.lane_driver.proofs.FedCalls.{fed_none, fed_more, fed_stopped, fed_want, fed_want_here, fed_closing, first_left, heard_left, shared_left, shared_room}
use Rattle.lane_driver.proofs.feeding.feed.Goals as goal

pub loop-call-init : goal.loop-call-init
loop-call-init g c = record {
  fed = fed_none c.args.batch (served c.args.setup.now (g.S.Serving.outcome c.args.servants.now)) c.args.lanes.now c.args.room.now c.args.calls.now c.args.log.now (g.O.Sink.state c.args.sink.now) c.requires.between c.requires.room;
  heard = c.requires.heard;
}

pub returns-then-is_closing : goal.returns-then-is_closing
returns-then-is_closing g c =
    fed_closing c.args.batch (served c.args.setup.now (g.S.Serving.outcome c.args.servants.now)) c.args.lanes.now c.loop-call.lanes c.args.room.now c.loop-call.room c.args.calls.now (drop c.loop-call.call-index c.args.calls.now) c.args.log.now c.loop-call.log _ _ (sym c.is_closing.ensures ∙ c.if-is_closing.true) c.loop-call.invariant.fed

pub returns-in_err-shared : goal.returns-in_err-shared
returns-in_err-shared g c =
    let p = err_from_is_err_and c.from_residual.result c.from_residual.ensures.1 in
    rw p.1 (fed_want_here c.args.batch (served c.args.setup.now (g.S.Serving.outcome c.args.servants.now)) c.args.lanes.now c.loop-call.lanes c.args.room.now c.loop-call.room c.args.calls.now (drop c.loop-call.call-index c.args.calls.now) c.args.log.now c.loop-call.log _ _ c.loop-call.invariant.fed)

pub returns-in_err-take_call : goal.returns-in_err-take_call
returns-in_err-take_call g c =
    let p = err_from_is_err_and c.from_residual-in_err-take_call.result c.from_residual-in_err-take_call.ensures.1 in
    rw p.1 (fed_want c.args.batch (served c.args.setup.now (g.S.Serving.outcome c.args.servants.now)) c.args.lanes.now c.loop-call.lanes c.args.room.now c.loop-call.room c.room_left-left.result c.args.calls.now (drop c.loop-call.call-index c.args.calls.now) c.in_ok-shared.shared (drop (c.loop-call.call-index + 1) c.args.calls.now) c.args.log.now c.loop-call.log _ _ _
    (shared_left c.args.calls.now c.loop-call.call-index c.call-item.result c.in_ok-shared.shared c.loop-call-test.true c.call-item.is c.in_ok-shared.ensures) (sym c.is_closing.ensures ∙ c.if-is_closing.false) (shared_room c.loop-call.lanes c.call-item.result c.in_ok-shared.shared c.room_left-left.result c.loop-call.room c.args.batch c.room_left-left.ensures c.in_ok-shared.ensures) c.loop-call.invariant.fed c.in_err-take_call.ensures.drives)

pub returns-in-Stopped : goal.returns-in-Stopped
returns-in-Stopped g c =
    fed_stopped c.args.batch (served c.args.setup.now (g.S.Serving.outcome c.args.servants.now)) c.in_ok-take_call.field-0 c.args.lanes.now c.loop-call.lanes c.take_call.new.lanes c.args.room.now c.loop-call.room c.room_left-left.result c.args.calls.now (drop c.loop-call.call-index c.args.calls.now) c.in_ok-shared.shared (drop (c.loop-call.call-index + 1) c.args.calls.now)
    c.args.log.now c.loop-call.log c.take_call.new.log _ _ _ (shared_left c.args.calls.now c.loop-call.call-index c.call-item.result c.in_ok-shared.shared c.loop-call-test.true c.call-item.is c.in_ok-shared.ensures) c.in-Stopped.is (sym c.is_closing.ensures ∙ c.if-is_closing.false) (shared_room c.loop-call.lanes c.call-item.result c.in_ok-shared.shared c.room_left-left.result c.loop-call.room c.args.batch c.room_left-left.ensures c.in_ok-shared.ensures) c.loop-call.invariant.fed c.in_ok-take_call.ensures.drives

pub loop-call-preserved : goal.loop-call-preserved
loop-call-preserved g c = record {
  fed = fed_more c.args.batch (served c.args.setup.now (g.S.Serving.outcome c.args.servants.now)) c.in_ok-take_call.field-0 c.args.lanes.now c.loop-call.lanes c.take_call.new.lanes c.args.room.now c.loop-call.room c.room_then.result c.room_left-left.result c.args.calls.now (drop c.loop-call.call-index c.args.calls.now) c.in_ok-shared.shared (drop (c.loop-call.call-index + 1) c.args.calls.now)
      c.args.log.now c.loop-call.log c.take_call.new.log _ _ _ (shared_left c.args.calls.now c.loop-call.call-index c.call-item.result c.in_ok-shared.shared c.loop-call-test.true c.call-item.is c.in_ok-shared.ensures) c.in-Whole.is (sym c.is_closing.ensures ∙ c.if-is_closing.false) (shared_room c.loop-call.lanes c.call-item.result c.in_ok-shared.shared c.room_left-left.result c.loop-call.room c.args.batch c.room_left-left.ensures c.in_ok-shared.ensures) c.room_then.ensures.is c.room_then.ensures.some c.loop-call.invariant.fed c.in_ok-take_call.ensures.drives c.in_ok-take_call.ensures.stays;
  heard = (heard_left c.args.lanes.now.pool c.args.calls.now c.loop-call.call-index c.call-item.result (first_left c.args.calls.now c.loop-call.call-index c.call-item.result c.loop-call-test.true c.call-item.is) c.loop-call.invariant.heard).1;
}
