-- Each read, and the one with which the reading stops.
use Rattle.std.proofs.Common.{◌+◌, ◌≤◌, refl, arith}
use Rattle.std.proofs.lemmas.Grind.{common_steps}
use Rattle.std.proofs.lemmas.Result.{err_from_is_err_and}
use Rattle.pipe_laws.specs.Lacking.{served}
use Rattle.conn_engine.proofs.Taken.{took_piece}
use Rattle.conn_engine.proofs.ReadRuns.{read_start, read_more, stops_with, wants_with, stops_at_end, stops_at_fault, stops_full, wants_first}
use Rattle.conn_engine.proofs.feeding.feed_stream.Goals as goal

pub loop-taken-init : goal.loop-taken-init
loop-taken-init g c =
    read_start c.args.setup.now c.args.batch (served c.args.setup.now (g.S.Serving.outcome c.args.servants.now)) c.in_ok-hearing.hearing c.args.lanes.now c.args.room.now
    (g.I.Source.state c.args.source.now) c.args.log.now (g.O.Sink.state c.args.sink.now) c.in_ok-hearing.ensures c.requires.between c.requires.room c.requires.going

pub returns-in_err-hearing : goal.returns-in_err-hearing
returns-in_err-hearing g c =
    let p = err_from_is_err_and c.from_residual.result c.from_residual.ensures.1 in
    rw p.1 (wants_first p.0 c.args.setup.now c.args.batch (served c.args.setup.now (g.S.Serving.outcome c.args.servants.now)) c.args.lanes.now c.args.lanes.now c.args.room.now c.args.room.now
    (g.I.Source.state c.args.source.now) c.args.log.now c.args.log.now (g.O.Sink.state c.args.sink.now) (g.O.Sink.state c.args.sink.now) refl)

pub returns-in_err-reading-in-Bytes : goal.returns-in_err-reading-in-Bytes
returns-in_err-reading-in-Bytes g c =
    let few : (c.in-Bytes.n ≤ 4096) × (c.in-Bytes.n + c.loop-taken.taken ≤ 67108864) = (grind (arith, common_steps, c.in-Bytes.ensures.bytes.1, c.read.auto.into), grind (arith, common_steps, c.in-Bytes.ensures.bytes.1, c.read.auto.into)) in
    let p = err_from_is_err_and c.from_residual-in_err-reading-in-Bytes.result c.from_residual-in_err-reading-in-Bytes.ensures.1 in
    let outcome = served c.args.setup.now (g.S.Serving.outcome c.args.servants.now) in
    let took = took_piece c.loop-taken.hearing.framer.fed c.loop-taken.taken c.in-Bytes.n (g.I.Source.state c.args.source.now) (g.I.Source.state c.loop-taken.source) (g.I.Source.state c.read.new.self) c.read.new.into _ _
    c.loop-taken.invariant.gave c.loop-taken.invariant.count_is c.loop-taken.invariant.reads c.loop-taken.invariant.no_end c.in-Bytes.ensures.bytes.1 few.0 few.1 c.in-Bytes.ensures.bytes.2 c.in-Bytes.ensures.bytes.3 refl c.in-Bytes.ensures.fault c.in-Bytes.ensures.end in
    rw p.1 (wants_with c.args.setup.now c.args.batch outcome c.loop-taken.hearing c.run_piece.new.hearing c.loop-taken.taken (c.loop-taken.taken + c.in-Bytes.n) c.args.lanes.now c.loop-taken.lanes c.run_piece.new.lanes
    c.args.room.now c.loop-taken.room c.run_piece.new.room (g.I.Source.state c.args.source.now) (g.I.Source.state c.loop-taken.source) (g.I.Source.state c.read.new.self)
    c.args.log.now c.loop-taken.log c.run_piece.new.log (g.O.Sink.state c.args.sink.now) (g.O.Sink.state c.loop-taken.sink) (g.O.Sink.state c.run_piece.new.sink) _
    c.loop-taken.invariant took c.in_err-reading-in-Bytes.field-0.0 p.0 c.in_err-reading-in-Bytes.ensures)

pub returns-in-Some : goal.returns-in-Some
returns-in-Some g c =
    let few : (c.in-Bytes.n ≤ 4096) × (c.in-Bytes.n + c.loop-taken.taken ≤ 67108864) = (grind (arith, common_steps, c.in-Bytes.ensures.bytes.1, c.read.auto.into), grind (arith, common_steps, c.in-Bytes.ensures.bytes.1, c.read.auto.into)) in
    let ran = rw c.in-Some.is at c.in_ok-reading-in-Bytes.ensures in
    let outcome = served c.args.setup.now (g.S.Serving.outcome c.args.servants.now) in
    let took = took_piece c.loop-taken.hearing.framer.fed c.loop-taken.taken c.in-Bytes.n (g.I.Source.state c.args.source.now) (g.I.Source.state c.loop-taken.source) (g.I.Source.state c.read.new.self) c.read.new.into _ _
    c.loop-taken.invariant.gave c.loop-taken.invariant.count_is c.loop-taken.invariant.reads c.loop-taken.invariant.no_end c.in-Bytes.ensures.bytes.1 few.0 few.1 c.in-Bytes.ensures.bytes.2 c.in-Bytes.ensures.bytes.3 refl c.in-Bytes.ensures.fault c.in-Bytes.ensures.end in
    stops_with c.args.setup.now c.args.batch outcome c.loop-taken.hearing c.run_piece.new.hearing c.loop-taken.taken (c.loop-taken.taken + c.in-Bytes.n) c.args.lanes.now c.loop-taken.lanes c.run_piece.new.lanes
    c.args.room.now c.loop-taken.room c.run_piece.new.room (g.I.Source.state c.args.source.now) (g.I.Source.state c.loop-taken.source) (g.I.Source.state c.read.new.self)
    c.args.log.now c.loop-taken.log c.run_piece.new.log (g.O.Sink.state c.args.sink.now) (g.O.Sink.state c.loop-taken.sink) (g.O.Sink.state c.run_piece.new.sink) _
    c.loop-taken.invariant took c.in-Some.reading ran

pub loop-taken-preserved : goal.loop-taken-preserved
loop-taken-preserved g c =
    let few : (c.in-Bytes.n ≤ 4096) × (c.in-Bytes.n + c.loop-taken.taken ≤ 67108864) = (grind (arith, common_steps, c.in-Bytes.ensures.bytes.1, c.read.auto.into), grind (arith, common_steps, c.in-Bytes.ensures.bytes.1, c.read.auto.into)) in
    let ran = rw c.in_default.is at c.in_ok-reading-in-Bytes.ensures in
    let outcome = served c.args.setup.now (g.S.Serving.outcome c.args.servants.now) in
    let took = took_piece c.loop-taken.hearing.framer.fed c.loop-taken.taken c.in-Bytes.n (g.I.Source.state c.args.source.now) (g.I.Source.state c.loop-taken.source) (g.I.Source.state c.read.new.self) c.read.new.into _ _
    c.loop-taken.invariant.gave c.loop-taken.invariant.count_is c.loop-taken.invariant.reads c.loop-taken.invariant.no_end c.in-Bytes.ensures.bytes.1 few.0 few.1 c.in-Bytes.ensures.bytes.2 c.in-Bytes.ensures.bytes.3 refl c.in-Bytes.ensures.fault c.in-Bytes.ensures.end in
    read_more c.args.setup.now c.args.batch outcome c.loop-taken.hearing c.run_piece.new.hearing c.loop-taken.taken (c.loop-taken.taken + c.in-Bytes.n) c.args.lanes.now c.loop-taken.lanes c.run_piece.new.lanes
    c.args.room.now c.loop-taken.room c.run_piece.new.room (g.I.Source.state c.args.source.now) (g.I.Source.state c.loop-taken.source) (g.I.Source.state c.read.new.self)
    c.args.log.now c.loop-taken.log c.run_piece.new.log (g.O.Sink.state c.args.sink.now) (g.O.Sink.state c.loop-taken.sink) (g.O.Sink.state c.run_piece.new.sink) _
    c.loop-taken.invariant took ran

pub returns-in-End : goal.returns-in-End
returns-in-End g c =
    stops_at_end c.args.setup.now c.args.batch (served c.args.setup.now (g.S.Serving.outcome c.args.servants.now)) c.loop-taken.hearing c.loop-taken.taken c.args.lanes.now c.loop-taken.lanes c.args.room.now c.loop-taken.room
    (g.I.Source.state c.args.source.now) (g.I.Source.state c.loop-taken.source) (g.I.Source.state c.read.new.self) c.args.log.now c.loop-taken.log (g.O.Sink.state c.args.sink.now) (g.O.Sink.state c.loop-taken.sink)
    c.loop-taken.invariant c.at_end.result c.loop-taken-test.true c.at_end.ensures c.in-End.ensures.bytes.1 c.in-End.ensures.bytes.2 c.in-End.ensures.bytes.0 c.in-End.ensures.end.1 c.in-End.ensures.fault

pub returns-in-Failed : goal.returns-in-Failed
returns-in-Failed g c =
    stops_at_fault c.args.setup.now c.args.batch (served c.args.setup.now (g.S.Serving.outcome c.args.servants.now)) c.loop-taken.hearing c.loop-taken.taken c.args.lanes.now c.loop-taken.lanes c.args.room.now c.loop-taken.room
    (g.I.Source.state c.args.source.now) (g.I.Source.state c.loop-taken.source) (g.I.Source.state c.read.new.self) c.args.log.now c.loop-taken.log (g.O.Sink.state c.args.sink.now) (g.O.Sink.state c.loop-taken.sink)
    c.loop-taken.invariant c.loop-taken-test.true c.in-Failed.ensures.bytes.0 c.in-Failed.ensures.bytes.1 c.in-Failed.ensures.end c.in-Failed.ensures.fault.1

pub returns : goal.returns
returns g c =
    stops_full c.args.setup.now c.args.batch (served c.args.setup.now (g.S.Serving.outcome c.args.servants.now)) c.loop-taken.hearing c.loop-taken.taken c.args.lanes.now c.loop-taken.lanes c.args.room.now c.loop-taken.room
    (g.I.Source.state c.args.source.now) (g.I.Source.state c.loop-taken.source) (g.I.Source.state c.loop-taken.source) c.args.log.now c.loop-taken.log (g.O.Sink.state c.args.sink.now) (g.O.Sink.state c.loop-taken.sink)
    c.loop-taken.invariant c.loop-taken-test.false refl
