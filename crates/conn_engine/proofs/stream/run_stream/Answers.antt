-- How the run comes out, by how far the reading came.
use Rattle.std.proofs.Common.{refl}
use Rattle.std.proofs.lemmas.Result.{err_from_is_err_and}
use Rattle.conn_engine.proofs.StreamRuns.{runs_unopened, runs_wanting, over_wanting, runs_over, closed_wanting, runs_closed, runs_stopped}
use Rattle.conn_engine.proofs.stream.run_stream.Goals as goal

pub returns-in_err-lanes : goal.returns-in_err-lanes
returns-in_err-lanes g c =
    let p = err_from_is_err_and c.from_residual.result c.from_residual.ensures.1 in
    rw p.1 (runs_unopened p.0 c.args.setup.now (g.S.Serving.outcome c.args.servants.now) c.args.batch (g.I.Source.state c.args.source.now) c.args.log.now c.args.log.now (g.O.Sink.state c.args.sink.now))

pub returns-in_err-reading : goal.returns-in_err-reading
returns-in_err-reading g c =
    let p = err_from_is_err_and c.from_residual-in_err-reading.result c.from_residual-in_err-reading.ensures.1 in
    rw p.1 (runs_wanting c.args.setup.now (g.S.Serving.outcome c.args.servants.now) c.args.batch c.in_ok-lanes.ensures.well_formed c.in_ok-lanes.ensures.slots
    c.in_ok-lanes.lanes c.feed_stream.new.lanes c.feed_stream.new.lanes c.args.batch c.feed_stream.new.room (g.I.Source.state c.args.source.now) (g.I.Source.state c.feed_stream.new.source)
    c.args.log.now c.feed_stream.new.log c.feed_stream.new.log (g.O.Sink.state c.args.sink.now) (g.O.Sink.state c.feed_stream.new.sink) (g.O.Sink.state c.feed_stream.new.sink)
    c.in_ok-lanes.ensures.value refl c.in_err-reading.field-0.0 p.0 c.in_err-reading.ensures)

pub returns-in_err-course-in-Over : goal.returns-in_err-course-in-Over
returns-in_err-course-in-Over g c =
    let p = err_from_is_err_and c.from_residual-in_err-course-in-Over.result c.from_residual-in_err-course-in-Over.ensures.1 in
    rw p.1 (over_wanting c.args.setup.now (g.S.Serving.outcome c.args.servants.now) c.args.batch c.in_ok-lanes.ensures.well_formed c.in_ok-lanes.ensures.slots
    c.in_ok-lanes.lanes c.feed_stream.new.lanes c.finish.new.lanes c.args.batch c.feed_stream.new.room (g.I.Source.state c.args.source.now) (g.I.Source.state c.feed_stream.new.source)
    c.args.log.now c.feed_stream.new.log c.finish.new.log (g.O.Sink.state c.args.sink.now) (g.O.Sink.state c.feed_stream.new.sink) (g.O.Sink.state c.finish.new.sink)
    c.in_ok-lanes.ensures.value refl c.in_err-course-in-Over.field-0.0 p.0 c.in_ok-reading.reading c.in-Over.end c.how_of-how.result c.in-Over.is c.in_ok-reading.ensures c.how_of-how.ensures
    c.in_err-course-in-Over.ensures)

pub returns-in-Over : goal.returns-in-Over
returns-in-Over g c =
    runs_over c.args.setup.now (g.S.Serving.outcome c.args.servants.now) c.args.batch c.in_ok-lanes.ensures.well_formed c.in_ok-lanes.ensures.slots
    c.in_ok-lanes.lanes c.feed_stream.new.lanes c.finish.new.lanes c.args.batch c.feed_stream.new.room (g.I.Source.state c.args.source.now) (g.I.Source.state c.feed_stream.new.source)
    c.args.log.now c.feed_stream.new.log c.finish.new.log (g.O.Sink.state c.args.sink.now) (g.O.Sink.state c.feed_stream.new.sink) (g.O.Sink.state c.finish.new.sink)
    c.in_ok-lanes.ensures.value refl c.in_ok-reading.reading c.in-Over.end c.how_of-how.result c.in_ok-course-in-Over.course c.end_of.result c.in-Over.is c.in_ok-reading.ensures c.how_of-how.ensures
    c.in_ok-course-in-Over.ensures c.end_of.ensures

pub returns-in_err-course-in-Closing : goal.returns-in_err-course-in-Closing
returns-in_err-course-in-Closing g c =
    let p = err_from_is_err_and c.from_residual-in_err-course-in-Closing.result c.from_residual-in_err-course-in-Closing.ensures.1 in
    rw p.1 (closed_wanting c.args.setup.now (g.S.Serving.outcome c.args.servants.now) c.args.batch c.in_ok-lanes.ensures.well_formed c.in_ok-lanes.ensures.slots
    c.in_ok-lanes.lanes c.feed_stream.new.lanes c.finish-in-Closing.new.lanes c.args.batch c.feed_stream.new.room (g.I.Source.state c.args.source.now) (g.I.Source.state c.feed_stream.new.source)
    c.args.log.now c.feed_stream.new.log c.finish-in-Closing.new.log (g.O.Sink.state c.args.sink.now) (g.O.Sink.state c.feed_stream.new.sink) (g.O.Sink.state c.finish-in-Closing.new.sink)
    c.in_ok-lanes.ensures.value refl c.in_err-course-in-Closing.field-0.0 p.0 c.in_ok-reading.reading c.in-Closing.is c.in_ok-reading.ensures c.in_err-course-in-Closing.ensures)

pub returns-in-Closing : goal.returns-in-Closing
returns-in-Closing g c =
    runs_closed c.args.setup.now (g.S.Serving.outcome c.args.servants.now) c.args.batch c.in_ok-lanes.ensures.well_formed c.in_ok-lanes.ensures.slots
    c.in_ok-lanes.lanes c.feed_stream.new.lanes c.finish-in-Closing.new.lanes c.args.batch c.feed_stream.new.room (g.I.Source.state c.args.source.now) (g.I.Source.state c.feed_stream.new.source)
    c.args.log.now c.feed_stream.new.log c.finish-in-Closing.new.log (g.O.Sink.state c.args.sink.now) (g.O.Sink.state c.feed_stream.new.sink) (g.O.Sink.state c.finish-in-Closing.new.sink)
    c.in_ok-lanes.ensures.value refl c.in_ok-reading.reading c.in_ok-course-in-Closing.course c.end_of-in-Closing.result c.in-Closing.is c.in_ok-reading.ensures c.in_ok-course-in-Closing.ensures c.end_of-in-Closing.ensures

pub returns : goal.returns
returns g c =
    runs_stopped c.args.setup.now (g.S.Serving.outcome c.args.servants.now) c.args.batch c.in_ok-lanes.ensures.well_formed c.in_ok-lanes.ensures.slots
    c.in_ok-lanes.lanes c.feed_stream.new.lanes c.feed_stream.new.lanes c.args.batch c.feed_stream.new.room (g.I.Source.state c.args.source.now) (g.I.Source.state c.feed_stream.new.source)
    c.args.log.now c.feed_stream.new.log c.feed_stream.new.log (g.O.Sink.state c.args.sink.now) (g.O.Sink.state c.feed_stream.new.sink) (g.O.Sink.state c.feed_stream.new.sink)
    c.in_ok-lanes.ensures.value refl c.in_ok-reading.reading c.in-Stopped.is c.in_ok-reading.ensures
