-- The bytes are those of the run.
use Rattle.std.proofs.Common.{Option, Ok, subst}
use Rattle.std.proofs.lemmas.Result.{err_from_is_err_and}
use Rattle.lane_machine.specs.Histories.{History}
use Rattle.conn_engine.specs.Streams.{RunsStream}
use Rattle.pipe_runs.proofs.Showing.{bytes_shown, bytes_begun}
use Rattle.pipe_runs.proofs.pipe.run_as_bytes.Goals as goal

pub returns-in_err-end : goal.returns-in_err-end
returns-in_err-end g c =
    let p = err_from_is_err_and c.from_residual.result c.from_residual.ensures.1 in
    rw p.1 (bytes_begun c.args.setup.now (g.S.Serving.outcome c.args.servants.now) c.args.batch (g.I.Source.state c.args.source.now) (g.I.Source.state c.run_stream.new.source)
    c.in_err-end.field-0.0 p.0 c.kept-log.result c.run_stream.new.log (g.O.Sink.state c.args.sink.now) (g.O.Sink.state c.run_stream.new.sink) c.in_err-end.ensures)

pub returns : goal.returns
returns g c =
    bytes_shown c.args.setup.now (g.S.Serving.outcome c.args.servants.now) c.args.batch (g.I.Source.state c.args.source.now) (g.I.Source.state c.run_stream.new.source)
    (record { end = c.in_ok-end.end; history = c.kept_of-history.result }) c.run_stream.new.log (g.O.Sink.state c.args.sink.now) (g.O.Sink.state c.run_stream.new.sink)
    c.kept_of-history.ensures
    (subst (λ (l : Option History). RunsStream (Ok c.in_ok-end.end) c.args.setup.now (g.S.Serving.outcome c.args.servants.now) c.args.batch
    (g.I.Source.state c.args.source.now) (g.I.Source.state c.run_stream.new.source) l c.run_stream.new.log (g.O.Sink.state c.args.sink.now) (g.O.Sink.state c.run_stream.new.sink))
    c.kept-log.ensures c.in_ok-end.ensures)
