-- The lines of the history were written, whole or up to a fault, or memory ran out.
use Rattle.std.proofs.Common.{Option, Some, Ok, refl, subst}
use Rattle.std.proofs.lemmas.Result.{err_from_is_err_and}
use Rattle.lane_machine.specs.Histories.{History}
use Rattle.text_streams.specs.Streams.{WritesAll}
use Rattle.text_streams.specs.declared.writing.WriteAll.{WriteAll}
use Rattle.conn_engine.specs.Streams.{RunsStream}
use Rattle.pipe_runs.specs.Pipe.{shown_of, BeganLines}
use Rattle.pipe_runs.proofs.Showing.{lines_shown, some_shown, none_shown, few_shown}
use Rattle.pipe_runs.proofs.pipe.run_as_lines.Goals as goal

pub returns-in_err-end : goal.returns-in_err-end
returns-in_err-end g c =
    let p = err_from_is_err_and c.from_residual.result c.from_residual.ensures.1 in
    rw p.1 (none_shown c.args.shown c.requires.lines c.args.setup.now (g.S.Serving.outcome c.args.servants.now) c.args.batch (g.I.Source.state c.args.source.now) (g.I.Source.state c.run_stream.new.source)
    c.in_err-end.field-0.0 p.0 c.kept-log.result c.run_stream.new.log
    (record { held = Some c.new-nowhere.result.held.items; faults = 0 }) (record { held = Some c.run_stream.new.sink.held.items; faults = 0 })
    (g.O.Sink.state c.args.sink.now) (g.O.Sink.state c.args.sink.now) refl c.in_err-end.ensures)

pub returns-in_err-write_lines : goal.returns-in_err-write_lines
returns-in_err-write_lines g c =
    let p = err_from_is_err_and c.from_residual-in_err-write_lines.result c.from_residual-in_err-write_lines.ensures.1 in
    let began = subst (λ (h : History). BeganLines c.args.shown c.args.setup.now h (g.O.Sink.state c.args.sink.now) (g.O.Sink.state c.write_lines.new.sink)) c.as_slice.ensures c.in_err-write_lines.ensures.began in
    rw p.1 (few_shown c.args.shown c.requires.lines c.args.setup.now (g.S.Serving.outcome c.args.servants.now) c.args.batch (g.I.Source.state c.args.source.now) (g.I.Source.state c.run_stream.new.source)
    c.in_ok-end.end p.0 c.run_stream.new.log c.kept_of-history.result.items
    (record { held = Some c.new-nowhere.result.held.items; faults = 0 }) (record { held = Some c.run_stream.new.sink.held.items; faults = 0 })
    (g.O.Sink.state c.args.sink.now) (g.O.Sink.state c.write_lines.new.sink) c.kept_of-history.ensures refl refl began
    (subst (λ (l : Option History). RunsStream (Ok c.in_ok-end.end) c.args.setup.now (g.S.Serving.outcome c.args.servants.now) c.args.batch
    (g.I.Source.state c.args.source.now) (g.I.Source.state c.run_stream.new.source) l c.run_stream.new.log
    (record { held = Some c.new-nowhere.result.held.items; faults = 0 }) (record { held = Some c.run_stream.new.sink.held.items; faults = 0 }))
    c.kept-log.ensures c.in_ok-end.ensures))

pub returns-in-Whole : goal.returns-in-Whole
returns-in-Whole g c =
    let as_kept = subst (λ (h : History). WritesAll c.in_ok-write_lines.field-0 (shown_of c.args.shown c.args.setup.now h) (g.O.Sink.state c.args.sink.now) (g.O.Sink.state c.write_lines.new.sink)) c.as_slice.ensures c.in_ok-write_lines.ensures.written in
    let wrote = subst (λ (w : WriteAll). WritesAll w (shown_of c.args.shown c.args.setup.now c.kept_of-history.result.items) (g.O.Sink.state c.args.sink.now) (g.O.Sink.state c.write_lines.new.sink)) c.in-Whole.is as_kept in
    lines_shown c.args.shown c.requires.lines c.args.setup.now (g.S.Serving.outcome c.args.servants.now) c.args.batch (g.I.Source.state c.args.source.now) (g.I.Source.state c.run_stream.new.source)
    (record { end = c.in_ok-end.end; history = c.kept_of-history.result }) c.run_stream.new.log
    (record { held = Some c.new-nowhere.result.held.items; faults = 0 }) (record { held = Some c.run_stream.new.sink.held.items; faults = 0 })
    (g.O.Sink.state c.args.sink.now) (g.O.Sink.state c.write_lines.new.sink) c.kept_of-history.ensures refl refl
    (subst (λ (l : Option History). RunsStream (Ok c.in_ok-end.end) c.args.setup.now (g.S.Serving.outcome c.args.servants.now) c.args.batch
    (g.I.Source.state c.args.source.now) (g.I.Source.state c.run_stream.new.source) l c.run_stream.new.log
    (record { held = Some c.new-nowhere.result.held.items; faults = 0 }) (record { held = Some c.run_stream.new.sink.held.items; faults = 0 }))
    c.kept-log.ensures c.in_ok-end.ensures) wrote.0 wrote.1

pub returns-in-Failed : goal.returns-in-Failed
returns-in-Failed g c =
    let as_kept = subst (λ (h : History). WritesAll c.in_ok-write_lines.field-0 (shown_of c.args.shown c.args.setup.now h) (g.O.Sink.state c.args.sink.now) (g.O.Sink.state c.write_lines.new.sink)) c.as_slice.ensures c.in_ok-write_lines.ensures.written in
    let wrote = subst (λ (w : WriteAll). WritesAll w (shown_of c.args.shown c.args.setup.now c.kept_of-history.result.items) (g.O.Sink.state c.args.sink.now) (g.O.Sink.state c.write_lines.new.sink)) c.in-Failed.is as_kept in
    some_shown c.args.shown c.requires.lines c.args.setup.now (g.S.Serving.outcome c.args.servants.now) c.args.batch (g.I.Source.state c.args.source.now) (g.I.Source.state c.run_stream.new.source)
    (record { end = c.in_ok-end.end; history = c.kept_of-history.result }) c.run_stream.new.log
    (record { held = Some c.new-nowhere.result.held.items; faults = 0 }) (record { held = Some c.run_stream.new.sink.held.items; faults = 0 })
    (g.O.Sink.state c.args.sink.now) (g.O.Sink.state c.write_lines.new.sink) c.kept_of-history.ensures refl refl
    (subst (λ (l : Option History). RunsStream (Ok c.in_ok-end.end) c.args.setup.now (g.S.Serving.outcome c.args.servants.now) c.args.batch
    (g.I.Source.state c.args.source.now) (g.I.Source.state c.run_stream.new.source) l c.run_stream.new.log
    (record { held = Some c.new-nowhere.result.held.items; faults = 0 }) (record { held = Some c.run_stream.new.sink.held.items; faults = 0 }))
    c.kept-log.ensures c.in_ok-end.ensures) wrote.0 wrote.1
