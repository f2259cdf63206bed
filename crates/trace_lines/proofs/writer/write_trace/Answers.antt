use Rattle.std.proofs.Common.{string_bytes, length}
use Rattle.std.proofs.lemmas.Result.{err_from_is_err_and}
use Rattle.trace_lines.specs.Texts.{head_text, count_text}
use Rattle.trace_lines.proofs.Wrote.{trace_wanting, trace_stopped, trace_uncounted, trace_out}
use Rattle.trace_lines.proofs.writer.write_trace.Goals as goal

pub returns-in_err-add_lines : goal.returns-in_err-add_lines
returns-in_err-add_lines g c =
    let p = err_from_is_err_and c.from_residual-in_err-add_lines.result c.from_residual-in_err-add_lines.ensures.1 in
    rw p.1 (trace_wanting (head_text c.args.pool.now c.args.slots c.args.per_slot) (string_bytes c.in_ok-piece.piece) (count_text (length c.args.history.now))
    c.in_ok-numbering.numbering c.args.history.now (g.O.Sink.state c.args.sink.now) (g.O.Sink.state c.add_lines.new.sink)
    c.in_ok-piece.ensures c.in_ok-numbering.ensures c.in_err-add_lines.ensures)

pub returns-in-Failed : goal.returns-in-Failed
returns-in-Failed g c =
    trace_stopped c.in_ok-add_lines.field-0 (head_text c.args.pool.now c.args.slots c.args.per_slot) (string_bytes c.in_ok-piece.piece) (count_text (length c.args.history.now))
    (string_bytes c.add_lines.new.piece) c.in_ok-numbering.numbering c.args.history.now (g.O.Sink.state c.args.sink.now) (g.O.Sink.state c.add_lines.new.sink)
    c.in_ok-piece.ensures c.in_ok-numbering.ensures c.in-Failed.is c.in_ok-add_lines.ensures

pub returns-in_err-add_count : goal.returns-in_err-add_count
returns-in_err-add_count g c =
    let p = err_from_is_err_and c.from_residual-in_err-add_count.result c.from_residual-in_err-add_count.ensures.1 in
    rw p.1 (trace_uncounted c.in_ok-add_lines.field-0 (head_text c.args.pool.now c.args.slots c.args.per_slot) (string_bytes c.in_ok-piece.piece) (count_text (length c.args.history.now))
    (string_bytes c.add_lines.new.piece) c.in_ok-numbering.numbering c.args.history.now (g.O.Sink.state c.args.sink.now) (g.O.Sink.state c.add_lines.new.sink)
    c.in_ok-piece.ensures c.in_ok-numbering.ensures c.in-Whole.is c.in_ok-add_lines.ensures)

pub returns : goal.returns
returns g c =
    trace_out c.in_ok-add_lines.field-0 c.write_all.result (head_text c.args.pool.now c.args.slots c.args.per_slot) (string_bytes c.in_ok-piece.piece) (count_text (length c.args.history.now))
    (string_bytes c.add_lines.new.piece) (string_bytes c.add_count.new.piece) c.as_bytes.result.now c.in_ok-numbering.numbering c.args.history.now
    (g.O.Sink.state c.args.sink.now) (g.O.Sink.state c.add_lines.new.sink) (g.O.Sink.state c.write_all.new.sink)
    c.in_ok-piece.ensures c.in_ok-numbering.ensures c.in-Whole.is c.in_ok-add_lines.ensures c.in_ok-add_count.ensures c.as_bytes.ensures.value c.write_all.ensures
