use Rattle.std.proofs.Common.{string_bytes, arith}
use Rattle.std.proofs.lemmas.Result.{err_from_is_err_and}
use Rattle.trace_lines.specs.Numbers.{number_in}
use Rattle.trace_lines.proofs.Wrote.{line_wanting, line_stopped}
use Rattle.trace_lines.proofs.writer.add_lines.Goals as goal

pub returns-in_err-add_line : goal.returns-in_err-add_line
returns-in_err-add_line g c =
    let p = err_from_is_err_and c.from_residual.result c.from_residual.ensures.1 in
    rw p.1 (line_wanting (number_in c.args.numbering.now) c.args.history.now c.loop-entry.entry-index c.entry-item.result c.line_of.result
    (string_bytes c.args.piece.now) (string_bytes c.loop-entry.piece) (g.O.Sink.state c.args.sink.now) (g.O.Sink.state c.loop-entry.sink) (g.O.Sink.state c.add_line.new.sink)
    (omega arith) c.entry-item.is c.line_of.ensures c.loop-entry.invariant.wrote c.loop-entry.invariant.faults c.in_err-add_line.ensures)

pub returns-in-Failed : goal.returns-in-Failed
returns-in-Failed g c =
    line_stopped c.in_ok-add_line.field-0 (number_in c.args.numbering.now) c.args.history.now c.loop-entry.entry-index c.entry-item.result c.line_of.result
    (string_bytes c.args.piece.now) (string_bytes c.loop-entry.piece) (string_bytes c.add_line.new.piece)
    (g.O.Sink.state c.args.sink.now) (g.O.Sink.state c.loop-entry.sink) (g.O.Sink.state c.add_line.new.sink)
    (omega arith) c.entry-item.is c.line_of.ensures c.loop-entry.invariant.wrote c.loop-entry.invariant.faults c.in-Failed.is c.in_ok-add_line.ensures
