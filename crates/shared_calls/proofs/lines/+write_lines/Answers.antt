use Rattle.std.proofs.Common.{sym, ◌∙◌}
use Rattle.cdr_values.proofs.Endings.{front_of}
use Rattle.idl_types.specs.Views.{operation_of}
use Rattle.shared_calls.proofs.LinesWritten.{lines_on, lines_off}
use Rattle.shared_calls.proofs.lines.+write_lines.Goals as goal

pub returns-then-is_done : goal.returns-then-is_done
returns-then-is_done g t c =
    lines_on c.write_lines.result c.write_result-came.result (operation_of c.args.operation.now) c.args.ends.now _ c.end-item.result (g.O.Sink.state c.args.out.now) _ _
    (front_of c.args.ends.now c.end-item.result _ c.in-len1-up.len_at_least c.end-item.is) (sym c.is_done.ensures ∙ c.if-is_done.true) c.write_result-came.ensures c.write_lines.ensures

pub returns-else-is_done : goal.returns-else-is_done
returns-else-is_done g t c =
    lines_off c.write_result-came.result (operation_of c.args.operation.now) c.args.ends.now _ c.end-item.result (g.O.Sink.state c.args.out.now) _
    (front_of c.args.ends.now c.end-item.result _ c.in-len1-up.len_at_least c.end-item.is) (sym c.is_done.ensures ∙ c.if-is_done.false) c.write_result-came.ensures
