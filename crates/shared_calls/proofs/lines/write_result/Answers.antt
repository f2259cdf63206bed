use Rattle.std.proofs.Common.{sym, ◌∙◌}
use Rattle.idl_types.specs.Views.{operation_of}
use Rattle.shared_calls.specs.Results.{result_of}
use Rattle.shared_calls.proofs.LinesWritten.{no_line}
use Rattle.shared_calls.proofs.lines.write_result.Goals as goal

pub returns-else-is_memory : goal.returns-else-is_memory
returns-else-is_memory g c =
    let operation = operation_of c.args.operation.now in
    no_line c.in-Err.fault operation (result_of operation c.args.end.now) (g.O.Sink.state c.args.out.now) (sym c.is_memory.ensures ∙ c.if-is_memory.false) c.in-Err.ensures
