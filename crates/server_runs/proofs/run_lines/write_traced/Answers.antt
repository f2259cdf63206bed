use Rattle.server_runs.proofs.Writing.{traced_whole, traced_failed, traced_wanting}
use Rattle.server_runs.proofs.run_lines.write_traced.Goals as goal

pub returns-in-Ok-Whole : goal.returns-in-Ok-Whole
returns-in-Ok-Whole g c =
    traced_whole c.args.setup.now c.args.history.now c.pool.result.now c.slots.result c.per_slot.result c.pool.ensures.value c.slots.ensures.value c.per_slot.ensures.value
    (g.O.Sink.state c.args.out.now) (g.O.Sink.state c.write_trace.new.sink) c.write_trace.result c.in-Ok-Whole.field-0 c.write_summary.result (g.O.Sink.state c.write_summary.new.out)
    c.in-Ok-Whole.is c.in-Ok-Whole.field-0-is c.write_trace.ensures c.write_summary.ensures

pub returns-in-Ok-Failed : goal.returns-in-Ok-Failed
returns-in-Ok-Failed g c =
    traced_failed c.args.setup.now c.args.history.now c.pool.result.now c.slots.result c.per_slot.result c.pool.ensures.value c.slots.ensures.value c.per_slot.ensures.value
    (g.O.Sink.state c.args.out.now) (g.O.Sink.state c.write_trace.new.sink) c.write_trace.result c.in-Ok-Failed.field-0 c.in-Ok-Failed.is c.in-Ok-Failed.field-0-is c.write_trace.ensures

pub returns-in-Err : goal.returns-in-Err
returns-in-Err g c =
    traced_wanting c.args.setup.now c.args.history.now c.pool.result.now c.slots.result c.per_slot.result c.pool.ensures.value c.slots.ensures.value c.per_slot.ensures.value
    (g.O.Sink.state c.args.out.now) (g.O.Sink.state c.write_trace.new.sink) c.write_trace.result c.in-Err.field-0 c.in-Err.is c.write_trace.ensures
