use Rattle.std.proofs.Common.{sym}
use Rattle.cdr_values.specs.Values.{values_view}
use Rattle.idl_types.specs.Contents.{things_of}
use Rattle.idl_types.specs.References.{kind_at}
use Rattle.script_values.specs.Views.{term_of}
use Rattle.script_values.proofs.Lending.{lends_run}
use Rattle.script_values.proofs.running.run_return.Goals as goal

pub returns-in-Some : goal.returns-in-Some
returns-in-Some c =
    rw (sym c.as_slice.ensures.value)
    (lends_run c.run_lend.result c.args.priority (kind_at (things_of c.args.repository.now) c.args.due) (values_view c.as_slice.result.now)
    (term_of (things_of c.args.repository.now) c.args.expr.now) c.in-Some.at (c.in-Some.ensures (things_of c.args.repository.now)) c.run_lend.ensures)
