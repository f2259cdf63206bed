use Rattle.std.proofs.Common.{Bor}
use Rattle.std.proofs.lemmas.Result.{err_from_is_err_and}
use Rattle.cdr_values.specs.Values.{values_view}
use Rattle.cdr_values.specs.declared.value.IdlValue.{IdlValue}
use Rattle.orb_base.specs.Room.{Room}
use Rattle.idl_types.specs.Contents.{things_of}
use Rattle.idl_types.specs.Views.{operation_of}
use Rattle.idl_types.specs.declared.operation.Operation.{Operation}
use Rattle.client_runs.specs.Plans.{asked_in}
use Rattle.client_runs.proofs.Judged.{lacks_remote, lacks_operation, lacks_arguments, has_all}
use Rattle.client_runs.proofs.plan.unbound.Goals as goal

pub returns-in_err-remote-clause-gives : goal.returns-in_err-remote-clause-gives
returns-in_err-remote-clause-gives c =
    let p = err_from_is_err_and c.from_residual.result c.from_residual.ensures.1 in
    rw (p.1, p.2) (lacks_remote asked_in c.args.words.now (things_of c.args.repository.now) c.in_err-remote.field-0.0 c.in_err-remote.ensures)

pub returns-in_err-operation-clause-gives : goal.returns-in_err-operation-clause-gives
returns-in_err-operation-clause-gives c =
    let p = err_from_is_err_and c.from_residual-in_err-operation.result c.from_residual-in_err-operation.ensures.1 in
    rw (p.1, p.2) (lacks_operation asked_in c.args.words.now (things_of c.args.repository.now) (λ (o : Bor Operation). operation_of o.now) c.in_err-operation.field-0.0
    c.in_ok-remote.remote c.in_ok-remote.ensures c.in_err-operation.ensures)

pub returns-in_err-arguments-clause-gives : goal.returns-in_err-arguments-clause-gives
returns-in_err-arguments-clause-gives c =
    let p = err_from_is_err_and c.from_residual-in_err-arguments.result c.from_residual-in_err-arguments.ensures.1 in
    rw (p.1, p.2) (lacks_arguments asked_in c.args.words.now (things_of c.args.repository.now) (λ (l : Room IdlValue). values_view l.items) c.in_err-arguments.field-0.0
    c.in_ok-remote.remote (operation_of c.in_ok-operation.operation.now) c.in_ok-remote.ensures c.in_ok-operation.ensures c.in_err-arguments.ensures.gives)

pub returns-clause-gives : goal.returns-clause-gives
returns-clause-gives c =
    has_all asked_in c.args.words.now (things_of c.args.repository.now) c.in_ok-remote.remote (operation_of c.in_ok-operation.operation.now)
    (values_view c.in_ok-arguments.arguments.items) c.in_ok-remote.ensures c.in_ok-operation.ensures c.in_ok-arguments.ensures.gives
