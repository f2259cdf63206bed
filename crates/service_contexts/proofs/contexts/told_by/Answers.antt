use Rattle.std.proofs.Common.{List, Ok, Err, refl, ap, ◌∙◌}
use Rattle.std.proofs.lemmas.Result.{err_from_is_err_and}
use Rattle.orb_base.specs.Tagged.{Context}
use Rattle.cdr_core.specs.Cursor.{Reads}
use Rattle.cdr_core.specs.Lists.{made_at, context_of, read_or_none}
use Rattle.cdr_core.specs.Sequence.{times}
use Rattle.service_contexts.specs.declared.contexts.ContextFault.{ContextFault}
use Rattle.service_contexts.proofs.AtList.{start, goes_on_so, none_missing, fault_so, told_so}
use Rattle.service_contexts.proofs.Faults.{told_told, told_fault, fault_told, fault_fault}
use Rattle.service_contexts.proofs.contexts.told_by.Goals as goal

pub loop-init : goal.loop-init
loop-init c = start c.args.count c.args.reader.now

pub loop-preserved : goal.loop-preserved
loop-preserved c =
    goes_on_so c.loop.told c.in_ok-told-in-Ok.told c.args.count c.loop.counter c.loop.reader _ c.take_item.new.self
    (times (made_at context_of) c.args.count c.args.reader.now) c.loop-test.true c.in-Ok.ensures.exact c.loop.invariant
    c.in_ok-told-in-Ok.ensures.told

pub returns-in_err-told-in-Ok-clause-told : goal.returns-in_err-told-in-Ok-clause-told
returns-in_err-told-in-Ok-clause-told c =
    let p = err_from_is_err_and c.from_residual.result c.from_residual.ensures.1 in
    let total : Reads (List Context) = times (made_at context_of) c.args.count c.args.reader.now in
    let f : ContextFault = c.in_err-told-in-Ok.field-0.0 in
    fault_told (read_or_none total) f c.from_residual.result (p.1 ∙ ap (λ (x : ContextFault). Err x) p.2)
    (fault_so c.loop.told f c.args.count c.loop.counter c.loop.reader _ c.take_item.new.self total c.loop-test.true
    c.in-Ok.ensures.exact c.loop.invariant c.requires c.in_err-told-in-Ok.ensures.fault)

pub returns-in_err-told-in-Ok-clause-fault : goal.returns-in_err-told-in-Ok-clause-fault
returns-in_err-told-in-Ok-clause-fault c =
    let p = err_from_is_err_and c.from_residual.result c.from_residual.ensures.1 in
    let total : Reads (List Context) = times (made_at context_of) c.args.count c.args.reader.now in
    let f : ContextFault = c.in_err-told-in-Ok.field-0.0 in
    fault_fault (read_or_none total) f c.from_residual.result (p.1 ∙ ap (λ (x : ContextFault). Err x) p.2)
    (fault_so c.loop.told f c.args.count c.loop.counter c.loop.reader _ c.take_item.new.self total c.loop-test.true
    c.in-Ok.ensures.exact c.loop.invariant c.requires c.in_err-told-in-Ok.ensures.fault)

pub returns-in-Err-clause-told : goal.returns-in-Err-clause-told
returns-in-Err-clause-told c =
    absurd (none_missing c.loop.told c.args.count c.loop.counter c.loop.reader _
    (times (made_at context_of) c.args.count c.args.reader.now) c.loop-test.true c.in-Err.ensures.exact.0 c.loop.invariant
    c.requires)

pub returns-in-Err-clause-fault : goal.returns-in-Err-clause-fault
returns-in-Err-clause-fault c =
    absurd (none_missing c.loop.told c.args.count c.loop.counter c.loop.reader _
    (times (made_at context_of) c.args.count c.args.reader.now) c.loop-test.true c.in-Err.ensures.exact.0 c.loop.invariant
    c.requires)

pub returns-clause-told : goal.returns-clause-told
returns-clause-told c =
    let total : Reads (List Context) = times (made_at context_of) c.args.count c.args.reader.now in
    told_told (read_or_none total) c.loop.told (Ok c.loop.told) refl
    (told_so c.loop.told c.args.count c.loop.counter c.loop.reader total c.loop-test.false c.loop.invariant)

pub returns-clause-fault : goal.returns-clause-fault
returns-clause-fault c =
    let total : Reads (List Context) = times (made_at context_of) c.args.count c.args.reader.now in
    told_fault (read_or_none total) c.loop.told (Ok c.loop.told) refl
    (told_so c.loop.told c.args.count c.loop.counter c.loop.reader total c.loop-test.false c.loop.invariant)
