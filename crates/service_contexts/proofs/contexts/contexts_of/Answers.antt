use Rattle.std.proofs.Common.{◌+◌, List, Ok, Err, take, drop, refl, sym, ap, subst, ◌∙◌}
use Rattle.std.proofs.lemmas.Result.{err_from_is_err_and}
use Rattle.orb_base.specs.Tagged.{Context}
use Rattle.service_contexts.specs.declared.contexts.ContextFault.{ContextFault}
use Rattle.service_contexts.specs.Telling.{Tells}
use Rattle.cdr_core.proofs.CallerLemmas.{one_more}
use Rattle.service_contexts.proofs.Faults.{told_told, told_fault, fault_told, fault_fault, told_of_all, fault_of_one}
use Rattle.service_contexts.proofs.contexts.contexts_of.Goals as goal

pub returns-in_err-told-clause-told : goal.returns-in_err-told-clause-told
returns-in_err-told-clause-told c =
    let p = err_from_is_err_and c.from_residual.result c.from_residual.ensures.1 in
    let items : List Context = c.as_slice-context-items.result.now in
    let i = c.loop-context.context-index in
    let f : ContextFault = c.in_err-told.field-0.0 in
    fault_told c.args.list.now.items f c.from_residual.result (p.1 ∙ ap (λ (x : ContextFault). Err x) p.2)
    (fault_of_one c.args.list.now.items items i c.context-item.result f c.loop-context-test.true c.context-item.is
    c.as_slice-context-items.ensures (c.in_err-told.ensures.fault (take i items) (drop (i + 1) items) c.loop-context.invariant))

pub returns-in_err-told-clause-fault : goal.returns-in_err-told-clause-fault
returns-in_err-told-clause-fault c =
    let p = err_from_is_err_and c.from_residual.result c.from_residual.ensures.1 in
    let items : List Context = c.as_slice-context-items.result.now in
    let i = c.loop-context.context-index in
    let f : ContextFault = c.in_err-told.field-0.0 in
    fault_fault c.args.list.now.items f c.from_residual.result (p.1 ∙ ap (λ (x : ContextFault). Err x) p.2)
    (fault_of_one c.args.list.now.items items i c.context-item.result f c.loop-context-test.true c.context-item.is
    c.as_slice-context-items.ensures (c.in_err-told.ensures.fault (take i items) (drop (i + 1) items) c.loop-context.invariant))

pub loop-context-preserved : goal.loop-context-preserved
loop-context-preserved c =
    let items : List Context = c.as_slice-context-items.result.now in
    let i = c.loop-context.context-index in
    let more = c.in_ok-told.ensures.told (take i items) c.loop-context.invariant in
    subst (λ (l : List Context). Tells l c.in_ok-told.told)
    (sym (one_more items i c.context-item.result c.loop-context-test.true c.context-item.is)) more

pub returns-clause-told : goal.returns-clause-told
returns-clause-told c =
    told_told c.args.list.now.items c.loop-context.told (Ok c.loop-context.told) refl
    (told_of_all c.args.list.now.items c.as_slice-context-items.result.now c.loop-context.context-index c.loop-context.told
    c.loop-context-test.false c.loop-context.auto.context-index-end c.as_slice-context-items.ensures c.loop-context.invariant)

pub returns-clause-fault : goal.returns-clause-fault
returns-clause-fault c =
    told_fault c.args.list.now.items c.loop-context.told (Ok c.loop-context.told) refl
    (told_of_all c.args.list.now.items c.as_slice-context-items.result.now c.loop-context.context-index c.loop-context.told
    c.loop-context-test.false c.loop-context.auto.context-index-end c.as_slice-context-items.ensures c.loop-context.invariant)
