use Rattle.std.proofs.Common.{◌∷◌, [], ◌++◌, ℕ, List, IfOk, IfErr, sym, subst}
use Rattle.orb_base.specs.Tagged.{Context}
use Rattle.cdr_core.specs.Lists.{context_of}
use Rattle.service_contexts.specs.Telling.{Tells, IsFirstFault}
use Rattle.service_contexts.proofs.Firsts.{other_tells}
use Rattle.service_contexts.proofs.contexts.with_item.Goals as goal

pub returns-then-id-eq-PRIORITY_CONTEXT-clause-told : goal.returns-then-id-eq-PRIORITY_CONTEXT-clause-told
returns-then-id-eq-PRIORITY_CONTEXT-clause-told c =
    subst (λ (n : ℕ). IfOk c.with_priority.result
    (λ more. (list : List Context) → Tells list c.args.told → Tells (list ++ context_of (n, c.args.bytes.now) ∷ []) more))
    (sym c.if-id-eq-PRIORITY_CONTEXT.true) c.with_priority.ensures.told

pub returns-then-id-eq-PRIORITY_CONTEXT-clause-fault : goal.returns-then-id-eq-PRIORITY_CONTEXT-clause-fault
returns-then-id-eq-PRIORITY_CONTEXT-clause-fault c =
    subst (λ (n : ℕ). IfErr c.with_priority.result (λ f. (list behind : List Context) → Tells list c.args.told
    → IsFirstFault (list ++ context_of (n, c.args.bytes.now) ∷ behind) f))
    (sym c.if-id-eq-PRIORITY_CONTEXT.true) c.with_priority.ensures.fault

pub returns-then-id-eq-RANGE_CONTEXT-clause-told : goal.returns-then-id-eq-RANGE_CONTEXT-clause-told
returns-then-id-eq-RANGE_CONTEXT-clause-told c =
    subst (λ (n : ℕ). IfOk c.with_range.result
    (λ more. (list : List Context) → Tells list c.args.told → Tells (list ++ context_of (n, c.args.bytes.now) ∷ []) more))
    (sym c.if-id-eq-RANGE_CONTEXT.true) c.with_range.ensures.told

pub returns-then-id-eq-RANGE_CONTEXT-clause-fault : goal.returns-then-id-eq-RANGE_CONTEXT-clause-fault
returns-then-id-eq-RANGE_CONTEXT-clause-fault c =
    subst (λ (n : ℕ). IfErr c.with_range.result (λ f. (list behind : List Context) → Tells list c.args.told
    → IsFirstFault (list ++ context_of (n, c.args.bytes.now) ∷ behind) f))
    (sym c.if-id-eq-RANGE_CONTEXT.true) c.with_range.ensures.fault

pub returns-else-id-eq-RANGE_CONTEXT-clause-told : goal.returns-else-id-eq-RANGE_CONTEXT-clause-told
returns-else-id-eq-RANGE_CONTEXT-clause-told c =
    λ list h.
    other_tells list (context_of (c.args.id, c.args.bytes.now)) c.args.told c.if-id-eq-PRIORITY_CONTEXT.false
    c.if-id-eq-RANGE_CONTEXT.false h
