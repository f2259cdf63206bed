use Rattle.std.proofs.Common.{◌≡◌, ◌∷◌, [], ◌++◌, ℕ, List, IfOk, IfErr, ap, subst, ◌∙◌}
use Rattle.orb_base.specs.Tagged.{Context}
use Rattle.cdr_core.specs.Lists.{context_of}
use Rattle.service_contexts.specs.Telling.{Tells, IsFirstFault}
use Rattle.service_contexts.proofs.contexts.with_next.Goals as goal

pub returns-clause-told : goal.returns-clause-told
returns-clause-told c =
    let next : context_of (c.next.inside.id, c.as_slice.result.now) ≡ c.args.next.now =
    ap (λ (bytes : List ℕ). context_of (c.next.inside.id, bytes)) c.as_slice.ensures ∙ c.next.view_is in
    subst (λ (x : Context). IfOk c.with_item.result (λ more. (list : List Context) → Tells list c.args.told → Tells (list ++ x ∷ []) more))
    next c.with_item.ensures.told

pub returns-clause-fault : goal.returns-clause-fault
returns-clause-fault c =
    let next : context_of (c.next.inside.id, c.as_slice.result.now) ≡ c.args.next.now =
    ap (λ (bytes : List ℕ). context_of (c.next.inside.id, bytes)) c.as_slice.ensures ∙ c.next.view_is in
    subst (λ (x : Context). IfErr c.with_item.result
    (λ f. (list behind : List Context) → Tells list c.args.told → IsFirstFault (list ++ x ∷ behind) f))
    next c.with_item.ensures.fault
