use Rattle.std.proofs.Common.{◌≡◌, ◌↔◌, List, Ok, Err, IsOk, sym, subst}
use Rattle.orb_base.specs.Tagged.{Context}
use Rattle.cdr_core.specs.Cursor.{Reads}
use Rattle.cdr_core.specs.Lists.{read_or_none}
use Rattle.service_contexts.specs.declared.contexts.Contexts.{Contexts}
use Rattle.service_contexts.specs.declared.contexts.ContextFault.{ContextFault}
use Rattle.service_contexts.specs.Telling.{Tells, IsFirstFault}
use Rattle.service_contexts.proofs.AtList.{counted_list, no_count}
use Rattle.service_contexts.proofs.contexts.contexts_at.Goals as goal

pub told_by-requires : goal.told_by-requires
told_by-requires c =
    subst (λ (r : Reads (List Context)). IsOk r) (counted_list c.args.list _ _ c.in-Ok.ensures.exact) c.requires

pub returns-in-Ok-clause-told : goal.returns-in-Ok-clause-told
returns-in-Ok-clause-told c =
    subst (λ (r : Reads (List Context)). (told : Contexts) → (c.told_by.result ≡ Ok told) ↔ Tells (read_or_none r) told)
    (sym (counted_list c.args.list _ _ c.in-Ok.ensures.exact)) c.told_by.ensures.told

pub returns-in-Ok-clause-fault : goal.returns-in-Ok-clause-fault
returns-in-Ok-clause-fault c =
    subst (λ (r : Reads (List Context)). (f : ContextFault) → (c.told_by.result ≡ Err f) ↔ IsFirstFault (read_or_none r) f)
    (sym (counted_list c.args.list _ _ c.in-Ok.ensures.exact)) c.told_by.ensures.fault

pub returns-in-Err-clause-told : goal.returns-in-Err-clause-told
returns-in-Err-clause-told c = absurd (no_count c.args.list _ c.in-Err.ensures.exact.0 c.requires)

pub returns-in-Err-clause-fault : goal.returns-in-Err-clause-fault
returns-in-Err-clause-fault c = absurd (no_count c.args.list _ c.in-Err.ensures.exact.0 c.requires)
