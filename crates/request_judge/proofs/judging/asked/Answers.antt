use Rattle.std.proofs.Common.{refl, sym, ap, subst, ◌∙◌}
use Rattle.cdr_core.specs.Cursor.{Cursor}
use Rattle.cdr_core.specs.Lists.{listed, context_of}
use Rattle.service_contexts.specs.Telling.{Tells, IsFirstFault}
use Rattle.giop_messages.specs.PartsView.{parts_target}
use Rattle.request_judge.proofs.judging.asked.Goals as goal

pub returns-in_default-contexts_at : goal.returns-in_default-contexts_at
returns-in_default-contexts_at c = record {
  object_key = c.in-Key.key.now;
  target = ap parts_target c.in-Key.is;
  fault = c.in_default-contexts_at.field-0;
  first =
      subst (λ (x : Cursor). IsFirstFault (listed context_of x) c.in_default-contexts_at.field-0) c.copy.ensures
      ((c.in_default-contexts_at.ensures.fault c.in_default-contexts_at.field-0).0 refl);
}

pub returns-in-Some : goal.returns-in-Some
returns-in-Some c = record {
  object_key = c.in-Key.key.now;
  target = ap parts_target c.in-Key.is;
  tells = subst (λ (x : Cursor). Tells (listed context_of x) c.in-Ok.told) c.copy.ensures ((c.in-Ok.ensures.told c.in-Ok.told).0 refl);
  found = sym c.served_at.ensures ∙ c.in-Some.is;
}

pub returns-in-None : goal.returns-in-None
returns-in-None c = record {
  object_key = c.in-Key.key.now;
  target = ap parts_target c.in-Key.is;
  told = c.in-Ok.told;
  tells = subst (λ (x : Cursor). Tells (listed context_of x) c.in-Ok.told) c.copy.ensures ((c.in-Ok.ensures.told c.in-Ok.told).0 refl);
  not_found = sym c.served_at.ensures ∙ c.in-None.is;
}
