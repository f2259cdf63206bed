use Rattle.std.proofs.Common.{refl, sym, ◌∙◌}
use Rattle.orb_base.specs.Tagged.{Context}
use Rattle.cdr_core.specs.Lists.{context_of}
use Rattle.service_contexts.specs.declared.contexts.TheConstants.{RANGE_CONTEXT}
use Rattle.service_contexts.proofs.Steps.{some_there, none_there}
use Rattle.service_contexts.proofs.Firsts.{band_met, band_counts, band_faulty}
use Rattle.service_contexts.proofs.contexts.with_range.Goals as goal

pub returns-then-is_some-clause-told : goal.returns-then-is_some-clause-told
returns-then-is_some-clause-told c =
    let met = some_there c.args.told.range (sym c.is_some.ensures ∙ c.if-is_some.true) in
    λ list h. band_met list (context_of (RANGE_CONTEXT, c.args.bytes.now)) c.args.told met.0 refl met.1 h

pub returns-in-Some-clause-told : goal.returns-in-Some-clause-told
returns-in-Some-clause-told c =
    let unmet = none_there c.args.told.range (sym c.is_some.ensures ∙ c.if-is_some.false) in
    let carried = (c.read_band.ensures.carries c.in-Some.band).0 c.in-Some.is in
    λ list h.
    band_counts list (context_of (RANGE_CONTEXT, c.args.bytes.now)) c.args.told c.in-Some.band refl unmet carried h

pub returns-in-None-clause-fault : goal.returns-in-None-clause-fault
returns-in-None-clause-fault c =
    let next : Context = context_of (RANGE_CONTEXT, c.args.bytes.now) in
    let unmet = none_there c.args.told.range (sym c.is_some.ensures ∙ c.if-is_some.false) in
    λ list behind h.
    band_faulty list behind next c.args.told c.read_band.result refl unmet c.in-None.is c.read_band.ensures.carries h
