use Rattle.std.proofs.Common.{rules, ◌≡◌, ◌<◌, ◌^◌, ◌∷◌, [], length, subst, sym}
use Rattle.std.specs.List.{AllByRecursion}
use Rattle.cdr_core.specs.Lists.{FitsList, FitsTagged}
use Rattle.orb_base.specs.Tagged.{Tagged}
use Rattle.service_contexts.specs.Layout.{AreBands, IsBand}
use Rattle.adapter_policies.specs.Publishing.{Tells, component_of, policies_of}
use Rattle.adapter_policies.specs.SetupData.{AdapterData}
use Rattle.adapter_policies.specs.declared.object_spec.ObjectSpec.{ObjectSpec}
use Rattle.adapter_policies.proofs.Published.{made_tells, publishes}
use Rattle.adapter_policies.proofs.publishing.profile_of.Goals as goal

-- the component carries the policies of the adapter and the object
pub returns-clause-told : goal.returns-clause-told
returns-clause-told c =
    let a : AdapterData = c.args.adapter.now in
    let o : ObjectSpec = c.args.object.now in
    let fits : FitsList FitsTagged (policies_of a o) = subst (λ list. FitsList FitsTagged list) c.in_ok-policies.ensures.value c.in_ok-policies.ensures.fits in
    let few : length a.bands < 2 ^ 32 = search rules in
    let each : AllByRecursion IsBand a.bands = search rules in
    let are : AreBands a.bands = (few, each) in
    let same : c.in_ok-component.component ≡ component_of (policies_of a o) = search rules in
    let tells : Tells a o.priority (c.in_ok-component.component ∷ []) =
    subst (λ (t : Tagged). Tells a o.priority (t ∷ [])) (sym same) (publishes a o fits c.show_priority.ensures are) in
    made_tells c.profile_with.result a o _ c.profile_with.ensures.value tells
