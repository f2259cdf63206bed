-- What the profile of an object publishes.
use Rattle.std.proofs.Common.{◌≡◌, ℕ, ◌+◌, ◌^◌, ◌<◌, List, [], ◌∷◌, length, get_or, Some, refl, subst, sym, ap, ◌∙◌, Result, Ok, Err, IfOk, drop}
use Rattle.std.proofs.lemmas.List.{append-nil, drop_more}
use Rattle.std.specs.List.{AllByRecursion}
use Rattle.orb_base.specs.declared.no_memory.NoMemory.{NoMemory}
use Rattle.orb_base.specs.Span.{Span}
use Rattle.orb_base.specs.Tagged.{Tagged}
use Rattle.orb_base.specs.declared.order.Order.TheVariants.{Big}
use Rattle.cdr_core.specs.Encapsulation.{encapsulation}
use Rattle.cdr_core.specs.Lists.{AreCounted, FitsList, FitsTagged, item_of_tagged, list_fields, tagged_fields}
use Rattle.object_refs.specs.Layout.{FitsReference, IsCountedReference}
use Rattle.object_refs.specs.Reference.{Profile, Reference}
use Rattle.service_contexts.specs.Layout.{AreBands, IsBand, IsPriority, bands_fields, model_fields}
use Rattle.service_contexts.specs.Policies.{policies_at}
use Rattle.service_contexts.specs.Publishing.{first_bytes, policy_value, published, published_bands, published_model}
use Rattle.service_contexts.specs.Reading.{bands_at, carried, model_at}
use Rattle.service_contexts.proofs.Carried.{bands_law, model_law}
use Rattle.service_contexts.proofs.Published.{policies_law}
use Rattle.adapter_policies.specs.Publishing.{Tells, bands_found, bands_list, bands_tagged, component_of, policies_of}
use Rattle.adapter_policies.specs.SetupData.{AdapterData}
use Rattle.adapter_policies.specs.declared.object_spec.ObjectSpec.{ObjectSpec}

-- an adapter with bands has one policy of them
pub bands_some : (bands : List Span) → (bands ≡ [] → ⊥) → bands_list bands ≡ bands_tagged bands ∷ []
bands_some [] some = absurd (some refl)
bands_some (band ∷ bands) some = refl

each_counted : (list : List Tagged) → AllByRecursion FitsTagged list → AllByRecursion (λ x. length (item_of_tagged x).1 < 2 ^ 32) list
each_counted [] fits = tt
each_counted (x ∷ xs) fits = (fits.0.1, each_counted xs fits.1)

-- tagged data that fit are counted
pub are_counted : (list : List Tagged) → FitsList FitsTagged list → AreCounted item_of_tagged list
are_counted list fits = (fits.0, each_counted list fits.1)

-- what is spelled as policies is read as them
policies_back : (policies : List Tagged) → FitsList FitsTagged policies → carried policies_at (encapsulation Big (list_fields tagged_fields policies)) ≡ Some policies
policies_back policies fits = rw append-nil at (policies_law.back Big policies [] fits)

model_back : (a : AdapterData) (o : ObjectSpec) → IsPriority o.priority → carried model_at (encapsulation Big (model_fields (a.model, o.priority))) ≡ Some (a.model, o.priority)
model_back a o fits = rw append-nil at (model_law.back Big (a.model, o.priority) [] fits)

bands_back : (bands : List Span) → AreBands bands → carried bands_at (encapsulation Big (bands_fields bands)) ≡ Some bands
bands_back bands fits = rw append-nil at (bands_law.back Big bands [] fits)

-- the model is published
publishes_model : (a : AdapterData) (o : ObjectSpec) → FitsList FitsTagged (policies_of a o) → IsPriority o.priority
    → published_model (component_of (policies_of a o) ∷ []) ≡ Some (a.model, o.priority)
unfolding published_model published first_bytes policy_value
publishes_model a o fits level = rw (policies_back (policies_of a o) fits, model_back a o level) refl

-- the bands are published
publishes_bands : (a : AdapterData) (o : ObjectSpec) (bands : List Span) → a.bands ≡ bands → FitsList FitsTagged (policies_of a o) → AreBands bands
    → published_bands (component_of (policies_of a o) ∷ []) ≡ bands_found bands
unfolding published_bands published first_bytes policy_value
publishes_bands a o [] none fits are = rw (policies_back (policies_of a o) fits, none) refl
publishes_bands a o (band ∷ bands) some fits are = rw (policies_back (policies_of a o) fits, some, bands_back (band ∷ bands) are) refl

-- what a component publishes is what the adapter and the object have
pub publishes : (a : AdapterData) (o : ObjectSpec) → FitsList FitsTagged (policies_of a o) → IsPriority o.priority → AreBands a.bands
    → Tells a o.priority (component_of (policies_of a o) ∷ [])
publishes a o fits level are = record {
  model = publishes_model a o fits level;
  bands = publishes_bands a o a.bands refl fits are;
}

-- what a profile tells is what the adapter and the object have, where its component is theirs
pub made_tells : (r : Result Profile NoMemory) (a : AdapterData) (o : ObjectSpec) (whole : Profile) → IfOk r (λ p. p ≡ whole) → Tells a o.priority whole.components
    → IfOk r (λ p. Tells a o.priority p.components)
made_tells (Ok p) a o whole is tells = subst (λ (x : Profile). Tells a o.priority x.components) (sym is) tells
made_tells (Err e) a o whole is tells = tt

-- the bands that are left, of which the next one is one
pub next_band : (bands : List Span) (i : ℕ) (band : Span) → i < length bands → band ≡ get_or bands i band → IsBand band
    → (AllByRecursion IsBand (drop i bands) → AllByRecursion IsBand bands) → AllByRecursion IsBand (drop (i + 1) bands) → AllByRecursion IsBand bands
next_band bands i band within at is after rest =
    let step : drop i bands ≡ band ∷ drop (i + 1) bands = drop_more bands i band within ∙ ap (λ (x : Span). x ∷ drop (i + 1) bands) (sym at) in
    let both : AllByRecursion IsBand (band ∷ drop (i + 1) bands) = (is, rest) in
    after (subst (λ (xs : List Span). AllByRecursion IsBand xs) (sym step) both)

-- a reference that fits is counted
pub reference_counted : (r : Reference) → FitsReference r → IsCountedReference r
reference_counted r fits = record { type_id = fits.type_id.1; profiles = are_counted r.profiles fits.profiles }
