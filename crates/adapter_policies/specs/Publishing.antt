-- The reference of an object, as it is published: CORBA 3.0.3, sections 13.6.2, 13.6.6 and 15.7.2; Real-time CORBA 1.2, Priority models
-- and Priority banded connections. Which policies a profile carries is own profile.
use Rattle.std.specs.Prelude.{◌≡◌, ℕ, List, [], ◌∷◌, Option, Some, None, slice_get}
use Rattle.orb_base.specs.Span.{Span}
use Rattle.orb_base.specs.Tagged.{Tagged}
use Rattle.orb_base.specs.declared.order.Order.TheVariants.{Big}
use Rattle.cdr_core.specs.Encapsulation.{encapsulation}
use Rattle.cdr_core.specs.Lists.{list_fields, tagged_fields}
use Rattle.object_refs.specs.Layout.{FitsReference}
use Rattle.object_refs.specs.Profiles.{IsFirstProfile, tagged_profile}
use Rattle.object_refs.specs.Reference.{Reference, Profile}
use Rattle.service_contexts.specs.Layout.{model_fields, bands_fields}
use Rattle.service_contexts.specs.Publishing.{if_apart, published_model, published_bands}
use Rattle.service_contexts.specs.declared.policies.TheConstants.{POLICIES_TAG, MODEL_POLICY, BANDS_POLICY}
use Rattle.adapter_policies.specs.SetupData.{AdapterData, SetupData}
use Rattle.adapter_policies.specs.declared.object_spec.ObjectSpec.{ObjectSpec}

-- the priority model of an object's adapter, and the object's priority
abbrev pub model_tagged : AdapterData → ObjectSpec → Tagged
model_tagged a o = record { tag = MODEL_POLICY; bytes = encapsulation Big (model_fields (a.model, o.priority)) }

-- the bands of an adapter that has some
abbrev pub bands_tagged : List Span → Tagged
bands_tagged bands = record { tag = BANDS_POLICY; bytes = encapsulation Big (bands_fields bands) }

-- the policy of an adapter's bands, where it has some
abbrev pub bands_list : List Span → List Tagged
bands_list [] = []
bands_list (band ∷ bands) = bands_tagged (band ∷ bands) ∷ []

-- the policies of an object
abbrev pub policies_of : AdapterData → ObjectSpec → List Tagged
policies_of a o = model_tagged a o ∷ bands_list a.bands

-- the component that carries policies
abbrev pub component_of : List Tagged → Tagged
component_of policies = record { tag = POLICIES_TAG; bytes = encapsulation Big (list_fields tagged_fields policies) }

-- the profile of an object at a host and a port, of IIOP 1.2
abbrev pub profile_of : AdapterData → ObjectSpec → List ℕ → ℕ → Profile
profile_of a o host port = record {
  minor = 2;
  host = host;
  port = port;
  key = o.key;
  components = component_of (policies_of a o) ∷ [];
}

-- the reference of an object: its interface and one profile
abbrev pub reference_of : AdapterData → ObjectSpec → List ℕ → ℕ → Reference
reference_of a o host port = record { type_id = o.interface; profiles = tagged_profile (profile_of a o host port) ∷ [] }

-- the bands that a reader of components finds: an adapter's, where it has some and no two share a priority
abbrev pub bands_found : List Span → Option (List Span)
bands_found [] = None
bands_found (band ∷ bands) = if_apart (band ∷ bands)

-- a profile tells an adapter's model at a priority, and the adapter's bands
pub record Tells (a : AdapterData) (priority : ℕ) (components : List Tagged) : Type 0 where
  pub model : published_model components ≡ Some (a.model, priority)
  pub bands : published_bands components ≡ bands_found a.bands

-- the reference of the object of a number, which is read as what was configured
pub record IsReferenceOf (setup : SetupData) (n : ℕ) (host : List ℕ) (port : ℕ) (r : Reference) : Type 0 where
  pub object : ObjectSpec
  pub adapter : AdapterData
  pub numbered : slice_get setup.objects n ≡ Some object
  pub under : slice_get setup.adapters object.adapter ≡ Some adapter
  pub spelled : r ≡ reference_of adapter object host port
  pub fits : FitsReference r
  pub first : IsFirstProfile (profile_of adapter object host port) r
  pub told : Tells adapter object.priority (profile_of adapter object host port).components
