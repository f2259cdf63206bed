-- The fields of references and of their IIOP profiles: CORBA 3.0.3, sections 13.6.2 and 15.7.2.
use Rattle.std.specs.Prelude.{◌≡◌, ℕ, ◌+◌, ◌^◌, ◌<◌, Bool, false, ◌&&◌, ◌||◌, ◌==◌, nat_lt, if◌then◌else◌}
use Rattle.std.specs.Prelude.{List, [], ◌∷◌, ◌++◌, length}
use Rattle.std.specs.Int.{w8, w16}
use Rattle.orb_base.specs.NulFree.{HasNoNul}
use Rattle.orb_base.specs.Tagged.{Tagged}
use Rattle.cdr_core.specs.Field.{Field, number, string_fields, octets_fields}
use Rattle.cdr_core.specs.Lists.{list_fields, FitsList, AreCounted, item_of_tagged, tagged_fields, FitsTagged}
use Rattle.object_refs.specs.Reference.{Reference, Profile}

-- a reference: the repository id of its type, and its profiles
abbrev pub reference_fields : Reference → List Field
reference_fields r = string_fields r.type_id ++ list_fields tagged_fields r.profiles

-- profiles have components from version 1.1 on
abbrev pub has_components : ℕ → ℕ → Bool
has_components major minor = nat_lt 1 major || (major == 1 && nat_lt 0 minor)

-- the components of a profile of a version
abbrev pub components_fields : Bool → List Tagged → List Field
components_fields present list = if present then list_fields tagged_fields list else []

-- a profile of any version: its version, host, port and key, and its components where the version has them
abbrev pub versioned_fields : ℕ → Profile → List Field
versioned_fields major p =
    number w8 major ∷ number w8 p.minor ∷ string_fields p.host ++ number w16 p.port ∷ octets_fields p.key
    ++ components_fields (has_components major p.minor) p.components

-- a profile of IIOP 1.minor
abbrev pub profile_fields : Profile → List Field
profile_fields p = versioned_fields 1 p

-- bytes that a string holds
abbrev pub FitsText : List ℕ → Type 0
FitsText text = HasNoNul text × (length text + 1 < 2 ^ 32)

-- a reference that the widths can hold
pub record FitsReference (r : Reference) : Type 0 where
  pub type_id : FitsText r.type_id
  pub profiles : FitsList FitsTagged r.profiles

-- a profile that they can hold
pub record FitsProfile (p : Profile) : Type 0 where
  pub minor : p.minor < 2 ^ 8
  pub host : FitsText p.host
  pub port : p.port < 2 ^ 16
  pub key : length p.key < 2 ^ 32
  pub components : FitsList FitsTagged p.components

-- a profile of a version that they can hold, without components where the version has none
pub record FitsVersioned (version : ℕ) (p : Profile) : Type 0 where
  pub major : version < 2 ^ 8
  pub profile : FitsProfile p
  pub without : has_components version p.minor ≡ false → p.components ≡ []

-- a reference whose lengths an unsigned long counts
pub record IsCountedReference (r : Reference) : Type 0 where
  pub type_id : length r.type_id + 1 < 2 ^ 32
  pub profiles : AreCounted item_of_tagged r.profiles

-- a profile whose lengths it counts
pub record IsCountedProfile (p : Profile) : Type 0 where
  pub host : length p.host + 1 < 2 ^ 32
  pub key : length p.key < 2 ^ 32
  pub components : AreCounted item_of_tagged p.components
