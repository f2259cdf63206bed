-- The first fault of what is encapsulated: each part before it has a reading, and the part there has none. CORBA 3.0.3,
-- sections 13.6.2 and 15.7.2. The causes and their order are own profile.
use Rattle.std.specs.Prelude.{◌≡◌, ◌≤◌, ◌<◌, ◌^◌, ℕ, Bool, true, List, [], ◌∷◌, ◌⊎◌, None, Some}
use Rattle.std.specs.Int.{w8, w16}
use Rattle.orb_base.specs.Tagged.{Tagged}
use Rattle.orb_base.specs.declared.order.Order.{Order}
use Rattle.cdr_core.specs.declared.fault.CdrFault.{CdrFault}
use Rattle.cdr_core.specs.Field.{number}
use Rattle.cdr_core.specs.Cursor.{Cursor}
use Rattle.cdr_core.specs.Basic.{BasicType, integer, octet_sequence, string}
use Rattle.cdr_core.specs.Passing.{Spans, Fails}
use Rattle.cdr_core.specs.Encapsulation.{Encapsulates, StandsIn, IsUnordered}
use Rattle.cdr_core.specs.FirstFault.{Stands, FailsIn, item, FailsList}
use Rattle.cdr_core.specs.Lists.{tagged_fields, FitsTagged}
use Rattle.object_refs.specs.declared.fault.RefFault.{RefFault}
use Rattle.object_refs.specs.declared.fault.RefCause.TheVariants.{NoIiop, BadVersion}
use Rattle.object_refs.specs.Reference.{Reference, Profile}
use Rattle.object_refs.specs.Layout.{has_components, versioned_fields, FitsVersioned}
use Rattle.object_refs.specs.Profiles.{first_of}
use Rattle.object_refs.specs.Reading.{fault, cdr_fault}

-- the bytes are no encapsulation, or what is in it fails
abbrev pub RefusesWithin : (Cursor → CdrFault → Type 0) → List ℕ → RefFault → Type 0
RefusesWithin Bad bytes f =
    (g : CdrFault) × (f ≡ cdr_fault g)
    × (IsUnordered bytes g ⊎ ((inner : Cursor) × StandsIn bytes inner × Bad inner g))

-- a list of tagged data fails
abbrev pub FailsTagged : Cursor → CdrFault → Type 0
FailsTagged = FailsList tagged_fields FitsTagged (FailsIn item)

-- a reference fails: the repository id of its type, or its profiles
abbrev pub FailsReference : Cursor → CdrFault → Type 0
FailsReference c g = Fails c string g ⊎ ((d : Cursor) × Stands string c d × FailsTagged d g)

-- the major and the minor version, the host, the port and the key of a profile
abbrev pub profile_row : List BasicType
profile_row = integer w8 ∷ integer w8 ∷ string ∷ integer w16 ∷ octet_sequence ∷ []

-- the components of a profile fail, whose version has them
pub record FailsComponents (c : Cursor) (g : CdrFault) : Type 0 where
  pub major : ℕ
  pub minor : ℕ
  pub versioned : Cursor
  pub hosted : Cursor
  pub ported : Cursor
  pub keyed : Cursor
  pub octets : (major < 2 ^ 8) × (minor < 2 ^ 8)
  pub version : Spans c versioned (number w8 major ∷ number w8 minor ∷ [])
  pub host : Stands string versioned hosted
  pub port : Stands (integer w16) hosted ported
  pub key : Stands octet_sequence ported keyed
  pub present : has_components major minor ≡ true
  pub fails : FailsTagged keyed g

-- a profile of any version fails
abbrev pub FailsProfile : Cursor → CdrFault → Type 0
FailsProfile c g = FailsIn profile_row c g ⊎ FailsComponents c g

-- the bytes are an encapsulation of a profile of another version than 1.2 and later ones of 1
pub record HasOtherVersion (bytes : List ℕ) (f : RefFault) : Type 0 where
  pub major : ℕ
  pub profile : Profile
  pub fits : FitsVersioned major profile
  pub order : Order
  pub content : Encapsulates order (versioned_fields major profile) bytes
  pub other : ¬ ((major ≡ 1) × (2 ≤ profile.minor))
  pub told : f ≡ fault BadVersion 0

-- the data of a profile is refused
abbrev pub RefusesProfile : List ℕ → RefFault → Type 0
RefusesProfile bytes f = RefusesWithin FailsProfile bytes f ⊎ HasOtherVersion bytes f

-- a reference has no profile of IIOP, or its first one is refused
abbrev pub RefusesFirst : Reference → RefFault → Type 0
RefusesFirst r f =
    ((first_of r.profiles ≡ None) × (f ≡ fault NoIiop 0))
    ⊎ ((tagged : Tagged) × (first_of r.profiles ≡ Some tagged) × RefusesProfile tagged.bytes f)
