-- What the data of an IIOP profile means, and which profile of a reference counts: CORBA 3.0.3, section 15.7.2. That
-- profiles below version 1.2 are refused, and that the first profile of tag 0 alone counts, is own profile.
use Rattle.std.specs.Prelude.{◌≡◌, ◌≤◌, ℕ, List, Option, Some}
use Rattle.cdr_core.specs.Lists as Lists
use Rattle.orb_base.specs.Tagged.{Tagged}
use Rattle.orb_base.specs.declared.order.Order.{Order}
use Rattle.orb_base.specs.declared.order.Order.TheVariants.{Big}
use Rattle.cdr_core.specs.Encapsulation.{Encapsulates, encapsulation}
use Rattle.object_refs.specs.Reference.{Reference, Profile}
use Rattle.object_refs.specs.Layout.{profile_fields, FitsProfile}

-- TAG_INTERNET_IOP: CORBA 3.0.3, section 13.6.2
abbrev pub iiop_tag : ℕ
iiop_tag = 0

-- the bytes are an encapsulation of the profile, in either order, with any bytes after; its version is at least 1.2
pub record IsProfile (p : Profile) (bytes : List ℕ) : Type 0 where
  pub fits : FitsProfile p
  pub version : 2 ≤ p.minor
  pub order : Order
  pub content : Encapsulates order (profile_fields p) bytes

-- the first profile of IIOP, if there is one
abbrev pub first_of : List Tagged → Option Tagged
first_of profiles = Lists.first_of (λ profile. profile.tag) iiop_tag profiles

-- the reference's first profile of IIOP
abbrev pub IsFirstProfile : Profile → Reference → Type 0
IsFirstProfile p r = (tagged : Tagged) × (first_of r.profiles ≡ Some tagged) × IsProfile p tagged.bytes

-- the one spelling of a profile in big order, as tagged data
abbrev pub tagged_profile : Profile → Tagged
tagged_profile p = record { tag = iiop_tag; bytes = encapsulation Big (profile_fields p) }
