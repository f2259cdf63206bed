-- The reading of an IIOP profile from left to right, with the first fault that is met: CORBA 3.0.3, section 15.7.2.
-- The causes and their order are own profile: what the Common Data Representation refuses goes before the version.
use Rattle.std.specs.Prelude.{ℕ, Bool, ◌&&◌, ◌==◌, nat_lt, if◌then◌else◌, List, [], Option, Some, None, Ok, Err}
use Rattle.std.specs.Int.{w8, w16}
use Rattle.orb_base.specs.Tagged.{Tagged}
use Rattle.cdr_core.specs.Cursor.{Cursor, Reads}
use Rattle.cdr_core.specs.Reading.{number_at, octets_at, string_at, entered}
use Rattle.object_refs.specs.declared.fault.RefCause.TheVariants.{BadVersion, NoIiop}
use Rattle.object_refs.specs.Reference.{Reference, Profile}
use Rattle.object_refs.specs.Layout.{has_components}
use Rattle.object_refs.specs.Profiles.{first_of}
use Rattle.object_refs.specs.Reading.{Read, fault, cdr, tagged_list_at}
use Rattle.cdr_core.specs.Sequence.{◌>>=◌}

-- components, where the version has them
unfoldable pub components_at : Bool → Cursor → Reads (List Tagged)
components_at present c = if present then tagged_list_at c else Ok ([], c)

-- a profile of any version: its major version, and what is after that
unfoldable pub versioned_at : Cursor → Reads (ℕ × Profile)
versioned_at c = do
  major ← number_at w8 c
  minor ← number_at w8 major.1
  host ← string_at minor.1
  port ← number_at w16 host.1
  key ← octets_at port.1
  components ← components_at (has_components major.0 minor.0) key.1
  Ok (
    (
      major.0,
      record {
        minor = minor.0;
        host = host.0;
        port = port.0;
        key = key.0;
        components = components.0;
      },
    ),
    components.1,
  )

-- a profile of version 1.2 or of a later 1.x
unfoldable pub supported : ℕ → Profile → Read Profile
supported major p = if major == 1 && nat_lt 1 p.minor then Ok p else Err (fault BadVersion 0)

-- the profile that the bytes encapsulate
unfoldable pub profile_of : List ℕ → Read Profile
profile_of bytes = do
  inner ← cdr (entered bytes)
  any ← cdr (versioned_at inner)
  supported any.0.0 any.0.1

-- the profile in tagged data, where there is some
abbrev pub profile_in : Option Tagged → Read Profile
profile_in (Some tagged) = profile_of tagged.bytes
profile_in None = Err (fault NoIiop 0)

-- the first profile of IIOP
unfoldable pub first_profile_of : Reference → Read Profile
first_profile_of r = profile_in (first_of r.profiles)
