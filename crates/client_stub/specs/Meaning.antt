-- Which remote object the text of a reference means: an object URL where it begins with that scheme, and else a stringified
-- reference, of which the first IIOP profile counts. The same texts mean the same references to the command that prints them.
use Rattle.std.specs.Prelude.{◌≡◌, ℕ, if◌then◌else◌, List, length, take, Ok, ◌⊎◌}
use Rattle.std.specs.Str.{bytes_eq}
use Rattle.object_refs.specs.Reference.{Reference, Profile, Location}
use Rattle.object_refs.specs.Locations.{scheme, IsLocation}
use Rattle.object_refs.specs.LocationReading.{location_of}
use Rattle.object_refs.specs.Profiles.{IsFirstProfile}
use Rattle.object_refs.specs.ProfileReading.{first_profile_of}
use Rattle.object_refs.specs.Reading.{Read, ◌>>=◌}
use Rattle.object_refs.specs.References.{IsReference, reference_of}
use Rattle.client_stub.specs.Remotes.{Remote, located, referred}

-- the object that an object URL names
unfoldable pub url_remote : List ℕ → Read Remote
url_remote text = do
  location ← location_of text
  Ok (located location)

-- the object that a stringified reference means
unfoldable pub ior_remote : List ℕ → Read Remote
ior_remote text = do
  reference ← reference_of text
  profile ← first_profile_of reference
  Ok (referred reference profile)

-- the object that a text means, or its first fault
unfoldable pub remote_of : List ℕ → Read Remote
remote_of text = if bytes_eq scheme (take (length scheme) text) then url_remote text else ior_remote text

-- the text names a location of the object, or means a reference to it
abbrev pub IsRemote : Remote → List ℕ → Type 0
IsRemote remote text =
    ((l : Location) × IsLocation l text × (remote ≡ located l))
    ⊎ ((r : Reference) × (p : Profile) × IsReference r text × IsFirstProfile p r × (remote ≡ referred r p))
