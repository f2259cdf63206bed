-- The text of an input of `orb refs`, what it means, and its lines: own profile.
use Rattle.std.specs.Prelude.{◌≡◌, ◌-◌, ◌==◌, ◌&&◌, nat_lt, ℕ, Bool, if◌then◌else◌, List, length, slice_index, take, Ok, ◌⊎◌}
use Rattle.std.specs.Str.{bytes_eq}
use Rattle.object_refs.specs.declared.fault.RefError.{RefError}
use Rattle.object_refs.specs.declared.fault.RefError.TheVariants.{Refused, NoMemory}
use Rattle.object_refs.specs.Reference.{Reference, Profile, Location}
use Rattle.object_refs.specs.Locations.{scheme, IsLocation}
use Rattle.object_refs.specs.LocationReading.{location_of}
use Rattle.object_refs.specs.Profiles.{IsFirstProfile}
use Rattle.object_refs.specs.ProfileReading.{first_profile_of}
use Rattle.object_refs.specs.Reading.{Read, ◌>>=◌}
use Rattle.object_refs.specs.References.{IsReference, reference_of}
use Rattle.reference_lines.specs.ReferenceText.{profile_text, location_text}

-- the byte that ends a line
abbrev pub line_feed : ℕ
line_feed = 10

-- the last byte of an input is a line feed
abbrev pub ends_line : List ℕ → Bool
ends_line input = nat_lt 0 (length input) && slice_index input (length input - 1) == line_feed

-- the text of an input, to which one line feed at the end doesn't belong
unfoldable pub text_of : List ℕ → List ℕ
text_of input = if ends_line input then take (length input - 1) input else input

-- the lines of an object URL
unfoldable pub location_lines : List ℕ → Read (List ℕ)
location_lines text = do
  location ← location_of text
  Ok (location_text location)

-- the lines of a stringified reference
unfoldable pub reference_lines : List ℕ → Read (List ℕ)
reference_lines text = do
  reference ← reference_of text
  profile ← first_profile_of reference
  Ok (profile_text reference.type_id profile)

-- the lines of a text: of an object URL where it begins with that scheme, and else of a stringified reference
unfoldable pub lines_of : List ℕ → Read (List ℕ)
lines_of text = if bytes_eq scheme (take (length scheme) text) then location_lines text else reference_lines text

-- the lines are those of what the text means: a location, or a reference, of which the first IIOP profile counts
abbrev pub IsPrinted : List ℕ → List ℕ → Type 0
IsPrinted lines text =
    ((l : Location) × IsLocation l text × (lines ≡ location_text l))
    ⊎ ((r : Reference) × (p : Profile) × IsReference r text × IsFirstProfile p r × (lines ≡ profile_text r.type_id p))

-- a refused text names no location; of out of memory nothing is said
abbrev pub NamesNone : RefError → List ℕ → Type 0
NamesNone (Refused f) text = (l : Location) → ¬ IsLocation l text
NamesNone NoMemory text = Unit {0}

-- nor means it a reference with a first IIOP profile
abbrev pub RefersNowhere : RefError → List ℕ → Type 0
RefersNowhere (Refused f) text = (r : Reference) (p : Profile) → IsReference r text → ¬ IsFirstProfile p r
RefersNowhere NoMemory text = Unit {0}

-- so no lines come of it
abbrev pub MeansNothing : RefError → List ℕ → Type 0
MeansNothing (Refused f) text = (lines : List ℕ) → ¬ IsPrinted lines text
MeansNothing NoMemory text = Unit {0}

-- a text is printed in one way only
abbrev pub PrintsOneWay : Type 0
PrintsOneWay = (text lines others : List ℕ) → IsPrinted lines text → IsPrinted others text → lines ≡ others
