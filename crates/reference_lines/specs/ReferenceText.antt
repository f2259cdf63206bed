-- The lines that `orb refs` prints of a reference: own profile.
use Rattle.std.specs.Prelude.{ℕ, List, [], ◌++◌, Option, Some, None, codes}
use Rattle.std.specs.Fmt.{decimal}
use Rattle.std.specs.List.{flat_map}
use Rattle.orb_base.specs.Span.{Span}
use Rattle.orb_base.specs.declared.priority_model.PriorityModel.{PriorityModel}
use Rattle.orb_base.specs.declared.priority_model.PriorityModel.TheVariants.{ClientPropagated, ServerDeclared}
use Rattle.service_contexts.specs.Layout.{ModelValue}
use Rattle.object_refs.specs.Reference.{Profile, Location}
use Rattle.text_streams.specs.Shown.{shown}
use Rattle.service_contexts.specs.Publishing.{published_model, published_bands}

-- where an object is: its host, its port and its key
abbrev pub address_text : List ℕ → ℕ → List ℕ → List ℕ
address_text host port key =
    codes "host " ++ shown host ++ codes "\nport " ++ decimal port ++ codes "\nkey " ++ shown key ++ codes "\n"

-- the name of a priority model: Real-time CORBA 1.2, Priority models
abbrev pub model_name : PriorityModel → List ℕ
model_name ClientPropagated = codes "CLIENT_PROPAGATED"
model_name ServerDeclared = codes "SERVER_DECLARED"

-- the priority model with the server's priority, where there is one
abbrev pub model_text : Option ModelValue → List ℕ
model_text (Some value) = codes "model " ++ model_name value.0 ++ codes " " ++ decimal value.1 ++ codes "\n"
model_text None = []

-- a band
abbrev pub band_text : Span → List ℕ
band_text band = codes "band " ++ decimal band.low ++ codes " " ++ decimal band.high ++ codes "\n"

-- each band, where there are bands
abbrev pub bands_text : Option (List Span) → List ℕ
bands_text (Some bands) = flat_map band_text bands
bands_text None = []

-- the repository id of a reference's type
abbrev pub type_text : List ℕ → List ℕ
type_text id = codes "type " ++ shown id ++ codes "\n"

-- a reference with this repository id and this profile
abbrev pub profile_text : List ℕ → Profile → List ℕ
profile_text type_id p =
    type_text type_id ++ address_text p.host p.port p.key ++ model_text (published_model p.components)
    ++ bands_text (published_bands p.components)

-- the location that an object URL names, which says nothing of a type
abbrev pub location_text : Location → List ℕ
location_text l = address_text l.host l.port l.key
