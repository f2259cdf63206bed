-- The band that a call to a remote object binds: Real-time CORBA 1.2, Priority banded connections. Which priority counts
-- where the reference or the caller gives none is own profile.
use Rattle.std.specs.Prelude.{ℕ, List, Option, Some, None, unwrap_or, option_map, slice_get}
use Rattle.std.specs.Option.{option_and_then}
use Rattle.orb_base.specs.Span.{Span}
use Rattle.orb_base.specs.declared.priority_model.PriorityModel.{PriorityModel}
use Rattle.orb_base.specs.declared.priority_model.PriorityModel.TheVariants.{ClientPropagated, ServerDeclared}
use Rattle.service_contexts.specs.Layout.{ModelValue}
use Rattle.banded_links.specs.Bands.{place_of}
use Rattle.client_stub.specs.Remotes.{Remote}

-- by a model: the server's where the server declares it, else the given one where there is one, and else the server's
abbrev pub counting_by : PriorityModel → ℕ → Option ℕ → ℕ
counting_by ServerDeclared server given = server
counting_by ClientPropagated server given = unwrap_or given server

-- the priority that counts; without a model the given one, and else 0
abbrev pub counting : Option ModelValue → Option ℕ → ℕ
counting (Some value) given = counting_by value.0 value.1 given
counting None given = unwrap_or given 0

-- the band that holds a priority
abbrev pub band_of : ℕ → List Span → Option Span
band_of level bands = option_and_then (slice_get bands) (place_of level bands)

-- the band to bind at a priority, or no band where there are no bands; None where no band holds it
abbrev pub bound_at : ℕ → Option (List Span) → Option (Option Span)
bound_at level None = Some None
bound_at level (Some bands) = option_map Some (band_of level bands)

-- the band that a call with a given priority binds
abbrev pub band_for : Remote → Option ℕ → Option (Option Span)
band_for remote given = bound_at (counting remote.model given) remote.bands
