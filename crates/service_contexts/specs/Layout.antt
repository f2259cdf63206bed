-- The fields of what two service contexts and two policies carry. The contexts: Real-time CORBA 1.2, CORBA priorities
-- and Priority banded connections. The layout of the policy values is own profile.
use Rattle.std.specs.Prelude.{ℕ, ◌^◌, ◌<◌, ◌≤◌, List, [], ◌∷◌}
use Rattle.std.specs.Int.{w16, w32}
use Rattle.orb_base.specs.Span.{Span}
use Rattle.orb_base.specs.Priorities.{model_number}
use Rattle.orb_base.specs.declared.priority_model.PriorityModel.{PriorityModel}
use Rattle.cdr_core.specs.Field.{Field, number}
use Rattle.cdr_core.specs.Lists.{list_fields, FitsList}

-- a priority is 0 to 32767, so that as a short it isn't negative
abbrev pub IsPriority : ℕ → Type 0
IsPriority level = level < 2 ^ 15

-- the ends of a band are priorities, and the low one isn't above the high one
abbrev pub IsBand : Span → Type 0
IsBand band = (band.low ≤ band.high) × IsPriority band.high

-- a priority model, and the priority of the server
abbrev pub ModelValue : Type 0
ModelValue = PriorityModel × ℕ

-- its priority is one
abbrev pub IsModelValue : ModelValue → Type 0
IsModelValue value = IsPriority value.1

-- bands, as many as an unsigned long counts
abbrev pub AreBands : List Span → Type 0
AreBands = FitsList IsBand

-- a priority: one short
abbrev pub priority_fields : ℕ → List Field
priority_fields level = number w16 level ∷ []

-- a band: two shorts, its low and its high end
abbrev pub band_fields : Span → List Field
band_fields band = number w16 band.low ∷ number w16 band.high ∷ []

-- a priority model and a priority: an unsigned long and a short
abbrev pub model_fields : ModelValue → List Field
model_fields value = number w32 (model_number value.0) ∷ number w16 value.1 ∷ []

-- bands: their number, and one band after the other
abbrev pub bands_fields : List Span → List Field
bands_fields = list_fields band_fields
