-- What bytes carry: an encapsulation of the fields of a value, with any bytes after. CORBA 3.0.3, section 15.3.3.
use Rattle.std.specs.Prelude.{ℕ, List}
use Rattle.orb_base.specs.Span.{Span}
use Rattle.orb_base.specs.declared.order.Order.{Order}
use Rattle.cdr_core.specs.Field.{Field}
use Rattle.cdr_core.specs.Encapsulation.{Encapsulates}
use Rattle.service_contexts.specs.Layout.{IsPriority, IsBand, ModelValue, IsModelValue, AreBands}
use Rattle.service_contexts.specs.Layout.{priority_fields, band_fields, model_fields, bands_fields}

-- the bytes are an encapsulation, in either order, of the fields of a value that may be carried, and any bytes after
pub record Carries (A : Type 0) (IsLawful : A → Type 0) (fields : A → List Field) (value : A) (bytes : List ℕ)
    : Type 0 where
  pub lawful : IsLawful value
  pub order : Order
  pub content : Encapsulates order (fields value) bytes

-- the content of a context RTCorbaPriority
abbrev pub CarriesPriority : ℕ → List ℕ → Type 0
CarriesPriority = Carries ℕ IsPriority priority_fields

-- the content of a context RTCorbaPriorityRange
abbrev pub CarriesBand : Span → List ℕ → Type 0
CarriesBand = Carries Span IsBand band_fields

-- the value of a priority model policy
abbrev pub CarriesModel : ModelValue → List ℕ → Type 0
CarriesModel = Carries ModelValue IsModelValue model_fields

-- the value of a priority banded connection policy
abbrev pub CarriesBands : List Span → List ℕ → Type 0
CarriesBands = Carries (List Span) AreBands bands_fields
