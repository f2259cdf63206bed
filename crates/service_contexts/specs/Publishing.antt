-- The policies that a profile publishes, the priority model and the bands of an object: Real-time CORBA 1.2, Priority
-- models and Priority banded connections. Which of them count is own profile.
use Rattle.std.specs.Prelude.{ℕ, if◌then◌else◌, List, Option, Some, None, option_map}
use Rattle.orb_base.specs.Span.{Span}
use Rattle.orb_base.specs.Tagged.{Tagged}
use Rattle.orb_base.specs.Apart.{are_apart}
use Rattle.cdr_core.specs.Lists.{first_of}
use Rattle.service_contexts.specs.Layout.{ModelValue}
use Rattle.service_contexts.specs.Policies.{policies_at}
use Rattle.service_contexts.specs.Reading.{◌>>=◌, carried, model_at, bands_at}
use Rattle.service_contexts.specs.declared.policies.TheConstants.{POLICIES_TAG, MODEL_POLICY, BANDS_POLICY}

-- the bytes of the first of tagged data with this tag
unfoldable pub first_bytes : ℕ → List Tagged → Option (List ℕ)
first_bytes tag list = option_map (λ tagged. tagged.bytes) (first_of (λ tagged. tagged.tag) tag list)

-- the value of the first policy of a type, where the bytes are an encapsulation of policies
unfoldable pub policy_value : ℕ → List ℕ → Option (List ℕ)
policy_value kind bytes = do
  policies ← carried policies_at bytes
  first_bytes kind policies

-- the same among the components of a profile, of which the first with policies counts
unfoldable pub published : ℕ → List Tagged → Option (List ℕ)
published kind components = do
  policies ← first_bytes POLICIES_TAG components
  policy_value kind policies

-- bands of which two share a priority count as absent
abbrev pub if_apart : List Span → Option (List Span)
if_apart bands = if are_apart bands then Some bands else None

-- the priority model and the server's priority, where they are published and have a reading
unfoldable pub published_model : List Tagged → Option ModelValue
published_model components = do
  value ← published MODEL_POLICY components
  carried model_at value

-- the bands, where they are published, have a reading and share no priority
unfoldable pub published_bands : List Tagged → Option (List Span)
published_bands components = do
  value ← published BANDS_POLICY components
  bands ← carried bands_at value
  if_apart bands
