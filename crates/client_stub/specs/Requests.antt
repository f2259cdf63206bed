-- The requests that a client sends: CORBA 3.0.3, section 15.4.2; Real-time CORBA 1.2, CORBA priorities and Priority banded
-- connections. They are big endian. The operation that binds a band is own profile.
use Rattle.std.specs.Prelude.{◌≡◌, ℕ, Bool, ◌||◌, List, [], ◌∷◌, length, max, codes, is_some, if◌then◌else◌, Option, Some, None}
use Rattle.orb_base.specs.Span.{Span}
use Rattle.orb_base.specs.Tagged.{Context}
use Rattle.orb_base.specs.declared.order.Order.TheVariants.{Big}
use Rattle.orb_base.specs.declared.priority_model.PriorityModel.{PriorityModel}
use Rattle.orb_base.specs.declared.priority_model.PriorityModel.TheVariants.{ClientPropagated, ServerDeclared}
use Rattle.cdr_core.specs.Encapsulation.{encapsulation}
use Rattle.service_contexts.specs.Layout.{ModelValue, priority_fields, band_fields}
use Rattle.service_contexts.specs.declared.contexts.TheConstants.{PRIORITY_CONTEXT, RANGE_CONTEXT}
use Rattle.giop_messages.specs.Message.{Message, key, request_of}
use Rattle.giop_messages.specs.Spelling.{spelled}
use Rattle.giop_messages.specs.Lengths.{held}
use Rattle.client_stub.specs.Asking.{Asked, call_body}

-- the priority that a call carries by a model
abbrev pub sent_by : PriorityModel → Option ℕ → Option ℕ
sent_by ServerDeclared given = None
sent_by ClientPropagated given = given

-- the priority that a call carries: the given one, unless the server declares its own
abbrev pub sent : Option ModelValue → Option ℕ → Option ℕ
sent (Some value) given = sent_by value.0 given
sent None given = given

-- the contexts of a call: its priority, where it carries one
abbrev pub contexts_with : Option ℕ → List Context
contexts_with (Some level) = record { id = PRIORITY_CONTEXT; bytes = encapsulation Big (priority_fields level) } ∷ []
contexts_with None = []

-- the response flags: a oneway call is not answered, and another one is answered when it has run
abbrev pub flags_of : Bool → ℕ
flags_of oneway = if oneway then 0 else 3

-- the request of a call by its id, flags, key, operation, priority and body
abbrev pub call_at : ℕ → ℕ → List ℕ → List ℕ → Option ℕ → List ℕ → Message
call_at id flags object operation priority body = request_of id flags (key object) operation (contexts_with priority) body

-- the request of a call
abbrev pub call_of : ℕ → Asked → List ℕ → Message
call_of id asked body =
    call_at id (flags_of asked.operation.oneway) asked.remote.key asked.operation.name (sent asked.remote.model asked.priority) body

-- the operation that binds a band
abbrev pub bind_operation : List ℕ
bind_operation = codes "_bind_priority_band"

-- the request that binds a band, at the object of a key
abbrev pub bind_of : ℕ → List ℕ → Span → Message
bind_of id object band =
    request_of id 3 (key object) bind_operation (record { id = RANGE_CONTEXT; bytes = encapsulation Big (band_fields band) } ∷ []) []

-- whether a band may be bound before the call
abbrev pub may_bind : Asked → Bool
may_bind asked = is_some asked.remote.bands || is_some asked.band

-- the length of the call, or of the bind where one may come before it and is longer
abbrev pub longer : Bool → ℕ → ℕ → ℕ
longer bind call_len bind_len = if bind then max call_len bind_len else call_len

-- the arguments have a body, and the number is how long the requests are that the call takes, whatever their ids and the band;
-- 2^64 - 1 where that is more
pub record IsRequestLen (asked : Asked) (n : ℕ) : Type 0 where
  pub body : List ℕ
  pub has_body : call_body asked ≡ Some body
  pub len : (id bind_id : ℕ) (band : Span)
      → n ≡ held (longer (may_bind asked) (length (spelled Big (call_of id asked body)))
      (length (spelled Big (bind_of bind_id asked.remote.key band))))
