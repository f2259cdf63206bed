-- The bytes of a generated load: CORBA 3.0.3, sections 15.4.2 and 15.4.9; Real-time CORBA 1.2, CORBA priorities. Which priorities the
-- requests carry is own profile.
use Rattle.std.specs.Prelude.{◌≡◌, ℕ, zero, suc, ◌+◌, ◌*◌, ◌%◌, List, [], ◌∷◌, ◌++◌, length, slice_get, codes}
use Rattle.std.specs.Prelude.{Option, Some, None, Ok, if◌then◌else◌}
use Rattle.std.specs.Option.{option_map, option_map_or, option_and_then}
use Rattle.orb_base.specs.Pool.{Pool}
use Rattle.orb_base.specs.Room.{Room}
use Rattle.orb_base.specs.Tagged.{Context}
use Rattle.orb_base.specs.declared.lane_spec.LaneSpec.{LaneSpec}
use Rattle.orb_base.specs.declared.limits.TheConstants.{MAX_MESSAGE}
use Rattle.orb_base.specs.declared.order.Order.TheVariants.{Big}
use Rattle.orb_base.specs.declared.priority_model.PriorityModel.{PriorityModel}
use Rattle.orb_base.specs.declared.priority_model.PriorityModel.TheVariants.{ClientPropagated, ServerDeclared}
use Rattle.cdr_core.specs.Encapsulation.{encapsulation}
use Rattle.service_contexts.specs.Layout.{priority_fields}
use Rattle.service_contexts.specs.declared.contexts.TheConstants.{PRIORITY_CONTEXT}
use Rattle.giop_frames.specs.Feeds.{joined_feeds}
use Rattle.giop_frames.specs.Messages as Frames
use Rattle.giop_frames.specs.Splitting.{ArePiecesOf}
use Rattle.giop_frames.specs.Stream.{stream}
use Rattle.giop_messages.specs.Message.{Message, key, request_of}
use Rattle.giop_messages.specs.MessageReading.{message_at}
use Rattle.giop_messages.specs.Spelling.{spelled}
use Rattle.adapter_policies.specs.SetupData.{AdapterData, SetupData}
use Rattle.adapter_policies.specs.declared.object_spec.ObjectSpec.{ObjectSpec}
use Rattle.load_runs.specs.declared.load_plan.LoadPlan.{LoadPlan}

-- the operation that the requests ask for
abbrev pub operation : List ℕ
operation = codes "_non_existent"

-- the priority of a lane, where it is there
abbrev pub lane_level : List LaneSpec → ℕ → ℕ
lane_level lanes n = option_map_or (λ lane. lane.priority) (slice_get lanes n) 0

-- the priority of the request of a number, from 0: that of one of the lanes, or without lanes any
abbrev pub level_in : Pool → ℕ → ℕ → ℕ
level_in pool seed i =
    if pool.laned then lane_level pool.lanes ((seed + i * i) % length pool.lanes) else (seed + i * i) % 32768

-- the priority that it carries: none where the server declares its own
abbrev pub sent_level : PriorityModel → Pool → ℕ → ℕ → Option ℕ
sent_level ClientPropagated pool seed i = Some (level_in pool seed i)
sent_level ServerDeclared pool seed i = None

-- the contexts that carry a priority, or none
abbrev pub contexts_of : Option ℕ → List Context
contexts_of (Some level) = record { id = PRIORITY_CONTEXT; bytes = encapsulation Big (priority_fields level) } ∷ []
contexts_of None = []

-- a request under an id to the object of a key, whose reply is due once it has run, without a body
abbrev pub asking : ℕ → List ℕ → Option ℕ → Message
asking id object level = request_of id 3 (key object) operation (contexts_of level) []

-- whom a load is for: the key of an object, and the model of its adapter
pub record Aim : Type 0 where
  pub object : List ℕ
  pub model : PriorityModel

-- an object under its adapter
abbrev pub aim_at : ObjectSpec → AdapterData → Aim
aim_at object adapter = record { object = object.key; model = adapter.model }

-- the first object of a setup, where there is one and its adapter is there
abbrev pub aim_of : SetupData → Option Aim
aim_of setup = option_and_then (λ object. option_map (aim_at object) (slice_get setup.adapters object.adapter)) (slice_get setup.objects 0)

-- the request of a number, from 0; its id is one more
abbrev pub request_at : Aim → Pool → ℕ → ℕ → Message
request_at aim pool seed i = asking (i + 1) aim.object (sent_level aim.model pool seed i)

-- a message is sent as these bytes: whole, or with a limit in its pieces under that
abbrev pub IsSent : Option ℕ → List ℕ → List ℕ → Type 0
IsSent None message bytes = bytes ≡ message
IsSent (Some limit) message bytes = (pieces : List (Room ℕ)) × ArePiecesOf limit message pieces × (bytes ≡ joined_feeds pieces)

-- the first of some messages, so many, are sent as these bytes, one after the other
abbrev pub AreSent : Option ℕ → (ℕ → Message) → ℕ → List ℕ → Type 0
AreSent limit message zero bytes = bytes ≡ []
AreSent limit message (suc n) bytes =
    (earlier : List ℕ) × (last : List ℕ) × AreSent limit message n earlier × IsSent limit (spelled Big (message n)) last
    × (bytes ≡ earlier ++ last)

-- the bytes are the load of this plan for a setup
pub record IsLoad (setup : SetupData) (plan : LoadPlan) (bytes : List ℕ) : Type 0 where
  pub aim : Aim
  pub first : aim_of setup ≡ Some aim
  pub sent : AreSent plan.fragment (request_at aim setup.pool plan.seed) plan.count bytes

-- these messages of a stream are read as the first of some messages, so many, in their order
abbrev pub AreRead : (ℕ → Message) → ℕ → List Frames.Message → Type 0
AreRead message zero ms = ms ≡ []
AreRead message (suc n) ms =
    (earlier : List Frames.Message) × (last : Frames.Message) × AreRead message n earlier × (message_at last ≡ Ok (message n))
    × (ms ≡ earlier ++ last ∷ [])

-- the stream of the bytes is the first of some messages, so many, and nothing else: no rest and no fault
pub record StreamsThem (message : ℕ → Message) (n : ℕ) (bytes : List ℕ) : Type 0 where
  pub messages : List Frames.Message
  pub are : AreRead message n messages
  pub says : stream MAX_MESSAGE bytes ≡ record { messages = messages; rest = None; bad = None }
