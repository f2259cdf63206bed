-- What the calls that make a load come to.
use Rattle.std.specs.Prelude.{◌≡◌, ◌≤◌, ◌<◌, ℕ, ◌*◌, ◌%◌, ◌^◌, Bool, true, false, List, [], ◌++◌, length, Option, Some, None, is_some}
use Rattle.std.specs.Int.{w32}
use Rattle.orb_base.specs.declared.limits.TheConstants.{MAX_RUN_CALLS}
use Rattle.orb_base.specs.declared.order.Order.TheVariants.{Big}
use Rattle.orb_base.specs.declared.priority_model.PriorityModel.{PriorityModel}
use Rattle.orb_base.specs.declared.priority_model.PriorityModel.TheVariants.{ClientPropagated, ServerDeclared}
use Rattle.cdr_core.specs.Cursor.{AreBytes}
use Rattle.cdr_core.specs.Encapsulation.{encapsulation}
use Rattle.cdr_core.specs.Field.{number_bytes}
use Rattle.service_contexts.specs.Layout.{priority_fields}
use Rattle.giop_messages.specs.Message.{Message, Fits}
use Rattle.giop_messages.specs.Spelling.{spelled}
use Rattle.adapter_policies.specs.SetupData.{SetupData}
use Rattle.load_runs.specs.Generated.{Aim, aim_of, asking, request_at, IsSent, AreSent, StreamsThem}
use Rattle.load_runs.specs.declared.fragment_len.TheConstants.{MIN_FRAGMENT}
use Rattle.load_runs.specs.declared.load_plan.LoadPlan.{LoadPlan}
use Rattle.load_runs.specs.declared.request.TheConstants.{MAX_REQUEST}
use Rattle.load_runs.specs.declared.input.TheConstants.{MAX_SENT}

-- requests to the object of a key are short, whatever their id and priority
abbrev pub AreShort : List ℕ → Type 0
AreShort object = (id : ℕ) (level : Option ℕ) → length (spelled Big (asking id object level)) ≤ MAX_REQUEST

-- whether the requests under a model carry a priority
abbrev pub carries : PriorityModel → Bool
carries ClientPropagated = true
carries ServerDeclared = false

-- what the context of a request says of its priority, where it carries one
abbrev pub content : Option ℕ → List ℕ
content (Some level) = encapsulation Big (priority_fields level)
content None = []

-- how many bytes that is under a model
abbrev pub content_len : PriorityModel → ℕ
content_len ClientPropagated = 4
content_len ServerDeclared = 0

-- all requests to the object of a key that carry a priority, or all that don't, are spelled as these bytes, the id, those, and what is said
-- of the priority
pub record IsPattern (object : List ℕ) (leveled : Bool) (before after : List ℕ) : Type 0 where
  pub says : (id : ℕ) (level : Option ℕ) → is_some level ≡ leveled
      → spelled Big (asking id object level) ≡ before ++ number_bytes Big w32 id ++ after ++ content level
  pub fits : (id : ℕ) (level : Option ℕ) → is_some level ≡ leveled → id < 2 ^ 32 → Fits (asking id object level)

-- the bytes are those before an id, the id, those after it, and so many more
pub record IsCut (bytes : List ℕ) (len : ℕ) (before after : List ℕ) : Type 0 where
  pub id : List ℕ
  pub last : List ℕ
  pub parts : bytes ≡ before ++ id ++ after ++ last
  pub before_len : length before ≡ 12
  pub id_len : length id ≡ 4
  pub last_len : length last ≡ len

-- a limit under which messages can be cut into pieces
abbrev pub CutsWell : Option ℕ → Type 0
CutsWell None = Unit {0}
CutsWell (Some limit) = (MIN_FRAGMENT ≤ limit) × (limit % 8 ≡ 0)

-- a message was sent after what is there
pub record Sends (limit : Option ℕ) (message old new : List ℕ) : Type 0 where
  pub bytes : List ℕ
  pub sent : IsSent limit message bytes
  pub cuts : CutsWell limit
  pub adds : new ≡ old ++ bytes

-- the same, of which it is known that it is read as it was spelled
pub record Puts (limit : Option ℕ) (message : Message) (old new : List ℕ) : Type 0 where
  pub sends : Sends limit (spelled Big message) old new
  pub fits : Fits message
  pub are_bytes : AreBytes (spelled Big message)
  pub short : length (spelled Big message) ≤ MAX_REQUEST

-- so many of the requests of a load are there, the stream of the bytes is those, and each has few bytes
pub record MadeSoFar (limit : Option ℕ) (message : ℕ → Message) (n : ℕ) (bytes : List ℕ) : Type 0 where
  pub sent : AreSent limit message n bytes
  pub streams : StreamsThem message n bytes
  pub few : length bytes ≤ MAX_SENT * n

-- the load of a plan was made for a setup
pub record IsMade (setup : SetupData) (plan : LoadPlan) (input : List ℕ) : Type 0 where
  pub aim : Aim
  pub first : aim_of setup ≡ Some aim
  pub few : plan.count ≤ MAX_RUN_CALLS
  pub made : MadeSoFar plan.fragment (request_at aim setup.pool plan.seed) plan.count input
