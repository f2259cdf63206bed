-- What a server makes of a request: Real-time CORBA 1.2, Priority models, Priority transforms, Priority banded connections and
-- Threadpools. The order of the causes is own profile: each is given only where none before it is there.
use Rattle.std.specs.Prelude.{◌≡◌, ℕ, true, false, List, Option, Some, None, Result, Ok, Err, IsSome, codes}
use Rattle.orb_base.specs.Pool.{Pool}
use Rattle.orb_base.specs.Priorities.{lane_of}
use Rattle.orb_base.specs.Span.{Span}
use Rattle.banded_links.specs.Binding.{serves}
use Rattle.priority_maps.specs.Maps.{to_native}
use Rattle.priority_models.specs.Placing.{IsAllowed}
use Rattle.priority_models.specs.Transforms.{mandated}
use Rattle.service_contexts.specs.Telling.{Tells, IsFirstFault}
use Rattle.service_contexts.specs.declared.contexts.Contexts.{Contexts}
use Rattle.service_contexts.specs.declared.contexts.ContextFault.{ContextFault}
use Rattle.giop_messages.specs.Message.{Request, key}
use Rattle.adapter_policies.specs.SetupData.{SetupData}
use Rattle.request_judge.specs.Served.{Served, served_at}
use Rattle.request_judge.specs.declared.refusal.Refusal.{Refusal}
use Rattle.request_judge.specs.declared.refusal.Refusal.TheVariants.{NoKey, BadContext, UnknownObject, NoBand, BandWithoutLane, NoTransform, OutsideBand, NoNative, NoLane}
use Rattle.request_judge.specs.declared.verdict.Place.{Place}
use Rattle.request_judge.specs.declared.verdict.Verdict.{Verdict}
use Rattle.request_judge.specs.declared.verdict.Verdict.TheVariants.{Runs, Binds}

-- the operation by which a client binds a band
abbrev pub bind_operation : List ℕ
bind_operation = codes "_bind_priority_band"

-- the request binds a band
abbrev pub IsBind : Request → Type 0
IsBind r = r.operation ≡ bind_operation

-- the request is for the object of a key, which an adapter serves, and its contexts tell this of priorities
pub record IsAsked (setup : SetupData) (r : Request) (served : Served) (told : Contexts) : Type 0 where
  pub object_key : List ℕ
  pub target : r.target ≡ key object_key
  pub tells : Tells r.contexts told
  pub found : served_at setup object_key ≡ Some served

-- a context that carries a priority or a band has no reading
pub record HasBadContext (r : Request) : Type 0 where
  pub object_key : List ℕ
  pub target : r.target ≡ key object_key
  pub fault : ContextFault
  pub first : IsFirstFault r.contexts fault

-- no adapter serves an object of the key
pub record IsUnknown (setup : SetupData) (r : Request) : Type 0 where
  pub object_key : List ℕ
  pub target : r.target ≡ key object_key
  pub told : Contexts
  pub tells : Tells r.contexts told
  pub not_found : served_at setup object_key ≡ None

-- the object that a request is for, and what its contexts tell; or why there is none
abbrev pub Asks : SetupData → Request → Result (Served × Contexts) Refusal → Type 0
Asks setup r (Ok (served, told)) = IsAsked setup r served told
Asks setup r (Err NoKey) = (object_key : List ℕ) → ¬ (r.target ≡ key object_key)
Asks setup r (Err BadContext) = HasBadContext r
Asks setup r (Err UnknownObject) = IsUnknown setup r
Asks setup r (Err _) = ⊥

-- the band that a request binds whose contexts tell this one, or why it binds none
abbrev pub BindsTo : Pool → Option Span → Result Span Refusal → Type 0
BindsTo pool range (Ok band) = (range ≡ Some band) × (serves pool band ≡ true)
BindsTo pool range (Err NoBand) = range ≡ None
BindsTo pool range (Err BandWithoutLane) = (band : Span) × (range ≡ Some band) × (serves pool band ≡ false)
BindsTo pool range (Err _) = ⊥

-- the lane of a request of a priority under the band that is bound, or why it has none: the priority lies in the band, it has a
-- native one, and a lane takes it
abbrev pub RunsIn : SetupData → Option Span → ℕ → Result ℕ Refusal → Type 0
RunsIn setup band p (Ok lane) = IsAllowed band p × IsSome (to_native setup.mapping p) × (lane_of setup.pool p ≡ Some lane)
RunsIn setup band p (Err OutsideBand) = ¬ IsAllowed band p
RunsIn setup band p (Err NoNative) = IsAllowed band p × (to_native setup.mapping p ≡ None)
RunsIn setup band p (Err NoLane) = IsAllowed band p × IsSome (to_native setup.mapping p) × (lane_of setup.pool p ≡ None)
RunsIn setup band p (Err _) = ⊥

-- where a request runs to this object of this mandated priority: at that priority, in a lane for it; or why it doesn't. Without a
-- mandated priority it doesn't, whatever band is bound
abbrev pub RunsAt : SetupData → Option Span → Served → Option ℕ → Result Place Refusal → Type 0
RunsAt setup band served (Some p) (Ok place) = (place.target ≡ served.number) × (place.priority ≡ p) × RunsIn setup band p (Ok place.lane)
RunsAt setup band served (Some p) (Err refusal) = RunsIn setup band p (Err refusal)
RunsAt setup band served None result = result ≡ Err NoTransform

-- where a request runs to this object with this priority sent, or why it doesn't
abbrev pub RunsAs : SetupData → Option Span → Served → Option ℕ → Result Place Refusal → Type 0
RunsAs setup band served sent result = RunsAt setup band served (mandated served.model served.priority served.inbound sent) result

-- the request is for this object and binds a band, which comes to this
pub record Binding (setup : SetupData) (r : Request) (answer : Result Span Refusal) : Type 0 where
  pub served : Served
  pub told : Contexts
  pub asked : IsAsked setup r served told
  pub bind : IsBind r
  pub binds : BindsTo setup.pool told.range answer

-- the request is for this object and binds no band, and its run comes to this
pub record Running (setup : SetupData) (band : Option Span) (r : Request) (answer : Result Place Refusal) : Type 0 where
  pub served : Served
  pub told : Contexts
  pub asked : IsAsked setup r served told
  pub no_bind : ¬ IsBind r
  pub runs : RunsAs setup band served told.priority answer

-- why a request is refused: the causes in their order
abbrev pub Refuses : SetupData → Option Span → Request → Refusal → Type 0
Refuses setup band r NoKey = Asks setup r (Err NoKey)
Refuses setup band r BadContext = Asks setup r (Err BadContext)
Refuses setup band r UnknownObject = Asks setup r (Err UnknownObject)
Refuses setup band r NoBand = Binding setup r (Err NoBand)
Refuses setup band r BandWithoutLane = Binding setup r (Err BandWithoutLane)
Refuses setup band r NoTransform = Running setup band r (Err NoTransform)
Refuses setup band r OutsideBand = Running setup band r (Err OutsideBand)
Refuses setup band r NoNative = Running setup band r (Err NoNative)
Refuses setup band r NoLane = Running setup band r (Err NoLane)

-- what a server makes of a request by its setup and by the band that is bound
abbrev pub Judges : SetupData → Option Span → Request → Result Verdict Refusal → Type 0
Judges setup band r (Ok (Runs place)) = Running setup band r (Ok place)
Judges setup band r (Ok (Binds bound)) = Binding setup r (Ok bound)
Judges setup band r (Err refusal) = Refuses setup band r refusal
