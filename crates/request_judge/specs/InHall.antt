-- What a server without lanes makes of a request: Real-time CORBA 1.2, Priority models and Priority transforms. The order of the causes is
-- own profile: each is given only where none before it is there. No request binds a band.
use Rattle.std.specs.Prelude.{◌≡◌, ℕ, Option, Some, None, Result, Ok, Err, IsSome}
use Rattle.priority_maps.specs.Maps.{to_native}
use Rattle.priority_models.specs.Transforms.{mandated}
use Rattle.service_contexts.specs.declared.contexts.Contexts.{Contexts}
use Rattle.giop_messages.specs.Message.{Request}
use Rattle.adapter_policies.specs.SetupData.{SetupData}
use Rattle.request_judge.specs.Judging.{Asks, IsAsked}
use Rattle.request_judge.specs.Served.{Served}
use Rattle.request_judge.specs.declared.refusal.Refusal.{Refusal}
use Rattle.request_judge.specs.declared.refusal.Refusal.TheVariants.{NoKey, BadContext, UnknownObject, NoTransform, NoNative}
use Rattle.request_judge.specs.declared.verdict.Place.{Place}

-- where a request runs to this object of this mandated priority: at that priority, which has a native one, in the lane 0; or why it doesn't
abbrev pub RunsAt : SetupData → Served → Option ℕ → Result Place Refusal → Type 0
RunsAt setup served (Some p) (Ok place) = (place.target ≡ served.number) × (place.priority ≡ p) × (place.lane ≡ 0) × IsSome (to_native setup.mapping p)
RunsAt setup served (Some p) (Err refusal) = (refusal ≡ NoNative) × (to_native setup.mapping p ≡ None)
RunsAt setup served None result = result ≡ Err NoTransform

-- where a request runs to this object with this priority sent, or why it doesn't
abbrev pub RunsAs : SetupData → Served → Option ℕ → Result Place Refusal → Type 0
RunsAs setup served sent result = RunsAt setup served (mandated served.model served.priority served.inbound sent) result

-- the request is for this object, and its run comes to this
pub record Running (setup : SetupData) (r : Request) (answer : Result Place Refusal) : Type 0 where
  pub served : Served
  pub told : Contexts
  pub asked : IsAsked setup r served told
  pub runs : RunsAs setup served told.priority answer

-- what a server without lanes makes of a request by its setup
abbrev pub JudgesInHall : SetupData → Request → Result Place Refusal → Type 0
JudgesInHall setup r (Ok place) = Running setup r (Ok place)
JudgesInHall setup r (Err NoKey) = Asks setup r (Err NoKey)
JudgesInHall setup r (Err BadContext) = Asks setup r (Err BadContext)
JudgesInHall setup r (Err UnknownObject) = Asks setup r (Err UnknownObject)
JudgesInHall setup r (Err NoTransform) = Running setup r (Err NoTransform)
JudgesInHall setup r (Err NoNative) = Running setup r (Err NoNative)
JudgesInHall setup r (Err _) = ⊥
