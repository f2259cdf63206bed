-- The priority at which a request is carried out: Real-time CORBA 1.2, Priority models and Priority transforms.
use Rattle.std.specs.Prelude.{◌≡◌, ℕ, List, [], ◌∷◌, Some}
use Rattle.orb_base.specs.JobRecord.{JobRecord}
use Rattle.orb_base.specs.declared.order.Order.{Order}
use Rattle.priority_models.specs.Transforms.{mandated}
use Rattle.service_contexts.specs.declared.contexts.Contexts.{Contexts}
use Rattle.giop_messages.specs.Message.{Request}
use Rattle.lane_machine.specs.declared.call.LaneCall.{LaneCall}
use Rattle.lane_machine.specs.declared.call.LaneCall.TheVariants.{Offer}
use Rattle.adapter_policies.specs.SetupData.{SetupData}
use Rattle.request_judge.specs.Calls.{job_of}
use Rattle.request_judge.specs.Judging.{IsAsked}
use Rattle.request_judge.specs.Served.{Served}
use Rattle.request_judge.specs.declared.verdict.Place.{Place}

-- the job is that of a request for this object of the setup, whose contexts tell this of priorities, and its priority is the mandated
-- one: by the model of the object's adapter, the object's priority, the adapter's transform, and the priority that was sent
pub record IsMandated (setup : SetupData) (job : JobRecord) : Type 0 where
  pub asks : Request
  pub order : Order
  pub size : ℕ
  pub place : Place
  pub job_is : job ≡ job_of job.conn job.serial order size asks place
  pub served : Served
  pub told : Contexts
  pub asked : IsAsked setup asks served told
  pub level : mandated served.model served.priority served.inbound told.priority ≡ Some job.priority

-- a call offers such a job, or none
abbrev pub OffersMandated : SetupData → LaneCall → Type 0
OffersMandated setup (Offer job) = IsMandated setup job
OffersMandated setup call = Unit {0}

-- so does each of these calls
abbrev pub AreMandated : SetupData → List LaneCall → Type 0
AreMandated setup [] = Unit {0}
AreMandated setup (call ∷ calls) = OffersMandated setup call × AreMandated setup calls
