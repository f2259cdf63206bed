-- What the pipe makes of the messages of its input.
use Rattle.std.proofs.Common.{◌≡◌, ℕ, zero, suc, ◌+◌, ◌%◌, ◌<◌, ◌≤◌, false, List, [], ◌∷◌, ◌++◌, length, take, get_or, refl, sym, ap, subst, ◌∙◌, arith, length-append}
use Rattle.std.proofs.lemmas.List.{take_more}
use Rattle.std.specs.Prelude.{◌==◌, Bool, position, Option, Some, None, is_some, Result, Ok, Err, IfOk, codes, if◌then◌else◌}
use Rattle.std.specs.List.{AllByRecursion, slice_get}
use Rattle.orb_base.specs.Room.{Room}
use Rattle.orb_base.specs.JobRecord.{JobRecord}
use Rattle.orb_base.specs.declared.limits.TheConstants.{MAX_MESSAGE}
use Rattle.orb_base.specs.declared.order.Order.{Order}
use Rattle.orb_base.specs.declared.order.Order.TheVariants.{Big, Little}
use Rattle.giop_frames.specs.Pieces.{order_of}
use Rattle.giop_frames.specs.Messages.{Message}
use Rattle.giop_frames.specs.Stream.{Said, stream}
use Rattle.giop_frames.specs.Feeds.{Feed, said, Tells}
use Rattle.giop_messages.specs.Message as Spec
use Rattle.giop_messages.specs.Message.{Request, request}
use Rattle.cdr_core.specs.Encapsulation.{order_byte}
use Rattle.giop_messages.specs.Reading.{ReadsIn, Reads}
use Rattle.giop_messages.specs.declared.message_fault.MessageFault.{MessageFault}
use Rattle.giop_messages.specs.declared.message_fault.MessageFault.TheVariants as faults
use Rattle.giop_messages.specs.MessageReading.{IsMessage}
use Rattle.giop_messages.specs.Answers.{Fails}
use Rattle.giop_messages.proofs.OneReading.{reads_one_way}
use Rattle.lane_machine.specs.declared.call.LaneCall.TheVariants.{Offer}
use Rattle.ping_laws.specs.Setup.{IsKnown}
use Rattle.pipe_laws.specs.Setup.{pipe_conn}
use Rattle.ping_laws.specs.declared.place.Place.{Place}
use Rattle.adapter_policies.specs.SetupData.{SetupData}
use Rattle.ping_laws.specs.Heard.{job_of}
use Rattle.ping_laws.specs.declared.laws.TheConstants.{MAX_PINGS}
use Rattle.ping_laws.specs.Built.{IsAsked, IsPing}
use Rattle.ping_laws.specs.PingRun.{ping_job, IsPingJob, ArePingJobs, offers}
use Rattle.ping_laws.specs.Hearing.{MeanJobs}
use Rattle.ping_laws.proofs.Places.{placed_so, known_there}
use Rattle.heard_calls.proofs.StreamCounts.{few_messages}

-- such requests have jobs
pub jobs_of : (setup : SetupData) (n : ℕ) (ms : List Message) → setup.pool.laned ≡ false → AllByRecursion (IsPing setup) ms → (jobs : List JobRecord) × MeanJobs setup n ms jobs
jobs_of setup n [] no_lanes all = ([], record { pings = tt; jobs_so = tt; known = tt })
jobs_of setup n (m ∷ ms) no_lanes (ping, all) =
    let others = jobs_of setup (suc n) ms no_lanes all in (
      ping_job n m.order (length m.bytes) ping.r.id ping.place.target ping.place.level ∷ others.0,
      record {
        pings = (ping, all);
        jobs_so = (refl, refl, others.1.jobs_so);
        known = (known_there setup ping.asked.key ping.place ping.asked.placed, others.1.known);
      },
    )

pub no_jobs : (setup : SetupData) (n : ℕ) (no_lanes : setup.pool.laned ≡ false) (all : AllByRecursion (IsPing setup) []) → (jobs_of setup n [] no_lanes all).0 ≡ []
unfolding jobs_of
no_jobs setup n no_lanes all = refl

pub more_jobs_of : (setup : SetupData) (n : ℕ) (m : Message) (ms : List Message) (no_lanes : setup.pool.laned ≡ false) (ping : IsPing setup m) (all : AllByRecursion (IsPing setup) ms)
    → (jobs_of setup n (m ∷ ms) no_lanes (ping, all)).0
    ≡ ping_job n m.order (length m.bytes) ping.r.id ping.place.target ping.place.level ∷ (jobs_of setup (suc n) ms no_lanes all).0
unfolding jobs_of
more_jobs_of setup n m ms no_lanes ping all = refl
