-- What the pipe makes of a whole input.
use Rattle.std.specs.Prelude.{◌≡◌, ℕ, List, [], Option, Some, None, length, codes}
use Rattle.std.specs.List.{AllByRecursion}
use Rattle.orb_base.specs.Room.{Room}
use Rattle.orb_base.specs.JobRecord.{JobRecord}
use Rattle.orb_base.specs.declared.limits.TheConstants.{MAX_MESSAGE}
use Rattle.giop_frames.specs.Messages.{Message}
use Rattle.giop_frames.specs.Stream.{stream}
use Rattle.giop_messages.specs.Message.{Request, Target, key, profile, addressing}
use Rattle.ping_laws.specs.declared.place.Place.{Place}
use Rattle.ping_laws.specs.Setup.{IsKnown, place_of}
use Rattle.pipe_laws.specs.Setup.{pipe_conn}
use Rattle.adapter_policies.specs.SetupData.{SetupData}
use Rattle.ping_laws.specs.Built.{IsAsked, IsPing, IsBuilt}
use Rattle.ping_laws.specs.PingRun.{ping_job, ArePingJobs, offers}

-- jobs of messages, the first of which has this number
pub record MeanJobs (setup : SetupData) (serial : ℕ) (ms : List Message) (jobs : List JobRecord) : Type 0 where
  pub pings : AllByRecursion (IsPing setup) ms
  pub jobs_so : ArePingJobs serial jobs
  pub known : AllByRecursion (λ job. IsKnown setup job.target) jobs
