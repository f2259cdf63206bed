-- Turns of the threads: each takes its task, and finishes it. Own profile.
use Rattle.std.specs.Prelude.{◌≡◌, ◌≤◌, ◌<◌, [], Option, None}
use Rattle.orb_base.specs.Outcomes.{body_len}
use Rattle.orb_base.specs.JobRecord.{JobRecord}
use Rattle.orb_base.specs.declared.answer.Answer.{Answer}
use Rattle.orb_base.specs.declared.limits.TheConstants.{MAX_BODY}
use Rattle.lane_machine.specs.State.{State}
use Rattle.lane_machine.specs.Histories.{History}
use Rattle.pipe_laws.specs.Lacking.{CameOf}
use Rattle.pipe_laws.specs.Setup.{pipe_conn}
use Rattle.pipe_laws.specs.Said.{said}
use Rattle.pipe_laws.specs.Piped.{rested, first_given, in_hand}
use Rattle.lane_driver.specs.Driving.{Servant, Goes, Does, Logged, Stays}

-- the answer to this job, by the servant's outcome or by running out of memory
pub record IsAnswer (outcome : Servant) (job : JobRecord) (answer : Answer) : Type 0 where
  pub same_job : answer.job ≡ job
  pub came : CameOf outcome job answer.outcome
  pub short : body_len answer.outcome ≤ MAX_BODY

-- some turns were made, and nothing is written for them
pub record Turns (outcome : Servant) (s s' : State) (log log' : Option History) : Type 0 where
  pub entries : History
  pub goes_so : Goes rested outcome s s' entries
  pub silent : said pipe_conn entries ≡ []
  pub logged : Logged entries log log'
  pub stays : Stays s s'

-- one turn was made: a request less is in hand
pub record TurnsOnce (outcome : Servant) (s s' : State) (log log' : Option History) : Type 0 where
  pub turns : Turns outcome s s' log log'
  pub fewer : in_hand s' < in_hand s

-- turns were made until no task is given
pub record RunsToRest (outcome : Servant) (s s' : State) (log log' : Option History) : Type 0 where
  pub entries : History
  pub does_so : Does rested outcome s s' entries
  pub silent : said pipe_conn entries ≡ []
  pub logged : Logged entries log log'
  pub stays : Stays s s'
  pub none : first_given s' ≡ None
