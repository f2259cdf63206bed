-- Collects, and what is written for them. Own profile.
use Rattle.std.specs.Prelude.{◌≡◌, ℕ, List, Option, None, Result, Ok, Err}
use Rattle.orb_base.specs.Outside.{SinkState, Rose}
use Rattle.lane_machine.specs.declared.call.LaneCall.TheVariants.{Collect}
use Rattle.lane_machine.specs.declared.call.LaneReply.{LaneReply}
use Rattle.lane_machine.specs.State.{State}
use Rattle.lane_machine.specs.Machine.{item_place}
use Rattle.lane_machine.specs.Readiness.{owed}
use Rattle.lane_machine.specs.Histories.{History}
use Rattle.text_streams.specs.Streams.{WroteText, WroteFrontOf}
use Rattle.pipe_laws.specs.Setup.{pipe_conn}
use Rattle.pipe_laws.specs.Said.{said, handed_bytes}
use Rattle.pipe_laws.specs.Piped.{emptied, first_given}
use Rattle.lane_driver.specs.Driving.{Servant, Doer, Goes, Logged, Stays, IsApplied}
use Rattle.lane_driver.specs.declared.course.Course.{Course}
use Rattle.lane_driver.specs.declared.course.Course.TheVariants.{Whole, Stopped}

-- all items of the pipe's connection are collected
abbrev pub emptying : Doer
emptying servant run = emptied pipe_conn run

-- some bytes were written, or a prefix of them up to a failed write
abbrev pub Says : Course → List ℕ → SinkState → SinkState → Type 0
Says Whole bytes out out' = WroteText bytes out out' × (out'.faults ≡ out.faults)
Says Stopped bytes out out' = WroteFrontOf bytes out out' × Rose out.faults out'.faults

-- one Collect was answered, and what it says was written
pub record CollectsBy (course : Course) (s s' : State) (log log' : Option History) (out out' : SinkState) : Type 0 where
  pub reply : LaneReply
  pub applied : IsApplied s (Collect pipe_conn) s' log log' reply
  pub says : Says course (handed_bytes reply) out out'

-- the same, or memory was wanting and nothing was written
abbrev pub Collects : {E : Type 0} → Result Course E → State → State → Option History → Option History
    → SinkState → SinkState → Type 0
Collects (Ok course) s s' log log' out out' = CollectsBy course s s' log log' out out'
Collects (Err _) s s' log log' out out' = out' ≡ out

-- some items were collected and written
pub record Empties (s s' : State) (log log' : Option History) (out out' : SinkState) : Type 0 where
  pub entries : History
  pub goes_so : (outcome : Servant) → Goes emptying outcome s s' entries
  pub logged : Logged entries log log'
  pub wrote : WroteText (said pipe_conn entries) out out'
  pub stays : Stays s s'
  pub given : first_given s' ≡ first_given s
  pub faults : out'.faults ≡ out.faults

-- all were, where all went well
abbrev pub EmptiesWhole : {E : Type 0} → Result Course E → State → State → Type 0
EmptiesWhole (Ok Whole) s s' = Stays s s' × (first_given s' ≡ first_given s) × (item_place s' pipe_conn ≡ None)
EmptiesWhole (Ok Stopped) s s' = Unit {0}
EmptiesWhole (Err _) s s' = Unit {0}

-- at the end of a group nothing is owed
abbrev pub SettlesWhole : {E : Type 0} → Result Course E → State → State → Type 0
SettlesWhole (Ok Whole) s s' = Stays s s' × (item_place s' pipe_conn ≡ None) × (owed s' pipe_conn ≡ 0)
SettlesWhole (Ok Stopped) s s' = Unit {0}
SettlesWhole (Err _) s s' = Unit {0}
