-- What a connection did in a hall, step by step: own profile.
use Rattle.std.specs.Prelude.{◌≡◌, ℕ, List, [], ◌∷◌, ◌++◌, map}
use Rattle.std.specs.List.{flat_map}
use Rattle.orb_base.specs.JobRecord.{JobRecord}
use Rattle.orb_base.specs.Outside.{SinkState}
use Rattle.orb_base.specs.declared.answer.Answer.{Answer}
use Rattle.orb_base.specs.declared.due.Due.{Due}
use Rattle.orb_base.specs.declared.due.Due.TheVariants as due
use Rattle.orb_base.specs.declared.item.Item.TheVariants as item
use Rattle.orb_base.specs.declared.notice.Notice.{Notice}
use Rattle.orb_base.specs.declared.outcome.Outcome.{Outcome}
use Rattle.text_streams.specs.Streams.{WritesAll}
use Rattle.text_streams.specs.declared.writing.WriteAll.TheVariants.{Whole, Failed}
use Rattle.item_writer.specs.ItemBytes.{item_bytes}
use Rattle.halls.specs.Hands.{HandState, DidAll}
use Rattle.halls.specs.declared.call.HallCall.{HallCall}
use Rattle.halls.specs.declared.call.HallCall.TheVariants.{Post, Invoke}

-- an answer without an invocation; an invocation with its outcome; or an early reply after which no invocation was made
pub data Step : Type 0 where
  noticed : Notice → Step
  invoked : JobRecord → Outcome → Step
  begun : JobRecord → Step

-- what a step was made for
abbrev pub call_of : Step → HallCall
call_of (noticed notice) = Post notice
call_of (invoked job outcome) = Invoke job
call_of (begun job) = Invoke job

-- the invocation of a step, with its outcome
abbrev pub answers_in : Step → List Answer
answers_in (noticed notice) = []
answers_in (invoked job outcome) = record { job = job; outcome = outcome } ∷ []
answers_in (begun job) = []

-- what is written before an invocation: its reply, where an early one is due
abbrev pub early_bytes : Due → JobRecord → List ℕ
early_bytes due.Nothing job = []
early_bytes due.Early job = item_bytes (item.Early job)
early_bytes due.Late job = []

-- what is written after it: its reply with the outcome, where a late one is due
abbrev pub late_bytes : Due → JobRecord → Outcome → List ℕ
late_bytes due.Nothing job outcome = []
late_bytes due.Early job outcome = []
late_bytes due.Late job outcome = item_bytes (item.Answered (record { job = job; outcome = outcome }))

-- what a step writes
abbrev pub text_in : Step → List ℕ
text_in (noticed notice) = item_bytes (item.Noticed notice)
text_in (invoked job outcome) = early_bytes job.due job ++ late_bytes job.due job outcome
text_in (begun job) = early_bytes job.due job

-- the calls of many steps
abbrev pub calls_of : List Step → List HallCall
calls_of steps = map call_of steps

-- what was answered in them, in order
abbrev pub answers_of : List Step → List Answer
answers_of steps = flat_map answers_in steps

-- what was written in them, in order
abbrev pub text_of : List Step → List ℕ
text_of steps = flat_map text_in steps

-- the step came to its end
abbrev pub IsWhole : Step → Type 0
IsWhole (noticed notice) = Unit {0}
IsWhole (invoked job outcome) = Unit {0}
IsWhole (begun job) = ⊥

-- so did each of the steps
abbrev pub AreWhole : List Step → Type 0
AreWhole [] = Unit {0}
AreWhole (s ∷ ss) = IsWhole s × AreWhole ss

-- the write of the step failed: that of an answer, that of an early reply, so that the invocation wasn't made, or that of a late reply,
-- when it was
abbrev pub FailsAt : Step → Type 0
FailsAt (noticed notice) = Unit {0}
FailsAt (invoked job outcome) = job.due ≡ due.Late
FailsAt (begun job) = job.due ≡ due.Early

-- what steps change: the hand and the sink
pub record Making : Type 0 where
  pub hand : HandState
  pub sink : SinkState

-- the steps were made whole, in order: their invocations by the hand, and their text was written
pub record MakesAll (steps : List Step) (old new : Making) : Type 0 where
  pub whole : AreWhole steps
  pub did : DidAll (answers_of steps) old.hand new.hand
  pub wrote : WritesAll Whole (text_of steps) old.sink new.sink

-- the steps were made, and the write of the last one failed
pub record StopsAtLast (steps : List Step) (old new : Making) : Type 0 where
  pub first : List Step
  pub last : Step
  pub parts : steps ≡ first ++ last ∷ []
  pub mid : Making
  pub makes : MakesAll first old mid
  pub fails : FailsAt last
  pub did : DidAll (answers_in last) mid.hand new.hand
  pub wrote : WritesAll Failed (text_in last) mid.sink new.sink
