-- What one connection did in a hall: own profile.
use Rattle.std.specs.Prelude.{◌≡◌, ◌⊎◌, ◌≤◌, ℕ, Bool, false, List, ◌++◌, length, Option, None}
use Rattle.orb_base.specs.Outside.{SourceState, SinkState, Rose}
use Rattle.orb_base.specs.declared.conn_id.ConnId.{ConnId}
use Rattle.orb_base.specs.declared.order.Order.TheVariants.{Big}
use Rattle.giop_messages.specs.Message.{close, error}
use Rattle.giop_messages.specs.Spelling.{spelled}
use Rattle.heard_messages.specs.Hearing.{HeardBy}
use Rattle.heard_messages.specs.Inputs.{HearsStream}
use Rattle.heard_messages.specs.declared.read_end.ReadEnd.{ReadEnd}
use Rattle.heard_messages.specs.declared.read_end.ReadEnd.TheVariants as end
use Rattle.heard_messages.specs.declared.read_end.TheConstants.{MAX_TAKEN, READ_LEN}
use Rattle.text_streams.specs.Streams.{Gave, MeetsEnd, WritesAll}
use Rattle.text_streams.specs.declared.writing.WriteAll.TheVariants.{Whole, Failed}
use Rattle.adapter_policies.specs.SetupData.{SetupData}
use Rattle.halls.specs.Meaning.{means}
use Rattle.halls.specs.Steps.{Step, calls_of, AreWhole, Making}
use Rattle.halls.specs.Calls.{Takes}
use Rattle.halls.specs.declared.call.HallCall.{HallCall}
use Rattle.halls.specs.declared.ends.Took.{Took}
use Rattle.halls.specs.declared.ends.Took.TheVariants as took
use Rattle.halls.specs.declared.ends.HallRead.{HallRead}
use Rattle.halls.specs.declared.ends.HallRead.TheVariants as read
use Rattle.halls.specs.declared.ends.HallWrite.{HallWrite}
use Rattle.halls.specs.declared.ends.HallWrite.TheVariants as write

-- the bytes mean these calls to a connection of a hall of this setup, and end the reading so, if they do
abbrev pub HeardInHall : SetupData → ConnId → List ℕ → List HallCall → Option ReadEnd → Type 0
HeardInHall setup conn bytes calls ending = HeardBy (means setup conn) tt bytes calls ending

-- these bytes were taken, those of the last read after the earlier ones
pub record TakesBytes (old new : SourceState) (earlier bytes : List ℕ) (ended : Bool) : Type 0 where
  pub last : List ℕ
  pub parts : bytes ≡ earlier ++ last
  pub one_read : length last ≤ READ_LEN
  pub few : length bytes ≤ MAX_TAKEN
  pub gave : Gave bytes old new
  pub met : MeetsEnd ended old new

-- the calls, by how the reading came out: all that the bytes mean, which end so; all that they mean, whatever ends them; or where out of
-- memory those of the earlier bytes
abbrev pub HearsBy : HallRead → SetupData → ConnId → List ℕ → List ℕ → Bool → List HallCall → Type 0
HearsBy (read.Read end) setup conn earlier bytes ended calls = HearsStream (means setup conn) tt bytes ended calls end
HearsBy read.RunClosed setup conn earlier bytes ended calls =
    (ended ≡ false) × ((ending : Option ReadEnd) × HeardInHall setup conn bytes calls ending)
HearsBy read.NoMemory setup conn earlier bytes ended calls = (ended ≡ false) × HeardInHall setup conn earlier calls None
HearsBy read.Stopped setup conn earlier bytes ended calls =
    (ended ≡ false) × ((ending : Option ReadEnd) × HeardInHall setup conn bytes calls ending)

-- how many of the calls were made: all, those before an invocation that the hand had none left for, or some up to a failed write
abbrev pub took_by : HallRead → Took
took_by (read.Read end) = took.All
took_by read.RunClosed = took.RunClosed
took_by read.NoMemory = took.All
took_by read.Stopped = took.Stopped

-- the count of faults rose where a read failed, and else it stays
abbrev pub FaultsBy : HallRead → SourceState → SourceState → Type 0
FaultsBy (read.Read end.Ended) old new = new.faults ≡ old.faults
FaultsBy (read.Read (end.Cut offset)) old new = new.faults ≡ old.faults
FaultsBy (read.Read (end.Broken offset fault)) old new = new.faults ≡ old.faults
FaultsBy (read.Read end.Spent) old new = new.faults ≡ old.faults
FaultsBy (read.Read end.ReadFault) old new = Rose old.faults new.faults
FaultsBy read.RunClosed old new = new.faults ≡ old.faults
FaultsBy read.NoMemory old new = new.faults ≡ old.faults
FaultsBy read.Stopped old new = new.faults ≡ old.faults

-- it was right to read on after the earlier bytes: nothing in them ended the reading, and all that they mean was made before
pub record WentOn (setup : SetupData) (conn : ConnId) (earlier : List ℕ) (steps : List Step) : Type 0 where
  pub calls : List HallCall
  pub heard : HeardInHall setup conn earlier calls None
  pub first : List Step
  pub later : List Step
  pub parts : steps ≡ first ++ later
  pub whole : AreWhole first
  pub made : calls ≡ calls_of first

-- some bytes were taken, those of the last read after the earlier ones, and of what they mean this was made
pub record Reads (end : HallRead) (setup : SetupData) (conn : ConnId) (from to : SourceState) (old new : Making) : Type 0 where
  pub bytes : List ℕ
  pub earlier : List ℕ
  pub ended : Bool
  pub takes_bytes : TakesBytes from to earlier bytes ended
  pub faults : FaultsBy end from to
  pub calls : List HallCall
  pub hears : HearsBy end setup conn earlier bytes ended calls
  pub takes : Takes (took_by end) calls old new
  pub before : WentOn setup conn earlier takes.steps

-- the last message was written and the writing came out as it says, or its write failed
abbrev pub Says : HallWrite → List ℕ → HallWrite → SinkState → SinkState → Type 0
Says well bytes end old new = ((end ≡ well) × WritesAll Whole bytes old new) ⊎ ((end ≡ write.WriteFault) × WritesAll Failed bytes old new)

-- nothing was written last
abbrev pub SaysNothing : HallWrite → HallWrite → SinkState → SinkState → Type 0
SaysNothing well end old new = (end ≡ well) × (new ≡ old)

-- what is written last, by how the reading came out: MessageError where the bytes broke a rule; CloseConnection where too many came, where
-- the hand had no invocation left, and where out of memory; and else nothing
abbrev pub SaysLast : HallRead → HallWrite → SinkState → SinkState → Type 0
SaysLast (read.Read end.Ended) end old new = SaysNothing write.Done end old new
SaysLast (read.Read (end.Cut offset)) end old new = SaysNothing write.Done end old new
SaysLast (read.Read (end.Broken offset fault)) end old new = Says write.Error (spelled Big error) end old new
SaysLast (read.Read end.Spent) end old new = Says write.Closed (spelled Big close) end old new
SaysLast (read.Read end.ReadFault) end old new = SaysNothing write.Done end old new
SaysLast read.RunClosed end old new = Says write.Closed (spelled Big close) end old new
SaysLast read.NoMemory end old new = Says write.Closed (spelled Big close) end old new
SaysLast read.Stopped end old new = SaysNothing write.WriteFault end old new

-- one connection: some bytes were taken, of what they mean this was made, and the last message was written
pub record Sides (ends : HallRead × HallWrite) (setup : SetupData) (conn : ConnId) (from to : SourceState) (old new : Making) : Type 0 where
  pub mid : SinkState
  pub reads : Reads ends.0 setup conn from to old (record { hand = new.hand; sink = mid })
  pub says : SaysLast ends.0 ends.1 mid new.sink
