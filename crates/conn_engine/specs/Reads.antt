-- What becomes of all reads of a run: own profile.
use Rattle.std.specs.Prelude.{◌≡◌, ◌⊎◌, ◌≤◌, ◌++◌, ℕ, Bool, true, false, List, [], length, Option, None, Result, Ok, Err}
use Rattle.orb_base.specs.Outside.{SourceState, SinkState}
use Rattle.orb_base.specs.declared.no_memory.NoMemory.{NoMemory}
use Rattle.lane_machine.specs.declared.call.LaneCall.{LaneCall}
use Rattle.lane_machine.specs.Histories.{History}
use Rattle.lane_machine.specs.State.{State}
use Rattle.text_streams.specs.Streams.{Gave, MeetsEnd}
use Rattle.text_streams.specs.Faults.{NoneFailed, ReadFailed, WriteFailed}
use Rattle.adapter_policies.specs.SetupData.{SetupData}
use Rattle.pipe_laws.specs.Groups.{folded}
use Rattle.pipe_laws.specs.Lacking.{Agrees}
use Rattle.pipe_laws.specs.Setup.{pipe_conn}
use Rattle.lane_driver.specs.Driving.{Servant, BeganWriting, StoppedWriting}
use Rattle.lane_driver.specs.Feeding.{Fed, feeding, group_at}
use Rattle.conn_engine.specs.HeardSoFar.{HeardSoFar}
use Rattle.conn_engine.specs.Ends.{HearsStream}
use Rattle.conn_engine.specs.declared.read_end.ReadEnd.{ReadEnd}
use Rattle.conn_engine.specs.declared.read_end.ReadEnd.TheVariants as read
use Rattle.conn_engine.specs.declared.read_end.TheConstants.{MAX_TAKEN, READ_LEN}
use Rattle.conn_engine.specs.declared.reading.Reading.{Reading}
use Rattle.conn_engine.specs.declared.reading.Reading.TheVariants.{Over, Closing, Stopped}

-- these bytes were taken, those of the last read after the earlier ones
pub record Takes (old new : SourceState) (earlier bytes : List ℕ) (ended : Bool) : Type 0 where
  pub last : List ℕ
  pub parts : bytes ≡ earlier ++ last
  pub one_read : length last ≤ READ_LEN
  pub few : length bytes ≤ MAX_TAKEN
  pub gave : Gave bytes old new
  pub met : MeetsEnd ended old new

-- it was right to read on after the earlier bytes: nothing in them ended the reading, and with the answers of these entries their calls
-- meet no limit of the run
pub record ReadsOn (setup : SetupData) (batch : ℕ) (s : State) (room : ℕ) (earlier : List ℕ) (entries : History) : Type 0 where
  pub calls : List LaneCall
  pub heard : HeardSoFar setup pipe_conn earlier calls None
  pub unmet : (servant : Servant) → Agrees servant entries → (h : History)
      → (folded servant batch (group_at s h room) calls).run.state.closing ≡ false

-- the calls of the bytes were made, and the reading came out so
pub record RanReads (setup : SetupData) (batch : ℕ) (outcome : Servant) (s s' : State) (room room' : ℕ) (earlier bytes : List ℕ) (ended : Bool) (end : ReadEnd)
    (log log' : Option History) (out out' : SinkState) : Type 0 where
  pub calls : List LaneCall
  pub heard : HearsStream setup pipe_conn bytes ended calls end
  pub fed : Fed batch outcome s s' room room' calls [] log log' out out'
  pub before : ReadsOn setup batch s room earlier fed.entries

-- the calls of the bytes were made up to a failed write
pub record StoppedReads (setup : SetupData) (batch : ℕ) (outcome : Servant) (s : State) (room : ℕ) (earlier bytes : List ℕ)
    (log log' : Option History) (out out' : SinkState) : Type 0 where
  pub calls : List LaneCall
  pub end : ReadEnd
  pub heard : HearsStream setup pipe_conn bytes false calls end
  pub stopped : StoppedWriting (feeding batch room calls) outcome s log log' out out'
  pub before : ReadsOn setup batch s room earlier stopped.entries

-- making the calls of some of the bytes was begun
pub record BegunReads (setup : SetupData) (batch : ℕ) (outcome : Servant) (s : State) (room : ℕ) (bytes : List ℕ) (out out' : SinkState) : Type 0 where
  pub some : List ℕ
  pub others : List ℕ
  pub parts : bytes ≡ some ++ others
  pub calls : List LaneCall
  pub end : ReadEnd
  pub heard : HearsStream setup pipe_conn some false calls end
  pub began : BeganWriting (feeding batch room calls) outcome s out out'

-- which counts of faults rose, by how the reading came out
abbrev pub FaultsAt : ReadEnd → SourceState → SourceState → SinkState → SinkState → Type 0
FaultsAt (read.Ended ending) old new out out' = NoneFailed old new out out'
FaultsAt read.Spent old new out out' = NoneFailed old new out out'
FaultsAt read.ReadFault old new out out' = ReadFailed old new out out'

-- what became of the bytes that were taken; when out of memory nothing was written, or a prefix
abbrev pub ReadsBytes : Result Reading NoMemory → SetupData → ℕ → Servant → State → State → ℕ → ℕ → List ℕ → List ℕ → Bool
    → SourceState → SourceState → Option History → Option History → SinkState → SinkState → Type 0
ReadsBytes (Ok (Over end)) setup batch outcome s s' room room' earlier bytes ended old new log log' out out' =
    RanReads setup batch outcome s s' room room' earlier bytes ended end log log' out out' × (s'.closing ≡ false) × FaultsAt end old new out out'
ReadsBytes (Ok Closing) setup batch outcome s s' room room' earlier bytes ended old new log log' out out' =
    ((end : ReadEnd) × RanReads setup batch outcome s s' room room' earlier bytes ended end log log' out out') × (s'.closing ≡ true) × NoneFailed old new out out'
ReadsBytes (Ok Stopped) setup batch outcome s s' room room' earlier bytes ended old new log log' out out' =
    StoppedReads setup batch outcome s room earlier bytes log log' out out' × (ended ≡ false) × WriteFailed old new out out'
ReadsBytes (Err _) setup batch outcome s s' room room' earlier bytes ended old new log log' out out' =
    ((out' ≡ out) ⊎ BegunReads setup batch outcome s room bytes out out') × (new.faults ≡ old.faults)

-- some bytes were taken, and what was done and written is what they say
pub record ReadsStream (answer : Result Reading NoMemory) (setup : SetupData) (batch : ℕ) (outcome : Servant) (s s' : State) (room room' : ℕ)
    (old new : SourceState) (log log' : Option History) (out out' : SinkState) : Type 0 where
  pub bytes : List ℕ
  pub earlier : List ℕ
  pub ended : Bool
  pub takes : Takes old new earlier bytes ended
  pub came : ReadsBytes answer setup batch outcome s s' room room' earlier bytes ended old new log log' out out'
