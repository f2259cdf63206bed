-- What the pipe does to a source and a sink: own profile.
use Rattle.std.specs.Prelude.{◌≡◌, ◌⊎◌, ℕ, Bool, true, false, List, Result, Ok, Err}
use Rattle.orb_base.specs.JobRecord.{JobRecord}
use Rattle.orb_base.specs.Outside.{SourceState, SinkState, Rose}
use Rattle.orb_base.specs.declared.no_memory.NoMemory.{NoMemory}
use Rattle.orb_base.specs.declared.outcome.Outcome.{Outcome}
use Rattle.lane_machine.specs.Histories.{History}
use Rattle.history_lines.specs.Lines.{history_text}
use Rattle.text_streams.specs.Streams.{WroteText, WroteFrontOf}
use Rattle.text_streams.specs.Faults.{NoneFailed}
use Rattle.adapter_policies.specs.SetupData.{SetupData}
use Rattle.pipe_laws.specs.Said.{said}
use Rattle.trace_lines.specs.Texts.{trace_text}
use Rattle.pipe_laws.specs.Setup.{pipe_conn}
use Rattle.lane_driver.specs.Driving.{WroteUpToLast}
use Rattle.conn_engine.specs.Reads.{Takes, FaultsAt}
use Rattle.conn_engine.specs.Streams.{IsRunOf, BeginsRunOf, RanFront}
use Rattle.conn_engine.specs.declared.read_end.ReadEnd.{ReadEnd}
use Rattle.conn_engine.specs.declared.read_end.ReadEnd.TheVariants as read
use Rattle.conn_engine.specs.declared.stream_end.StreamEnd.{StreamEnd}
use Rattle.conn_engine.specs.declared.stream_end.StreamEnd.TheVariants as end
use Rattle.pipe_runs.specs.declared.piped.Piped.{Piped}
use Rattle.pipe_runs.specs.declared.shown.Shown.{Shown}
use Rattle.pipe_runs.specs.declared.shown.Shown.TheVariants.{Bytes, Text, Trace}

-- what is shown of a history: the bytes that it has written to the connection, its text, or its trace
abbrev pub shown_of : Shown → SetupData → History → List ℕ
shown_of Bytes setup h = said pipe_conn h
shown_of Text setup h = history_text h
shown_of Trace setup h = trace_text setup.pool setup.slots setup.per_slot h

-- lines are shown, once the run has ended
abbrev pub IsLines : Shown → Type 0
IsLines Bytes = ⊥
IsLines Text = Unit {0}
IsLines Trace = Unit {0}

-- the stream was run whole, this is its history, and what shows it was written
pub record Showed (shown : Shown) (setup : SetupData) (outcome : List ℕ → JobRecord → Outcome) (batch : ℕ) (earlier bytes : List ℕ) (ended : Bool) (end : ReadEnd)
    (closing : Bool) (history : History) (out out' : SinkState) : Type 0 where
  pub run : IsRunOf setup outcome batch earlier bytes ended end closing history
  pub wrote : WroteText (shown_of shown setup history) out out'

-- the run of the stream was begun with this history, up to a call by which a write failed: all that it says was written, but that of
-- what the last call says only a prefix was
pub record ShowedUpToLast (setup : SetupData) (outcome : List ℕ → JobRecord → Outcome) (batch : ℕ) (earlier bytes : List ℕ) (ended : Bool) (history : History)
    (out out' : SinkState) : Type 0 where
  pub run : BeginsRunOf setup outcome batch earlier bytes ended history
  pub wrote : WroteUpToLast history out out'

-- a read failed exactly where the reading came out so; after a limit of the run nothing is read
abbrev pub FailedReading : Bool → ReadEnd → SourceState → SourceState → Type 0
FailedReading true end old new = new.faults ≡ old.faults
FailedReading false (read.Ended ending) old new = new.faults ≡ old.faults
FailedReading false read.Spent old new = new.faults ≡ old.faults
FailedReading false read.ReadFault old new = Rose old.faults new.faults

-- the stream was run whole, this is its history, and a prefix of its lines was written
pub record ShowedSomeLines (shown : Shown) (setup : SetupData) (outcome : List ℕ → JobRecord → Outcome) (batch : ℕ) (earlier bytes : List ℕ) (ended : Bool) (history : History)
    (old new : SourceState) (out out' : SinkState) : Type 0 where
  pub end : ReadEnd
  pub closing : Bool
  pub run : IsRunOf setup outcome batch earlier bytes ended end closing history
  pub wrote : WroteFrontOf (shown_of shown setup history) out out'
  pub reads : FailedReading closing end old new

-- what was written before a write failed, by what is shown
abbrev pub StopsShowing : Shown → SetupData → (List ℕ → JobRecord → Outcome) → ℕ → List ℕ → List ℕ → Bool → History → SourceState → SourceState → SinkState → SinkState → Type 0
StopsShowing Bytes setup outcome batch earlier bytes ended history old new out out' = ShowedUpToLast setup outcome batch earlier bytes ended history out out'
StopsShowing Text setup outcome batch earlier bytes ended history old new out out' =
    ShowedSomeLines Text setup outcome batch earlier bytes ended history old new out out'
StopsShowing Trace setup outcome batch earlier bytes ended history old new out out' =
    ShowedSomeLines Trace setup outcome batch earlier bytes ended history old new out out'

-- no read failed, or one did
abbrev pub MayFail : SourceState → SourceState → Type 0
MayFail old new = (new.faults ≡ old.faults) ⊎ Rose old.faults new.faults

-- what comes of a run that has this history, by how it came out and by what is shown
abbrev pub ShowsRun : StreamEnd → History → Shown → SetupData → (List ℕ → JobRecord → Outcome) → ℕ → List ℕ → List ℕ → Bool
    → SourceState → SourceState → SinkState → SinkState → Type 0
ShowsRun (end.Ended out_so) history shown setup outcome batch earlier bytes ended old new out out' =
    Showed shown setup outcome batch earlier bytes ended out_so false history out out' × FaultsAt out_so old new out out'
ShowsRun end.Closed history shown setup outcome batch earlier bytes ended old new out out' =
    ((out_so : ReadEnd) × Showed shown setup outcome batch earlier bytes ended out_so true history out out') × NoneFailed old new out out'
ShowsRun end.WriteFault history shown setup outcome batch earlier bytes ended old new out out' =
    StopsShowing shown setup outcome batch earlier bytes ended history old new out out' × MayFail old new × Rose out.faults out'.faults

-- what was written of the lines of a history where memory ran out: nothing of its text, or a prefix of its trace. No write failed
abbrev pub BeganLines : Shown → SetupData → History → SinkState → SinkState → Type 0
BeganLines Bytes setup h out out' = ⊥
BeganLines Text setup h out out' = out' ≡ out
BeganLines Trace setup h out out' = WroteFrontOf (trace_text setup.pool setup.slots setup.per_slot h) out out' × (out'.faults ≡ out.faults)

-- the stream was run whole, and a prefix of the trace of its history was written. No write failed
pub record BeganTrace (setup : SetupData) (outcome : List ℕ → JobRecord → Outcome) (batch : ℕ) (earlier bytes : List ℕ) (ended : Bool)
    (out out' : SinkState) : Type 0 where
  pub end : ReadEnd
  pub closing : Bool
  pub history : History
  pub run : IsRunOf setup outcome batch earlier bytes ended end closing history
  pub wrote : BeganLines Trace setup history out out'

-- what was written where memory ran out: nothing, or a prefix of what the run of some of the bytes says; nothing of the text; nothing,
-- or a prefix of the trace of the run. No write failed
abbrev pub BeganShowing : Shown → SetupData → (List ℕ → JobRecord → Outcome) → ℕ → List ℕ → List ℕ → Bool → SinkState → SinkState → Type 0
BeganShowing Bytes setup outcome batch earlier bytes ended out out' = (out' ≡ out) ⊎ RanFront setup outcome batch bytes out out'
BeganShowing Text setup outcome batch earlier bytes ended out out' = out' ≡ out
BeganShowing Trace setup outcome batch earlier bytes ended out out' = (out' ≡ out) ⊎ BeganTrace setup outcome batch earlier bytes ended out out'

-- what the pipe did with the bytes that it took
abbrev pub PipesBytes : Result Piped NoMemory → Shown → SetupData → (List ℕ → JobRecord → Outcome) → ℕ → List ℕ → List ℕ → Bool
    → SourceState → SourceState → SinkState → SinkState → Type 0
PipesBytes (Ok ran) shown setup outcome batch earlier bytes ended old new out out' =
    ShowsRun ran.end ran.history.items shown setup outcome batch earlier bytes ended old new out out'
PipesBytes (Err _) shown setup outcome batch earlier bytes ended old new out out' = BeganShowing shown setup outcome batch earlier bytes ended out out' × MayFail old new

-- some bytes were taken, those of the last read after the earlier ones, and what is answered and written is what they say
pub record Pipes (answer : Result Piped NoMemory) (shown : Shown) (setup : SetupData) (outcome : List ℕ → JobRecord → Outcome) (batch : ℕ)
    (old new : SourceState) (out out' : SinkState) : Type 0 where
  pub bytes : List ℕ
  pub earlier : List ℕ
  pub ended : Bool
  pub takes : Takes old new earlier bytes ended
  pub came : PipesBytes answer shown setup outcome batch earlier bytes ended old new out out'
