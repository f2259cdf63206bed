-- The run of a stream: own profile.
use Rattle.std.specs.Prelude.{◌≡◌, ◌⊎◌, ◌++◌, ℕ, Bool, true, false, List, [], Option, None, option_map, Result, Ok, Err}
use Rattle.orb_base.specs.JobRecord.{JobRecord}
use Rattle.orb_base.specs.Outside.{SourceState, SinkState, Rose}
use Rattle.orb_base.specs.declared.outcome.Outcome.{Outcome}
use Rattle.orb_base.specs.declared.no_memory.NoMemory.{NoMemory}
use Rattle.lane_machine.specs.declared.call.How.{How}
use Rattle.lane_machine.specs.declared.call.How.TheVariants.{Shut}
use Rattle.lane_machine.specs.declared.call.LaneCall.{LaneCall}
use Rattle.lane_machine.specs.Histories.{History, IsLegal}
use Rattle.lane_machine.specs.State.{opening}
use Rattle.text_streams.specs.Streams.{WroteText, WroteFrontOf}
use Rattle.text_streams.specs.Faults.{NoneFailed}
use Rattle.adapter_policies.specs.SetupData.{SetupData}
use Rattle.pipe_laws.specs.Groups.{folded}
use Rattle.pipe_laws.specs.Lacking.{Lacking}
use Rattle.pipe_laws.specs.Piped.{answer_of, piped}
use Rattle.pipe_laws.specs.Said.{said}
use Rattle.pipe_laws.specs.Setup.{pipe_conn}
use Rattle.lane_driver.specs.Driving.{WroteUpToLast}
use Rattle.lane_driver.specs.Feeding.{group_at}
use Rattle.lane_driver.specs.declared.course.Course.{Course}
use Rattle.lane_driver.specs.declared.course.Course.TheVariants.{Whole, Stopped}
use Rattle.conn_engine.specs.HeardSoFar.{HeardSoFar}
use Rattle.conn_engine.specs.Ends.{HearsStream, how_of}
use Rattle.conn_engine.specs.Reads.{Takes, FaultsAt}
use Rattle.conn_engine.specs.declared.read_end.ReadEnd.{ReadEnd}
use Rattle.conn_engine.specs.declared.stream_end.StreamEnd.{StreamEnd}
use Rattle.conn_engine.specs.declared.stream_end.StreamEnd.TheVariants as end

-- how a run came out whose last group and connection were ended
abbrev pub end_of : Course → StreamEnd → StreamEnd
end_of Whole out = out
end_of Stopped out = end.WriteFault

-- whether the calls, in groups of `batch`, meet a limit of the run, where memory was wanting to the jobs of these serials
abbrev pub closes_by : SetupData → (List ℕ → JobRecord → Outcome) → ℕ → List LaneCall → List ℕ → Bool
closes_by setup outcome batch calls lacks =
    (folded (answer_of setup outcome lacks) batch (group_at (opening setup.pool setup.slots setup.per_slot) [] batch) calls).run.state.closing

-- how the connection is ended: by closing where a limit of the run was met, or else as the reading came out
abbrev pub how_by : Bool → ReadEnd → How
how_by true end = Shut
how_by false end = how_of end

-- it was right to read on after these bytes: nothing in them ended the reading, and their calls meet no limit of the run
pub record GoesOnBehind (setup : SetupData) (outcome : List ℕ → JobRecord → Outcome) (batch : ℕ) (lacks : List ℕ) (earlier : List ℕ) : Type 0 where
  pub calls : List LaneCall
  pub heard : HeardSoFar setup pipe_conn earlier calls None
  pub unmet : closes_by setup outcome batch calls lacks ≡ false

-- these entries are the history of the run of a stream whose reading came out so, and met a limit of the run or not: its bytes mean
-- these calls, and memory was wanting to the jobs of some serials; the history is legal
pub record IsRunOf (setup : SetupData) (outcome : List ℕ → JobRecord → Outcome) (batch : ℕ) (earlier bytes : List ℕ) (ended : Bool) (end : ReadEnd) (closing : Bool)
    (entries : History) : Type 0 where
  pub calls : List LaneCall
  pub heard : HearsStream setup pipe_conn bytes ended calls end
  pub lacking : Lacking setup outcome entries
  pub closes : closes_by setup outcome batch calls lacking.lacks ≡ closing
  pub runs : (piped setup outcome batch calls (how_by closing end) lacking.lacks).history ≡ entries
  pub legal : IsLegal (opening setup.pool setup.slots setup.per_slot) entries
  pub before : GoesOnBehind setup outcome batch lacking.lacks earlier

-- these entries are at the front of the history of the run of these calls, whose reading came out so
pub record BeginsRun (setup : SetupData) (outcome : List ℕ → JobRecord → Outcome) (batch : ℕ) (calls : List LaneCall) (end : ReadEnd) (entries : History) : Type 0 where
  pub lacking : Lacking setup outcome entries
  pub how : How
  pub ends : (how ≡ how_of end) ⊎ ((how ≡ Shut) × (closes_by setup outcome batch calls lacking.lacks ≡ true))
  pub later : History
  pub begins : (piped setup outcome batch calls how lacking.lacks).history ≡ entries ++ later

-- these entries are at the front of the history of the run of the bytes that were taken
pub record BeginsRunOf (setup : SetupData) (outcome : List ℕ → JobRecord → Outcome) (batch : ℕ) (earlier bytes : List ℕ) (ended : Bool) (entries : History) : Type 0 where
  pub calls : List LaneCall
  pub end : ReadEnd
  pub heard : HearsStream setup pipe_conn bytes ended calls end
  pub run : BeginsRun setup outcome batch calls end entries
  pub before : GoesOnBehind setup outcome batch run.lacking.lacks earlier

-- the stream was run whole: all that the history of its run says was written, and it is after the one that is kept, if one is
pub record RanWhole (setup : SetupData) (outcome : List ℕ → JobRecord → Outcome) (batch : ℕ) (earlier bytes : List ℕ) (ended : Bool) (end : ReadEnd) (closing : Bool)
    (log log' : Option History) (out out' : SinkState) : Type 0 where
  pub entries : History
  pub run : IsRunOf setup outcome batch earlier bytes ended end closing entries
  pub logged : log' ≡ option_map (λ h. h ++ entries) log
  pub wrote : WroteText (said pipe_conn entries) out out'

-- the run of the stream was begun, up to a call by which a write failed: these entries end with that call, and are after the history
-- that is kept, if one is; all that they say was written, but that of what the last one says only a prefix was
pub record RanUpToLast (setup : SetupData) (outcome : List ℕ → JobRecord → Outcome) (batch : ℕ) (earlier bytes : List ℕ) (ended : Bool)
    (log log' : Option History) (out out' : SinkState) : Type 0 where
  pub entries : History
  pub run : BeginsRunOf setup outcome batch earlier bytes ended entries
  pub logged : log' ≡ option_map (λ h. h ++ entries) log
  pub wrote : WroteUpToLast entries out out'

-- the run of some of the bytes was begun, of a read less where the last one was not heard; what was written is a prefix of what these
-- entries say, and no write failed
pub record RanFront (setup : SetupData) (outcome : List ℕ → JobRecord → Outcome) (batch : ℕ) (bytes : List ℕ) (out out' : SinkState) : Type 0 where
  pub some : List ℕ
  pub others : List ℕ
  pub parts : bytes ≡ some ++ others
  pub ended : Bool
  pub calls : List LaneCall
  pub end : ReadEnd
  pub heard : HearsStream setup pipe_conn some ended calls end
  pub entries : History
  pub run : BeginsRun setup outcome batch calls end entries
  pub wrote : WroteFrontOf (said pipe_conn entries) out out'
  pub faults : out'.faults ≡ out.faults

-- what comes of the bytes that were taken, by how the run came out
abbrev pub RunsBytes : Result StreamEnd NoMemory → SetupData → (List ℕ → JobRecord → Outcome) → ℕ → List ℕ → List ℕ → Bool
    → SourceState → SourceState → Option History → Option History → SinkState → SinkState → Type 0
RunsBytes (Ok (end.Ended out_so)) setup outcome batch earlier bytes ended old new log log' out out' =
    RanWhole setup outcome batch earlier bytes ended out_so false log log' out out' × FaultsAt out_so old new out out'
RunsBytes (Ok end.Closed) setup outcome batch earlier bytes ended old new log log' out out' =
    ((out_so : ReadEnd) × RanWhole setup outcome batch earlier bytes ended out_so true log log' out out') × NoneFailed old new out out'
RunsBytes (Ok end.WriteFault) setup outcome batch earlier bytes ended old new log log' out out' =
    RanUpToLast setup outcome batch earlier bytes ended log log' out out' × ((new.faults ≡ old.faults) ⊎ Rose old.faults new.faults) × Rose out.faults out'.faults
RunsBytes (Err _) setup outcome batch earlier bytes ended old new log log' out out' =
    ((out' ≡ out) ⊎ RanFront setup outcome batch bytes out out') × ((new.faults ≡ old.faults) ⊎ Rose old.faults new.faults)

-- some bytes were taken, those of the last read after the earlier ones, and what was done and written is what they say
pub record RunsStream (answer : Result StreamEnd NoMemory) (setup : SetupData) (outcome : List ℕ → JobRecord → Outcome) (batch : ℕ)
    (old new : SourceState) (log log' : Option History) (out out' : SinkState) : Type 0 where
  pub bytes : List ℕ
  pub earlier : List ℕ
  pub ended : Bool
  pub takes : Takes old new earlier bytes ended
  pub came : RunsBytes answer setup outcome batch earlier bytes ended old new log log' out out'
