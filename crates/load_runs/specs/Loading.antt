-- What a load does to a sink.
use Rattle.std.specs.Prelude.{◌≡◌, ℕ, Bool, true, false, List, [], ◌++◌}
use Rattle.orb_base.specs.JobRecord.{JobRecord}
use Rattle.orb_base.specs.Outside.{SinkState, Rose}
use Rattle.orb_base.specs.declared.outcome.Outcome.{Outcome}
use Rattle.lane_machine.specs.Histories.{History}
use Rattle.text_streams.specs.Streams.{WroteText, WroteFrontOf}
use Rattle.adapter_policies.specs.SetupData.{SetupData}
use Rattle.heard_calls.specs.declared.ending.Ending.TheVariants.{Ended}
use Rattle.conn_engine.specs.Streams.{IsRunOf}
use Rattle.conn_engine.specs.declared.read_end.ReadEnd.{ReadEnd}
use Rattle.conn_engine.specs.declared.read_end.ReadEnd.TheVariants as read
use Rattle.conn_engine.specs.declared.stream_end.StreamEnd.{StreamEnd}
use Rattle.conn_engine.specs.declared.stream_end.StreamEnd.TheVariants.{Closed}
use Rattle.load_runs.specs.Generated.{IsLoad}
use Rattle.load_runs.specs.Lines.{line_of, line_text}
use Rattle.load_runs.specs.declared.load_end.LoadEnd.{LoadEnd}
use Rattle.load_runs.specs.declared.load_end.LoadEnd.TheVariants as load
use Rattle.load_runs.specs.declared.load_line.LoadLine.{LoadLine}
use Rattle.load_runs.specs.declared.load_plan.LoadPlan.{LoadPlan}

-- the input was taken whole, and its reading ended at its end, without a fault
abbrev pub TookWhole : Bool → ReadEnd → List ℕ → Type 0
TookWhole closing end rest = closing ≡ false → (rest ≡ []) × (end ≡ read.Ended Ended)

-- this is the history of the pipe's run over the input, which met a limit of the run or not: of the bytes that were taken, which are
-- all of them unless a limit was met
pub record RunsInput (setup : SetupData) (outcome : List ℕ → JobRecord → Outcome) (batch : ℕ) (input : List ℕ) (closing : Bool)
    (history : History) : Type 0 where
  pub bytes : List ℕ
  pub rest : List ℕ
  pub parts : input ≡ bytes ++ rest
  pub earlier : List ℕ
  pub ended : Bool
  pub end : ReadEnd
  pub run : IsRunOf setup outcome batch earlier bytes ended end closing history
  pub whole : TookWhole closing end rest

-- a limit of the run was met
abbrev pub is_closed : StreamEnd → Bool
is_closed Closed = true
is_closed end = false

-- the input was run, with this history, whose numbers these are
pub record RunsLoad (setup : SetupData) (outcome : List ℕ → JobRecord → Outcome) (plan : LoadPlan) (input : List ℕ) (closing : Bool)
    (line : LoadLine) : Type 0 where
  pub history : History
  pub runs : RunsInput setup outcome plan.batch input closing history
  pub line_is : line ≡ line_of input history

-- the load of a plan was run, and these are its numbers
pub record RunsMade (setup : SetupData) (outcome : List ℕ → JobRecord → Outcome) (plan : LoadPlan) (closing : Bool)
    (line : LoadLine) : Type 0 where
  pub input : List ℕ
  pub is_load : IsLoad setup plan input
  pub runs : RunsLoad setup outcome plan input closing line

-- the line of a run that met a limit or not was written, or a prefix of it up to a fault, or out of memory nothing was
abbrev pub WritesLine : LoadEnd → Bool → List ℕ → SinkState → SinkState → Type 0
WritesLine load.Done closing text out out' = (closing ≡ false) × WroteText text out out' × (out'.faults ≡ out.faults)
WritesLine load.Closed closing text out out' = (closing ≡ true) × WroteText text out out' × (out'.faults ≡ out.faults)
WritesLine load.WriteFault closing text out out' = WroteFrontOf text out out' × Rose out.faults out'.faults
WritesLine load.NoMemory closing text out out' = out' ≡ out

-- the load of a plan was run, and its line came out so
pub record WritesLoad (end : LoadEnd) (setup : SetupData) (outcome : List ℕ → JobRecord → Outcome) (plan : LoadPlan)
    (out out' : SinkState) : Type 0 where
  pub closing : Bool
  pub line : LoadLine
  pub loaded : RunsMade setup outcome plan closing line
  pub wrote : WritesLine end closing (line_text line) out out'

-- how a load came out: its line was written, after a run that met no limit or one that did; or a prefix of the line up to a fault; or
-- out of memory nothing was
abbrev pub Loads : LoadEnd → SetupData → (List ℕ → JobRecord → Outcome) → LoadPlan → SinkState → SinkState → Type 0
Loads load.Done setup outcome plan out out' = WritesLoad load.Done setup outcome plan out out'
Loads load.Closed setup outcome plan out out' = WritesLoad load.Closed setup outcome plan out out'
Loads load.WriteFault setup outcome plan out out' = WritesLoad load.WriteFault setup outcome plan out out'
Loads load.NoMemory setup outcome plan out out' = out' ≡ out
