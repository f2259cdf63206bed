-- The run of a load takes its input whole, unless a limit of the run was met, and meets no fault.
use Rattle.std.proofs.Common.{◌≡◌, ℕ, ◌+◌, ◌*◌, ◌-◌, ◌≤◌, ◌<◌, ◌^◌, Bool, true, false, List, [], ◌∷◌, ◌++◌, length, min, Option, Some, None, Ok, refl, sym, ap, ◌∙◌, subst, arith, length-append}
use Rattle.std.specs.Prelude.{option_map, IfSome, IfOk, Result, Err, if◌then◌else◌}
use Rattle.orb_base.specs.JobRecord.{JobRecord}
use Rattle.orb_base.specs.Outside.{Told, SourceState, SinkState, Rose}
use Rattle.orb_base.specs.declared.limits.TheConstants.{MAX_MESSAGE, MAX_RUN_CALLS}
use Rattle.orb_base.specs.declared.outcome.Outcome.{Outcome}
use Rattle.giop_frames.specs.Stream.{Said, stream}
use Rattle.lane_machine.specs.Histories.{History}
use Rattle.text_streams.specs.Streams.{Gave, WroteText, MeetsEnd}
use Rattle.adapter_policies.specs.SetupData.{SetupData}
use Rattle.pipe_laws.specs.Said.{said}
use Rattle.pipe_laws.specs.Setup.{pipe_conn}
use Rattle.heard_calls.specs.Input.{at_end}
use Rattle.heard_calls.specs.declared.ending.Ending.TheVariants.{Ended}
use Rattle.conn_engine.specs.Reads.{Takes, FaultsAt}
use Rattle.conn_engine.specs.Streams.{IsRunOf}
use Rattle.conn_engine.specs.declared.read_end.ReadEnd.{ReadEnd}
use Rattle.conn_engine.specs.declared.read_end.ReadEnd.TheVariants as read
use Rattle.conn_engine.specs.declared.read_end.TheConstants.{MAX_TAKEN}
use Rattle.conn_engine.specs.declared.stream_end.StreamEnd.{StreamEnd}
use Rattle.conn_engine.specs.declared.stream_end.StreamEnd.TheVariants as end
use Rattle.pipe_runs.specs.Pipe.{Pipes, ShowsRun}
use Rattle.pipe_runs.specs.declared.piped.Piped.{Piped}
use Rattle.pipe_runs.specs.declared.shown.Shown.TheVariants.{Bytes}
use Rattle.load_runs.specs.Generated.{IsLoad}
use Rattle.load_runs.specs.Lines.{line_with, line_text, written_by}
use Rattle.load_runs.specs.Loading.{RunsInput, RunsLoad, RunsMade, WritesLine, WritesLoad, Loads, is_closed}
use Rattle.load_runs.specs.Making.{IsMade}
use Rattle.load_runs.specs.declared.load_end.LoadEnd.{LoadEnd}
use Rattle.load_runs.specs.declared.load_end.LoadEnd.TheVariants as load
use Rattle.load_runs.specs.declared.load_line.LoadLine.{LoadLine}
use Rattle.load_runs.specs.declared.load_plan.LoadPlan.{LoadPlan}
use Rattle.load_runs.specs.declared.run.Ran.{Ran}
use Rattle.load_runs.proofs.Heard.{ends_nothing, comes_so}

-- a source over an input in memory that never fails, before and after
pub record Steady (input : List ℕ) (old new : SourceState) : Type 0 where
  pub left : old.left ≡ Some input
  pub sound : old.faults ≡ 0
  pub still : new.faults ≡ 0

never_rose : (a b : ℕ) → a ≡ 0 → b ≡ 0 → Rose a b → ⊥
never_rose a b none still rose = omega (arith, rose)

left_of : (o : Told) (input bytes : List ℕ) → Some input ≡ option_map (λ rest. bytes ++ rest) o → (rest : List ℕ) × (o ≡ Some rest) × (input ≡ bytes ++ rest)
left_of (Some rest) input bytes is = (rest, refl, cc)
left_of None input bytes is = absurd (cc)

-- what is left of the input
rest_of : (input bytes : List ℕ) (old new : SourceState) → Steady input old new → Gave bytes old new → (rest : List ℕ) × (new.left ≡ Some rest) × (input ≡ bytes ++ rest)
rest_of input bytes old new steady gave = left_of new.left input bytes (sym steady.left ∙ gave.from_left)

few_of : (setup : SetupData) (plan : LoadPlan) (input bytes rest : List ℕ) → IsMade setup plan input → input ≡ bytes ++ rest → length bytes < MAX_TAKEN
few_of setup plan input bytes rest made parts =
    omega (arith, made.made.few, made.few, ap (λ (x : List ℕ). length x) parts, length-append bytes rest)

empty_behind : (xs : List ℕ) → xs ++ [] ≡ xs
empty_behind [] = refl
empty_behind (x ∷ xs) = ap (λ (ys : List ℕ). x ∷ ys) (empty_behind xs)

-- by whether a read has answered the end
took_whole : (ended : Bool) (setup : SetupData) (plan : LoadPlan) (input bytes rest : List ℕ) (old new : SourceState) (out out' : SinkState) (end : ReadEnd) → IsMade setup plan input
    → Steady input old new → new.left ≡ Some rest → input ≡ bytes ++ rest → MeetsEnd ended old new → FaultsAt end old new out out'
    → end ≡ (if ended then read.Ended (at_end None (stream MAX_MESSAGE bytes).rest) else read.ReadFault) → (rest ≡ []) × (end ≡ read.Ended Ended)
took_whole true setup plan input bytes rest old new out out' end made steady left parts met faults is =
    let none : rest ≡ [] = subst (λ (o : Told). IfSome o (λ x. x ≡ [])) left met.1 in
    let same : input ≡ bytes = parts ∙ ap (λ (x : List ℕ). bytes ++ x) none ∙ empty_behind bytes in
    let even : (stream MAX_MESSAGE bytes).rest ≡ None =
    ap (λ (x : List ℕ). (stream MAX_MESSAGE x).rest) (sym same) ∙ ap (λ (s : Said). s.rest) made.made.streams.says in
    (none, is ∙ ap (λ (o : Option ℕ). read.Ended (at_end None o)) even)
took_whole false setup plan input bytes rest old new out out' end made steady left parts met faults is =
    let failed : FaultsAt read.ReadFault old new out out' = subst (λ (e : ReadEnd). FaultsAt e old new out out') is faults in
    absurd (never_rose old.faults new.faults steady.sound steady.still failed.0)

pub ended_run : (setup : SetupData) (outcome : List ℕ → JobRecord → Outcome) (plan : LoadPlan) (input earlier bytes : List ℕ) (ended : Bool) (end : ReadEnd) (history : History)
    (old new : SourceState) (out out' : SinkState) → IsMade setup plan input → Steady input old new → Takes old new earlier bytes ended
    → IsRunOf setup outcome plan.batch earlier bytes ended end false history → FaultsAt end old new out out' → RunsInput setup outcome plan.batch input false history
ended_run setup outcome plan input earlier bytes ended end history old new out out' made steady takes run faults =
    let left = rest_of input bytes old new steady takes.gave in
    let none = ends_nothing setup pipe_conn made.aim setup.pool plan.seed plan.count input bytes left.0 run.calls run.heard.ending made.made.streams left.2 run.heard.heard in
    let is = comes_so setup pipe_conn bytes ended run.calls end run.heard none (few_of setup plan input bytes left.0 made left.2) in
    record {
      bytes = bytes;
      rest = left.0;
      parts = left.2;
      earlier = earlier;
      ended = ended;
      end = end;
      run = run;
      whole = λ closing. took_whole ended setup plan input bytes left.0 old new out out' end made steady left.1 left.2 takes.met faults is;
    }

pub closed_run : (setup : SetupData) (outcome : List ℕ → JobRecord → Outcome) (plan : LoadPlan) (input earlier bytes : List ℕ) (ended : Bool) (end : ReadEnd) (history : History)
    (old new : SourceState) → Steady input old new → Takes old new earlier bytes ended → IsRunOf setup outcome plan.batch earlier bytes ended end true history
    → RunsInput setup outcome plan.batch input true history
closed_run setup outcome plan input earlier bytes ended end history old new steady takes run =
    let left = rest_of input bytes old new steady takes.gave in
    record { bytes = bytes; rest = left.0; parts = left.2; earlier = earlier; ended = ended; end = end; run = run; whole = λ closing. absurd (cc) }

-- what a sink that was empty holds after a history was written to it
held_after : (h : History) (out out' : SinkState) → out.held ≡ Some [] → WroteText (said pipe_conn h) out out' → out'.held ≡ Some (said pipe_conn h)
held_after h out out' empty wrote = wrote ∙ ap (option_map (λ x. x ++ said pipe_conn h)) empty

written_is : (h : History) (out' : SinkState) (written : ℕ) → out'.held ≡ Some (said pipe_conn h) → IfSome out'.held (λ held. written ≡ min (length held) (2 ^ 64 - 1)) → written ≡ written_by h
written_is h out' written is tells = subst (λ (o : Told). IfSome o (λ held. written ≡ min (length held) (2 ^ 64 - 1))) is tells

-- a run, with the history that it wrote
record Came (setup : SetupData) (outcome : List ℕ → JobRecord → Outcome) (plan : LoadPlan) (input : List ℕ) (closing : Bool) (h : History) (out' : SinkState) : Type 0 where
  pub runs : RunsInput setup outcome plan.batch input closing h
  pub held : out'.held ≡ Some (said pipe_conn h)

by_end : (so : StreamEnd) (setup : SetupData) (outcome : List ℕ → JobRecord → Outcome) (plan : LoadPlan) (input earlier bytes : List ℕ) (ended : Bool) (h : History)
    (old new : SourceState) (out out' : SinkState) → IsMade setup plan input → Steady input old new → out.held ≡ Some [] → out.faults ≡ 0 → out'.faults ≡ 0
    → Takes old new earlier bytes ended → ShowsRun so h Bytes setup outcome plan.batch earlier bytes ended old new out out'
    → Came setup outcome plan input (is_closed so) h out'
by_end (end.Ended out_so) setup outcome plan input earlier bytes ended h old new out out' made steady empty sound still takes shows = record {
  runs = ended_run setup outcome plan input earlier bytes ended out_so h old new out out' made steady takes shows.0.run shows.1;
  held = held_after h out out' empty shows.0.wrote;
}
by_end end.Closed setup outcome plan input earlier bytes ended h old new out out' made steady empty sound still takes shows = record {
  runs = closed_run setup outcome plan input earlier bytes ended shows.0.0 h old new steady takes shows.0.1.run;
  held = held_after h out out' empty shows.0.1.wrote;
}
by_end end.WriteFault setup outcome plan input earlier bytes ended h old new out out' made steady empty sound still takes shows =
    absurd (never_rose out.faults out'.faults sound still shows.2)

-- the numbers of a run of the pipe over a load
pub runs_load : (ran : Piped) (setup : SetupData) (outcome : List ℕ → JobRecord → Outcome) (plan : LoadPlan) (input : List ℕ) (closing : Bool) (line : LoadLine) (taken written : ℕ)
    (old new : SourceState) (out out' : SinkState) → IsMade setup plan input → Steady input old new → out.held ≡ Some [] → out.faults ≡ 0 → out'.faults ≡ 0
    → Pipes (Ok ran) Bytes setup outcome plan.batch old new out out' → closing ≡ is_closed ran.end → taken ≡ length input
    → IfSome out'.held (λ held. written ≡ min (length held) (2 ^ 64 - 1)) → line ≡ line_with taken written ran.history.items
    → RunsLoad setup outcome plan input closing line
runs_load ran setup outcome plan input closing line taken written old new out out' made steady empty sound still pipes closes took tells is =
    let came = by_end ran.end setup outcome plan input pipes.earlier pipes.bytes pipes.ended ran.history.items old new out out' made steady empty sound still pipes.takes pipes.came in
    let wrote : written ≡ written_by ran.history.items = written_is ran.history.items out' written came.held tells in
    record {
      history = ran.history.items;
      runs = subst (λ (b : Bool). RunsInput setup outcome plan.batch input b ran.history.items) (sym closes) came.runs;
      line_is = is ∙ ap (λ (n : ℕ). line_with n written ran.history.items) took ∙ ap (λ (n : ℕ). line_with (length input) n ran.history.items) wrote;
    }

-- what was made is the load
load_of : (setup : SetupData) (plan : LoadPlan) (input : List ℕ) → IsMade setup plan input → IsLoad setup plan input
load_of setup plan input made = record { aim = made.aim; first = made.first; sent = made.made.sent }

pub runs_made : (setup : SetupData) (outcome : List ℕ → JobRecord → Outcome) (plan : LoadPlan) (input : List ℕ) (closing : Bool) (line : LoadLine) → IsMade setup plan input
    → RunsLoad setup outcome plan input closing line → RunsMade setup outcome plan closing line
runs_made setup outcome plan input closing line made runs = record { input = input; is_load = load_of setup plan input made; runs = runs }

pub made_runs : {E : Type 0} (r : Result Ran E) (setup : SetupData) (outcome : List ℕ → JobRecord → Outcome) (plan : LoadPlan) (input : List ℕ) → IsMade setup plan input
    → IfOk r (λ ran. RunsLoad setup outcome plan input ran.closed ran.line) → IfOk r (λ ran. RunsMade setup outcome plan ran.closed ran.line)
made_runs (Ok ran) setup outcome plan input made runs = runs_made setup outcome plan input ran.closed ran.line made runs
made_runs (Err e) setup outcome plan input made runs = tt

loads_with : (e : LoadEnd) (setup : SetupData) (outcome : List ℕ → JobRecord → Outcome) (plan : LoadPlan) (out out' : SinkState) → WritesLoad e setup outcome plan out out'
    → Loads e setup outcome plan out out'
loads_with load.Done setup outcome plan out out' h = h
loads_with load.Closed setup outcome plan out out' h = h
loads_with load.WriteFault setup outcome plan out out' h = h
loads_with load.NoMemory setup outcome plan out out' h = h.wrote

-- a run whose line came out so
pub loads_by : (e : LoadEnd) (setup : SetupData) (outcome : List ℕ → JobRecord → Outcome) (plan : LoadPlan) (closing : Bool) (line : LoadLine) (out out' : SinkState)
    → RunsMade setup outcome plan closing line → WritesLine e closing (line_text line) out out' → Loads e setup outcome plan out out'
loads_by e setup outcome plan closing line out out' runs wrote =
    loads_with e setup outcome plan out out' (record { closing = closing; line = line; loaded = runs; wrote = wrote })
