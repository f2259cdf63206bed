-- What is shown of the run of a stream.
use Rattle.std.proofs.Common.{◌≡◌, inl, inr, ℕ, Bool, true, false, List, [], ◌++◌, Option, Some, Ok, Err, sym, ap, ◌∙◌, subst, arith}
use Rattle.std.specs.Prelude.{option_map, unwrap_or, Result, OnErr}
use Rattle.orb_base.specs.JobRecord.{JobRecord}
use Rattle.orb_base.specs.Outside.{SourceState, SinkState, Rose}
use Rattle.orb_base.specs.declared.no_memory.NoMemory.{NoMemory}
use Rattle.orb_base.specs.declared.outcome.Outcome.{Outcome}
use Rattle.lane_machine.specs.Histories.{History}
use Rattle.text_streams.specs.Streams.{WroteText, WroteFrontOf}
use Rattle.text_streams.specs.declared.writing.WriteAll.{WriteAll}
use Rattle.trace_lines.specs.Texts.{trace_text}
use Rattle.trace_lines.specs.Writing.{WritesText}
use Rattle.adapter_policies.specs.SetupData.{SetupData}
use Rattle.conn_engine.specs.Reads.{FaultsAt}
use Rattle.conn_engine.specs.Streams.{IsRunOf, RunsBytes, RunsStream}
use Rattle.conn_engine.specs.declared.read_end.ReadEnd.{ReadEnd}
use Rattle.conn_engine.specs.declared.read_end.ReadEnd.TheVariants as read
use Rattle.conn_engine.specs.declared.stream_end.StreamEnd.{StreamEnd}
use Rattle.conn_engine.specs.declared.stream_end.StreamEnd.TheVariants as end
use Rattle.pipe_runs.specs.Pipe.{shown_of, IsLines, Showed, ShowedUpToLast, ShowedSomeLines, StopsShowing, BeganLines, BeganShowing, FailedReading, MayFail, ShowsRun, Pipes}
use Rattle.pipe_runs.specs.declared.piped.Piped.{Piped}
use Rattle.pipe_runs.specs.declared.shown.Shown.{Shown}
use Rattle.pipe_runs.specs.declared.shown.Shown.TheVariants.{Bytes, Text, Trace}

-- the history that was kept is that of the run
kept_is : (entries history : History) (log' : Option History) → log' ≡ option_map (λ h. h ++ entries) (Some []) → history ≡ unwrap_or log' [] → entries ≡ history
kept_is entries history log' logged is = sym (is ∙ ap (λ (l : Option History). unwrap_or l []) logged)

-- the reads of a run that came out so
reads_of : (out_so : ReadEnd) (old new : SourceState) (out out' : SinkState) → FaultsAt out_so old new out out' → FailedReading false out_so old new
reads_of (read.Ended ending) old new out out' h = h.0
reads_of read.Spent old new out out' h = h.0
reads_of read.ReadFault old new out out' h = h.0

may_fail : (out_so : ReadEnd) (old new : SourceState) → FailedReading false out_so old new → MayFail old new
may_fail (read.Ended ending) old new h = inl h
may_fail read.Spent old new h = inl h
may_fail read.ReadFault old new h = inr h

-- no write failed but that of the text
faults_with : (out_so : ReadEnd) (old new : SourceState) (out out' : SinkState) → FailedReading false out_so old new → out'.faults ≡ out.faults → FaultsAt out_so old new out out'
faults_with (read.Ended ending) old new out out' h none = (h, none)
faults_with read.Spent old new out out' h none = (h, none)
faults_with read.ReadFault old new out out' h none = (h, none)

-- a count doesn't rise that is 0 before and after
never_rose : (a b : ℕ) → a ≡ 0 → b ≡ 0 → Rose a b → ⊥
never_rose a b none still rose = omega (arith, rose)

-- a prefix of the trace was written where memory ran out over it
pub trace_began : (shown : Shown) (setup : SetupData) (h : History) (r : Result WriteAll NoMemory) (out out' : SinkState) → shown ≡ Trace
    → WritesText r (trace_text setup.pool setup.slots setup.per_slot h) out out' → OnErr r (BeganLines shown setup h out out')
trace_began shown setup h (Ok written) out out' is wrote = tt
trace_began shown setup h (Err e) out out' is wrote = subst (λ (s : Shown). BeganLines s setup h out out') (sym is) wrote

-- lines are no bytes
stops_by : (shown : Shown) → IsLines shown → (setup : SetupData) (outcome : List ℕ → JobRecord → Outcome) (batch : ℕ) (earlier bytes : List ℕ) (ended : Bool)
    (history : History) (old new : SourceState) (out out' : SinkState) → ShowedSomeLines shown setup outcome batch earlier bytes ended history old new out out'
    → StopsShowing shown setup outcome batch earlier bytes ended history old new out out'
stops_by Bytes lines setup outcome batch earlier bytes ended history old new out out' h = absurd lines
stops_by Text lines setup outcome batch earlier bytes ended history old new out out' h = h
stops_by Trace lines setup outcome batch earlier bytes ended history old new out out' h = h

began_by : (shown : Shown) (setup : SetupData) (outcome : List ℕ → JobRecord → Outcome) (batch : ℕ) (earlier bytes : List ℕ) (ended : Bool)
    (history : History) (end : ReadEnd) (closing : Bool) (out out' : SinkState) → IsRunOf setup outcome batch earlier bytes ended end closing history
    → BeganLines shown setup history out out' → BeganShowing shown setup outcome batch earlier bytes ended out out'
began_by Bytes setup outcome batch earlier bytes ended history end closing out out' run began = absurd began
began_by Text setup outcome batch earlier bytes ended history end closing out out' run began = began
began_by Trace setup outcome batch earlier bytes ended history end closing out out' run began =
    inr (record { end = end; closing = closing; history = history; run = run; wrote = began })

-- nothing is written where memory ran out in the run
nothing_by : (shown : Shown) → IsLines shown → (setup : SetupData) (outcome : List ℕ → JobRecord → Outcome) (batch : ℕ) (earlier bytes : List ℕ) (ended : Bool)
    (out out' : SinkState) → out' ≡ out → BeganShowing shown setup outcome batch earlier bytes ended out out'
nothing_by Bytes lines setup outcome batch earlier bytes ended out out' same = inl same
nothing_by Text lines setup outcome batch earlier bytes ended out out' same = same
nothing_by Trace lines setup outcome batch earlier bytes ended out out' same = inl same

module _ (setup : SetupData) (outcome : List ℕ → JobRecord → Outcome) (batch : ℕ) (earlier bytes : List ℕ) (ended : Bool) (old new : SourceState) where
  -- ---- the bytes

  bytes_came : (comes : StreamEnd) (log' : Option History) (history : History) (out out' : SinkState) → history ≡ unwrap_or log' []
      → RunsBytes (Ok comes) setup outcome batch earlier bytes ended old new (Some []) log' out out'
      → ShowsRun comes history Bytes setup outcome batch earlier bytes ended old new out out'
  bytes_came (end.Ended out_so) log' history out out' is h =
      let same = kept_is h.0.entries history log' h.0.logged is in
      (subst (λ (x : History). Showed Bytes setup outcome batch earlier bytes ended out_so false x out out') same (record { run = h.0.run; wrote = h.0.wrote }), h.1)
  bytes_came end.Closed log' history out out' is h =
      let same = kept_is h.0.1.entries history log' h.0.1.logged is in
      ((h.0.0, subst (λ (x : History). Showed Bytes setup outcome batch earlier bytes ended h.0.0 true x out out') same (record { run = h.0.1.run; wrote = h.0.1.wrote })), h.1)
  bytes_came end.WriteFault log' history out out' is h =
      let same = kept_is h.0.entries history log' h.0.logged is in
      (subst (λ (x : History). ShowedUpToLast setup outcome batch earlier bytes ended x out out') same (record { run = h.0.run; wrote = h.0.wrote }), h.1, h.2)

module _ (shown : Shown) (lines : IsLines shown) (setup : SetupData) (outcome : List ℕ → JobRecord → Outcome) (batch : ℕ) (earlier bytes : List ℕ) (ended : Bool)
    (old new : SourceState) where
  -- ---- the lines

  lines_came : (comes : StreamEnd) (log' : Option History) (history : History) (nowhere nowhere' out out' : SinkState) → history ≡ unwrap_or log' []
      → nowhere.faults ≡ 0 → nowhere'.faults ≡ 0 → RunsBytes (Ok comes) setup outcome batch earlier bytes ended old new (Some []) log' nowhere nowhere'
      → WroteText (shown_of shown setup history) out out' → out'.faults ≡ out.faults
      → ShowsRun comes history shown setup outcome batch earlier bytes ended old new out out'
  lines_came (end.Ended out_so) log' history nowhere nowhere' out out' is none still h wrote faults =
      let same = kept_is h.0.entries history log' h.0.logged is in (
        record { run = subst (λ (x : History). IsRunOf setup outcome batch earlier bytes ended out_so false x) same h.0.run; wrote = wrote },
        faults_with out_so old new out out' (reads_of out_so old new nowhere nowhere' h.1) faults,
      )
  lines_came end.Closed log' history nowhere nowhere' out out' is none still h wrote faults =
      let same = kept_is h.0.1.entries history log' h.0.1.logged is in (
        (h.0.0, record { run = subst (λ (x : History). IsRunOf setup outcome batch earlier bytes ended h.0.0 true x) same h.0.1.run; wrote = wrote }),
        (h.1.0, faults),
      )
  lines_came end.WriteFault log' history nowhere nowhere' out out' is none still h wrote faults = absurd (never_rose nowhere.faults nowhere'.faults none still h.2)

  stops : (history : History) (out out' : SinkState) → ShowedSomeLines shown setup outcome batch earlier bytes ended history old new out out'
      → StopsShowing shown setup outcome batch earlier bytes ended history old new out out'
  stops history out out' = stops_by shown lines setup outcome batch earlier bytes ended history old new out out'

  lines_stopped : (comes : StreamEnd) (log' : Option History) (history : History) (nowhere nowhere' out out' : SinkState) → history ≡ unwrap_or log' []
      → nowhere.faults ≡ 0 → nowhere'.faults ≡ 0 → RunsBytes (Ok comes) setup outcome batch earlier bytes ended old new (Some []) log' nowhere nowhere'
      → WroteFrontOf (shown_of shown setup history) out out' → Rose out.faults out'.faults
      → ShowsRun end.WriteFault history shown setup outcome batch earlier bytes ended old new out out'
  lines_stopped (end.Ended out_so) log' history nowhere nowhere' out out' is none still h wrote rose =
      let same = kept_is h.0.entries history log' h.0.logged is in
      let reads = reads_of out_so old new nowhere nowhere' h.1 in (
        stops history out out' (record { end = out_so; closing = false; run = subst (λ (x : History). IsRunOf setup outcome batch earlier bytes ended out_so false x) same h.0.run; wrote = wrote; reads = reads }),
        may_fail out_so old new reads,
        rose,
      )
  lines_stopped end.Closed log' history nowhere nowhere' out out' is none still h wrote rose =
      let same = kept_is h.0.1.entries history log' h.0.1.logged is in (
        stops history out out' (record { end = h.0.0; closing = true; run = subst (λ (x : History). IsRunOf setup outcome batch earlier bytes ended h.0.0 true x) same h.0.1.run; wrote = wrote; reads = h.1.0 }),
        inl h.1.0,
        rose,
      )
  lines_stopped end.WriteFault log' history nowhere nowhere' out out' is none still h wrote rose = absurd (never_rose nowhere.faults nowhere'.faults none still h.2)

  -- memory ran out over the lines
  lines_began : (comes : StreamEnd) (log' : Option History) (history : History) (nowhere nowhere' out out' : SinkState) → history ≡ unwrap_or log' []
      → nowhere.faults ≡ 0 → nowhere'.faults ≡ 0 → RunsBytes (Ok comes) setup outcome batch earlier bytes ended old new (Some []) log' nowhere nowhere'
      → BeganLines shown setup history out out'
      → BeganShowing shown setup outcome batch earlier bytes ended out out' × MayFail old new
  lines_began (end.Ended out_so) log' history nowhere nowhere' out out' is none still h began =
      let same = kept_is h.0.entries history log' h.0.logged is in (
        began_by shown setup outcome batch earlier bytes ended history out_so false out out'
            (subst (λ (x : History). IsRunOf setup outcome batch earlier bytes ended out_so false x) same h.0.run) began,
        may_fail out_so old new (reads_of out_so old new nowhere nowhere' h.1),
      )
  lines_began end.Closed log' history nowhere nowhere' out out' is none still h began =
      let same = kept_is h.0.1.entries history log' h.0.1.logged is in (
        began_by shown setup outcome batch earlier bytes ended history h.0.0 true out out'
            (subst (λ (x : History). IsRunOf setup outcome batch earlier bytes ended h.0.0 true x) same h.0.1.run) began,
        inl h.1.0,
      )
  lines_began end.WriteFault log' history nowhere nowhere' out out' is none still h began = absurd (never_rose nowhere.faults nowhere'.faults none still h.2)

module _ (setup : SetupData) (outcome : List ℕ → JobRecord → Outcome) (batch : ℕ) (old new : SourceState) where
  pub bytes_shown : (ran : Piped) (log' : Option History) (out out' : SinkState) → ran.history.items ≡ unwrap_or log' []
      → RunsStream (Ok ran.end) setup outcome batch old new (Some []) log' out out' → Pipes (Ok ran) Bytes setup outcome batch old new out out'
  bytes_shown ran log' out out' is h = record {
    bytes = h.bytes;
    earlier = h.earlier;
    ended = h.ended;
    takes = h.takes;
    came = bytes_came setup outcome batch h.earlier h.bytes h.ended old new ran.end log' ran.history.items out out' is h.came;
  }

  pub bytes_begun : (e f : NoMemory) (log log' : Option History) (out out' : SinkState)
      → RunsStream (Err e) setup outcome batch old new log log' out out' → Pipes (Err f) Bytes setup outcome batch old new out out'
  bytes_begun e f log log' out out' h = record { bytes = h.bytes; earlier = h.earlier; ended = h.ended; takes = h.takes; came = h.came }

module _ (shown : Shown) (lines : IsLines shown) (setup : SetupData) (outcome : List ℕ → JobRecord → Outcome) (batch : ℕ) (old new : SourceState) where
  pub lines_shown : (ran : Piped) (log' : Option History) (nowhere nowhere' out out' : SinkState) → ran.history.items ≡ unwrap_or log' []
      → nowhere.faults ≡ 0 → nowhere'.faults ≡ 0 → RunsStream (Ok ran.end) setup outcome batch old new (Some []) log' nowhere nowhere'
      → WroteText (shown_of shown setup ran.history.items) out out' → out'.faults ≡ out.faults → Pipes (Ok ran) shown setup outcome batch old new out out'
  lines_shown ran log' nowhere nowhere' out out' is none still h wrote faults = record {
    bytes = h.bytes;
    earlier = h.earlier;
    ended = h.ended;
    takes = h.takes;
    came = lines_came shown lines setup outcome batch h.earlier h.bytes h.ended old new ran.end log' ran.history.items nowhere nowhere' out out' is none still h.came wrote faults;
  }

  pub some_shown : (ran : Piped) (log' : Option History) (nowhere nowhere' out out' : SinkState) → ran.history.items ≡ unwrap_or log' []
      → nowhere.faults ≡ 0 → nowhere'.faults ≡ 0 → RunsStream (Ok ran.end) setup outcome batch old new (Some []) log' nowhere nowhere'
      → WroteFrontOf (shown_of shown setup ran.history.items) out out' → Rose out.faults out'.faults
      → Pipes (Ok (record ran { end = end.WriteFault })) shown setup outcome batch old new out out'
  some_shown ran log' nowhere nowhere' out out' is none still h wrote rose = record {
    bytes = h.bytes;
    earlier = h.earlier;
    ended = h.ended;
    takes = h.takes;
    came = lines_stopped shown lines setup outcome batch h.earlier h.bytes h.ended old new ran.end log' ran.history.items nowhere nowhere' out out' is none still h.came wrote rose;
  }

  -- memory ran out in the run
  pub none_shown : (e f : NoMemory) (log log' : Option History) (nowhere nowhere' out out' : SinkState) → out' ≡ out
      → RunsStream (Err e) setup outcome batch old new log log' nowhere nowhere' → Pipes (Err f) shown setup outcome batch old new out out'
  none_shown e f log log' nowhere nowhere' out out' same h = record {
    bytes = h.bytes;
    earlier = h.earlier;
    ended = h.ended;
    takes = h.takes;
    came = (nothing_by shown lines setup outcome batch h.earlier h.bytes h.ended out out' same, h.came.1);
  }

  -- memory ran out over the lines
  pub few_shown : (comes : StreamEnd) (f : NoMemory) (log' : Option History) (history : History) (nowhere nowhere' out out' : SinkState) → history ≡ unwrap_or log' []
      → nowhere.faults ≡ 0 → nowhere'.faults ≡ 0 → BeganLines shown setup history out out'
      → RunsStream (Ok comes) setup outcome batch old new (Some []) log' nowhere nowhere' → Pipes (Err f) shown setup outcome batch old new out out'
  few_shown comes f log' history nowhere nowhere' out out' is none still began h = record {
    bytes = h.bytes;
    earlier = h.earlier;
    ended = h.ended;
    takes = h.takes;
    came = lines_began shown lines setup outcome batch h.earlier h.bytes h.ended old new comes log' history nowhere nowhere' out out' is none still h.came began;
  }
