-- The run of a stream, from the opening of the machine to the end of the connection.
use Rattle.std.proofs.Common.{◌≡◌, inl, inr, ℕ, Bool, true, false, List, [], ◌++◌, Option, Result, Ok, Err, refl, sym, ap, ◌∙◌, subst, append-nil, arith}
use Rattle.std.specs.Prelude.{◌⊎◌}
use Rattle.orb_base.specs.JobRecord.{JobRecord}
use Rattle.orb_base.specs.Outside.{SourceState, SinkState, Rose}
use Rattle.orb_base.specs.Pool.{IsWellFormed, HasSlots}
use Rattle.orb_base.specs.declared.outcome.Outcome.{Outcome}
use Rattle.orb_base.specs.declared.no_memory.NoMemory.{NoMemory}
use Rattle.lane_machine.specs.declared.call.How.{How}
use Rattle.lane_machine.specs.declared.call.How.TheVariants.{Shut}
use Rattle.lane_machine.specs.declared.call.LaneCall.{LaneCall}
use Rattle.lane_machine.specs.Histories.{History}
use Rattle.lane_machine.specs.State.{State, opening}
use Rattle.text_streams.specs.Faults.{NoneFailed}
use Rattle.text_streams.proofs.CallerLemmas.{gave_start}
use Rattle.adapter_policies.specs.SetupData.{SetupData}
use Rattle.pipe_laws.specs.Groups.{Group}
use Rattle.pipe_laws.specs.Lacking.{Agrees, Lacking, served}
use Rattle.pipe_laws.specs.Piped.{Run, answer_of}
use Rattle.pipe_laws.specs.Setup.{pipe_conn}
use Rattle.lane_driver.specs.Driving.{Servant, Does, Began, Did, BeganWriting, StoppedWriting, Drives}
use Rattle.lane_driver.specs.Feeding.{Fed, feeding}
use Rattle.lane_driver.specs.Running.{running}
use Rattle.lane_driver.specs.declared.course.Course.{Course}
use Rattle.lane_driver.specs.declared.course.Course.TheVariants.{Whole, Stopped}
use Rattle.lane_driver.proofs.Driving.{logged_both, does_both, does_began, began_first}
use Rattle.lane_driver.proofs.Fronts.{agrees_first}
use Rattle.lane_driver.proofs.Items.{wrote_entries, front_entries, stops_later, rose_later}
use Rattle.lane_driver.proofs.Opened.{can_open}
use Rattle.lane_driver.proofs.Whole.{done_is_piped, begun_is_piped, grows_lasting}
use Rattle.conn_engine.specs.Ends.{HearsStream, finishing, how_of}
use Rattle.conn_engine.specs.Reads.{ReadsOn, RanReads, StoppedReads, BegunReads, FaultsAt, ReadsStream}
use Rattle.conn_engine.specs.Streams.{end_of, how_by, closes_by, GoesOnBehind, BeginsRun, RanWhole, RanUpToLast, RanFront, RunsBytes, RunsStream}
use Rattle.conn_engine.specs.declared.read_end.ReadEnd.{ReadEnd}
use Rattle.conn_engine.specs.declared.read_end.ReadEnd.TheVariants as read
use Rattle.conn_engine.specs.declared.reading.Reading.{Reading}
use Rattle.conn_engine.specs.declared.reading.Reading.TheVariants as reading
use Rattle.conn_engine.specs.declared.stream_end.StreamEnd.{StreamEnd}
use Rattle.conn_engine.specs.declared.stream_end.StreamEnd.TheVariants as stream_end
use Rattle.conn_engine.proofs.PieceRuns.{calls_heard, calls_rise}

module _ (setup : SetupData) (outcome : List ℕ → JobRecord → Outcome) (batch : ℕ) (well : IsWellFormed setup.pool) (slots : HasSlots setup.slots setup.per_slot) where
  abbrev first : State
  first = opening setup.pool setup.slots setup.per_slot

  abbrev due : Servant
  due = served setup outcome

  -- the earlier calls meet no limit of the run
  unmet_behind : (room : ℕ) (earlier : List ℕ) (entries : History) (a b : History) → entries ≡ a ++ b → (lacking : Lacking setup outcome entries) → ReadsOn setup batch first batch earlier a
      → GoesOnBehind setup outcome batch lacking.lacks earlier
  unmet_behind room earlier entries a b is lacking before = record {
    calls = before.calls;
    heard = before.heard;
    unmet = before.unmet (answer_of setup outcome lacking.lacks)
        (agrees_first (answer_of setup outcome lacking.lacks) a b (subst (Agrees (answer_of setup outcome lacking.lacks)) is lacking.agrees)) [];
  }

  -- whether the calls meet a limit is what the state tells after them
  closes_as : (calls : List LaneCall) (m : State) (room : ℕ) (log among_log : Option History) (out among : SinkState) (fed : Fed batch due first m batch room calls [] log among_log out among) (b : History)
      → (lacking : Lacking setup outcome (fed.entries ++ b)) → closes_by setup outcome batch calls lacking.lacks ≡ m.closing
  closes_as calls m room log among_log out among fed b lacking =
      let servant = answer_of setup outcome lacking.lacks in
      ap (λ (g : Group). g.run.state.closing) (fed.goes servant (agrees_first servant fed.entries b lacking.agrees) [])

  -- the calls as one doer
  does_fed : (calls : List LaneCall) (m : State) (room : ℕ) (log among_log : Option History) (out among : SinkState) → (fed : Fed batch due first m batch room calls [] log among_log out among)
      → Does (feeding batch batch calls) due first m fed.entries
  does_fed calls m room log among_log out among fed =
      record { leads = fed.leads; answers = fed.answers; done = λ servant agrees h. ap (λ (g : Group). g.run) (fed.goes servant agrees h); begins = fed.begins }

  -- ---- the group and the connection were ended

  ran_whole : (m s' : State) (room : ℕ) (earlier bytes : List ℕ) (ended : Bool) (end : ReadEnd) (closing : Bool) (log among_log log' : Option History) (out among out' : SinkState)
      → m.closing ≡ closing → RanReads setup batch due first m batch room earlier bytes ended end log among_log out among
      → Did (finishing (how_by closing end)) due m s' among_log log' among out'
      → RanWhole setup outcome batch earlier bytes ended end closing log log' out out'
  ran_whole m s' room earlier bytes ended end closing log among_log log' out among out' is reads next =
      let how = how_by closing end in
      let heard = reads.heard.heard in
      let can = can_open setup.pool setup.slots setup.per_slot well slots in
      let all : Does (running batch reads.calls how) due first s' (reads.fed.entries ++ next.entries) =
      does_both (grows_lasting how) (does_fed reads.calls m room log among_log out among reads.fed) next.does_so in
      let is_piped = done_is_piped setup outcome batch reads.calls how 0 s' (reads.fed.entries ++ next.entries) can
      (calls_heard setup pipe_conn bytes reads.calls reads.heard.ending well heard) (calls_rise setup pipe_conn bytes reads.calls reads.heard.ending well heard) all in
      record {
        entries = reads.fed.entries ++ next.entries;
        run = record {
          calls = reads.calls;
          heard = reads.heard;
          lacking = is_piped.0;
          closes = closes_as reads.calls m room log among_log out among reads.fed next.entries is_piped.0 ∙ is;
          runs = ap (λ (r : Run). r.history) is_piped.1;
          legal = all.leads.legal;
          before = unmet_behind room earlier (reads.fed.entries ++ next.entries) reads.fed.entries next.entries refl is_piped.0 reads.before;
        };
        logged = logged_both reads.fed.entries next.entries log among_log log' reads.fed.logged next.logged;
        wrote = wrote_entries reads.fed.entries next.entries out among out' reads.fed.wrote next.wrote;
      }

  -- how the connection is ended, by what the state tells
  how_is : (closing : Bool) (end : ReadEnd) (m closes : Bool) → m ≡ closing → closes ≡ m → (how_by closing end ≡ how_of end) ⊎ ((how_by closing end ≡ Shut) × (closes ≡ true))
  how_is true end m closes is same = inr (refl, same ∙ is)
  how_is false end m closes is same = inl refl

  -- what was begun of the end, after the calls
  begins_ending : (m : State) (room : ℕ) (bytes : List ℕ) (ended : Bool) (end : ReadEnd) (closing : Bool) (calls : List LaneCall) (log among_log : Option History) (out among : SinkState) (b : History)
      → m.closing ≡ closing → (heard : HearsStream setup pipe_conn bytes ended calls end) → (fed : Fed batch due first m batch room calls [] log among_log out among)
      → Began (finishing (how_by closing end)) due m b → BeginsRun setup outcome batch calls end (fed.entries ++ b)
  begins_ending m room bytes ended end closing calls log among_log out among b is heard fed began =
      let how = how_by closing end in
      let can = can_open setup.pool setup.slots setup.per_slot well slots in
      let all : Began (running batch calls how) due first (fed.entries ++ b) =
      does_began (grows_lasting how) (does_fed calls m room log among_log out among fed) began in
      let begun = begun_is_piped setup outcome batch calls how 0 (fed.entries ++ b) can (calls_heard setup pipe_conn bytes calls heard.ending well heard.heard)
      (calls_rise setup pipe_conn bytes calls heard.ending well heard.heard) all in
      record {
        lacking = begun.0;
        how = how;
        ends = how_is closing end m.closing (closes_by setup outcome batch calls begun.0.lacks) is (closes_as calls m room log among_log out among fed b begun.0);
        later = begun.1;
        begins = begun.2;
      }

  stopped_ending : (m : State) (room : ℕ) (earlier bytes : List ℕ) (ended : Bool) (end : ReadEnd) (closing : Bool) (log among_log log' : Option History) (out among out' : SinkState)
      → m.closing ≡ closing → RanReads setup batch due first m batch room earlier bytes ended end log among_log out among
      → StoppedWriting (finishing (how_by closing end)) due m among_log log' among out'
      → RanUpToLast setup outcome batch earlier bytes ended log log' out out'
  stopped_ending m room earlier bytes ended end closing log among_log log' out among out' is reads next =
      let run = begins_ending m room bytes ended end closing reads.calls log among_log out among next.entries is reads.heard reads.fed next.begins in
      record {
        entries = reads.fed.entries ++ next.entries;
        run = record {
          calls = reads.calls;
          end = end;
          heard = reads.heard;
          run = run;
          before = unmet_behind room earlier (reads.fed.entries ++ next.entries) reads.fed.entries next.entries refl run.lacking reads.before;
        };
        logged = logged_both reads.fed.entries next.entries log among_log log' reads.fed.logged next.logged;
        wrote = stops_later reads.fed.entries next.entries out among out' reads.fed.wrote next.wrote;
      }

  wanting_ending : (m : State) (room : ℕ) (earlier bytes : List ℕ) (ended : Bool) (end : ReadEnd) (closing : Bool) (log among_log : Option History) (out among out' : SinkState)
      → m.closing ≡ closing → RanReads setup batch due first m batch room earlier bytes ended end log among_log out among
      → BeganWriting (finishing (how_by closing end)) due m among out'
      → RanFront setup outcome batch bytes out out'
  wanting_ending m room earlier bytes ended end closing log among_log out among out' is reads next = record {
    some = bytes;
    others = [];
    parts = sym (append-nil bytes);
    ended = ended;
    calls = reads.calls;
    end = end;
    heard = reads.heard;
    entries = reads.fed.entries ++ next.entries;
    run = begins_ending m room bytes ended end closing reads.calls log among_log out among next.entries is reads.heard reads.fed next.begins;
    wrote = front_entries reads.fed.entries next.entries out among out' reads.fed.wrote next.wrote;
    faults = next.faults ∙ reads.fed.faults;
  }

  -- ---- the calls were not all made

  begins_feeding : (bytes : List ℕ) (ended : Bool) (end : ReadEnd) (calls : List LaneCall) (entries : History) → (heard : HearsStream setup pipe_conn bytes ended calls end)
      → Began (feeding batch batch calls) due first entries → BeginsRun setup outcome batch calls end entries
  begins_feeding bytes ended end calls entries heard began =
      let how = how_of end in
      let can = can_open setup.pool setup.slots setup.per_slot well slots in
      let begun = begun_is_piped setup outcome batch calls how 0 entries can (calls_heard setup pipe_conn bytes calls heard.ending well heard.heard)
      (calls_rise setup pipe_conn bytes calls heard.ending well heard.heard) (began_first (finishing how) (grows_lasting how) began) in
      record { lacking = begun.0; how = how; ends = inl refl; later = begun.1; begins = begun.2 }

  stopped_feeding : (earlier bytes : List ℕ) (log log' : Option History) (out out' : SinkState) → StoppedReads setup batch due first batch earlier bytes log log' out out'
      → RanUpToLast setup outcome batch earlier bytes false log log' out out'
  stopped_feeding earlier bytes log log' out out' reads =
      let run = begins_feeding bytes false reads.end reads.calls reads.stopped.entries reads.heard reads.stopped.begins in
      record {
        entries = reads.stopped.entries;
        run = record {
          calls = reads.calls;
          end = reads.end;
          heard = reads.heard;
          run = run;
          before = unmet_behind batch earlier reads.stopped.entries reads.stopped.entries [] (sym (append-nil reads.stopped.entries)) run.lacking reads.before;
        };
        logged = reads.stopped.logged;
        wrote = reads.stopped.wrote;
      }

  wanting_feeding : (bytes : List ℕ) (out out' : SinkState) → BegunReads setup batch due first batch bytes out out' → RanFront setup outcome batch bytes out out'
  wanting_feeding bytes out out' reads = record {
    some = reads.some;
    others = reads.others;
    parts = reads.parts;
    ended = false;
    calls = reads.calls;
    end = reads.end;
    heard = reads.heard;
    entries = reads.began.entries;
    run = begins_feeding reads.some false reads.end reads.calls reads.began.entries reads.heard reads.began.begins;
    wrote = reads.began.wrote;
    faults = reads.began.faults;
  }

  -- ---- for the goals of `run_stream`

  -- the counts of the source, whatever became of the writing
  source_counts : (end : ReadEnd) (old new : SourceState) (out out' : SinkState) → FaultsAt end old new out out' → ((new.faults ≡ old.faults) ⊎ Rose old.faults new.faults) × (out'.faults ≡ out.faults)
  source_counts (read.Ended e) old new out out' h = (inl h.0, h.1)
  source_counts read.Spent old new out out' h = (inl h.0, h.1)
  source_counts read.ReadFault old new out out' h = (inr h.0, h.1)

  faults_later : (end : ReadEnd) (old new : SourceState) (out among out' : SinkState) → out'.faults ≡ among.faults → FaultsAt end old new out among → FaultsAt end old new out out'
  faults_later (read.Ended e) old new out among out' same h = (h.0, same ∙ h.1)
  faults_later read.Spent old new out among out' same h = (h.0, same ∙ h.1)
  faults_later read.ReadFault old new out among out' same h = (h.0, same ∙ h.1)

  -- how the run comes out after an end of the reading
  over_comes : (course : Course) (m s' : State) (room : ℕ) (earlier bytes : List ℕ) (ended : Bool) (end : ReadEnd) (old new : SourceState) (log among_log log' : Option History) (out among out' : SinkState)
      → RanReads setup batch due first m batch room earlier bytes ended end log among_log out among → m.closing ≡ false → FaultsAt end old new out among
      → Drives {E = ⊥} (Ok course) (finishing (how_of end)) due m s' among_log log' among out'
      → RunsBytes (Ok (end_of course (stream_end.Ended end))) setup outcome batch earlier bytes ended old new log log' out out'
  over_comes Whole m s' room earlier bytes ended end old new log among_log log' out among out' reads goes faults drives =
      (ran_whole m s' room earlier bytes ended end false log among_log log' out among out' goes reads drives.0, faults_later end old new out among out' drives.1 faults)
  over_comes Stopped m s' room earlier bytes ended end old new log among_log log' out among out' reads goes faults drives =
      let counts = source_counts end old new out among faults in (
        stopped_ending m room earlier bytes ended end false log among_log log' out among out' goes reads drives.0,
        counts.0,
        rose_later out.faults among.faults out'.faults counts.1 drives.1,
      )

  closed_comes : (course : Course) (m s' : State) (room : ℕ) (earlier bytes : List ℕ) (ended : Bool) (end : ReadEnd) (old new : SourceState) (log among_log log' : Option History) (out among out' : SinkState)
      → RanReads setup batch due first m batch room earlier bytes ended end log among_log out among → m.closing ≡ true → NoneFailed old new out among
      → Drives {E = ⊥} (Ok course) (finishing Shut) due m s' among_log log' among out'
      → RunsBytes (Ok (end_of course stream_end.Closed)) setup outcome batch earlier bytes ended old new log log' out out'
  closed_comes Whole m s' room earlier bytes ended end old new log among_log log' out among out' reads closing faults drives =
      ((end, ran_whole m s' room earlier bytes ended end true log among_log log' out among out' closing reads drives.0), (faults.0, drives.1 ∙ faults.1))
  closed_comes Stopped m s' room earlier bytes ended end old new log among_log log' out among out' reads closing faults drives = (
    stopped_ending m room earlier bytes ended end true log among_log log' out among out' closing reads drives.0,
    inl faults.0,
    rose_later out.faults among.faults out'.faults faults.1 drives.1,
  )

  module _ (s m s' : State) (room room' : ℕ) (old new : SourceState) (log among_log log' : Option History) (out among out' : SinkState) (opens : s ≡ first) (begins : room ≡ batch) where
    -- the reads as those from the opening
    from_opening : (answer : Result Reading NoMemory) → ReadsStream answer setup batch due s m room room' old new log among_log out among
        → ReadsStream answer setup batch due first m batch room' old new log among_log out among
    from_opening answer reads =
        subst (λ (r : ℕ). ReadsStream answer setup batch due first m r room' old new log among_log out among) begins
        (subst (λ (z : State). ReadsStream answer setup batch due z m room room' old new log among_log out among) opens reads)

    -- the reading, as it is known to have come out
    known : (answer is_so : Reading) → answer ≡ is_so → ReadsStream (Ok answer) setup batch due s m room room' old new log among_log out among
        → ReadsStream (Ok is_so) setup batch due first m batch room' old new log among_log out among
    known answer is_so same reads =
        subst (λ (r : Reading). ReadsStream (Ok r) setup batch due first m batch room' old new log among_log out among) same
        (from_opening (Ok answer) reads)

    pub runs_over : (answer : Reading) (end : ReadEnd) (how : How) (course : Course) (out_so : StreamEnd) → answer ≡ reading.Over end
        → ReadsStream (Ok answer) setup batch due s m room room' old new log among_log out among → how ≡ how_of end
        → Drives {E = ⊥} (Ok course) (finishing how) due m s' among_log log' among out' → out_so ≡ end_of course (stream_end.Ended end)
        → RunsStream (Ok out_so) setup outcome batch old new log log' out out'
    runs_over answer end how course out_so same reads how_same drives is =
        let x = known answer (reading.Over end) same reads in
        let last = subst (λ (w : How). Drives {E = ⊥} (Ok course) (finishing w) due m s' among_log log' among out') how_same drives in
        record {
          bytes = x.bytes;
          earlier = x.earlier;
          ended = x.ended;
          takes = x.takes;
          came = subst (λ (e : StreamEnd). RunsBytes (Ok e) setup outcome batch x.earlier x.bytes x.ended old new log log' out out') (sym is)
              (over_comes course m s' room' x.earlier x.bytes x.ended end old new log among_log log' out among out' x.came.0 x.came.1 x.came.2 last);
        }

    pub runs_closed : (answer : Reading) (course : Course) (out_so : StreamEnd) → answer ≡ reading.Closing
        → ReadsStream (Ok answer) setup batch due s m room room' old new log among_log out among
        → Drives {E = ⊥} (Ok course) (finishing Shut) due m s' among_log log' among out' → out_so ≡ end_of course stream_end.Closed
        → RunsStream (Ok out_so) setup outcome batch old new log log' out out'
    runs_closed answer course out_so same reads drives is =
        let x = known answer reading.Closing same reads in
        record {
          bytes = x.bytes;
          earlier = x.earlier;
          ended = x.ended;
          takes = x.takes;
          came = subst (λ (e : StreamEnd). RunsBytes (Ok e) setup outcome batch x.earlier x.bytes x.ended old new log log' out out') (sym is)
              (closed_comes course m s' room' x.earlier x.bytes x.ended x.came.0.0 old new log among_log log' out among out' x.came.0.1 x.came.1 x.came.2 drives);
        }

    pub runs_stopped : (answer : Reading) → answer ≡ reading.Stopped → ReadsStream (Ok answer) setup batch due s m room room' old new log among_log out among
        → RunsStream (Ok stream_end.WriteFault) setup outcome batch old new log among_log out among
    runs_stopped answer same reads =
        let x = known answer reading.Stopped same reads in
        record {
          bytes = x.bytes;
          earlier = x.earlier;
          ended = x.ended;
          takes = x.takes;
          came = (
            subst (λ (b : Bool). RanUpToLast setup outcome batch x.earlier x.bytes b log among_log out among) (sym x.came.1)
                (stopped_feeding x.earlier x.bytes log among_log out among x.came.0),
            inl x.came.2.0,
            x.came.2.1,
          );
        }

    -- memory was wanting while it was read
    pub runs_wanting : (e f : NoMemory) → ReadsStream (Err e) setup batch due s m room room' old new log among_log out among
        → RunsStream (Err f) setup outcome batch old new log among_log out among
    runs_wanting e f reads =
        let x = from_opening (Err e) reads in
        record {
          bytes = x.bytes;
          earlier = x.earlier;
          ended = x.ended;
          takes = x.takes;
          came = (elim x.came.0 [ inl same ↦ inl same | inr begun ↦ inr (wanting_feeding x.bytes out among begun) ], inl x.came.1);
        }

    -- memory was wanting at the end
    pub over_wanting : {E : Type 0} (e : E) (f : NoMemory) (answer : Reading) (end : ReadEnd) (how : How) → answer ≡ reading.Over end
        → ReadsStream (Ok answer) setup batch due s m room room' old new log among_log out among → how ≡ how_of end
        → Drives {E = E} (Err e) (finishing how) due m s' among_log log' among out'
        → RunsStream (Err f) setup outcome batch old new log log' out out'
    over_wanting {E} e f answer end how same reads how_same drives =
        let x = known answer (reading.Over end) same reads in
        let last = subst (λ (w : How). Drives {E = E} (Err e) (finishing w) due m s' among_log log' among out') how_same drives in
        record {
          bytes = x.bytes;
          earlier = x.earlier;
          ended = x.ended;
          takes = x.takes;
          came = (
            inr (wanting_ending m room' x.earlier x.bytes x.ended end false log among_log out among out' x.came.1 x.came.0 last),
            (source_counts end old new out among x.came.2).0,
          );
        }

    pub closed_wanting : {E : Type 0} (e : E) (f : NoMemory) (answer : Reading) → answer ≡ reading.Closing
        → ReadsStream (Ok answer) setup batch due s m room room' old new log among_log out among
        → Drives {E = E} (Err e) (finishing Shut) due m s' among_log log' among out'
        → RunsStream (Err f) setup outcome batch old new log log' out out'
    closed_wanting {E} e f answer same reads drives =
        let x = known answer reading.Closing same reads in
        record {
          bytes = x.bytes;
          earlier = x.earlier;
          ended = x.ended;
          takes = x.takes;
          came = (
            inr (wanting_ending m room' x.earlier x.bytes x.ended x.came.0.0 true log among_log out among out' x.came.1 x.came.0.1 drives),
            inl x.came.2.0,
          );
        }

-- memory was wanting for the machine
pub runs_unopened : (f : NoMemory) (setup : SetupData) (outcome : List ℕ → JobRecord → Outcome) (batch : ℕ) (old : SourceState) (log log' : Option History) (out : SinkState)
    → RunsStream (Err f) setup outcome batch old old log log' out out
runs_unopened f setup outcome batch old log log' out = record {
  bytes = [];
  earlier = [];
  ended = false;
  takes = record { last = []; parts = refl; one_read = omega arith; few = omega arith; gave = gave_start old; met = refl };
  came = (inl refl, inl refl);
}
