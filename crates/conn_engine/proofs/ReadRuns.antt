-- All reads of a run, from the first one to the one with which it stops.
use Rattle.std.proofs.Common.{◌≡◌, inl, inr, ℕ, ◌+◌, ◌≤◌, ◌<◌, Bool, true, false, List, [], ◌++◌, length, Option, Some, None, Ok, Err, refl, sym, ap, ◌∙◌, subst, arith, append-nil}
use Rattle.std.specs.Prelude.{IfSome}
use Rattle.orb_base.specs.Outside.{Told, SourceState, SinkState, Rose}
use Rattle.orb_base.specs.declared.limits.TheConstants.{MAX_MESSAGE}
use Rattle.giop_frames.specs.Stream.{stream}
use Rattle.orb_base.specs.declared.no_memory.NoMemory.{NoMemory}
use Rattle.lane_machine.specs.declared.call.LaneCall.{LaneCall}
use Rattle.lane_machine.specs.Histories.{History}
use Rattle.lane_machine.specs.State.{State}
use Rattle.text_streams.specs.Streams.{Gave}
use Rattle.text_streams.proofs.CallerLemmas.{gave_start}
use Rattle.adapter_policies.specs.SetupData.{SetupData}
use Rattle.pipe_laws.specs.Groups.{Group}
use Rattle.pipe_laws.specs.Lacking.{Agrees}
use Rattle.pipe_laws.specs.Setup.{pipe_conn}
use Rattle.lane_driver.specs.Driving.{Servant, IsBetween, BeganWriting}
use Rattle.lane_driver.specs.Feeding.{Fed, feeding}
use Rattle.lane_driver.proofs.Fronts.{agrees_first}
use Rattle.lane_driver.proofs.FedCalls.{fed_none, fed_want_here}
use Rattle.lane_driver.proofs.Items.{rose_later}
use Rattle.heard_calls.specs.Input.{at_end}
use Rattle.heard_calls.specs.declared.ending.Ending.{Ending}
use Rattle.conn_engine.specs.HeardSoFar.{HeardSoFar}
use Rattle.conn_engine.specs.Hearers.{Hearer, IsGoing, IsNew, FeedsOn}
use Rattle.conn_engine.specs.Ends.{read_end}
use Rattle.conn_engine.specs.Pieces.{RunsPiece}
use Rattle.conn_engine.specs.Reads.{ReadsOn, RanReads, BegunReads, ReadsBytes, ReadsStream}
use Rattle.conn_engine.specs.declared.read_end.ReadEnd.{ReadEnd}
use Rattle.conn_engine.specs.declared.read_end.ReadEnd.TheVariants as read
use Rattle.conn_engine.specs.declared.read_end.TheConstants.{MAX_TAKEN}
use Rattle.conn_engine.specs.declared.reading.Reading.{Reading}
use Rattle.conn_engine.specs.declared.reading.Reading.TheVariants.{Over, Closing, Stopped}
use Rattle.conn_engine.proofs.Taken.{heard_here, TookOn, takes_on, takes_no_more, takes_nothing, comes_at_end, comes_at_fault, comes_full}
use Rattle.lane_driver.proofs.TwoReads.{fed_both, stopped_both, began_both}

-- the reading goes on: what was taken was heard, and its calls were made, of which none met a limit of the run
pub record ReadSoFar (setup : SetupData) (batch : ℕ) (outcome : Servant) (h : Hearer) (count : ℕ) (s s' : State) (room room' : ℕ) (old new : SourceState)
    (log log' : Option History) (out out' : SinkState) : Type 0 where
  pub going : IsGoing h
  pub setup_is : h.setup ≡ setup
  pub conn_is : h.conn ≡ pipe_conn
  pub gave : Gave h.framer.fed old new
  pub count_is : count ≡ length h.framer.fed
  pub few : length h.framer.fed ≤ MAX_TAKEN
  pub fed : Fed batch outcome s s' room room' h.calls [] log log' out out'
  pub unmet : s'.closing ≡ false
  pub reads : new.faults ≡ old.faults
  pub no_end : new.ends ≡ old.ends

pub read_start : (setup : SetupData) (batch : ℕ) (outcome : Servant) (h : Hearer) (s : State) (room : ℕ) (old : SourceState) (log : Option History) (out : SinkState)
    → IsNew setup pipe_conn h → IsBetween s → 1 ≤ room → s.closing ≡ false → ReadSoFar setup batch outcome h 0 s s room room old old log log out out
read_start setup batch outcome h s room old log out new between some goes = record {
  going = new.going;
  setup_is = new.setup_is;
  conn_is = new.conn_is;
  gave = subst (λ (b : List ℕ). Gave b old old) (sym new.none_fed) (gave_start old);
  count_is = sym (ap length new.none_fed);
  few = omega (arith, ap length new.none_fed);
  fed = subst (λ (cs : List LaneCall). Fed batch outcome s s room room cs [] log log out out) (sym new.none_given)
      (fed_none batch outcome s room [] log out between some);
  unmet = goes;
  reads = refl;
  no_end = refl;
}

-- ---- the reading goes on behind a piece

pub read_more : (setup : SetupData) (batch : ℕ) (outcome : Servant) (h h' : Hearer) (count count' : ℕ) (s m s' : State) (room room1 room2 : ℕ) (old mid new : SourceState)
    (log among_log log' : Option History) (out among out' : SinkState) (piece : List ℕ)
    → ReadSoFar setup batch outcome h count s m room room1 old mid log among_log out among → TookOn h.framer.fed (h.framer.fed ++ piece) piece count' old new
    → RunsPiece {E = ⊥} (Ok None) batch outcome h h' piece m s' room1 room2 among_log log' among out'
    → ReadSoFar setup batch outcome h' count' s s' room room2 old new log log' out out'
read_more setup batch outcome h h' count count' s m s' room room1 room2 old mid new log among_log log' out among out' piece x took ran =
    let one = ran.0 in
    let fed : h'.framer.fed ≡ h.framer.fed ++ piece = one.feeds.fed_is in
    let both = fed_both batch outcome s m room room1 h.calls one.calls log among_log out among x.fed s' room2 log' out' one.fed in
    record {
      going = one.feeds.goes_on refl;
      setup_is = one.feeds.same_setup ∙ x.setup_is;
      conn_is = one.feeds.same_conn ∙ x.conn_is;
      gave = subst (λ (b : List ℕ). Gave b old new) (sym fed) took.gave;
      count_is = took.count_is ∙ sym (ap length fed);
      few = omega (arith, took.few, ap length fed);
      fed = subst (λ (cs : List LaneCall). Fed batch outcome s s' room room2 cs [] log log' out out') (sym one.feeds.calls_are) both.0;
      unmet = ran.1;
      reads = took.reads;
      no_end = took.no_end;
    }

-- ---- the earlier reads

-- it was right to read on, with these entries after
went_on : (setup : SetupData) (batch : ℕ) (outcome : Servant) (h : Hearer) (count : ℕ) (s m : State) (room room1 : ℕ) (old mid : SourceState) (log among_log : Option History) (out among : SinkState)
    (x : ReadSoFar setup batch outcome h count s m room room1 old mid log among_log out among) (b all : History) → all ≡ x.fed.entries ++ b
    → ReadsOn setup batch s room h.framer.fed all
went_on setup batch outcome h count s m room room1 old mid log among_log out among x b all is = record {
  calls = h.calls;
  heard = heard_here setup pipe_conn h h.framer.fed h.calls None x.setup_is x.conn_is x.going.heard;
  unmet = λ servant agrees k.
      ap (λ (g : Group). g.run.state.closing) (x.fed.goes servant (agrees_first servant x.fed.entries b (subst (Agrees servant) is agrees)) k) ∙ x.unmet;
}

-- ---- it stops with a piece

module _ (setup : SetupData) (batch : ℕ) (outcome : Servant) (h h' : Hearer) (count count' : ℕ) (s m s' : State) (room room1 room2 : ℕ) (old mid new : SourceState)
    (log among_log log' : Option History) (out among out' : SinkState) (piece : List ℕ)
    (x : ReadSoFar setup batch outcome h count s m room room1 old mid log among_log out among)
    (took : TookOn h.framer.fed (h.framer.fed ++ piece) piece count' old new) where
  -- what was heard with the piece
  heard_with : (calls : List LaneCall) (ending : Option Ending) → FeedsOn h h' piece calls ending → HeardSoFar setup pipe_conn h'.framer.fed (h.calls ++ calls) ending
  heard_with calls ending feeds =
      subst (λ (cs : List LaneCall). HeardSoFar setup pipe_conn h'.framer.fed cs ending) feeds.calls_are
      (heard_here setup pipe_conn h' h'.framer.fed h'.calls ending (feeds.same_setup ∙ x.setup_is) (feeds.same_conn ∙ x.conn_is) feeds.heard)

  ran_with : (calls : List LaneCall) (ending : Option Ending) (end : ReadEnd) → FeedsOn h h' piece calls ending → Fed batch outcome m s' room1 room2 calls [] among_log log' among out'
      → end ≡ read_end ending (length h'.framer.fed) false (stream MAX_MESSAGE h'.framer.fed).rest
      → RanReads setup batch outcome s s' room room2 h.framer.fed h'.framer.fed false end log log' out out'
  ran_with calls ending end feeds fed is =
      let both = fed_both batch outcome s m room room1 h.calls calls log among_log out among x.fed s' room2 log' out' fed in
      record {
        calls = h.calls ++ calls;
        heard = record { ending = ending; heard = heard_with calls ending feeds; comes = is };
        fed = both.0;
        before = went_on setup batch outcome h count s m room room1 old mid log among_log out among x fed.entries both.0.entries both.1;
      }

  came_with : (reading : Reading) → RunsPiece {E = ⊥} (Ok (Some reading)) batch outcome h h' piece m s' room1 room2 among_log log' among out'
      → (fed : h'.framer.fed ≡ h.framer.fed ++ piece)
      × ReadsBytes (Ok reading) setup batch outcome s s' room room2 h.framer.fed h'.framer.fed false old new log log' out out'
  came_with (Over (read.Ended e)) ran = (
    ran.0.feeds.fed_is,
    (
      ran_with ran.0.calls (Some e) (read.Ended e) ran.0.feeds ran.0.fed refl,
      ran.1,
      (took.reads, ran.0.fed.faults ∙ x.fed.faults),
    ),
  )
  came_with (Over read.Spent) ran = absurd ran
  came_with (Over read.ReadFault) ran = absurd ran
  came_with Closing ran =
      let end : ReadEnd = read_end ran.0.0 (length h'.framer.fed) false (stream MAX_MESSAGE h'.framer.fed).rest in (
        ran.0.1.feeds.fed_is,
        (
          (end, ran_with ran.0.1.calls ran.0.0 end ran.0.1.feeds ran.0.1.fed refl),
          ran.1,
          (took.reads, ran.0.1.fed.faults ∙ x.fed.faults),
        ),
      )
  came_with Stopped ran =
      let both = stopped_both batch outcome s m room room1 h.calls ran.calls log among_log out among x.fed log' out' ran.stopped in
      let end : ReadEnd = read_end ran.ending (length h'.framer.fed) false (stream MAX_MESSAGE h'.framer.fed).rest in (
        ran.feeds.fed_is,
        (
          record {
            calls = h.calls ++ ran.calls;
            end = end;
            heard = record { ending = ran.ending; heard = heard_with ran.calls ran.ending ran.feeds; comes = refl };
            stopped = both.0;
            before = went_on setup batch outcome h count s m room room1 old mid log among_log out among x ran.stopped.entries both.0.entries both.1;
          },
          refl,
          (took.reads, rose_later out.faults among.faults out'.faults x.fed.faults ran.rose),
        ),
      )

  pub stops_with : (reading : Reading) → RunsPiece {E = ⊥} (Ok (Some reading)) batch outcome h h' piece m s' room1 room2 among_log log' among out'
      → ReadsStream (Ok reading) setup batch outcome s s' room room2 old new log log' out out'
  stops_with reading ran =
      let came = came_with reading ran in
      record {
        bytes = h'.framer.fed;
        earlier = h.framer.fed;
        ended = false;
        takes = takes_on h.framer.fed piece h'.framer.fed count' old new came.0 took;
        came = came.1;
      }

  -- ---- memory was wanting

  wants_here : (end : ReadEnd) → end ≡ read_end None (length h.framer.fed) false (stream MAX_MESSAGE h.framer.fed).rest → out' ≡ among
      → BegunReads setup batch outcome s room (h.framer.fed ++ piece) out out'
  wants_here end is same = record {
    some = h.framer.fed;
    others = piece;
    parts = refl;
    calls = h.calls;
    end = end;
    heard = record { ending = None; heard = heard_here setup pipe_conn h h.framer.fed h.calls None x.setup_is x.conn_is x.going.heard; comes = is };
    began = subst (λ (o : SinkState). BeganWriting (feeding batch room h.calls) outcome s out o) (sym same)
        (fed_want_here batch outcome s m room room1 h.calls [] log among_log out among x.fed);
  }

  pub wants_with : {E : Type 0} (e : E) (f : NoMemory) → RunsPiece {E = E} (Err e) batch outcome h h' piece m s' room1 room2 among_log log' among out'
      → ReadsStream (Err f) setup batch outcome s s' room room2 old new log log' out out'
  wants_with e f ran = record {
    bytes = h.framer.fed ++ piece;
    earlier = h.framer.fed;
    ended = false;
    takes = takes_on h.framer.fed piece (h.framer.fed ++ piece) count' old new refl took;
    came = (
      elim ran [
        | inl same ↦ inr (wants_here (read_end None (length h.framer.fed) false (stream MAX_MESSAGE h.framer.fed).rest) refl same)
        | inr begun ↦ inr (record {
          some = h'.framer.fed;
          others = [];
          parts = sym (append-nil h'.framer.fed ∙ begun.feeds.fed_is);
          calls = h.calls ++ begun.calls;
          end = read_end begun.ending (length h'.framer.fed) false (stream MAX_MESSAGE h'.framer.fed).rest;
          heard = record { ending = begun.ending; heard = heard_with begun.calls begun.ending begun.feeds; comes = refl };
          began = began_both batch outcome s m room room1 h.calls begun.calls log among_log out among x.fed out' begun.began;
        })
      ],
      took.reads,
    );
  }

-- ---- it stops without a piece

module _ (setup : SetupData) (batch : ℕ) (outcome : Servant) (h : Hearer) (count : ℕ) (s s' : State) (room room' : ℕ) (old mid new : SourceState)
    (log log' : Option History) (out out' : SinkState)
    (x : ReadSoFar setup batch outcome h count s s' room room' old mid log log' out out') where
  ran_so_far : (ended : Bool) (end : ReadEnd) → end ≡ read_end None (length h.framer.fed) ended (stream MAX_MESSAGE h.framer.fed).rest
      → RanReads setup batch outcome s s' room room' h.framer.fed h.framer.fed ended end log log' out out'
  ran_so_far ended end is = record {
    calls = h.calls;
    heard = record { ending = None; heard = heard_here setup pipe_conn h h.framer.fed h.calls None x.setup_is x.conn_is x.going.heard; comes = is };
    fed = x.fed;
    before = went_on setup batch outcome h count s s' room room' old mid log log' out out' x [] x.fed.entries (sym (append-nil x.fed.entries));
  }

  pub stops_at_end : (ending : Ending) → count < MAX_TAKEN → ending ≡ at_end None (stream MAX_MESSAGE h.framer.fed).rest → new.left ≡ mid.left → new.taken ≡ mid.taken
      → IfSome mid.left (λ rest. rest ≡ []) → Rose mid.ends new.ends → new.faults ≡ mid.faults
      → ReadsStream (Ok (Over (read.Ended ending))) setup batch outcome s s' room room' old new log log' out out'
  stops_at_end ending few is left taken none rose reads = record {
    bytes = h.framer.fed;
    earlier = h.framer.fed;
    ended = true;
    takes = takes_no_more h.framer.fed old mid new x.few x.gave true left taken (
      rose_later old.ends mid.ends new.ends x.no_end rose,
      subst (λ (o : Told). IfSome o (λ rest. rest ≡ [])) (sym left) none,
    );
    came = (
      ran_so_far true (read.Ended ending) (comes_at_end h.framer.fed ending (omega (arith, x.count_is, few)) is),
      x.unmet,
      (reads ∙ x.reads, x.fed.faults),
    );
  }

  pub stops_at_fault : count < MAX_TAKEN → new.left ≡ mid.left → new.taken ≡ mid.taken → new.ends ≡ mid.ends → Rose mid.faults new.faults
      → ReadsStream (Ok (Over read.ReadFault)) setup batch outcome s s' room room' old new log log' out out'
  stops_at_fault few left taken ends rose = record {
    bytes = h.framer.fed;
    earlier = h.framer.fed;
    ended = false;
    takes = takes_no_more h.framer.fed old mid new x.few x.gave false left taken (ends ∙ x.no_end);
    came = (
      ran_so_far false read.ReadFault (comes_at_fault h.framer.fed (omega (arith, x.count_is, few))),
      x.unmet,
      (rose_later old.faults mid.faults new.faults x.reads rose, x.fed.faults),
    );
  }

  pub stops_full : MAX_TAKEN ≤ count → new ≡ mid
      → ReadsStream (Ok (Over read.Spent)) setup batch outcome s s' room room' old new log log' out out'
  stops_full many same = record {
    bytes = h.framer.fed;
    earlier = h.framer.fed;
    ended = false;
    takes = takes_no_more h.framer.fed old mid new x.few x.gave false (ap (λ (z : SourceState). z.left) same) (ap (λ (z : SourceState). z.taken) same) (ap (λ (z : SourceState). z.ends) same ∙ x.no_end);
    came = (
      ran_so_far false read.Spent (comes_full h.framer.fed x.few (omega (arith, x.count_is, many))),
      x.unmet,
      (ap (λ (z : SourceState). z.faults) same ∙ x.reads, x.fed.faults),
    );
  }

-- memory was wanting before the first read
pub wants_first : (e : NoMemory) (setup : SetupData) (batch : ℕ) (outcome : Servant) (s s' : State) (room room' : ℕ) (old : SourceState) (log log' : Option History) (out out' : SinkState)
    → out' ≡ out → ReadsStream (Err e) setup batch outcome s s' room room' old old log log' out out'
wants_first e setup batch outcome s s' room room' old log log' out out' same = record {
  bytes = [];
  earlier = [];
  ended = false;
  takes = takes_nothing old;
  came = (inl same, refl);
}
