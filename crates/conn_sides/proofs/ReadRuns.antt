-- All reads of a connection, from the first one to the one with which the reading side comes out.
use Rattle.std.proofs.Common.{◌≡◌, ℕ, ◌+◌, ◌≤◌, ◌<◌, Bool, true, false, List, [], ◌∷◌, ◌++◌, length, Option, Some, None, refl, sym, ap, ◌∙◌, subst, arith, append_assoc, append-nil}
use Rattle.std.specs.Prelude.{IfSome}
use Rattle.turn_cell.specs.Seats.{CellView}
use Rattle.orb_base.specs.Outside.{Told, SourceState, Rose}
use Rattle.orb_base.specs.declared.conn_id.ConnId.{ConnId}
use Rattle.orb_base.specs.declared.limits.TheConstants.{MAX_MESSAGE}
use Rattle.giop_frames.specs.Stream.{stream}
use Rattle.lane_machine.specs.Histories.{History}
use Rattle.lane_machine.specs.State.{State}
use Rattle.lane_machine.specs.declared.call.LaneCall.{LaneCall}
use Rattle.text_streams.specs.Streams.{Gave}
use Rattle.text_streams.proofs.CallerLemmas.{gave_start}
use Rattle.adapter_policies.specs.SetupData.{SetupData}
use Rattle.lane_driver.proofs.Items.{rose_later}
use Rattle.heard_calls.specs.Input.{at_end}
use Rattle.heard_calls.specs.declared.ending.Ending.{Ending}
use Rattle.conn_engine.specs.HeardSoFar.{HeardSoFar}
use Rattle.conn_engine.specs.Hearers.{Hearer, IsGoing, IsNew, FeedsOn}
use Rattle.conn_engine.specs.Ends.{read_end}
use Rattle.conn_engine.specs.Reads.{Takes}
use Rattle.conn_engine.specs.declared.read_end.ReadEnd.{ReadEnd}
use Rattle.conn_engine.specs.declared.read_end.ReadEnd.TheVariants as read
use Rattle.conn_engine.specs.declared.read_end.TheConstants.{MAX_TAKEN}
use Rattle.conn_engine.proofs.Feeds.{new_hearing}
use Rattle.conn_engine.proofs.Taken.{heard_here, TookOn, takes_on, takes_no_more, takes_nothing, comes_at_end, comes_at_fault, comes_full}
use Rattle.lane_pool.specs.Pass.{Pass, conn_of}
use Rattle.lane_pool.specs.Turns.{Reads, Listens, heard_by}
use Rattle.conn_sides.specs.Entering.{calls_of, Entered}
use Rattle.conn_sides.specs.ReadSides.{MadeAll, MadeUpToClosing, WentOnBehind, HearsBy, HearsReads}
use Rattle.conn_sides.specs.Pieces.{MadePiece, ClosedPiece, HearsPiece}
use Rattle.conn_sides.specs.declared.read_side_end.ReadSideEnd.{ReadSideEnd}
use Rattle.conn_sides.specs.declared.read_side_end.ReadSideEnd.TheVariants as side
use Rattle.conn_sides.proofs.Entering.{entered_none, entered_then, same_conn_of, calls_both, closing_both}

-- the reading goes on: what was taken was heard, and its calls were made, of which none was answered Closing
pub record ReadSoFar (cell : CellView State) (setup : SetupData) (h : Hearer) (count : ℕ) (old new : Pass) (from to : SourceState) : Type 0 where
  pub going : IsGoing h
  pub setup_is : h.setup ≡ setup
  pub conn_is : h.conn ≡ conn_of old
  pub gave : Gave h.framer.fed from to
  pub count_is : count ≡ length h.framer.fed
  pub few : length h.framer.fed ≤ MAX_TAKEN
  pub entries : History
  pub made : MadeAll h.calls entries
  pub entered : Entered cell entries old new
  pub listens : Listens cell new
  pub heard : heard_by new ≡ h.made
  pub reads : to.faults ≡ from.faults
  pub no_end : to.ends ≡ from.ends

none_made : MadeAll [] []
none_made = record { calls_are = refl; is_open = refl }

pub read_start : (cell : CellView State) (setup : SetupData) (h : Hearer) (a : Pass) (from : SourceState) → IsNew setup (conn_of a) h → Listens cell a → heard_by a ≡ 0
    → ReadSoFar cell setup h 0 a a from from
read_start cell setup h a from new listens unheard = record {
  going = new.going;
  setup_is = new.setup_is;
  conn_is = new.conn_is;
  gave = subst (λ (b : List ℕ). Gave b from from) (sym new.none_fed) (gave_start from);
  count_is = sym (ap length new.none_fed);
  few = omega (arith, ap length new.none_fed);
  entries = [];
  made = subst (λ (cs : List LaneCall). MadeAll cs []) (sym new.none_given) none_made;
  entered = entered_none cell a listens.reads.serves.in_cell;
  listens = listens;
  heard = omega (arith, unheard, new.going.made_is, ap length new.none_given);
  reads = refl;
  no_end = refl;
}

-- the connection that is heard is the pass's
pub conn_now : (cell : CellView State) (setup : SetupData) (h : Hearer) (count : ℕ) (old new : Pass) (from to : SourceState) → ReadSoFar cell setup h count old new from to → h.conn ≡ conn_of new
conn_now cell setup h count old new from to x = x.conn_is ∙ sym (same_conn_of cell x.entries old new x.entered)

-- calls of one read more
made_both : (xs ys : List LaneCall) (a b : History) → MadeAll xs a → MadeAll ys b → MadeAll (xs ++ ys) (a ++ b)
made_both xs ys a b x y = record {
  calls_are = calls_both a b ∙ (λ i. x.calls_are i ++ y.calls_are i);
  is_open = closing_both a b x.is_open y.is_open;
}

closed_both : (xs ys : List LaneCall) (a b : History) → MadeAll xs a → MadeUpToClosing ys b → MadeUpToClosing (xs ++ ys) (a ++ b)
closed_both xs ys a b x y = record {
  before = a ++ y.before;
  last = y.last;
  rest = y.rest;
  ends = ap (λ (h : History). a ++ h) y.ends ∙ sym (append_assoc a y.before (y.last ∷ []));
  parts = (λ i. sym x.calls_are i ++ y.parts i) ∙ sym (append_assoc (calls_of a) (calls_of b) y.rest) ∙ ap (λ (cs : List LaneCall). cs ++ y.rest) (sym (calls_both a b));
  is_open = closing_both a y.before x.is_open y.is_open;
  closes = y.closes;
}

-- ---- the reading goes on behind a piece

pub read_more : (cell : CellView State) (setup : SetupData) (h h' : Hearer) (count count' : ℕ) (old now new : Pass) (from mid to : SourceState) (piece : List ℕ)
    → ReadSoFar cell setup h count old now from mid → TookOn h.framer.fed (h.framer.fed ++ piece) piece count' from to
    → HearsPiece None cell h h' piece now new → ReadSoFar cell setup h' count' old new from to
read_more cell setup h h' count count' old now new from mid to piece x took went =
    let one = went.0 in
    let fed : h'.framer.fed ≡ h.framer.fed ++ piece = one.feeds.fed_is in
    record {
      going = one.feeds.goes_on refl;
      setup_is = one.feeds.same_setup ∙ x.setup_is;
      conn_is = one.feeds.same_conn ∙ x.conn_is;
      gave = subst (λ (b : List ℕ). Gave b from to) (sym fed) took.gave;
      count_is = took.count_is ∙ sym (ap length fed);
      few = omega (arith, took.few, ap length fed);
      entries = x.entries ++ one.entries;
      made = subst (λ (cs : List LaneCall). MadeAll cs (x.entries ++ one.entries)) (sym one.feeds.calls_are) (made_both h.calls one.calls x.entries one.entries x.made one.made);
      entered = entered_then cell x.entries one.entries old now new x.entered one.entered;
      listens = went.1;
      heard = went.2;
      reads = took.reads;
      no_end = took.no_end;
    }

-- ---- the earlier reads

-- it was right to read on, with these entries after
went_on : (cell : CellView State) (setup : SetupData) (h : Hearer) (count : ℕ) (old now : Pass) (from mid : SourceState) (x : ReadSoFar cell setup h count old now from mid)
    (later all : History) → all ≡ x.entries ++ later → WentOnBehind setup (conn_of old) h.framer.fed all
went_on cell setup h count old now from mid x later all is = record {
  calls = h.calls;
  heard = heard_here setup (conn_of old) h h.framer.fed h.calls None x.setup_is x.conn_is x.going.heard;
  first = x.entries;
  later = later;
  parts = is;
  made = x.made;
}

-- ---- it stops with a piece

module _ (cell : CellView State) (setup : SetupData) (h h' : Hearer) (count count' : ℕ) (old now new : Pass) (from mid to : SourceState) (piece : List ℕ)
    (x : ReadSoFar cell setup h count old now from mid) (took : TookOn h.framer.fed (h.framer.fed ++ piece) piece count' from to) where
  -- what was heard with the piece
  heard_with : (calls : List LaneCall) (ending : Option Ending) → FeedsOn h h' piece calls ending → HeardSoFar setup (conn_of old) h'.framer.fed (h.calls ++ calls) ending
  heard_with calls ending feeds =
      subst (λ (cs : List LaneCall). HeardSoFar setup (conn_of old) h'.framer.fed cs ending) feeds.calls_are
      (heard_here setup (conn_of old) h' h'.framer.fed h'.calls ending (feeds.same_setup ∙ x.setup_is) (feeds.same_conn ∙ x.conn_is) feeds.heard)

  pub ended_with : (ending : Ending) → MadePiece cell h h' piece (Some ending) now new → HearsReads cell setup (side.Read (read.Ended ending)) old new from to
  ended_with ending one = record {
    bytes = h'.framer.fed;
    earlier = h.framer.fed;
    ended = false;
    takes = takes_on h.framer.fed piece h'.framer.fed count' from to one.feeds.fed_is took;
    entries = x.entries ++ one.entries;
    hears = (
      record {
        calls = h.calls ++ one.calls;
        heard = record { ending = Some ending; heard = heard_with one.calls (Some ending) one.feeds; comes = refl };
        made = made_both h.calls one.calls x.entries one.entries x.made one.made;
      },
      took.reads,
    );
    before = went_on cell setup h count old now from mid x one.entries (x.entries ++ one.entries) refl;
    entered = entered_then cell x.entries one.entries old now new x.entered one.entered;
  }

  pub closed_with : ClosedPiece cell h h' piece now new → HearsReads cell setup side.RunClosed old new from to
  closed_with one = record {
    bytes = h'.framer.fed;
    earlier = h.framer.fed;
    ended = false;
    takes = takes_on h.framer.fed piece h'.framer.fed count' from to one.feeds.fed_is took;
    entries = x.entries ++ one.entries;
    hears = (
      record {
        calls = h.calls ++ one.calls;
        ending = one.ending;
        heard = heard_with one.calls one.ending one.feeds;
        made = closed_both h.calls one.calls x.entries one.entries x.made one.made;
      },
      refl,
      took.reads,
    );
    before = went_on cell setup h count old now from mid x one.entries (x.entries ++ one.entries) refl;
    entered = entered_then cell x.entries one.entries old now new x.entered one.entered;
  }

  pub wants_with : new ≡ now → HearsReads cell setup side.NoMemory old new from to
  wants_with same = record {
    bytes = h.framer.fed ++ piece;
    earlier = h.framer.fed;
    ended = false;
    takes = takes_on h.framer.fed piece (h.framer.fed ++ piece) count' from to refl took;
    entries = x.entries;
    hears = (
      record {
        calls = h.calls;
        heard = heard_here setup (conn_of old) h h.framer.fed h.calls None x.setup_is x.conn_is x.going.heard;
        made = x.made;
      },
      refl,
      took.reads,
    );
    before = went_on cell setup h count old now from mid x [] x.entries (sym (append-nil x.entries));
    entered = subst (Entered cell x.entries old) (sym same) x.entered;
  }

  pub stops_with : (end : ReadSideEnd) → HearsPiece (Some end) cell h h' piece now new → HearsReads cell setup end old new from to
  stops_with (side.Read (read.Ended ending)) went = ended_with ending went.0
  stops_with (side.Read read.Spent) went = absurd went
  stops_with (side.Read read.ReadFault) went = absurd went
  stops_with side.RunClosed went = closed_with went.0
  stops_with side.NoMemory went = wants_with went

-- the pass may end its connection
pub reads_with : (cell : CellView State) (h h' : Hearer) (piece : List ℕ) (now new : Pass) (end : ReadSideEnd) → Listens cell now → HearsPiece (Some end) cell h h' piece now new → Reads cell new
reads_with cell h h' piece now new (side.Read (read.Ended ending)) listens went = went.1
reads_with cell h h' piece now new (side.Read read.Spent) listens went = absurd went
reads_with cell h h' piece now new (side.Read read.ReadFault) listens went = absurd went
reads_with cell h h' piece now new side.RunClosed listens went = went.1
reads_with cell h h' piece now new side.NoMemory listens went = subst (Reads cell) (sym went) listens.reads

-- ---- it stops without a piece

module _ (cell : CellView State) (setup : SetupData) (h : Hearer) (count : ℕ) (old now : Pass) (from mid to : SourceState) (x : ReadSoFar cell setup h count old now from mid) where
  pub stops_so : (ended : Bool) (end : ReadEnd) → end ≡ read_end None (length h.framer.fed) ended (stream MAX_MESSAGE h.framer.fed).rest
      → Takes from to h.framer.fed h.framer.fed ended → HearsBy (side.Read end) setup (conn_of old) h.framer.fed h.framer.fed ended x.entries from to
      → HearsReads cell setup (side.Read end) old now from to
  stops_so ended end is takes hears = record {
    bytes = h.framer.fed;
    earlier = h.framer.fed;
    ended = ended;
    takes = takes;
    entries = x.entries;
    hears = hears;
    before = went_on cell setup h count old now from mid x [] x.entries (sym (append-nil x.entries));
    entered = x.entered;
  }

  pub stops_at_end : (ending : Ending) → count < MAX_TAKEN → ending ≡ at_end None (stream MAX_MESSAGE h.framer.fed).rest → to.left ≡ mid.left → to.taken ≡ mid.taken
      → IfSome mid.left (λ rest. rest ≡ []) → Rose mid.ends to.ends → to.faults ≡ mid.faults → HearsReads cell setup (side.Read (read.Ended ending)) old now from to
  stops_at_end ending few is left taken none rose reads =
      let comes = comes_at_end h.framer.fed ending (omega (arith, x.count_is, few)) is in
      stops_so true (read.Ended ending) comes
      (takes_no_more h.framer.fed from mid to x.few x.gave true left taken (
        rose_later from.ends mid.ends to.ends x.no_end rose,
        subst (λ (o : Told). IfSome o (λ rest. rest ≡ [])) (sym left) none,
      )) (
        record {
          calls = h.calls;
          heard = record { ending = None; heard = heard_here setup (conn_of old) h h.framer.fed h.calls None x.setup_is x.conn_is x.going.heard; comes = comes };
          made = x.made;
        },
        reads ∙ x.reads,
      )

  pub stops_at_fault : count < MAX_TAKEN → to.left ≡ mid.left → to.taken ≡ mid.taken → to.ends ≡ mid.ends → Rose mid.faults to.faults
      → HearsReads cell setup (side.Read read.ReadFault) old now from to
  stops_at_fault few left taken ends rose =
      let comes = comes_at_fault h.framer.fed (omega (arith, x.count_is, few)) in
      stops_so false read.ReadFault comes (takes_no_more h.framer.fed from mid to x.few x.gave false left taken (ends ∙ x.no_end)) (
        record {
          calls = h.calls;
          heard = record { ending = None; heard = heard_here setup (conn_of old) h h.framer.fed h.calls None x.setup_is x.conn_is x.going.heard; comes = comes };
          made = x.made;
        },
        rose_later from.faults mid.faults to.faults x.reads rose,
      )

  pub stops_full : MAX_TAKEN ≤ count → to ≡ mid → HearsReads cell setup (side.Read read.Spent) old now from to
  stops_full many same =
      let comes = comes_full h.framer.fed x.few (omega (arith, x.count_is, many)) in
      stops_so false read.Spent comes
      (takes_no_more h.framer.fed from mid to x.few x.gave false (ap (λ (z : SourceState). z.left) same) (ap (λ (z : SourceState). z.taken) same) (ap (λ (z : SourceState). z.ends) same ∙ x.no_end)) (
        record {
          calls = h.calls;
          heard = record { ending = None; heard = heard_here setup (conn_of old) h h.framer.fed h.calls None x.setup_is x.conn_is x.going.heard; comes = comes };
          made = x.made;
        },
        ap (λ (z : SourceState). z.faults) same ∙ x.reads,
      )

-- no bytes mean no calls
heard_nothing : (setup : SetupData) (conn : ConnId) → HeardSoFar setup conn [] [] None
heard_nothing setup conn =
    let h : Hearer = record { setup = setup; conn = conn; framer = record { limit = MAX_MESSAGE; fed = []; lacked = false; kept = 0 }; band = None; made = 0; calls = [] } in
    (new_hearing h refl refl refl refl).going.heard

-- memory was wanting before the first read
pub wants_first : (cell : CellView State) (setup : SetupData) (a : Pass) (from : SourceState) → Listens cell a → HearsReads cell setup side.NoMemory a a from from
wants_first cell setup a from listens = record {
  bytes = [];
  earlier = [];
  ended = false;
  takes = takes_nothing from;
  entries = [];
  hears = (record { calls = []; heard = heard_nothing setup (conn_of a); made = none_made }, refl, refl);
  before = record { calls = []; heard = heard_nothing setup (conn_of a); first = []; later = []; parts = refl; made = none_made };
  entered = entered_none cell a listens.reads.serves.in_cell;
}
