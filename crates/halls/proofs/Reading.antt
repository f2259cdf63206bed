-- All reads of a connection, from the first one to the one with which the reading comes out.
use Rattle.std.proofs.Common.{◌≡◌, ℕ, ◌+◌, ◌≤◌, ◌<◌, Bool, true, false, List, [], ◌++◌, length, take, Option, Some, None, refl, sym, ap, ◌∙◌, subst, arith, append-nil, length-append, length-take}
use Rattle.std.specs.Prelude.{◌==◌, if◌then◌else◌, option_map, IfSome}
use Rattle.std.proofs.lemmas.Bool.Decides.{nat_tests}
use Rattle.std.proofs.lemmas.List.{take-append-le}
use Rattle.orb_base.specs.Outside.{SourceState, Rose}
use Rattle.orb_base.specs.declared.conn_id.ConnId.{ConnId}
use Rattle.orb_base.specs.declared.limits.TheConstants.{MAX_MESSAGE}
use Rattle.giop_frames.specs.Stream.{stream}
use Rattle.heard_messages.specs.Hearers.{IsGoing, IsNew, FeedsOn}
use Rattle.heard_messages.specs.Hearing.{HeardBy}
use Rattle.heard_messages.specs.ReadEnds.{input_end, read_end, IsByBytes}
use Rattle.heard_messages.specs.declared.read_end.ReadEnd.{ReadEnd}
use Rattle.heard_messages.specs.declared.read_end.ReadEnd.TheVariants.{Ended, Cut, Broken, Spent, ReadFault}
use Rattle.heard_messages.specs.declared.read_end.TheConstants.{MAX_TAKEN, READ_LEN}
use Rattle.heard_messages.proofs.Feeds.{new_hearing}
use Rattle.heard_messages.proofs.Growth.{bytes_end}
use Rattle.text_streams.specs.Streams.{Gave, MeetsEnd}
use Rattle.text_streams.proofs.CallerLemmas.{gave_start, gave_step, gave_same, end_met}
use Rattle.adapter_policies.specs.SetupData.{SetupData}
use Rattle.halls.specs.Meaning as Meaning
use Rattle.halls.specs.Calls.{Takes}
use Rattle.halls.specs.Pieces.{first, means, Heard, FeedsAndTakes, TakesPiece}
use Rattle.halls.specs.Sides.{HeardInHall, TakesBytes, FaultsBy, WentOn, Reads}
use Rattle.halls.specs.Steps.{Step, Making, MakesAll}
use Rattle.halls.specs.declared.call.HallCall.{HallCall}
use Rattle.halls.specs.declared.ends.HallRead.{HallRead}
use Rattle.halls.specs.declared.ends.HallRead.TheVariants as read
use Rattle.halls.specs.declared.ends.Took.{Took}
use Rattle.halls.specs.declared.ends.Took.TheVariants as took
use Rattle.halls.proofs.Steps.{makes_none, takes_none, calls_more, made_more}

-- ---- a read gives bytes

-- after `fed` a read gave the piece, and the count of bytes is theirs
pub record TookOn (fed piece : List ℕ) (count : ℕ) (from to : SourceState) : Type 0 where
  pub one_read : length piece ≤ READ_LEN
  pub gave : Gave (fed ++ piece) from to
  pub count_is : count ≡ length (fed ++ piece)
  pub few : length (fed ++ piece) ≤ MAX_TAKEN
  pub reads : to.faults ≡ from.faults
  pub no_end : to.ends ≡ from.ends

pub took_piece : (fed : List ℕ) (count n : ℕ) (from mid to : SourceState) (into behind piece : List ℕ)
    → Gave fed from mid → count ≡ length fed → mid.faults ≡ from.faults → mid.ends ≡ from.ends → n ≤ length into → n ≤ READ_LEN → n + count ≤ MAX_TAKEN
    → mid.left ≡ option_map (λ rest. take n into ++ rest) to.left → to.taken ≡ option_map (λ seen. seen ++ take n into) mid.taken
    → piece ≡ take n (into ++ behind) → to.faults ≡ mid.faults → to.ends ≡ mid.ends
    → TookOn fed piece (count + n) from to
took_piece fed count n from mid to into behind piece gave count_is no_fault no_end within short few left taken is reads ends =
    let its : piece ≡ take n into = is ∙ take-append-le n into behind within in
    let long : length piece ≡ n = ap length its ∙ length-take n into ∙ omega arith in
    let len : length (fed ++ piece) ≡ length fed + n = length-append fed piece ∙ ap (λ (k : ℕ). length fed + k) long in
    record {
      one_read = omega (arith, long, short);
      gave = gave_step fed into behind (fed ++ piece) n from mid to gave within left taken (ap (λ (p : List ℕ). fed ++ p) is);
      count_is = omega (arith, count_is, len);
      few = omega (arith, count_is, len);
      reads = reads ∙ no_fault;
      no_end = ends ∙ no_end;
    }

takes_on : (fed piece bytes : List ℕ) (count : ℕ) (from to : SourceState) → bytes ≡ fed ++ piece → TookOn fed piece count from to → TakesBytes from to fed bytes false
takes_on fed piece bytes count from to is got = record {
  last = piece;
  parts = is;
  one_read = got.one_read;
  few = omega (arith, ap length is, got.few);
  gave = subst (λ (b : List ℕ). Gave b from to) (sym is) got.gave;
  met = got.no_end;
}

-- ---- none is taken any more

takes_no_more : (fed : List ℕ) (from mid to : SourceState) → length fed ≤ MAX_TAKEN → Gave fed from mid → (ended : Bool) → to.left ≡ mid.left → to.taken ≡ mid.taken → MeetsEnd ended from to
    → TakesBytes from to fed fed ended
takes_no_more fed from mid to few gave ended left taken met = record {
  last = [];
  parts = sym (append-nil fed);
  one_read = omega arith;
  few = few;
  gave = gave_same fed from mid to gave left taken;
  met = met;
}

-- nothing was read
takes_nothing : (from : SourceState) → TakesBytes from from [] [] false
takes_nothing from = record { last = []; parts = refl; one_read = omega arith; few = omega arith; gave = gave_start from; met = refl }

not_full : (n : ℕ) → n < MAX_TAKEN → (n == MAX_TAKEN) ≡ false
not_full n h = grind (arith, nat_tests)

is_full : (n : ℕ) → n ≤ MAX_TAKEN → MAX_TAKEN ≤ n → (n == MAX_TAKEN) ≡ true
is_full n h k = grind (arith, nat_tests)

-- how the reading ends: at the end of the input,
comes_at_end : (fed : List ℕ) (end : ReadEnd) → length fed < MAX_TAKEN → end ≡ input_end (stream MAX_MESSAGE fed).rest
    → end ≡ read_end None (length fed) true (stream MAX_MESSAGE fed).rest
comes_at_end fed end less is = is ∙ sym (ap (λ (b : Bool). if b then Spent else input_end (stream MAX_MESSAGE fed).rest) (not_full (length fed) less))

-- at a read that fails,
comes_at_fault : (fed : List ℕ) → length fed < MAX_TAKEN → ReadFault ≡ read_end None (length fed) false (stream MAX_MESSAGE fed).rest
comes_at_fault fed less = sym (ap (λ (b : Bool). if b then Spent else ReadFault) (not_full (length fed) less))

-- and where no more bytes may be taken
comes_full : (fed : List ℕ) → length fed ≤ MAX_TAKEN → MAX_TAKEN ≤ length fed → Spent ≡ read_end None (length fed) false (stream MAX_MESSAGE fed).rest
comes_full fed few many = sym (ap (λ (b : Bool). if b then Spent else ReadFault) (is_full (length fed) few many))

-- bytes that end the reading are no fault of a read, and neither is the end of the input
by_bytes : (end : ReadEnd) (from to : SourceState) → IsByBytes end → to.faults ≡ from.faults → FaultsBy (read.Read end) from to
by_bytes Ended from to b same = same
by_bytes (Cut offset) from to b same = absurd b
by_bytes (Broken offset fault) from to b same = same
by_bytes Spent from to b same = absurd b
by_bytes ReadFault from to b same = absurd b

by_input_end : (rest : Option ℕ) (from to : SourceState) → to.faults ≡ from.faults → FaultsBy (read.Read (input_end rest)) from to
by_input_end (Some offset) from to same = same
by_input_end None from to same = same

rose_later : (before mid after : ℕ) → mid ≡ before → Rose mid after → Rose before after
rose_later before mid after same rose = subst (λ (n : ℕ). Rose n after) same rose

-- ---- so far

-- what was heard, as that of this connection of this setup
heard_here : (setup : SetupData) (conn : ConnId) (judge : Meaning.Hearer) (bytes : List ℕ) (calls : List HallCall) (ending : Option ReadEnd) → judge.setup ≡ setup → judge.conn ≡ conn
    → HeardBy (means judge) tt bytes calls ending → HeardInHall setup conn bytes calls ending
heard_here setup conn judge bytes calls ending setup_is conn_is heard =
    subst (λ (c : ConnId). HeardInHall setup c bytes calls ending) conn_is (subst (λ (x : SetupData). HeardInHall x judge.conn bytes calls ending) setup_is heard)

-- some bytes were read, which ended nothing, and all that they mean was made
pub record ReadSoFar (setup : SetupData) (conn : ConnId) (h : Heard) (count : ℕ) (from to : SourceState) (old now : Making) : Type 0 where
  pub going : IsGoing first means h
  pub setup_is : h.judge.setup ≡ setup
  pub conn_is : h.judge.conn ≡ conn
  pub gave : Gave h.framer.fed from to
  pub count_is : count ≡ length h.framer.fed
  pub few : length h.framer.fed ≤ MAX_TAKEN
  pub takes : Takes took.All h.calls old now
  pub reads : to.faults ≡ from.faults
  pub no_end : to.ends ≡ from.ends

pub read_start : (h : Heard) (from : SourceState) (m : Making) → IsNew first means h.judge h → ReadSoFar h.judge.setup h.judge.conn h 0 from from m m
read_start h from m new = record {
  going = new.going;
  setup_is = refl;
  conn_is = refl;
  gave = subst (λ (b : List ℕ). Gave b from from) (sym new.none_fed) (gave_start from);
  count_is = sym (ap length new.none_fed);
  few = omega (arith, ap length new.none_fed);
  takes = subst (λ (cs : List HallCall). Takes took.All cs m m) (sym new.none_given) (takes_none m);
  reads = refl;
  no_end = refl;
}

-- calls of a piece after those of the bytes before it
abbrev both_taken : (r : Took) (xs ys : List HallCall) (old now new : Making) → (x : Takes took.All xs old now) → (y : Takes r ys now new) → Takes r (xs ++ ys) old new
both_taken r xs ys old now new x y = record {
  steps = x.steps ++ y.steps;
  calls_by = calls_more r xs ys x.steps y.steps new.hand x.calls_by y.calls_by;
  made = made_more r x.steps y.steps old now new x.made y.made;
}

pub read_more : (setup : SetupData) (conn : ConnId) (h h' : Heard) (count count' : ℕ) (from mid to : SourceState) (old now new : Making) (piece : List ℕ)
    → ReadSoFar setup conn h count from mid old now → TookOn h.framer.fed piece count' from to → TakesPiece None h h' piece now new
    → ReadSoFar setup conn h' count' from to old new
read_more setup conn h h' count count' from mid to old now new piece x got one =
    let fed : h'.framer.fed ≡ h.framer.fed ++ piece = one.feeds.fed_is in
    record {
      going = one.feeds.goes_on refl;
      setup_is = ap (λ (j : Meaning.Hearer). j.setup) one.feeds.same_judge ∙ x.setup_is;
      conn_is = ap (λ (j : Meaning.Hearer). j.conn) one.feeds.same_judge ∙ x.conn_is;
      gave = subst (λ (b : List ℕ). Gave b from to) (sym fed) got.gave;
      count_is = got.count_is ∙ sym (ap length fed);
      few = omega (arith, got.few, ap length fed);
      takes = subst (λ (cs : List HallCall). Takes took.All cs old new) (sym one.feeds.calls_are) (both_taken took.All h.calls one.calls old now new x.takes one.takes);
      reads = got.reads;
      no_end = got.no_end;
    }

-- it was right to read on, with these steps after
went_on : (setup : SetupData) (conn : ConnId) (h : Heard) (count : ℕ) (from mid : SourceState) (old now : Making) (x : ReadSoFar setup conn h count from mid old now)
    (later all : List Step) → all ≡ x.takes.steps ++ later → WentOn setup conn h.framer.fed all
went_on setup conn h count from mid old now x later all is = record {
  calls = h.calls;
  heard = heard_here setup conn h.judge h.framer.fed h.calls None x.setup_is x.conn_is x.going.heard;
  first = x.takes.steps;
  later = later;
  parts = is;
  whole = x.takes.made.whole;
  made = x.takes.calls_by;
}

-- ---- it stops with a piece

module _ (setup : SetupData) (conn : ConnId) (h h' : Heard) (count count' : ℕ) (from mid to : SourceState) (old now new : Making) (piece : List ℕ)
    (x : ReadSoFar setup conn h count from mid old now) (got : TookOn h.framer.fed piece count' from to) where
  -- what was heard with the piece
  heard_with : (calls : List HallCall) (ending : Option ReadEnd) → FeedsOn first means h h' piece calls ending → HeardInHall setup conn h'.framer.fed (h.calls ++ calls) ending
  heard_with calls ending feeds =
      subst (λ (cs : List HallCall). HeardInHall setup conn h'.framer.fed cs ending) feeds.calls_are
      (heard_here setup conn h'.judge h'.framer.fed h'.calls ending (ap (λ (j : Meaning.Hearer). j.setup) feeds.same_judge ∙ x.setup_is)
      (ap (λ (j : Meaning.Hearer). j.conn) feeds.same_judge ∙ x.conn_is) feeds.heard)

  ended_with : (end : ReadEnd) → FeedsAndTakes took.All h h' piece (Some end) now new → Reads (read.Read end) setup conn from to old new
  ended_with end one = record {
    bytes = h'.framer.fed;
    earlier = h.framer.fed;
    ended = false;
    takes_bytes = takes_on h.framer.fed piece h'.framer.fed count' from to one.feeds.fed_is got;
    faults = by_bytes end from to (bytes_end (means h'.judge) tt h'.framer.fed h'.calls end one.feeds.heard) got.reads;
    calls = h.calls ++ one.calls;
    hears = record { ending = Some end; heard = heard_with one.calls (Some end) one.feeds; comes = refl };
    takes = both_taken took.All h.calls one.calls old now new x.takes one.takes;
    before = went_on setup conn h count from mid old now x one.takes.steps (x.takes.steps ++ one.takes.steps) refl;
  }

  closed_with : (ending : Option ReadEnd) → FeedsAndTakes took.RunClosed h h' piece ending now new → Reads read.RunClosed setup conn from to old new
  closed_with ending one = record {
    bytes = h'.framer.fed;
    earlier = h.framer.fed;
    ended = false;
    takes_bytes = takes_on h.framer.fed piece h'.framer.fed count' from to one.feeds.fed_is got;
    faults = got.reads;
    calls = h.calls ++ one.calls;
    hears = (refl, (ending, heard_with one.calls ending one.feeds));
    takes = both_taken took.RunClosed h.calls one.calls old now new x.takes one.takes;
    before = went_on setup conn h count from mid old now x one.takes.steps (x.takes.steps ++ one.takes.steps) refl;
  }

  stopped_with : (ending : Option ReadEnd) → FeedsAndTakes took.Stopped h h' piece ending now new → Reads read.Stopped setup conn from to old new
  stopped_with ending one = record {
    bytes = h'.framer.fed;
    earlier = h.framer.fed;
    ended = false;
    takes_bytes = takes_on h.framer.fed piece h'.framer.fed count' from to one.feeds.fed_is got;
    faults = got.reads;
    calls = h.calls ++ one.calls;
    hears = (refl, (ending, heard_with one.calls ending one.feeds));
    takes = both_taken took.Stopped h.calls one.calls old now new x.takes one.takes;
    before = went_on setup conn h count from mid old now x one.takes.steps (x.takes.steps ++ one.takes.steps) refl;
  }

  lacks_with : new ≡ now → Reads read.NoMemory setup conn from to old new
  lacks_with same = record {
    bytes = h.framer.fed ++ piece;
    earlier = h.framer.fed;
    ended = false;
    takes_bytes = takes_on h.framer.fed piece (h.framer.fed ++ piece) count' from to refl got;
    faults = got.reads;
    calls = h.calls;
    hears = (refl, heard_here setup conn h.judge h.framer.fed h.calls None x.setup_is x.conn_is x.going.heard);
    takes = record {
      steps = x.takes.steps;
      calls_by = x.takes.calls_by;
      made = subst (λ (m : Making). MakesAll x.takes.steps old m) (sym same) x.takes.made;
    };
    before = went_on setup conn h count from mid old now x [] x.takes.steps (sym (append-nil x.takes.steps));
  }

  pub stops_with : (end : HallRead) → TakesPiece (Some end) h h' piece now new → Reads end setup conn from to old new
  stops_with (read.Read end) one = ended_with end one
  stops_with read.RunClosed one = closed_with one.0 one.1
  stops_with read.NoMemory one = lacks_with one
  stops_with read.Stopped one = stopped_with one.0 one.1

-- ---- it stops without a piece

module _ (setup : SetupData) (conn : ConnId) (h : Heard) (count : ℕ) (from mid to : SourceState) (old now : Making) (x : ReadSoFar setup conn h count from mid old now) where
  stops_so : (ended : Bool) (end : ReadEnd) → end ≡ read_end None (length h.framer.fed) ended (stream MAX_MESSAGE h.framer.fed).rest
      → TakesBytes from to h.framer.fed h.framer.fed ended → FaultsBy (read.Read end) from to → Reads (read.Read end) setup conn from to old now
  stops_so ended end comes takes faults = record {
    bytes = h.framer.fed;
    earlier = h.framer.fed;
    ended = ended;
    takes_bytes = takes;
    faults = faults;
    calls = h.calls;
    hears = record { ending = None; heard = heard_here setup conn h.judge h.framer.fed h.calls None x.setup_is x.conn_is x.going.heard; comes = comes };
    takes = x.takes;
    before = went_on setup conn h count from mid old now x [] x.takes.steps (sym (append-nil x.takes.steps));
  }

  pub stops_at_end : (end : ReadEnd) → count < MAX_TAKEN → end ≡ input_end (stream MAX_MESSAGE h.framer.fed).rest → to.left ≡ mid.left → to.taken ≡ mid.taken
      → IfSome mid.left (λ rest. rest ≡ []) → Rose mid.ends to.ends → to.faults ≡ mid.faults → Reads (read.Read end) setup conn from to old now
  stops_at_end end few is left taken none rose reads =
      stops_so true end (comes_at_end h.framer.fed end (omega (arith, x.count_is, few)) is)
      (takes_no_more h.framer.fed from mid to x.few x.gave true left taken (end_met from mid to x.no_end left none rose))
      (subst (λ (e : ReadEnd). FaultsBy (read.Read e) from to) (sym is) (by_input_end (stream MAX_MESSAGE h.framer.fed).rest from to (reads ∙ x.reads)))

  pub stops_at_fault : count < MAX_TAKEN → to.left ≡ mid.left → to.taken ≡ mid.taken → to.ends ≡ mid.ends → Rose mid.faults to.faults
      → Reads (read.Read ReadFault) setup conn from to old now
  stops_at_fault few left taken ends rose =
      stops_so false ReadFault (comes_at_fault h.framer.fed (omega (arith, x.count_is, few)))
      (takes_no_more h.framer.fed from mid to x.few x.gave false left taken (ends ∙ x.no_end))
      (rose_later from.faults mid.faults to.faults x.reads rose)

  pub stops_full : MAX_TAKEN ≤ count → to ≡ mid → Reads (read.Read Spent) setup conn from to old now
  stops_full many same =
      stops_so false Spent (comes_full h.framer.fed x.few (omega (arith, x.count_is, many)))
      (takes_no_more h.framer.fed from mid to x.few x.gave false (ap (λ (z : SourceState). z.left) same) (ap (λ (z : SourceState). z.taken) same)
      (ap (λ (z : SourceState). z.ends) same ∙ x.no_end))
      (ap (λ (z : SourceState). z.faults) same ∙ x.reads)

-- ---- out of memory before the first read

-- no bytes mean no calls
heard_nothing : (setup : SetupData) (conn : ConnId) → HeardInHall setup conn [] [] None
heard_nothing setup conn =
    let judge : Meaning.Hearer = record { setup = setup; conn = conn } in
    let h : Heard = record { judge = judge; framer = record { limit = MAX_MESSAGE; fed = []; lacked = false; kept = 0 }; bound = tt; made = 0; calls = [] } in
    (new_hearing first means judge h refl refl refl refl refl).going.heard

pub lacks_first : (setup : SetupData) (conn : ConnId) (from : SourceState) (m : Making) → Reads read.NoMemory setup conn from from m m
lacks_first setup conn from m = record {
  bytes = [];
  earlier = [];
  ended = false;
  takes_bytes = takes_nothing from;
  faults = refl;
  calls = [];
  hears = (refl, heard_nothing setup conn);
  takes = record { steps = []; calls_by = refl; made = makes_none m };
  before = record { calls = []; heard = heard_nothing setup conn; first = []; later = []; parts = refl; whole = tt; made = refl };
}
