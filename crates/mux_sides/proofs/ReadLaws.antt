-- All reads of a link, from the first one to the one with which the reading comes out.
use Rattle.std.proofs.Common.{◌≡◌, ℕ, ◌+◌, ◌≤◌, ◌<◌, Bool, true, false, List, [], ◌∷◌, ◌++◌, length, take, Option, Some, None, inl, inr, refl, sym, ap, ◌∙◌, subst, arith, append-nil, append_assoc, length-append, length-take}
use Rattle.std.specs.Prelude.{◌==◌, if◌then◌else◌, option_map, IfSome}
use Rattle.std.proofs.lemmas.Bool.Decides.{nat_tests}
use Rattle.std.proofs.lemmas.List.{take-append-le}
use Rattle.orb_base.specs.Outside.{SourceState, Rose}
use Rattle.orb_base.specs.declared.limits.TheConstants.{MAX_MESSAGE}
use Rattle.giop_frames.proofs.Grows.{nothing_said}
use Rattle.giop_frames.specs.Messages as Frames
use Rattle.giop_frames.specs.Stream.{Said, stream}
use Rattle.client_mux.specs.declared.heard_reply.HeardReply.{HeardReply}
use Rattle.heard_messages.specs.Hearers.{IsGoing, IsNew}
use Rattle.heard_messages.specs.Hearing.{Hears, nothing}
use Rattle.heard_messages.specs.ReadEnds.{input_end, read_end, decided, IsByBytes}
use Rattle.heard_messages.specs.declared.read_end.ReadEnd.{ReadEnd}
use Rattle.heard_messages.specs.declared.read_end.ReadEnd.TheVariants.{Ended, Cut, Broken, Spent, ReadFault}
use Rattle.heard_messages.specs.declared.read_end.TheConstants.{MAX_TAKEN, READ_LEN}
use Rattle.heard_messages.proofs.Growth.{bytes_end}
use Rattle.text_streams.specs.Streams.{Gave, MeetsEnd}
use Rattle.text_streams.proofs.CallerLemmas.{gave_start, gave_step, gave_same, end_met}
use Rattle.turn_cell.specs.Good.{entry}
use Rattle.turn_cell.specs.Seats.{CellView}
use Rattle.client_mux.specs.declared.limits.TheConstants.{MAX_ARRIVALS}
use Rattle.client_mux.specs.declared.why.Why.{Why}
use Rattle.client_mux.specs.declared.why.Why.TheVariants as why
use Rattle.client_mux.specs.declared.call.MuxCall.TheVariants.{Lost}
use Rattle.client_mux.specs.declared.call.MuxReply.TheVariants as answer
use Rattle.client_mux.specs.Machine.{Mux}
use Rattle.shared_link.specs.Link.{Sitting}
use Rattle.shared_link.specs.Turns.{Makes}
use Rattle.shared_link.specs.Roles.{CanRead, CanLose}
use Rattle.mux_sides.specs.Entering.{Enters}
use Rattle.mux_sides.specs.Replying.{first, says, means, Hearer, Carry, why_of, Arrives, Puts, FeedsAndPuts, TakesPiece, TakesBytes, CarryAll, CarryBy, FaultsBy, Reads, ReadsSide}
use Rattle.mux_sides.proofs.Arriving.{arrives_none, arrives_then}
use Rattle.mux_sides.proofs.Entering.{enters_one, enters_then}

-- ---- a read gives bytes

-- after `fed` a read gave the piece, and the count of bytes is theirs
pub record TookOn (fed piece : List ℕ) (count : ℕ) (from to : SourceState) : Type 0 where
  pub one_read : length piece ≤ READ_LEN
  pub gave : Gave (fed ++ piece) from to
  pub count_is : count ≡ length (fed ++ piece)
  pub few : length (fed ++ piece) ≤ MAX_TAKEN
  pub reads : to.faults ≡ from.faults
  pub no_end : to.ends ≡ from.ends

pub took_piece : (fed : List ℕ) (count n : ℕ) (from mid to : SourceState) (into behind piece : List ℕ)
    → Gave fed from mid → count ≡ length fed → mid.faults ≡ from.faults → mid.ends ≡ from.ends → n ≤ length into → n ≤ READ_LEN → n + count ≤ MAX_TAKEN
    → mid.left ≡ option_map (λ rest. take n into ++ rest) to.left → to.taken ≡ option_map (λ seen. seen ++ take n into) mid.taken
    → piece ≡ take n (into ++ behind) → to.faults ≡ mid.faults → to.ends ≡ mid.ends
    → TookOn fed piece (count + n) from to
took_piece fed count n from mid to into behind piece gave count_is no_fault no_end within short few left taken is reads ends =
    let its : piece ≡ take n into = is ∙ take-append-le n into behind within in
    let long : length piece ≡ n = ap length its ∙ length-take n into ∙ omega arith in
    let len : length (fed ++ piece) ≡ length fed + n = length-append fed piece ∙ ap (λ (k : ℕ). length fed + k) long in
    record {
      one_read = omega (arith, long, short);
      gave = gave_step fed into behind (fed ++ piece) n from mid to gave within left taken (ap (λ (p : List ℕ). fed ++ p) is);
      count_is = omega (arith, count_is, len);
      few = omega (arith, count_is, len);
      reads = reads ∙ no_fault;
      no_end = ends ∙ no_end;
    }

takes_on : (fed piece bytes : List ℕ) (count : ℕ) (from to : SourceState) → bytes ≡ fed ++ piece → TookOn fed piece count from to → TakesBytes from to fed bytes false
takes_on fed piece bytes count from to is got = record {
  last = piece;
  parts = is;
  one_read = got.one_read;
  few = omega (arith, ap length is, got.few);
  gave = subst (λ (b : List ℕ). Gave b from to) (sym is) got.gave;
  met = got.no_end;
}

-- ---- none is taken any more

takes_no_more : (fed : List ℕ) (from mid to : SourceState) → length fed ≤ MAX_TAKEN → Gave fed from mid → (ended : Bool) → to.left ≡ mid.left → to.taken ≡ mid.taken → MeetsEnd ended from to
    → TakesBytes from to fed fed ended
takes_no_more fed from mid to few gave ended left taken met = record {
  last = [];
  parts = sym (append-nil fed);
  one_read = omega arith;
  few = few;
  gave = gave_same fed from mid to gave left taken;
  met = met;
}

-- nothing was read
takes_nothing : (from : SourceState) → TakesBytes from from [] [] false
takes_nothing from = record { last = []; parts = refl; one_read = omega arith; few = omega arith; gave = gave_start from; met = refl }

not_full : (n : ℕ) → n < MAX_TAKEN → (n == MAX_TAKEN) ≡ false
not_full n h = grind (arith, nat_tests)

is_full : (n : ℕ) → n ≤ MAX_TAKEN → MAX_TAKEN ≤ n → (n == MAX_TAKEN) ≡ true
is_full n h k = grind (arith, nat_tests)

-- how the reading ends: at the end of the input,
comes_at_end : (fed : List ℕ) (end : ReadEnd) → length fed < MAX_TAKEN → end ≡ input_end (stream MAX_MESSAGE fed).rest
    → end ≡ read_end None (length fed) true (stream MAX_MESSAGE fed).rest
comes_at_end fed end less is = is ∙ sym (ap (λ (b : Bool). if b then Spent else input_end (stream MAX_MESSAGE fed).rest) (not_full (length fed) less))

-- at a read that fails,
comes_at_fault : (fed : List ℕ) → length fed < MAX_TAKEN → ReadFault ≡ read_end None (length fed) false (stream MAX_MESSAGE fed).rest
comes_at_fault fed less = sym (ap (λ (b : Bool). if b then Spent else ReadFault) (not_full (length fed) less))

-- and where no more bytes may be taken
comes_full : (fed : List ℕ) → length fed ≤ MAX_TAKEN → MAX_TAKEN ≤ length fed → Spent ≡ read_end None (length fed) false (stream MAX_MESSAGE fed).rest
comes_full fed few many = sym (ap (λ (b : Bool). if b then Spent else ReadFault) (is_full (length fed) few many))

-- bytes that end the reading are no fault of a read, and neither is the end of the input
by_bytes : (end : ReadEnd) (from to : SourceState) → IsByBytes end → to.faults ≡ from.faults → FaultsBy (why_of end) from to
by_bytes Ended from to b same = same
by_bytes (Cut offset) from to b same = absurd b
by_bytes (Broken offset fault) from to b same = same
by_bytes Spent from to b same = absurd b
by_bytes ReadFault from to b same = absurd b

by_input_end : (rest : Option ℕ) (from to : SourceState) → to.faults ≡ from.faults → FaultsBy (why_of (input_end rest)) from to
by_input_end (Some offset) from to same = same
by_input_end None from to same = same

rose_later : (before mid after : ℕ) → mid ≡ before → Rose mid after → Rose before after
rose_later before mid after same rose = subst (λ (n : ℕ). Rose n after) same rose

-- all replies, by why the link is lost
carry_by : (end : ReadEnd) (came : Why) (earlier bytes : List ℕ) (ended : Bool) (replies : List HeardReply) → came ≡ why_of end → CarryAll (why_of end) bytes ended replies
    → CarryBy came earlier bytes ended replies
carry_by end came earlier bytes ended replies is all = subst (λ (w : Why). CarryBy w earlier bytes ended replies) (sym is) (go end all) where
  go : (e : ReadEnd) → CarryAll (why_of e) bytes ended replies → CarryBy (why_of e) earlier bytes ended replies
  go Ended a = a
  go (Cut offset) a = a
  go (Broken offset fault) a = a
  go Spent a = inl a
  go ReadFault a = a

-- ---- so far

-- some bytes were read, which ended nothing, and all their replies arrived, fewer than may come
pub record ReadSoFar (cell : CellView Mux) (h : Hearer) (taken count : ℕ) (from to : SourceState) (old now : Sitting) : Type 0 where
  pub going : IsGoing first means h
  pub gave : Gave h.framer.fed from to
  pub taken_is : taken ≡ length h.framer.fed
  pub few : length h.framer.fed ≤ MAX_TAKEN
  pub arrives : Arrives cell h.calls 0 count old now
  pub below : count < MAX_ARRIVALS
  pub reads : to.faults ≡ from.faults
  pub no_end : to.ends ≡ from.ends

pub read_start : (cell : CellView Mux) (h : Hearer) (from : SourceState) (a : Sitting) → IsNew first means h.judge h → CanRead cell 0 a → CanLose cell a → ReadSoFar cell h 0 0 from from a a
read_start cell h from a new reads loses = record {
  going = new.going;
  gave = subst (λ (b : List ℕ). Gave b from from) (sym new.none_fed) (gave_start from);
  taken_is = sym (ap length new.none_fed);
  few = omega (arith, ap length new.none_fed);
  arrives = subst (λ (rs : List HeardReply). Arrives cell rs 0 0 a a) (sym new.none_given) (arrives_none cell 0 a (omega arith) reads loses);
  below = omega arith;
  reads = refl;
  no_end = refl;
}

-- where not as many arrived as may, all of a piece did
all_put : (cell : CellView Mux) (all : List HeardReply) (before after : ℕ) (old new : Sitting) → after < MAX_ARRIVALS → Puts cell all before after old new → Arrives cell all before after old new
all_put cell all before after old new less x =
    subst (λ (rs : List HeardReply). Arrives cell rs before after old new) (sym (x.parts ∙ ap (λ (z : List HeardReply). x.put ++ z) (x.whole less) ∙ append-nil x.put)) x.arrives

count_of : (cell : CellView Mux) (rs : List HeardReply) (count : ℕ) (old new : Sitting) → Arrives cell rs 0 count old new → count ≡ length rs
count_of cell rs count old new x = let c = x.counted in omega arith

pub read_more : (cell : CellView Mux) (h h' : Hearer) (taken taken' : ℕ) (from mid to : SourceState) (old : Sitting) (now new : Sitting × ℕ) (piece : List ℕ)
    → ReadSoFar cell h taken now.1 from mid old now.0 → TookOn h.framer.fed piece taken' from to → TakesPiece cell None h h' piece now new
    → ReadSoFar cell h' taken' new.1 from to old new.0
read_more cell h h' taken taken' from mid to old now new piece x got one =
    let fed : h'.framer.fed ≡ h.framer.fed ++ piece = one.0.feeds.fed_is in
    record {
      going = one.0.feeds.goes_on refl;
      gave = subst (λ (b : List ℕ). Gave b from to) (sym fed) got.gave;
      taken_is = got.count_is ∙ sym (ap length fed);
      few = omega (arith, got.few, ap length fed);
      arrives = subst (λ (rs : List HeardReply). Arrives cell rs 0 new.1 old new.0) (sym one.0.feeds.calls_are)
          (arrives_then cell h.calls one.0.replies 0 now.1 new.1 old now.0 new.0 x.arrives (all_put cell one.0.replies now.1 new.1 now.0 new.0 one.1 one.0.puts));
      below = one.1;
      reads = got.reads;
      no_end = got.no_end;
    }

before_less : (cell : CellView Mux) (h : Hearer) (taken count : ℕ) (from mid : SourceState) (old now : Sitting) → ReadSoFar cell h taken count from mid old now → length h.calls < MAX_ARRIVALS
before_less cell h taken count from mid old now x = let c = count_of cell h.calls count old now x.arrives in let o = x.below in omega arith

-- ---- it stops with a piece

module _ (cell : CellView Mux) (h h' : Hearer) (taken taken' : ℕ) (from mid to : SourceState) (old : Sitting) (now new : Sitting × ℕ) (piece : List ℕ)
    (x : ReadSoFar cell h taken now.1 from mid old now.0) (got : TookOn h.framer.fed piece taken' from to) where
  ended_with : (came : Why) (end : ReadEnd) → came ≡ why_of end → new.1 < MAX_ARRIVALS → FeedsAndPuts cell h h' piece (Some end) now new → Reads cell came old new.0 from to
  ended_with came end is less one =
      let all : List HeardReply = h.calls ++ one.replies in
      let arrives : Arrives cell all 0 new.1 old new.0 =
      arrives_then cell h.calls one.replies 0 now.1 new.1 old now.0 new.0 x.arrives (all_put cell one.replies now.1 new.1 now.0 new.0 less one.puts) in
      let count = count_of cell all new.1 old new.0 arrives in
      let heard : Carry h'.framer.fed all (Some end) = subst (λ (rs : List HeardReply). Carry h'.framer.fed rs (Some end)) one.feeds.calls_are one.feeds.heard in
      record {
        replies = all;
        count = new.1;
        hears = record {
          earlier = h.framer.fed;
          bytes = h'.framer.fed;
          ended = false;
          takes = takes_on h.framer.fed piece h'.framer.fed taken' from to one.feeds.fed_is got;
          carry = carry_by end came h.framer.fed h'.framer.fed false all is
              (end, refl, record { ending = Some end; heard = heard; comes = refl }, (let c = count in omega arith));
          faults = subst (λ (w : Why). FaultsBy w from to) (sym is) (by_bytes end from to (bytes_end says tt h'.framer.fed h'.calls end one.feeds.heard) got.reads);
          before = h.calls;
          went_on = (x.going.heard, before_less cell h taken now.1 from mid old now.0 x);
        };
        arrives = arrives;
      }

  full_with : (ending : Option ReadEnd) → MAX_ARRIVALS ≤ new.1 → FeedsAndPuts cell h h' piece ending now new → Reads cell why.Limit old new.0 from to
  full_with ending full one =
      let all : List HeardReply = h.calls ++ one.puts.put in
      let arrives : Arrives cell all 0 new.1 old new.0 = arrives_then cell h.calls one.puts.put 0 now.1 new.1 old now.0 new.0 x.arrives one.puts.arrives in
      let count = count_of cell all new.1 old new.0 arrives in
      let parts : h'.calls ≡ all ++ one.puts.rest =
      one.feeds.calls_are ∙ ap (λ (z : List HeardReply). h.calls ++ z) one.puts.parts ∙ sym (append_assoc h.calls one.puts.put one.puts.rest) in
      record {
        replies = all;
        count = new.1;
        hears = record {
          earlier = h.framer.fed;
          bytes = h'.framer.fed;
          ended = false;
          takes = takes_on h.framer.fed piece h'.framer.fed taken' from to one.feeds.fed_is got;
          carry = inr (
            refl,
            (let c = count in let f = arrives.few in omega arith),
            (one.puts.rest, ending, subst (λ (rs : List HeardReply). Carry h'.framer.fed rs ending) parts one.feeds.heard),
          );
          faults = got.reads;
          before = h.calls;
          went_on = (x.going.heard, before_less cell h taken now.1 from mid old now.0 x);
        };
        arrives = arrives;
      }

  lacks_with : new ≡ now → Reads cell why.NoMemory old new.0 from to
  lacks_with same = record {
    replies = h.calls;
    count = now.1;
    hears = record {
      earlier = h.framer.fed;
      bytes = h.framer.fed ++ piece;
      ended = false;
      takes = takes_on h.framer.fed piece (h.framer.fed ++ piece) taken' from to refl got;
      carry = (refl, x.going.heard);
      faults = got.reads;
      before = h.calls;
      went_on = (x.going.heard, before_less cell h taken now.1 from mid old now.0 x);
    };
    arrives = subst (λ (z : Sitting × ℕ). Arrives cell h.calls 0 now.1 old z.0) (sym same) x.arrives;
  }

  pub stops_with : (came : Why) → TakesPiece cell (Some came) h h' piece now new → Reads cell came old new.0 from to
  stops_with came one = elim one [
    | inl lacks ↦ subst (λ (w : Why). Reads cell w old new.0 from to) (sym lacks.0) (lacks_with lacks.1)
    | inr heard ↦ elim heard.2 [
      | inl full ↦ subst (λ (w : Why). Reads cell w old new.0 from to) (sym full.0) (full_with heard.0 full.1 heard.1)
      | inr out ↦ ended_with came out.1.0 out.1.2 out.0 (subst (λ (e : Option ReadEnd). FeedsAndPuts cell h h' piece e now new) out.1.1 heard.1)
    ]
  ]

-- ---- it stops without a piece

module _ (cell : CellView Mux) (h : Hearer) (taken count : ℕ) (from mid to : SourceState) (old now : Sitting) (x : ReadSoFar cell h taken count from mid old now) where
  stops_so : (ended : Bool) (end : ReadEnd) (came : Why) → came ≡ why_of end → end ≡ read_end None (length h.framer.fed) ended (stream MAX_MESSAGE h.framer.fed).rest
      → TakesBytes from to h.framer.fed h.framer.fed ended → FaultsBy came from to → Reads cell came old now from to
  stops_so ended end came is comes takes faults = record {
    replies = h.calls;
    count = count;
    hears = record {
      earlier = h.framer.fed;
      bytes = h.framer.fed;
      ended = ended;
      takes = takes;
      carry = carry_by end came h.framer.fed h.framer.fed ended h.calls is
          (end, refl, record { ending = None; heard = x.going.heard; comes = comes }, before_less cell h taken count from mid old now x);
      faults = faults;
      before = h.calls;
      went_on = (x.going.heard, before_less cell h taken count from mid old now x);
    };
    arrives = x.arrives;
  }

  pub stops_at_end : (end : ReadEnd) (came : Why) → came ≡ why_of end → taken < MAX_TAKEN → end ≡ input_end (stream MAX_MESSAGE h.framer.fed).rest → to.left ≡ mid.left → to.taken ≡ mid.taken
      → IfSome mid.left (λ rest. rest ≡ []) → Rose mid.ends to.ends → to.faults ≡ mid.faults → Reads cell came old now from to
  stops_at_end end came out few is left gone none rose reads =
      stops_so true end came out (comes_at_end h.framer.fed end (omega (arith, x.taken_is, few)) is)
      (takes_no_more h.framer.fed from mid to x.few x.gave true left gone (end_met from mid to x.no_end left none rose))
      (subst (λ (w : Why). FaultsBy w from to) (sym (out ∙ ap why_of is)) (by_input_end (stream MAX_MESSAGE h.framer.fed).rest from to (reads ∙ x.reads)))

  pub stops_at_fault : taken < MAX_TAKEN → to.left ≡ mid.left → to.taken ≡ mid.taken → to.ends ≡ mid.ends → Rose mid.faults to.faults → Reads cell why.ReadFault old now from to
  stops_at_fault few left gone ends rose =
      stops_so false ReadFault why.ReadFault refl (comes_at_fault h.framer.fed (omega (arith, x.taken_is, few)))
      (takes_no_more h.framer.fed from mid to x.few x.gave false left gone (ends ∙ x.no_end))
      (rose_later from.faults mid.faults to.faults x.reads rose)

  pub stops_full : MAX_TAKEN ≤ taken → to ≡ mid → Reads cell why.Limit old now from to
  stops_full many same =
      stops_so false Spent why.Limit refl (comes_full h.framer.fed x.few (omega (arith, x.taken_is, many)))
      (takes_no_more h.framer.fed from mid to x.few x.gave false (ap (λ (z : SourceState). z.left) same) (ap (λ (z : SourceState). z.taken) same)
      (ap (λ (z : SourceState). z.ends) same ∙ x.no_end))
      (ap (λ (z : SourceState). z.faults) same ∙ x.reads)

-- ---- out of memory before the first read

-- no bytes carry no replies
carry_nothing : Carry [] [] None
carry_nothing =
    let said : stream MAX_MESSAGE [] ≡ record { messages = []; rest = None; bad = None } = nothing_said MAX_MESSAGE in
    record {
      meaning = nothing tt None;
      hears = subst (λ (ms : List Frames.Message). Hears says ms tt 0 (nothing tt None)) (sym (ap (λ (s : Said). s.messages) said)) refl;
      calls_are = refl;
      ends = sym (ap (λ (s : Said). decided None s.bad) said);
    }

pub lacks_first : (cell : CellView Mux) (from : SourceState) (a : Sitting) → CanRead cell 0 a → CanLose cell a → Reads cell why.NoMemory a a from from
lacks_first cell from a reads loses = record {
  replies = [];
  count = 0;
  hears = record {
    earlier = [];
    bytes = [];
    ended = false;
    takes = takes_nothing from;
    carry = (refl, carry_nothing);
    faults = refl;
    before = [];
    went_on = (carry_nothing, omega arith);
  };
  arrives = arrives_none cell 0 a (omega arith) reads loses;
}

-- ---- the last call

pub side_ended : (cell : CellView Mux) (came : Why) (old mid new : Sitting) (from to : SourceState) → Reads cell came old mid from to → Makes cell (Lost came) answer.Noted mid new
    → ReadsSide came old new from to
side_ended cell came old mid new from to x m = record {
  replies = x.replies;
  hears = x.hears;
  entries = x.arrives.entries;
  arrived = x.arrives.arrived;
  entered = enters_then x.arrives.entries (entry old.number (Lost came) answer.Noted ∷ []) old mid new x.arrives.entered
      (subst (λ (n : ℕ). Enters (entry n (Lost came) answer.Noted ∷ []) mid new) x.arrives.entered.later.2 (enters_one cell (Lost came) answer.Noted mid new m));
}
