-- What reads give, whatever is done with what is heard: a read that gives bytes, and the one after which none is taken any more.
use Rattle.std.proofs.Common.{◌≡◌, ℕ, ◌+◌, ◌≤◌, ◌<◌, Bool, true, false, List, [], ◌++◌, length, take, Option, None, refl, sym, ap, ◌∙◌, subst, arith, append-nil, length-append, length-take}
use Rattle.std.specs.Prelude.{◌==◌, if◌then◌else◌, option_map}
use Rattle.std.proofs.lemmas.Bool.Decides.{nat_tests}
use Rattle.std.proofs.lemmas.List.{take-append-le}
use Rattle.orb_base.specs.Outside.{SourceState}
use Rattle.orb_base.specs.declared.conn_id.ConnId.{ConnId}
use Rattle.orb_base.specs.declared.limits.TheConstants.{MAX_MESSAGE}
use Rattle.giop_frames.specs.Stream.{stream}
use Rattle.lane_machine.specs.declared.call.LaneCall.{LaneCall}
use Rattle.text_streams.specs.Streams.{Gave, MeetsEnd}
use Rattle.text_streams.proofs.CallerLemmas.{gave_start, gave_step, gave_same}
use Rattle.adapter_policies.specs.SetupData.{SetupData}
use Rattle.heard_calls.specs.Input.{at_end}
use Rattle.heard_calls.specs.declared.ending.Ending.{Ending}
use Rattle.conn_engine.specs.HeardSoFar.{HeardSoFar}
use Rattle.conn_engine.specs.Hearers.{Hearer}
use Rattle.conn_engine.specs.Ends.{read_end}
use Rattle.conn_engine.specs.Reads.{Takes}
use Rattle.conn_engine.specs.declared.read_end.ReadEnd.TheVariants as read
use Rattle.conn_engine.specs.declared.read_end.TheConstants.{MAX_TAKEN, READ_LEN}

-- what was heard, as that of this connection of this setup
pub heard_here : (setup : SetupData) (conn : ConnId) (h : Hearer) (bytes : List ℕ) (calls : List LaneCall) (ending : Option Ending) → h.setup ≡ setup → h.conn ≡ conn
    → HeardSoFar h.setup h.conn bytes calls ending → HeardSoFar setup conn bytes calls ending
heard_here setup conn h bytes calls ending setup_is conn_is heard =
    subst (λ (c : ConnId). HeardSoFar setup c bytes calls ending) conn_is (subst (λ (x : SetupData). HeardSoFar x h.conn bytes calls ending) setup_is heard)

-- ---- a read gives bytes

-- after `fed` a read gave the piece, and the count of bytes is theirs
pub record TookOn (fed bytes : List ℕ) (piece : List ℕ) (count : ℕ) (from to : SourceState) : Type 0 where
  pub parts : bytes ≡ fed ++ piece
  pub one_read : length piece ≤ READ_LEN
  pub gave : Gave bytes from to
  pub count_is : count ≡ length bytes
  pub few : length bytes ≤ MAX_TAKEN
  pub reads : to.faults ≡ from.faults
  pub no_end : to.ends ≡ from.ends

pub took_piece : (fed : List ℕ) (count n : ℕ) (from mid to : SourceState) (into behind piece : List ℕ)
    → Gave fed from mid → count ≡ length fed → mid.faults ≡ from.faults → mid.ends ≡ from.ends → n ≤ length into → n ≤ READ_LEN → n + count ≤ MAX_TAKEN
    → mid.left ≡ option_map (λ rest. take n into ++ rest) to.left → to.taken ≡ option_map (λ seen. seen ++ take n into) mid.taken
    → piece ≡ take n (into ++ behind) → to.faults ≡ mid.faults → to.ends ≡ mid.ends
    → TookOn fed (fed ++ piece) piece (count + n) from to
took_piece fed count n from mid to into behind piece gave count_is no_fault no_end within short few left taken is reads ends =
    let its : piece ≡ take n into = is ∙ take-append-le n into behind within in
    let long : length piece ≡ n = ap length its ∙ length-take n into ∙ omega arith in
    let len : length (fed ++ piece) ≡ length fed + n = length-append fed piece ∙ ap (λ (k : ℕ). length fed + k) long in
    record {
      parts = refl;
      one_read = omega (arith, long, short);
      gave = gave_step fed into behind (fed ++ piece) n from mid to gave within left taken (ap (λ (p : List ℕ). fed ++ p) is);
      count_is = omega (arith, count_is, len);
      few = omega (arith, count_is, len);
      reads = reads ∙ no_fault;
      no_end = ends ∙ no_end;
    }

pub takes_on : (fed piece bytes : List ℕ) (count : ℕ) (from to : SourceState) → bytes ≡ fed ++ piece → TookOn fed (fed ++ piece) piece count from to → Takes from to fed bytes false
takes_on fed piece bytes count from to is took = record {
  last = piece;
  parts = is;
  one_read = took.one_read;
  few = omega (arith, ap length is, took.few);
  gave = subst (λ (b : List ℕ). Gave b from to) (sym is) took.gave;
  met = took.no_end;
}

-- ---- none is taken any more

pub takes_no_more : (fed : List ℕ) (from mid to : SourceState) → length fed ≤ MAX_TAKEN → Gave fed from mid → (ended : Bool) → to.left ≡ mid.left → to.taken ≡ mid.taken → MeetsEnd ended from to
    → Takes from to fed fed ended
takes_no_more fed from mid to few gave ended left taken met = record {
  last = [];
  parts = sym (append-nil fed);
  one_read = omega arith;
  few = few;
  gave = gave_same fed from mid to gave left taken;
  met = met;
}

-- nothing was read
pub takes_nothing : (from : SourceState) → Takes from from [] [] false
takes_nothing from = record { last = []; parts = refl; one_read = omega arith; few = omega arith; gave = gave_start from; met = refl }

not_full : (n : ℕ) → n < MAX_TAKEN → (n == MAX_TAKEN) ≡ false
not_full n h = grind (arith, nat_tests)

is_full : (n : ℕ) → n ≤ MAX_TAKEN → MAX_TAKEN ≤ n → (n == MAX_TAKEN) ≡ true
is_full n h k = grind (arith, nat_tests)

-- how the reading ends: at the end of the input,
pub comes_at_end : (fed : List ℕ) (ending : Ending) → length fed < MAX_TAKEN → ending ≡ at_end None (stream MAX_MESSAGE fed).rest
    → read.Ended ending ≡ read_end None (length fed) true (stream MAX_MESSAGE fed).rest
comes_at_end fed ending less is =
    ap read.Ended is ∙ sym (ap (λ (b : Bool). if b then read.Spent else read.Ended (at_end None (stream MAX_MESSAGE fed).rest)) (not_full (length fed) less))

-- at a read that fails,
pub comes_at_fault : (fed : List ℕ) → length fed < MAX_TAKEN → read.ReadFault ≡ read_end None (length fed) false (stream MAX_MESSAGE fed).rest
comes_at_fault fed less = sym (ap (λ (b : Bool). if b then read.Spent else read.ReadFault) (not_full (length fed) less))

-- and where no more bytes may be taken
pub comes_full : (fed : List ℕ) → length fed ≤ MAX_TAKEN → MAX_TAKEN ≤ length fed → read.Spent ≡ read_end None (length fed) false (stream MAX_MESSAGE fed).rest
comes_full fed few many = sym (ap (λ (b : Bool). if b then read.Spent else read.ReadFault) (is_full (length fed) few many))
