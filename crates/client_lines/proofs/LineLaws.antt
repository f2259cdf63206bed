-- What pieces and reads do to a connection.
use Rattle.std.proofs.Common.{◌≡◌, ℕ, ◌+◌, ◌≤◌, ◌<◌, Bool, true, false, List, [], ◌∷◌, ◌++◌, length, take, Option, Some, None, refl, sym, ap, ◌∙◌, subst, arith, append_assoc, append-nil, length-append, length-take}
use Rattle.std.specs.Prelude.{◌==◌, if◌then◌else◌, option_map, IfSome, remove, slice_get}
use Rattle.std.proofs.lemmas.Bool.Decides.{nat_tests}
use Rattle.std.proofs.lemmas.List.{take-append-le}
use Rattle.orb_base.specs.Outside.{SourceState, Rose}
use Rattle.orb_base.specs.declared.limits.TheConstants.{MAX_MESSAGE}
use Rattle.giop_frames.specs.Stream.{stream}
use Rattle.heard_messages.specs.Hearers.{Hearer, IsGoing, FeedsOn}
use Rattle.heard_messages.specs.Hearers as Hearers
use Rattle.heard_messages.specs.Hearing.{HeardBy}
use Rattle.heard_messages.specs.Inputs.{HearsStream}
use Rattle.heard_messages.specs.ReadEnds.{input_end, read_end, IsByBytes}
use Rattle.heard_messages.specs.declared.read_end.ReadEnd.{ReadEnd}
use Rattle.heard_messages.specs.declared.read_end.ReadEnd.TheVariants.{Ended, Cut, Broken, Spent, ReadFault}
use Rattle.heard_messages.specs.declared.read_end.TheConstants.{MAX_TAKEN}
use Rattle.heard_messages.proofs.Growth.{bytes_end}
use Rattle.text_streams.specs.Streams.{Gave, MeetsEnd, AtEnd}
use Rattle.text_streams.proofs.CallerLemmas.{gave_start, gave_more, gave_same, gave_step, end_met}
use Rattle.client_lines.specs.Answer.{Answer}
use Rattle.client_lines.specs.Awaiting as Spec
use Rattle.client_lines.specs.Lines.{Line, fed, binds, IsHeard, IsNew, Took, CountsFault, ReadOn, GivesOut, IsOver, LacksMemory, HeardMore, Gives}
use Rattle.client_lines.specs.declared.awaited.Awaited.{Awaited}
use Rattle.client_lines.specs.declared.caller.Caller.{Caller}

abbrev pub first_of : Caller → Awaited
first_of c = Spec.first c.binds

abbrev pub HeardSo : Bool → List ℕ → List Answer → Option ReadEnd → Type 0
HeardSo binding bytes answers ending = HeardBy (Spec.means binding) (Spec.first binding) bytes answers ending

-- ---- a new connection

pub new_line : (judge : Caller) (l : Line) → Hearers.IsNew (λ (c : Caller). Spec.first c.binds) (λ (c : Caller). Spec.means c.binds) judge l.hearer → l.given ≡ [] → l.waiting ≡ []
    → l.ending ≡ None → l.taken ≡ 0 → IsNew judge.binds l
new_line judge l new given waiting ending taken =
    let none : l.given ++ l.waiting ≡ [] = ap (λ (xs : List Answer). xs ++ l.waiting) given ∙ waiting in
    let calls : l.hearer.calls ≡ l.given ++ l.waiting = new.none_given ∙ sym none in
    record {
      binds_so = ap (λ (c : Caller). c.binds) new.judge_is;
      none_fed = new.none_fed;
      none_given = given;
      none_waits = waiting;
      heard = record {
        heard = subst (λ (o : Option ReadEnd). HeardSo (binds l) (fed l) (l.given ++ l.waiting) o) (sym ending)
            (subst (λ (xs : List Answer). HeardSo (binds l) (fed l) xs None) calls new.going.heard);
        calls_are = calls;
        count_is = taken ∙ sym (ap length new.none_fed);
        few = omega (arith, taken);
        going = λ none. new.going;
      };
    }

-- ---- a piece

pub hear_more : (l l' : Line) (piece : List ℕ) → IsHeard l → l.waiting ≡ [] → l.taken + length piece ≤ MAX_TAKEN
    → FeedsOn (λ (c : Caller). Spec.first c.binds) (λ (c : Caller). Spec.means c.binds) l.hearer l'.hearer piece l'.waiting l'.ending → l'.given ≡ l.given
    → l'.taken ≡ l.taken + length piece → HeardMore l l' piece
hear_more l l' piece h none few feeds given taken =
    let before : l.hearer.calls ≡ l.given = h.calls_are ∙ ap (λ (xs : List Answer). l.given ++ xs) none ∙ append-nil l.given in
    let calls : l'.hearer.calls ≡ l'.given ++ l'.waiting =
    feeds.calls_are ∙ ap (λ (xs : List Answer). xs ++ l'.waiting) (before ∙ sym given) in
    record {
      same = ap (λ (c : Caller). c.binds) feeds.same_judge;
      given_is = given;
      fed_is = feeds.fed_is;
      taken_is = taken;
      heard = record {
        heard = subst (λ (xs : List Answer). HeardSo (binds l') (fed l') xs l'.ending) calls feeds.heard;
        calls_are = calls;
        count_is = omega (arith, taken, h.count_is, ap length feeds.fed_is, length-append (fed l) piece);
        few = omega (arith, taken, few);
        going = feeds.goes_on;
      };
    }

-- ---- a read

-- what was heard where no answer waits
given_heard : (l : Line) (ending : Option ReadEnd) → IsHeard l → l.waiting ≡ [] → l.ending ≡ ending → HeardSo (binds l) (fed l) l.given ending
given_heard l ending h none is =
    subst (λ (o : Option ReadEnd). HeardSo (binds l) (fed l) l.given o) is
    (subst (λ (xs : List Answer). HeardSo (binds l) (fed l) xs l.ending) (ap (λ (xs : List Answer). l.given ++ xs) none ∙ append-nil l.given) h.heard)

-- the same with nothing after the bytes
with_nothing : (l : Line) (ending : Option ReadEnd) → HeardSo (binds l) (fed l) l.given ending → HeardSo (binds l) (fed l ++ []) l.given ending
with_nothing l ending h = subst (λ (b : List ℕ). HeardSo (binds l) b l.given ending) (sym (append-nil (fed l))) h

few_still : (l : Line) → IsHeard l → length (fed l ++ []) ≤ MAX_TAKEN
few_still l h = omega (arith, h.count_is, h.few, ap length (append-nil (fed l)))

not_full : (n : ℕ) → n < MAX_TAKEN → (n == MAX_TAKEN) ≡ false
not_full n h = grind (arith, nat_tests)

is_full : (n : ℕ) → n ≤ MAX_TAKEN → MAX_TAKEN ≤ n → (n == MAX_TAKEN) ≡ true
is_full n h k = grind (arith, nat_tests)

no_fault_by : (end : ReadEnd) (s : SourceState) → IsByBytes end → CountsFault end s s
no_fault_by Ended s h = refl
no_fault_by (Broken offset fault) s h = refl
no_fault_by (Cut offset) s h = absurd h
no_fault_by Spent s h = absurd h
no_fault_by ReadFault s h = absurd h

-- the bytes ended the reading before
pub over_by_bytes : (l : Line) (end : ReadEnd) (s : SourceState) → IsHeard l → l.waiting ≡ [] → l.ending ≡ Some end → IsOver l end s s
over_by_bytes l end s h none is =
    let heard = given_heard l (Some end) h none is in
    record {
      piece = [];
      ended = false;
      stream = record { ending = Some end; heard = with_nothing l (Some end) heard; comes = refl };
      few = few_still l h;
      gave = gave_start s;
      met = refl;
      counts = no_fault_by end s (bytes_end (Spec.means (binds l)) (Spec.first (binds l)) (fed l) l.given end heard);
    }

-- as many bytes were taken as may be
pub over_full : (l : Line) (s : SourceState) → IsHeard l → l.waiting ≡ [] → l.ending ≡ None → MAX_TAKEN ≤ l.taken → IsOver l Spent s s
over_full l s h none is full =
    let whole : List ℕ = fed l ++ [] in
    let many : MAX_TAKEN ≤ length whole = omega (arith, full, h.count_is, ap length (append-nil (fed l))) in
    record {
      piece = [];
      ended = false;
      stream = record {
        ending = None;
        heard = with_nothing l None (given_heard l None h none is);
        comes = sym (ap (λ (b : Bool). if b then Spent else ReadFault) (is_full (length whole) (few_still l h) many));
      };
      few = few_still l h;
      gave = gave_start s;
      met = refl;
      counts = refl;
    }

less_still : (l : Line) → IsHeard l → l.taken < MAX_TAKEN → length (fed l ++ []) < MAX_TAKEN
less_still l h less = omega (arith, h.count_is, less, ap length (append-nil (fed l)))

input_end_counts : (rest : Option ℕ) (s s' : SourceState) → s'.faults ≡ s.faults → CountsFault (input_end rest) s s'
input_end_counts None s s' h = h
input_end_counts (Some offset) s s' h = h

-- the input ended
pub over_at_end : (l : Line) (end : ReadEnd) (s s' : SourceState) → IsHeard l → l.waiting ≡ [] → l.ending ≡ None → l.taken < MAX_TAKEN → end ≡ input_end (stream MAX_MESSAGE (fed l)).rest
    → s'.left ≡ s.left → s'.taken ≡ s.taken → IfSome s.left (λ rest. rest ≡ []) → Rose s.ends s'.ends → s'.faults ≡ s.faults → IsOver l end s s'
over_at_end l end s s' h none is less came left taken nothing rose fault =
    let whole : List ℕ = fed l ++ [] in
    let same : end ≡ input_end (stream MAX_MESSAGE whole).rest = came ∙ ap (λ (b : List ℕ). input_end (stream MAX_MESSAGE b).rest) (sym (append-nil (fed l))) in
    record {
      piece = [];
      ended = true;
      stream = record {
        ending = None;
        heard = with_nothing l None (given_heard l None h none is);
        comes = same ∙ sym (ap (λ (b : Bool). if b then Spent else input_end (stream MAX_MESSAGE whole).rest) (not_full (length whole) (less_still l h less)));
      };
      few = few_still l h;
      gave = gave_same [] s s s' (gave_start s) left taken;
      met = end_met s s s' refl left nothing rose;
      counts = subst (λ (e : ReadEnd). CountsFault e s s') (sym came) (input_end_counts (stream MAX_MESSAGE (fed l)).rest s s' fault);
    }

-- a read failed
pub over_at_fault : (l : Line) (s s' : SourceState) → IsHeard l → l.waiting ≡ [] → l.ending ≡ None → l.taken < MAX_TAKEN → s'.left ≡ s.left → s'.taken ≡ s.taken → s'.ends ≡ s.ends
    → Rose s.faults s'.faults → IsOver l ReadFault s s'
over_at_fault l s s' h none is less left taken ends rose =
    let whole : List ℕ = fed l ++ [] in
    record {
      piece = [];
      ended = false;
      stream = record {
        ending = None;
        heard = with_nothing l None (given_heard l None h none is);
        comes = sym (ap (λ (b : Bool). if b then Spent else ReadFault) (not_full (length whole) (less_still l h less)));
      };
      few = few_still l h;
      gave = gave_same [] s s s' (gave_start s) left taken;
      met = ends;
      counts = rose;
    }

-- a read gave bytes, which are at the front of a buffer
took_piece : (into behind piece : List ℕ) (n : ℕ) (s s' : SourceState) → n ≤ length into → s.left ≡ option_map (λ rest. take n into ++ rest) s'.left
    → s'.taken ≡ option_map (λ seen. seen ++ take n into) s.taken → piece ≡ take n (into ++ behind) → s'.ends ≡ s.ends → s'.faults ≡ s.faults → Took piece s s'
took_piece into behind piece n s s' within left taken is ends faults =
    record { gave = gave_step [] into behind piece n s s s' (gave_start s) within left taken is; no_end = ends; no_fault = faults }

piece_len : (into behind piece : List ℕ) (n : ℕ) → n ≤ length into → piece ≡ take n (into ++ behind) → length piece ≡ n
piece_len into behind piece n within is = ap length (is ∙ take-append-le n into behind within) ∙ length-take n into ∙ omega (arith, within)

pub read_on : (l l' : Line) (into behind piece : List ℕ) (n : ℕ) (s s' : SourceState) → HeardMore l l' piece → 0 < n → n ≤ length into → s.left ≡ option_map (λ rest. take n into ++ rest) s'.left
    → s'.taken ≡ option_map (λ seen. seen ++ take n into) s.taken → piece ≡ take n (into ++ behind) → s'.ends ≡ s.ends → s'.faults ≡ s.faults → ReadOn l l' s s' × (l.taken < l'.taken)
read_on l l' into behind piece n s s' more some within left taken is ends faults = (
  record {
    same = more.same;
    given_is = more.given_is;
    piece = piece;
    fed_is = more.fed_is;
    took = took_piece into behind piece n s s' within left taken is ends faults;
    heard = more.heard;
  },
  omega (arith, more.taken_is, piece_len into behind piece n within is, some),
)

pub lacks_piece : (l : Line) (into : List ℕ) (n : ℕ) (s s' : SourceState) → IsHeard l → l.waiting ≡ [] → l.ending ≡ None → n + l.taken ≤ MAX_TAKEN → n ≤ length into
    → s.left ≡ option_map (λ rest. take n into ++ rest) s'.left → s'.taken ≡ option_map (λ seen. seen ++ take n into) s.taken → s'.ends ≡ s.ends → s'.faults ≡ s.faults → LacksMemory l s s'
lacks_piece l into n s s' h none is few within left taken ends faults =
    let long : length (take n into) ≡ n = length-take n into ∙ omega (arith, within) in
    record {
      piece = [];
      last = take n into;
      ending = None;
      heard = with_nothing l None (given_heard l None h none is);
      few = omega (arith, h.count_is, few, long, length-append (fed l ++ []) (take n into), ap length (append-nil (fed l)));
      took = record { gave = gave_more [] (take n into) s s s' (gave_start s) left taken; no_end = ends; no_fault = faults };
    }

-- ---- reads, one after another

pub took_both : (a b : List ℕ) (s s' s'' : SourceState) → Took a s s' → Took b s' s'' → Took (a ++ b) s s''
took_both a b s s' s'' first next = record {
  gave = gave_more a b s s' s'' first.gave next.gave.from_left next.gave.to_taken;
  no_end = next.no_end ∙ first.no_end;
  no_fault = next.no_fault ∙ first.no_fault;
}

pub on_start : (l : Line) (s : SourceState) → IsHeard l → ReadOn l l s s
on_start l s h = record {
  same = refl;
  given_is = refl;
  piece = [];
  fed_is = sym (append-nil (fed l));
  took = record { gave = gave_start s; no_end = refl; no_fault = refl };
  heard = h;
}

parts : (a b c : List ℕ) (p q : List ℕ) → b ≡ a ++ p → c ≡ b ++ q → c ≡ a ++ (p ++ q)
parts a b c p q is next = next ∙ ap (λ (x : List ℕ). x ++ q) is ∙ append_assoc a p q

pub on_on : (l l' l'' : Line) (s s' s'' : SourceState) → ReadOn l l' s s' → ReadOn l' l'' s' s'' → ReadOn l l'' s s''
on_on l l' l'' s s' s'' first next = record {
  same = next.same ∙ first.same;
  given_is = next.given_is ∙ first.given_is;
  piece = first.piece ++ next.piece;
  fed_is = parts (fed l) (fed l') (fed l'') first.piece next.piece first.fed_is next.fed_is;
  took = took_both first.piece next.piece s s' s'' first.took next.took;
  heard = next.heard;
}

met_after : (ended : Bool) (s s' s'' : SourceState) → s'.ends ≡ s.ends → MeetsEnd ended s' s'' → MeetsEnd ended s s''
met_after true s s' s'' same met = (omega (arith, same, met.0), met.1)
met_after false s s' s'' same met = met ∙ same

counts_after : (end : ReadEnd) (s s' s'' : SourceState) → s'.faults ≡ s.faults → CountsFault end s' s'' → CountsFault end s s''
counts_after Ended s s' s'' same counts = counts ∙ same
counts_after (Cut offset) s s' s'' same counts = counts ∙ same
counts_after (Broken offset fault) s s' s'' same counts = counts ∙ same
counts_after Spent s s' s'' same counts = counts ∙ same
counts_after ReadFault s s' s'' same counts = omega (arith, same, counts)

pub on_over : (l l' : Line) (end : ReadEnd) (s s' s'' : SourceState) → ReadOn l l' s s' → IsOver l' end s' s'' → IsOver l end s s''
on_over l l' end s s' s'' first next =
    let whole : fed l' ++ next.piece ≡ fed l ++ (first.piece ++ next.piece) =
    parts (fed l) (fed l') (fed l' ++ next.piece) first.piece next.piece first.fed_is refl in
    record {
      piece = first.piece ++ next.piece;
      ended = next.ended;
      stream = subst (λ (xs : List Answer). HearsStream (Spec.means (binds l)) (Spec.first (binds l)) (fed l ++ (first.piece ++ next.piece)) next.ended xs end) first.given_is
          (subst (λ (b : List ℕ). HearsStream (Spec.means (binds l)) (Spec.first (binds l)) b next.ended l'.given end) whole
          (subst (λ (b : Bool). HearsStream (Spec.means b) (Spec.first b) (fed l' ++ next.piece) next.ended l'.given end) first.same next.stream));
      few = omega (arith, next.few, ap length whole);
      gave = gave_more first.piece next.piece s s' s'' first.took.gave next.gave.from_left next.gave.to_taken;
      met = met_after next.ended s s' s'' first.took.no_end next.met;
      counts = counts_after end s s' s'' first.took.no_fault next.counts;
    }

pub on_lacks : (l l' : Line) (s s' s'' : SourceState) → ReadOn l l' s s' → LacksMemory l' s' s'' → LacksMemory l s s''
on_lacks l l' s s' s'' first next =
    let whole : fed l' ++ next.piece ≡ fed l ++ (first.piece ++ next.piece) =
    parts (fed l) (fed l') (fed l' ++ next.piece) first.piece next.piece first.fed_is refl in
    record {
      piece = first.piece ++ next.piece;
      last = next.last;
      ending = next.ending;
      heard = subst (λ (xs : List Answer). HeardSo (binds l) (fed l ++ (first.piece ++ next.piece)) xs next.ending) first.given_is
          (subst (λ (b : List ℕ). HeardSo (binds l) b l'.given next.ending) whole
          (subst (λ (b : Bool). HeardSo b (fed l' ++ next.piece) l'.given next.ending) first.same next.heard));
      few = omega (arith, next.few, ap (λ (b : List ℕ). length (b ++ next.last)) whole);
      took = subst (λ (b : List ℕ). Took b s s'') (sym (append_assoc first.piece next.piece next.last))
          (took_both first.piece (next.piece ++ next.last) s s' s'' first.took next.took);
    }

-- ---- answers

first_of_list : (xs : List Answer) (a : Answer) → slice_get xs 0 ≡ Some a → xs ≡ a ∷ remove xs 0
first_of_list [] a is = absurd (cc)
first_of_list (b ∷ xs) a is = let same : b ≡ a = cc in ap (λ (x : Answer). x ∷ xs) same

pub gives : (l l' : Line) (a : Answer) → IsHeard l → slice_get l.waiting 0 ≡ Some a → l'.waiting ≡ remove l.waiting 0 → l'.given ≡ l.given ++ take 1 l.waiting → l'.hearer ≡ l.hearer
    → l'.ending ≡ l.ending → l'.taken ≡ l.taken → Gives l l' a
gives l l' a h is later given hearer ending taken =
    let split : l.waiting ≡ a ∷ remove l.waiting 0 = first_of_list l.waiting a is in
    let one : take 1 l.waiting ≡ a ∷ [] = ap (take 1) split in
    let out : l'.given ≡ l.given ++ a ∷ [] = given ∙ ap (λ (xs : List Answer). l.given ++ xs) one in
    let all : l.given ++ l.waiting ≡ l'.given ++ l'.waiting =
    ap (λ (xs : List Answer). l.given ++ xs) (split ∙ ap (λ (xs : List Answer). a ∷ xs) (sym later)) ∙ sym (append_assoc l.given (a ∷ []) l'.waiting)
    ∙ ap (λ (xs : List Answer). xs ++ l'.waiting) (sym out) in
    let same_fed : fed l' ≡ fed l = ap (λ (x : Hearer Caller Awaited Answer). x.framer.fed) hearer in
    record {
      same = ap (λ (x : Hearer Caller Awaited Answer). x.judge.binds) hearer;
      given_is = out;
      fed_is = same_fed;
      heard = record {
        heard = subst (λ (o : Option ReadEnd). HeardSo (binds l') (fed l') (l'.given ++ l'.waiting) o) (sym ending)
            (subst (λ (x : Hearer Caller Awaited Answer). HeardSo x.judge.binds x.framer.fed (l'.given ++ l'.waiting) l.ending) (sym hearer)
            (subst (λ (xs : List Answer). HeardSo (binds l) (fed l) xs l.ending) all h.heard));
        calls_are = ap (λ (x : Hearer Caller Awaited Answer). x.calls) hearer ∙ h.calls_are ∙ all;
        count_is = taken ∙ h.count_is ∙ ap length (sym same_fed);
        few = omega (arith, taken, h.few);
        going = λ none. subst (λ (x : Hearer Caller Awaited Answer). IsGoing first_of (λ (c : Caller). Spec.means c.binds) x) (sym hearer) (h.going (sym ending ∙ none));
      };
    }

pub gives_out : (l l' l'' : Line) (a : Answer) (s s' : SourceState) → ReadOn l l' s s' → Gives l' l'' a → GivesOut l l'' a s s'
gives_out l l' l'' a s s' first next = record {
  same = next.same ∙ first.same;
  given_is = next.given_is ∙ ap (λ (xs : List Answer). xs ++ a ∷ []) first.given_is;
  piece = first.piece;
  fed_is = next.fed_is ∙ first.fed_is;
  took = first.took;
  heard = next.heard;
}
