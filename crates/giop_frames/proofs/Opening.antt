-- What becomes of the bytes of a piece, and what the machine says of them.
use Rattle.std.proofs.Common.{◌≡◌, ◌⊎◌, inl, inr, ℕ, ◌+◌, ◌-◌, ◌%◌, ◌==◌, ◌≤◌, ◌<◌, ◌^◌, nat_lt, true, false, List, [], ◌∷◌, ◌++◌, length, insert, remove, get_or, take, drop, Option, Some, None, Result, Ok, Err, OnOk, OnErr, refl, ap, sym, ◌∙◌, subst, arith, length-append, length-drop}
use Rattle.std.specs.Int.{w32}
use Rattle.std.specs.Prelude.{IsSome}
use Rattle.std.proofs.lemmas.List.{take-append-drop, take-append-le, drop-append-le, length-take-le}
use Rattle.std.proofs.lemmas.List.Sums.{sum_by-append}
use Rattle.std.proofs.Math.Seq.{take-append_seam, drop-append_seam, get_or-append_seam}
use Rattle.orb_base.specs.Room.{Room}
use Rattle.orb_base.specs.declared.order.Order.{Order}
use Rattle.orb_base.specs.declared.no_memory.NoMemory.{NoMemory as Lack}
use Rattle.cdr_core.specs.Reading.{number_of}
use Rattle.giop_frames.specs.declared.fault.FrameCause.{FrameCause}
use Rattle.giop_frames.specs.declared.fault.FrameFault.{FrameFault}
use Rattle.giop_frames.specs.declared.fault.FeedFault.{FeedFault}
use Rattle.giop_frames.specs.declared.fault.FeedFault.TheVariants.{Frame, NoMemory}
use Rattle.giop_frames.specs.declared.kind.Kind.TheVariants.{Fragment}
use Rattle.giop_frames.specs.declared.header.Header.{Header}
use Rattle.giop_frames.specs.declared.opened.Joining.{Joining}
use Rattle.giop_frames.specs.declared.opened.Filling.{Filling}
use Rattle.giop_frames.specs.declared.opened.Filling.TheVariants.{Own, Joins, Breaks}
use Rattle.giop_frames.specs.declared.opened.Opened.{Opened}
use Rattle.giop_frames.specs.declared.opened.Coming.{Coming}
use Rattle.giop_frames.specs.declared.opened.Coming.TheVariants.{Head, Open}
use Rattle.giop_frames.specs.declared.opened.Here.{Here}
use Rattle.giop_frames.specs.Kinds.{is_kind, comes_whole, number}
use Rattle.giop_frames.specs.Pieces.{Piece, order_of, has_more, kind_of, id_of, is_whole, piece_len}
use Rattle.giop_frames.specs.Headers.{BeginsWith, header_at}
use Rattle.giop_frames.specs.Messages.{Partial, Message, is_fragment, open_at, sealed}
use Rattle.giop_frames.specs.Stream.{header_cause, tail_cause, fragment_cause, first_cause, piece_rule, piece_cause}
use Rattle.giop_frames.specs.Running.{State}
use Rattle.giop_frames.specs.Steps.{Does, Found, IsDistinct, IsSound, JoinFits}
use Rattle.giop_frames.specs.Bounds.{IsBounded, held}
use Rattle.giop_frames.specs.Joining.{IsResting, IsFilled, IsReady, Needs, Same, Stops, Fails, lifted, with_tail}
use Rattle.giop_frames.specs.Opening.{verdict, own_part, all_of, JoinsSo, FillsSo, IsOpened, ComesSo, partials_of, kept_by, kept_of, at_head, IsTaken, BreaksWhole, IsRefused, FailsOn, TakesPiece, GoesOn, Advances, Opens, JoinsTo, FillsFrom, MoreOf, at_opened, at_coming, at_rest}
use Rattle.giop_frames.proofs.Ahead.{part_of, order_front, more_front, kind_front, head_size_front, piece_len_front, head_front, header_front}
use Rattle.giop_frames.proofs.Bounds.{not_whole}
use Rattle.giop_frames.proofs.Deeds.{found_open, found_back, found_remove, found_there, does_begun, does_last}
use Rattle.giop_frames.proofs.Effects.{fragment_opens_none, middle_ends, fragment_continues, step_grows}
use Rattle.giop_frames.proofs.Flows.{around}
use Rattle.giop_frames.proofs.Joins.{behind, finish_same, kept_as, lacks_any, put_reads, put_same, rests_kept, stops_header, stops_piece, tail_sound}
use Rattle.giop_frames.proofs.Soundness.{passed, sound}

-- ---- more bytes of a piece that was judged

pub id_front : (a b : List ℕ) → 16 ≤ length a → id_of (a ++ b) ≡ id_of a
unfolding id_of
id_front a b h =
    ap (λ (o : Order). number_of o w32 (take 4 (drop 12 (a ++ b)))) (order_front a b (omega arith))
    ∙ ap (λ (x : List ℕ). number_of (order_of a) w32 x)
    (ap (λ (x : List ℕ). take 4 x) (drop-append-le 12 a b (omega arith)) ∙ take-append-le 4 (drop 12 a) b (omega (arith, length-drop 12 a)))

fragment_front : (a b : List ℕ) → 12 ≤ length a → is_fragment (a ++ b) ≡ is_fragment a
unfolding is_fragment
fragment_front a b h = ap (λ (k : ℕ). is_kind Fragment k) (kind_front a b h)

begins_front : (h : Header) (a b : List ℕ) → BeginsWith h a → BeginsWith h (a ++ b)
begins_front h a b g = record {
  long = omega (arith, g.long, length-append a b);
  order = g.order ∙ sym (order_front a b g.long);
  more = g.more ∙ sym (more_front a b g.long);
  kind = g.kind ∙ sym (kind_front a b g.long);
  size = g.size ∙ sym (head_size_front a b g.long);
}

joined_own : (j k : Joining) (b : List ℕ) → j.own ≤ length j.message.bytes → k ≡ record j { message = record j.message { bytes = j.message.bytes ++ b } } → own_part k ≡ own_part j
joined_own j k b h e =
    ap own_part e
    ∙ ap (λ (x : List ℕ). let r : Partial = record { at = j.message.at; id = j.message.id; order = j.message.order; bytes = x } in r) (take-append-le j.own j.message.bytes b h)

pub more_all : (f g : Filling) (a b : List ℕ) (us : List Partial) → FillsSo f a us → MoreOf f b g → all_of g us ≡ all_of f us
more_all (Own x) (Own y) a b us h m = refl
more_all (Own x) (Joins k) a b us h m = absurd m
more_all (Own x) (Breaks d) a b us h m = absurd m
more_all (Joins j) (Own y) a b us h m = absurd m
more_all (Joins j) (Joins k) a b us h m = ap (λ (n : ℕ). insert us n (own_part k)) (ap (λ (x : Joining). x.place) m) ∙ ap (insert us j.place) (joined_own j k b h.own m)
more_all (Joins j) (Breaks d) a b us h m = absurd m
more_all (Breaks c) (Own y) a b us h m = absurd m
more_all (Breaks c) (Joins k) a b us h m = absurd m
more_all (Breaks c) (Breaks d) a b us h m = refl

more_verdict : (f g : Filling) (b : List ℕ) → MoreOf f b g → verdict g ≡ verdict f
more_verdict (Own x) (Own y) b m = refl
more_verdict (Own x) (Joins k) b m = absurd m
more_verdict (Own x) (Breaks d) b m = absurd m
more_verdict (Joins j) (Own y) b m = absurd m
more_verdict (Joins j) (Joins k) b m = refl
more_verdict (Joins j) (Breaks d) b m = absurd m
more_verdict (Breaks c) (Own y) b m = absurd m
more_verdict (Breaks c) (Joins k) b m = absurd m
more_verdict (Breaks c) (Breaks d) b m = ap (λ (x : FrameCause). Some x) m

more_fills : (f g : Filling) (a b : List ℕ) (us : List Partial) → 16 ≤ length a → FillsSo f a us → MoreOf f b g → FillsSo g (a ++ b) us
more_fills (Own x) (Own y) a b us l h m = (m ∙ ap (λ (z : List ℕ). z ++ b) h.0, fragment_front a b (omega arith) ∙ h.1)
more_fills (Own x) (Joins k) a b us l h m = absurd m
more_fills (Own x) (Breaks d) a b us l h m = absurd m
more_fills (Joins j) (Own y) a b us l h m = absurd m
more_fills (Joins j) (Joins k) a b us l h m =
    let P : Joining → Type 0 = λ x. JoinsSo x (a ++ b) us in
    subst P (sym m) (record {
      place = h.place;
      own = omega (arith, h.own, length-append j.message.bytes b);
      joined = drop-append-le j.own j.message.bytes b h.own ∙ ap (λ (z : List ℕ). z ++ b) h.joined ∙ sym (drop-append-le 16 a b l);
      kind = h.kind ∙ ap kind_of (sym (take-append-le j.own j.message.bytes b h.own));
      same = ap (λ (n : ℕ). j.message.id == n) (id_front a b l) ∙ h.same;
      before = ap (λ (n : ℕ). open_at n (take j.place us)) (id_front a b l) ∙ h.before;
      fragment = fragment_front a b (omega arith) ∙ h.fragment;
    })
more_fills (Joins j) (Breaks d) a b us l h m = absurd m
more_fills (Breaks c) (Own y) a b us l h m = absurd m
more_fills (Breaks c) (Joins k) a b us l h m = absurd m
more_fills (Breaks c) (Breaks d) a b us l h m = tt

pub more_kept : (f g : Filling) (b : List ℕ) (us : List Partial) → MoreOf f b g → kept_by g us ≤ kept_by f us + length b
more_kept (Own x) (Own y) b us m = omega (arith, ap length m, length-append x.items b)
more_kept (Own x) (Joins k) b us m = absurd m
more_kept (Own x) (Breaks d) b us m = absurd m
more_kept (Joins j) (Own y) b us m = absurd m
more_kept (Joins j) (Joins k) b us m = omega (arith, ap (λ (x : Joining). length x.message.bytes) m, length-append j.message.bytes b)
more_kept (Joins j) (Breaks d) b us m = absurd m
more_kept (Breaks c) (Own y) b us m = absurd m
more_kept (Breaks c) (Joins k) b us m = absurd m
more_kept (Breaks c) (Breaks d) b us m = omega arith

pub opened_more : (limit : ℕ) (o : Opened) (g : Filling) (a b : List ℕ) (us : List Partial) → IsOpened limit o a us → MoreOf o.filling b g
    → IsOpened limit (record { header = o.header; filling = g }) (a ++ b) us
opened_more limit o g a b us i m =
    let l : 12 ≤ length a = omega (arith, i.long) in
    record {
      begins = begins_front o.header a b i.begins;
      header = head_front a b l ∙ i.header;
      sound = header_front limit a b l ∙ i.sound;
      long = omega (arith, i.long, length-append a b);
      judged = ap (λ (n : ℕ). piece_rule limit (all_of g us) n (id_of (a ++ b)) (Ok o.header)) (piece_len_front a b l)
          ∙ ap (λ (n : ℕ). piece_rule limit (all_of g us) (piece_len a) n (Ok o.header)) (id_front a b i.long)
          ∙ ap (λ (vs : List Partial). piece_rule limit vs (piece_len a) (id_of a) (Ok o.header)) (more_all o.filling g a b us i.fills m)
          ∙ i.judged ∙ sym (more_verdict o.filling g b m);
      fills = more_fills o.filling g a b us i.long i.fills m;
    }

-- ---- what is kept

held_parts : (us : List Partial) (n : ℕ) → held us ≡ held (take n us) + held (drop n us)
held_parts us n = ap (λ (x : List Partial). held x) (sym (take-append-drop n us)) ∙ sum_by-append (λ u. length u.bytes) (take n us) (drop n us)

held_insert : (us : List Partial) (n : ℕ) (u : Partial) → held (insert us n u) ≡ length u.bytes + held us
held_insert us n u = omega (arith, around (take n us) (drop n us) u, held_parts us n)

filling_all : (f : Filling) (tail : List ℕ) (us : List Partial) → 16 ≤ length tail → FillsSo f tail us → verdict f ≡ None → length tail + held (all_of f us) ≤ kept_by f us
filling_all (Own x) tail us l h v = omega (arith, ap length h.0)
filling_all (Joins j) tail us l h v =
    omega (
      arith,
      held_insert us j.place (own_part j),
      length-take-le j.own j.message.bytes h.own,
      length-drop j.own j.message.bytes,
      length-drop 16 tail,
      ap length h.joined,
      h.own,
    )
filling_all (Breaks c) tail us l h v = absurd (cc)

-- all that has come of a piece that breaks no rule
pub kept_all : (limit : ℕ) (o : Opened) (tail : List ℕ) (us : List Partial) → IsOpened limit o tail us → verdict o.filling ≡ None → length tail + held (all_of o.filling us) ≤ kept_by o.filling us
kept_all limit o tail us i v = filling_all o.filling tail us i.long i.fills v

filling_few : (f : Filling) (tail : List ℕ) (us : List Partial) → 16 ≤ length tail → FillsSo f tail us → kept_by f us ≤ length tail + held (all_of f us)
filling_few (Own x) tail us l h = omega (arith, ap length h.0)
filling_few (Joins j) tail us l h =
    omega (
      arith,
      held_insert us j.place (own_part j),
      length-take-le j.own j.message.bytes h.own,
      length-drop j.own j.message.bytes,
      length-drop 16 tail,
      ap length h.joined,
      h.own,
    )
filling_few (Breaks c) tail us l h = omega arith

pub kept_few : (limit : ℕ) (o : Opened) (tail : List ℕ) (us : List Partial) → IsOpened limit o tail us → kept_by o.filling us ≤ length tail + held (all_of o.filling us)
kept_few limit o tail us i = filling_few o.filling tail us i.long i.fills

-- ---- the message that a Fragment joins is taken out

joins_as : (us us' : List Partial) (place : ℕ) (bytes : List ℕ) (m : Partial) → 16 ≤ length bytes → Found (id_of bytes) us place → is_fragment bytes ≡ true
    → m ≡ get_or us place m → us' ≡ remove us place
    → JoinsTo (record { place = place; message = record m { bytes = m.bytes ++ drop 16 bytes }; own = length m.bytes; kind = kind_of m.bytes }) bytes us us'
joins_as us us' place bytes m l f fragment got is =
    let id : ℕ = id_of bytes in
    let d : List ℕ = drop 16 bytes in
    let there : m ≡ f.there = found_there id place us f m got in
    let left : us' ≡ f.front ++ f.back = is ∙ found_remove id place us f in
    let taken : take place us' ≡ f.front = ap (λ (n : ℕ). take n us') (sym f.place) ∙ ap (take (length f.front)) left ∙ take-append_seam f.front f.back in
    let dropped : drop place us' ≡ f.back = ap (λ (n : ℕ). drop n us') (sym f.place) ∙ ap (drop (length f.front)) left ∙ drop-append_seam f.front f.back in
    let own : take (length m.bytes) (m.bytes ++ d) ≡ m.bytes = take-append_seam m.bytes d in
    let part : List ℕ → Partial = λ (x : List ℕ). record { at = m.at; id = m.id; order = m.order; bytes = x } in
    record {
      joins = record {
        place = omega (arith, f.place, ap length left, length-append f.front f.back);
        own = omega (arith, length-append m.bytes d);
        joined = drop-append_seam m.bytes d;
        kind = ap kind_of (sym own);
        same = ap (λ (u : Partial). u.id == id) there ∙ f.same;
        before = ap (open_at id) taken ∙ f.before;
        fragment = fragment;
      };
      same = ap (λ (x : List ℕ). take place us' ++ part x ∷ drop place us') own
          ∙ ap (λ (x : List Partial). x ++ m ∷ drop place us') taken
          ∙ ap (λ (x : List Partial). f.front ++ m ∷ x) dropped
          ∙ ap (λ (u : Partial). f.front ++ u ∷ f.back) there
          ∙ sym f.parts;
      few = omega (
        arith,
        length-append m.bytes d,
        length-drop 16 bytes,
        ap (λ (x : List Partial). held x) left,
        sum_by-append (λ u. length u.bytes) f.front f.back,
        ap (λ (x : List Partial). held x) f.parts,
        around f.front f.back f.there,
        ap (λ (u : Partial). length u.bytes) there,
        l,
      );
    }

pub joins_opened : (us us' : List Partial) (place : ℕ) (bytes : List ℕ) (m : Partial) (j : Joining) → 16 ≤ length bytes → Found (id_of bytes) us place → is_fragment bytes ≡ true
    → m ≡ get_or us place m → us' ≡ remove us place → j ≡ record { place = place; message = record m { bytes = m.bytes ++ drop 16 bytes }; own = length m.bytes; kind = kind_of m.bytes }
    → JoinsTo j bytes us us'
joins_opened us us' place bytes m j l f fragment got is e =
    let P : Joining → Type 0 = λ x. JoinsTo x bytes us us' in subst P (sym e) (joins_as us us' place bytes m l f fragment got is)

-- ---- what a whole piece breaks

pub opened_cause : (limit : ℕ) (o : Opened) (tail : List ℕ) (us : List Partial) → IsOpened limit o tail us → length tail ≡ piece_len tail → piece_cause limit (all_of o.filling us) tail ≡ verdict o.filling
unfolding piece_cause
opened_cause limit o tail us i full =
    ap (piece_rule limit (all_of o.filling us) (length tail) (id_of tail)) i.header
    ∙ ap (λ (n : ℕ). piece_rule limit (all_of o.filling us) n (id_of tail) (Ok o.header)) full ∙ i.judged

pub whole_cause : (limit : ℕ) (us : List Partial) (bytes : List ℕ) (h : Header) (o : Option FrameCause) → header_at bytes ≡ Ok h → o ≡ piece_rule limit us (length bytes) (id_of bytes) (Ok h)
    → piece_cause limit us bytes ≡ o
unfolding piece_cause
whole_cause limit us bytes h o e is = ap (piece_rule limit us (length bytes) (id_of bytes)) e ∙ sym is

pub refused_whole : (t : State) (whole : List Message) (cause : FrameCause) → 12 ≤ length t.tail → length t.tail ≡ piece_len t.tail → header_cause t.limit t.tail ≡ None
    → piece_cause t.limit t.partials t.tail ≡ Some cause → IsRefused t t.partials whole whole (record { cause = cause; offset = t.at })
refused_whole t whole cause l full sound breaks =
    record { offset = refl; same = refl; gives = refl; header = l; why = inr (record { full = full; sound = sound; breaks = breaks }) }

pub refused_header : (t : State) (whole : List Message) (cause : FrameCause) → 12 ≤ length t.tail → header_cause t.limit t.tail ≡ Some cause → IsRefused t t.partials whole whole (record { cause = cause; offset = t.at })
refused_header t whole cause l breaks = record { offset = refl; same = refl; gives = refl; header = l; why = inl breaks }

pub taken_by : (r : Result (Unit {0}) Lack) (t : State) (us' : List Partial) (whole whole' : List Message) → 12 ≤ length t.tail → length t.tail ≡ piece_len t.tail → header_cause t.limit t.tail ≡ None
    → piece_cause t.limit t.partials t.tail ≡ None → length t.tail + held t.partials ≤ t.kept → OnOk r (Does (record { at = t.at; bytes = t.tail }) t.partials us' whole whole') → OnErr r (whole' ≡ whole)
    → TakesPiece (lifted r) t us' whole whole'
taken_by (Ok x) t us' whole whole' l full sound passes few ok err = record { header = l; full = full; sound = sound; passes = passes; does = ok; few = few }
taken_by (Err e) t us' whole whole' l full sound passes few ok err = err

-- ---- what the machine says

ready_filled : (t : State) → IsFilled t → 12 ≤ length t.tail → length t.tail ≡ piece_len t.tail → header_cause t.limit t.tail ≡ None → IsReady t
ready_filled t f l full sound = record { header = l; full = full; sound = sound; distinct = f.distinct; bounded = f.bounded; small = f.small }

pub taken_same : (whole whole' : List Message) (t : State) (us' : List Partial) → IsFilled t → IsTaken t us' whole whole' → Same whole t [] whole' (behind t us')
taken_same whole whole' t us' f k = finish_same whole whole' t us' (ready_filled t f k.header k.full k.sound) k.passes k.does k.few

stops_by : (whole : List Message) (t : State) (cause : FrameCause) → IsFilled t → 12 ≤ length t.tail → (header_cause t.limit t.tail ≡ Some cause) ⊎ BreaksWhole t cause
    → Stops whole t [] whole t.partials (record { cause = cause; offset = t.at })
stops_by whole t cause f l (inl h) = stops_header whole t cause l h
stops_by whole t cause f l (inr b) = stops_piece whole t cause (ready_filled t f l b.full b.sound) b.breaks

pub failed_reads : (fault : FeedFault) (t s' : State) (us' : List Partial) (whole whole' : List Message) → IsFilled t → s'.partials ≡ us' → FailsOn fault t us' whole whole' → Fails fault [] t s' whole whole'
failed_reads (Frame f) t s' us' whole whole' fl e k =
    let W : List Message → Type 0 = λ w. Stops whole t [] w s'.partials f in
    let U : List Partial → Type 0 = λ us. Stops whole t [] whole us f in
    let F : ℕ → Type 0 = λ n. Stops whole t [] whole t.partials (record { cause = f.cause; offset = n }) in
    subst W (sym k.gives) (subst U (sym (e ∙ k.same)) (subst F (sym k.offset) (stops_by whole t f.cause fl k.header k.why)))
failed_reads NoMemory t s' us' whole whole' fl e k = lacks_any whole t [] whole' k

-- ---- a piece that is judged by its first 16 bytes

is_open : (limit : ℕ) (order : Order) (len : ℕ) (o : Option Partial) → fragment_cause limit order len o ≡ None → IsSome o
unfolding fragment_cause
is_open limit order len None h = absurd (cc)
is_open limit order len (Some u) h = refl

-- a Fragment that breaks no rule has its message open
pub rule_open : (limit : ℕ) (us : List Partial) (bytes : List ℕ) (h : Header) (len : ℕ) → BeginsWith h bytes → None ≡ piece_rule limit us len (id_of bytes) (Ok h) → is_fragment bytes ≡ true
    → IsSome (open_at (id_of bytes) us)
unfolding is_fragment
rule_open limit us bytes h len b e f =
    let p = passed h.more (comes_whole (number h.kind)) (len % 8 == 0) (is_kind Fragment (number h.kind)) (nat_lt len 16) (fragment_cause limit h.order len (open_at (id_of bytes) us)) (first_cause us (id_of bytes)) (sym e) in
    is_open limit h.order len (open_at (id_of bytes) us) (p.fragment (ap (λ (k : ℕ). is_kind Fragment k) b.kind ∙ f))

pub none_some : (o : Option Partial) → o ≡ None → IsSome o → ⊥
none_some o e k = let P : Option Partial → Type 0 = λ x. IsSome x in let n : IsSome {T = Partial} None = subst P e k in cc

pub rule_open_as : (limit : ℕ) (us : List Partial) (bytes : List ℕ) (h : Header) → BeginsWith h bytes → piece_rule limit us (piece_len bytes) (id_of bytes) (Ok h) ≡ None → is_fragment bytes ≡ true
    → IsSome (open_at (id_of bytes) us)
rule_open_as limit us bytes h b e f = rule_open limit us bytes h (piece_len bytes) b (sym e) f

judged_len : (h : Header) (bytes : List ℕ) → BeginsWith h bytes → 12 + h.size ≡ piece_len bytes
unfolding piece_len
judged_len h bytes b = ap (λ (n : ℕ). 12 + n) b.size

pub header_len : (h : Header) (bytes : List ℕ) (len : ℕ) → BeginsWith h bytes → len ≡ 12 + h.size → len ≡ piece_len bytes
header_len h bytes len b e = e ∙ judged_len h bytes b

-- the rule, where the code has the parts
pub rule_as : (limit : ℕ) (us vs : List Partial) (bytes front : List ℕ) (h : Header) (len : ℕ) (o : Option FrameCause) → BeginsWith h bytes → vs ≡ us → front ≡ bytes → len ≡ 12 + h.size
    → o ≡ piece_rule limit vs len (id_of front) (Ok h) → piece_rule limit us (piece_len bytes) (id_of bytes) (Ok h) ≡ o
rule_as limit us vs bytes front h len o b hu hf hl is =
    sym (is ∙ ap (λ (x : List Partial). piece_rule limit x len (id_of front) (Ok h)) hu
    ∙ ap (λ (x : List ℕ). piece_rule limit us len (id_of x) (Ok h)) hf
    ∙ ap (λ (n : ℕ). piece_rule limit us n (id_of bytes) (Ok h)) (header_len h bytes len b hl))

pub cause_as : (limit : ℕ) (us vs : List Partial) (bytes : List ℕ) (h : Header) (o : Option FrameCause) → vs ≡ us → header_at bytes ≡ Ok h
    → o ≡ piece_rule limit vs (length bytes) (id_of bytes) (Ok h) → piece_cause limit us bytes ≡ o
cause_as limit us vs bytes h o hu e is =
    whole_cause limit us bytes h o e (is ∙ ap (λ (x : List Partial). piece_rule limit x (length bytes) (id_of bytes) (Ok h)) hu)

pub opens_breaks : (here : Here) (h : Header) (bytes : List ℕ) (us : List Partial) (cause : FrameCause) → BeginsWith h bytes → header_at bytes ≡ Ok h → header_cause here.limit bytes ≡ None → 16 ≤ length bytes
    → piece_rule here.limit us (piece_len bytes) (id_of bytes) (Ok h) ≡ Some cause → Opens (record { header = h; filling = Breaks cause }) (at_head here bytes us) us
opens_breaks here h bytes us cause b e s l r =
    record { is = record { begins = b; header = e; sound = s; long = l; judged = r; fills = tt }; same = refl; few = omega (arith, l) }

pub opens_fills : (here : Here) (h : Header) (f : Filling) (bytes : List ℕ) (us us' : List Partial) → BeginsWith h bytes → header_at bytes ≡ Ok h → header_cause here.limit bytes ≡ None → 16 ≤ length bytes
    → piece_rule here.limit us (piece_len bytes) (id_of bytes) (Ok h) ≡ None → FillsFrom f bytes us us' → Opens (record { header = h; filling = f }) (at_head here bytes us) us'
opens_fills here h f bytes us us' b e s l r k =
    record {
      is = record {
        begins = b;
        header = e;
        sound = s;
        long = l;
        judged = ap (λ (x : List Partial). piece_rule here.limit x (piece_len bytes) (id_of bytes) (Ok h)) k.same ∙ r ∙ sym k.sound;
        fills = k.fills;
      };
      same = k.same;
      few = k.few;
    }

pub fills_own : (x : Room ℕ) (bytes : List ℕ) (us : List Partial) → x.items ≡ bytes → is_fragment bytes ≡ false → FillsFrom (Own x) bytes us us
fills_own x bytes us e f = record { fills = (e, f); same = refl; few = omega (arith, ap length e); sound = refl }

pub fills_joins : (j : Joining) (bytes : List ℕ) (us us' : List Partial) → JoinsTo j bytes us us' → FillsFrom (Joins j) bytes us us'
fills_joins j bytes us us' k = record { fills = k.joins; same = k.same; few = k.few; sound = refl }

-- less than a piece, still to be judged or judged
pub goes_head : (here : Here) (x : Room ℕ) (us : List Partial) (whole : List Message) → is_whole x.items ≡ false → tail_cause here.limit x.items ≡ None → GoesOn (Head x) (at_head here x.items us) us whole whole
goes_head here x us whole w c = record { comes = refl; same = refl; gives = refl; few = omega arith; all = omega arith; part = w; sound = c }

pub goes_open : (here : Here) (o : Opened) (bytes : List ℕ) (us us' : List Partial) (whole : List Message) → Opens o (at_head here bytes us) us' → length bytes < piece_len bytes
    → GoesOn (Open o) (at_head here bytes us) us' whole whole
goes_open here o bytes us us' whole k lt =
    record { comes = k.is; same = k.same; gives = refl; few = k.few; all = k.few; part = part_of bytes lt; sound = tail_sound here.limit bytes k.is.sound }

-- ---- more bytes of a piece that was judged

pub goes_more : (here : Here) (o : Opened) (g : Filling) (tail bytes : List ℕ) (us : List Partial) (whole : List Message) (came len : ℕ) → IsOpened here.limit o tail us → MoreOf o.filling bytes g
    → came ≡ length (tail ++ bytes) → len ≡ 12 + o.header.size → came < len
    → GoesOn (Open (record { header = o.header; filling = g })) (at_opened here o tail bytes us) us whole whole
goes_more here o g tail bytes us whole came len i m hc hl lt =
    let j = opened_more here.limit o g tail bytes us i m in
    let same = more_all o.filling g tail bytes us i.fills m in
    record {
      comes = j;
      same = same;
      gives = refl;
      few = more_kept o.filling g bytes us m;
      all = omega (arith, kept_few here.limit (record { header = o.header; filling = g }) (tail ++ bytes) us j, ap (λ (x : List Partial). held x) same);
      part = part_of (tail ++ bytes) (omega (arith, hc, header_len o.header (tail ++ bytes) len j.begins hl, lt));
      sound = tail_sound here.limit (tail ++ bytes) j.sound;
    }

pub more_opened : (here : Here) (o : Opened) (g : Filling) (tail bytes all : List ℕ) (us : List Partial) → IsOpened here.limit o tail us → MoreOf o.filling bytes g → all ≡ tail ++ bytes
    → IsOpened here.limit (record { header = o.header; filling = g }) all us
more_opened here o g tail bytes all us i m e =
    let P : List ℕ → Type 0 = λ x. IsOpened here.limit (record { header = o.header; filling = g }) x us in subst P (sym e) (opened_more here.limit o g tail bytes us i m)

pub more_full : (here : Here) (o : Opened) (g : Filling) (tail bytes all : List ℕ) (us : List Partial) (came len : ℕ) → IsOpened here.limit o tail us → MoreOf o.filling bytes g → all ≡ tail ++ bytes
    → came ≡ length (tail ++ bytes) → len ≡ 12 + o.header.size → len ≤ came → IsFilled (at_opened here o tail bytes us) → length all ≡ piece_len all
more_full here o g tail bytes all us came len i m e hc hl le f =
    let j = opened_more here.limit o g tail bytes us i m in
    omega (arith, ap length e, ap piece_len e, hc, header_len o.header (tail ++ bytes) len j.begins hl, le, f.fits (omega (arith, j.long)))

pub more_filled : (here : Here) (o : Opened) (g : Filling) (tail bytes all : List ℕ) (us : List Partial) → IsOpened here.limit o tail us → MoreOf o.filling bytes g → all ≡ tail ++ bytes
    → IsFilled (at_opened here o tail bytes us) → IsFilled (at_head here all (all_of g us))
more_filled here o g tail bytes all us i m e f =
    let same = more_all o.filling g tail bytes us i.fills m in
    let P : List ℕ → Type 0 = λ x. IsFilled (at_head here x (all_of g us)) in
    let D : List Partial → Type 0 = λ x. IsDistinct x in
    let B : List Partial → Type 0 = λ x. IsBounded here.limit x in
    subst P (sym e) (record { fits = f.fits; distinct = subst D (sym same) f.distinct; bounded = subst B (sym same) f.bounded; small = f.small })

-- ---- a whole piece that was judged

-- the same piece, beside the same messages
moved_refused : (t u : State) (us' : List Partial) (whole whole' : List Message) (f : FrameFault) → u.limit ≡ t.limit → u.at ≡ t.at → u.tail ≡ t.tail → u.partials ≡ t.partials
    → IsRefused t us' whole whole' f → IsRefused u us' whole whole' f
moved_refused t u us' whole whole' f el ea et ep k =
    record {
      offset = k.offset ∙ sym ea;
      same = k.same ∙ sym ep;
      gives = k.gives;
      header = omega (arith, k.header, ap length et);
      why = moved_why t u f.cause el et ep k.why;
    }
  where
    moved_why : (t u : State) (cause : FrameCause) → u.limit ≡ t.limit → u.tail ≡ t.tail → u.partials ≡ t.partials → (header_cause t.limit t.tail ≡ Some cause) ⊎ BreaksWhole t cause
        → (header_cause u.limit u.tail ≡ Some cause) ⊎ BreaksWhole u cause
    moved_why t u cause el et ep (inl h) = inl (ap (λ (n : ℕ). header_cause n u.tail) el ∙ ap (header_cause t.limit) et ∙ h)
    moved_why t u cause el et ep (inr b) =
        inr (record {
          full = ap length et ∙ b.full ∙ sym (ap piece_len et);
          sound = ap (λ (n : ℕ). header_cause n u.tail) el ∙ ap (header_cause t.limit) et ∙ b.sound;
          breaks = ap (λ (n : ℕ). piece_cause n u.partials u.tail) el ∙ ap (λ (x : List Partial). piece_cause t.limit x u.tail) ep ∙ ap (piece_cause t.limit t.partials) et ∙ b.breaks;
        })

pub moved_fails : (fault : FeedFault) (t u : State) (us' : List Partial) (whole whole' : List Message) → u.limit ≡ t.limit → u.at ≡ t.at → u.tail ≡ t.tail → u.partials ≡ t.partials
    → FailsOn fault t us' whole whole' → FailsOn fault u us' whole whole'
moved_fails (Frame f) t u us' whole whole' el ea et ep k = moved_refused t u us' whole whole' f el ea et ep k
moved_fails NoMemory t u us' whole whole' el ea et ep k = k

pub moved_taken : (t u : State) (us' : List Partial) (whole whole' : List Message) → u.limit ≡ t.limit → u.at ≡ t.at → u.tail ≡ t.tail → u.partials ≡ t.partials
    → length u.tail + held u.partials ≤ u.kept → IsTaken t us' whole whole' → IsTaken u us' whole whole'
moved_taken t u us' whole whole' el ea et ep few k =
    let A : ℕ → Type 0 = λ n. Does (record { at = n; bytes = t.tail }) t.partials us' whole whole' in
    let T : List ℕ → Type 0 = λ x. Does (record { at = u.at; bytes = x }) t.partials us' whole whole' in
    let P : List Partial → Type 0 = λ x. Does (record { at = u.at; bytes = u.tail }) x us' whole whole' in
    record {
      header = omega (arith, k.header, ap length et);
      full = ap length et ∙ k.full ∙ sym (ap piece_len et);
      sound = ap (λ (n : ℕ). header_cause n u.tail) el ∙ ap (header_cause t.limit) et ∙ k.sound;
      passes = ap (λ (n : ℕ). piece_cause n u.partials u.tail) el ∙ ap (λ (x : List Partial). piece_cause t.limit x u.tail) ep ∙ ap (piece_cause t.limit t.partials) et ∙ k.passes;
      does = subst P (sym ep) (subst T (sym et) (subst A (sym ea) k.does));
      few = few;
    }

pub more_fails : (fault : FeedFault) (here : Here) (o : Opened) (g : Filling) (tail bytes all : List ℕ) (us us' : List Partial) (whole whole' : List Message) → IsOpened here.limit o tail us → MoreOf o.filling bytes g
    → all ≡ tail ++ bytes → FailsOn fault (at_head here all (all_of g us)) us' whole whole' → FailsOn fault (at_opened here o tail bytes us) us' whole whole'
more_fails fault here o g tail bytes all us us' whole whole' i m e k =
    moved_fails fault (at_head here all (all_of g us)) (at_opened here o tail bytes us) us' whole whole' refl refl (sym e) (sym (more_all o.filling g tail bytes us i.fills m)) k

pub more_taken : (here : Here) (o : Opened) (g : Filling) (tail bytes all : List ℕ) (us us' : List Partial) (whole whole' : List Message) → IsOpened here.limit o tail us → MoreOf o.filling bytes g
    → all ≡ tail ++ bytes → IsTaken (at_head here all (all_of g us)) us' whole whole' → IsTaken (at_opened here o tail bytes us) us' whole whole'
more_taken here o g tail bytes all us us' whole whole' i m e k =
    let j = more_opened here o g tail bytes all us i m e in
    let none : verdict o.filling ≡ None = sym (more_verdict o.filling g bytes m) ∙ sym (opened_cause here.limit (record { header = o.header; filling = g }) all us j k.full) ∙ k.passes in
    moved_taken (at_head here all (all_of g us)) (at_opened here o tail bytes us) us' whole whole' refl refl (sym e) (sym (more_all o.filling g tail bytes us i.fills m))
    (omega (arith, kept_all here.limit o tail us i none, length-append tail bytes)) k

opened_sound : (here : Here) (o : Opened) (tail : List ℕ) (us : List Partial) → IsOpened here.limit o tail us → length tail ≡ piece_len tail → IsFilled (at_head here tail (all_of o.filling us))
    → verdict o.filling ≡ None → IsSound (all_of o.filling us) tail
opened_sound here o tail us i full f v = sound here.limit (all_of o.filling us) tail (opened_cause here.limit o tail us i full ∙ v) (omega (arith, i.long)) f.small f.distinct

opened_takes : (r : Result (Unit {0}) Lack) (here : Here) (o : Opened) (tail : List ℕ) (us us' : List Partial) (whole whole' : List Message) → IsOpened here.limit o tail us → length tail ≡ piece_len tail
    → verdict o.filling ≡ None → OnOk r (Does (record { at = here.at; bytes = tail }) (all_of o.filling us) us' whole whole') → OnErr r (whole' ≡ whole)
    → TakesPiece (lifted r) (at_head here tail (all_of o.filling us)) us' whole whole'
opened_takes r here o tail us us' whole whole' i full v ok err =
    taken_by r (at_head here tail (all_of o.filling us)) us' whole whole' (omega (arith, i.long)) full i.sound (opened_cause here.limit o tail us i full ∙ v) (omega arith) ok err

-- the same, by what becomes of its bytes
pub own_sound : (here : Here) (o : Opened) (b : Room ℕ) (tail : List ℕ) (us : List Partial) → o.filling ≡ Own b → IsOpened here.limit o tail us → length tail ≡ piece_len tail
    → IsFilled (at_head here tail (all_of o.filling us)) → IsSound us b.items
own_sound here o b tail us e i full f =
    let F : Filling → Type 0 = λ x. FillsSo x tail us in
    let U : List Partial → Type 0 = λ x. IsSound x tail in
    let T : List ℕ → Type 0 = λ x. IsSound us x in
    subst T (sym (subst F e i.fills).0) (subst U (ap (λ (x : Filling). all_of x us) e) (opened_sound here o tail us i full f (ap verdict e)))

pub own_takes : (r : Result (Unit {0}) Lack) (q : Result (Unit {0}) FeedFault) (here : Here) (o : Opened) (b : Room ℕ) (tail : List ℕ) (us us' : List Partial) (whole whole' : List Message) → o.filling ≡ Own b
    → IsOpened here.limit o tail us → length tail ≡ piece_len tail → OnOk r (Does (record { at = here.at; bytes = b.items }) us us' whole whole') → OnErr r (whole' ≡ whole) → q ≡ lifted r
    → TakesPiece q (at_head here tail (all_of o.filling us)) us' whole whole'
own_takes r q here o b tail us us' whole whole' e i full ok err hq =
    let F : Filling → Type 0 = λ x. FillsSo x tail us in
    let T : List ℕ → Type 0 = λ x. OnOk r (Does (record { at = here.at; bytes = x }) us us' whole whole') in
    let U : List Partial → Type 0 = λ x. OnOk r (Does (record { at = here.at; bytes = tail }) x us' whole whole') in
    let Q : Result (Unit {0}) FeedFault → Type 0 = λ x. TakesPiece x (at_head here tail (all_of o.filling us)) us' whole whole' in
    subst Q (sym hq) (opened_takes r here o tail us us' whole whole' i full (ap verdict e)
    (subst U (sym (ap (λ (x : Filling). all_of x us) e)) (subst T (subst F e i.fills).0 ok)) err)

pub joins_sound : (here : Here) (o : Opened) (j : Joining) (tail : List ℕ) (us : List Partial) → o.filling ≡ Joins j → IsOpened here.limit o tail us → length tail ≡ piece_len tail
    → IsFilled (at_head here tail (all_of o.filling us)) → IsSound (insert us j.place (own_part j)) tail
joins_sound here o j tail us e i full f =
    let U : List Partial → Type 0 = λ x. IsSound x tail in
    subst U (ap (λ (x : Filling). all_of x us) e) (opened_sound here o tail us i full f (ap verdict e))

pub joins_takes : (r : Result (Unit {0}) Lack) (q : Result (Unit {0}) FeedFault) (here : Here) (o : Opened) (j : Joining) (tail : List ℕ) (us us' : List Partial) (whole whole' : List Message) → o.filling ≡ Joins j
    → IsOpened here.limit o tail us → length tail ≡ piece_len tail → OnOk r (Does (record { at = here.at; bytes = tail }) (insert us j.place (own_part j)) us' whole whole') → OnErr r (whole' ≡ whole) → q ≡ lifted r
    → TakesPiece q (at_head here tail (all_of o.filling us)) us' whole whole'
joins_takes r q here o j tail us us' whole whole' e i full ok err hq =
    let U : List Partial → Type 0 = λ x. OnOk r (Does (record { at = here.at; bytes = tail }) x us' whole whole') in
    let Q : Result (Unit {0}) FeedFault → Type 0 = λ x. TakesPiece x (at_head here tail (all_of o.filling us)) us' whole whole' in
    subst Q (sym hq) (opened_takes r here o tail us us' whole whole' i full (ap verdict e) (subst U (sym (ap (λ (x : Filling). all_of x us) e)) ok) err)

pub breaks_refused : (fault : FeedFault) (here : Here) (o : Opened) (cause : FrameCause) (tail : List ℕ) (us : List Partial) (whole : List Message) → o.filling ≡ Breaks cause
    → IsOpened here.limit o tail us → length tail ≡ piece_len tail → fault ≡ Frame (record { cause = cause; offset = here.at })
    → FailsOn fault (at_head here tail (all_of o.filling us)) us whole whole
breaks_refused fault here o cause tail us whole e i full hf =
    let U : List Partial → Type 0 = λ x. FailsOn (Frame (record { cause = cause; offset = here.at })) (at_head here tail x) us whole whole in
    let Q : FeedFault → Type 0 = λ x. FailsOn x (at_head here tail (all_of o.filling us)) us whole whole in
    let all : all_of o.filling us ≡ us = ap (λ (x : Filling). all_of x us) e in
    let c : piece_cause here.limit us tail ≡ Some cause = ap (λ (x : List Partial). piece_cause here.limit x tail) (sym all) ∙ opened_cause here.limit o tail us i full ∙ ap verdict e in
    subst Q (sym hf) (subst U (sym all) (refused_whole (at_head here tail us) whole cause (omega (arith, i.long)) full i.sound c))

-- ---- the Fragment that goes on or ends its message

pub joins_found : (j : Joining) (tail : List ℕ) (us : List Partial) → JoinsSo j tail us → Found (id_of tail) (insert us j.place (own_part j)) j.place
joins_found j tail us h = record {
  front = take j.place us;
  there = own_part j;
  back = drop j.place us;
  parts = refl;
  place = length-take-le j.place us h.place;
  same = h.same;
  before = h.before;
}

all_joined : (j : Joining) (tail : List ℕ) (us : List Partial) → JoinsSo j tail us → take j.own j.message.bytes ++ drop 16 tail ≡ j.message.bytes
all_joined j tail us h = ap (λ (x : List ℕ). take j.own j.message.bytes ++ x) (sym h.joined) ∙ take-append-drop j.own j.message.bytes

pub joins_on : (j : Joining) (at : ℕ) (tail : List ℕ) (us us' : List Partial) (whole : List Message) → JoinsSo j tail us → IsSound (insert us j.place (own_part j)) tail → has_more tail ≡ true
    → us' ≡ insert us j.place j.message → Does (record { at = at; bytes = tail }) (insert us j.place (own_part j)) us' whole whole
unfolding joins_found
joins_on j at tail us us' whole h s more is =
    let p : Piece = record { at = at; bytes = tail } in
    let f = joins_found j tail us h in
    let m : Partial = j.message in
    does_begun p (insert us j.place (own_part j)) us' whole whole more
    (is ∙ ap (λ (x : List ℕ). take j.place us ++ record { at = m.at; id = m.id; order = m.order; bytes = x } ∷ drop j.place us) (sym (all_joined j tail us h))
    ∙ sym (step_grows p f.front f.back f.there (fragment_opens_none tail h.fragment) (middle_ends f.there.id tail h.fragment more) (fragment_continues f.there.id tail h.fragment f.same) f.before
    (found_back (id_of tail) j.place (insert us j.place (own_part j)) f s.distinct))) refl

pub joins_fit : (j : Joining) (m : Partial) (tail : List ℕ) (us : List Partial) → m ≡ j.message → JoinsSo j tail us → IsSound (insert us j.place (own_part j)) tail → length m.bytes < 2 ^ 32
unfolding joins_found
joins_fit j m tail us e h s =
    let f = joins_found j tail us h in
    let P : Option Partial → Type 0 = λ o. JoinFits (length tail) o in
    let k : length (take j.own j.message.bytes) + (length tail - 16) < 2 ^ 32 = subst P (found_open (id_of tail) j.place (insert us j.place (own_part j)) f) (s.fits h.fragment) in
    omega (arith, k, ap (λ (x : Partial). length x.bytes) e, ap length (all_joined j tail us h), length-append (take j.own j.message.bytes) (drop 16 tail), length-drop 16 tail)

pub joins_last : (j : Joining) (m : Partial) (at : ℕ) (tail sealed_bytes : List ℕ) (us : List Partial) (whole whole' : List Message) → m ≡ j.message → JoinsSo j tail us
    → IsSound (insert us j.place (own_part j)) tail → has_more tail ≡ false → sealed_bytes ≡ sealed m.order m.bytes
    → whole' ≡ whole ++ record { at = at; order = m.order; kind = j.kind; bytes = sealed_bytes } ∷ []
    → Does (record { at = at; bytes = tail }) (insert us j.place (own_part j)) us whole whole'
unfolding joins_found
joins_last j m at tail sealed_bytes us whole whole' e h s last hs gave =
    let p : Piece = record { at = at; bytes = tail } in
    let us0 : List Partial = insert us j.place (own_part j) in
    let f = joins_found j tail us h in
    let message : Order → ℕ → List ℕ → Message = λ (o : Order) (k : ℕ) (b : List ℕ). record { at = at; order = o; kind = k; bytes = b } in
    does_last p us0 us whole whole' j.place (own_part j) s last h.fragment f
    (sym (ap (λ (n : ℕ). get_or us0 n (own_part j)) (sym f.place) ∙ get_or-append_seam f.front f.there f.back (own_part j)))
    (sym (found_remove (id_of tail) j.place us0 f ∙ take-append-drop j.place us))
    (gave ∙ ap (λ (b : List ℕ). whole ++ message m.order j.kind b ∷ []) (hs ∙ ap (λ (x : Partial). sealed x.order x.bytes) e ∙ ap (sealed j.message.order) (sym (all_joined j tail us h)))
    ∙ ap (λ (o : Order). whole ++ message o j.kind (sealed j.message.order (take j.own j.message.bytes ++ drop 16 tail)) ∷ []) (ap (λ (x : Partial). x.order) e)
    ∙ ap (λ (k : ℕ). whole ++ message j.message.order k (sealed j.message.order (take j.own j.message.bytes ++ drop 16 tail)) ∷ []) h.kind)

-- ---- a read of some bytes

pub head_filled : (here : Here) (x : Room ℕ) (tail bytes : List ℕ) (us : List Partial) → x.items ≡ tail → IsFilled (at_coming here (Head x) tail bytes us) → IsFilled (at_head here (x.items ++ bytes) us)
head_filled here x tail bytes us e f =
    let P : List ℕ → Type 0 = λ y. IsFilled (at_head here (y ++ bytes) us) in
    subst P (sym e) (record { fits = f.fits; distinct = f.distinct; bounded = f.bounded; small = f.small })

head_goes : (here : Here) (x : Room ℕ) (c : Coming) (tail bytes : List ℕ) (us us' : List Partial) (whole whole' : List Message) → x.items ≡ tail
    → GoesOn c (at_head here (x.items ++ bytes) us) us' whole whole' → GoesOn c (at_coming here (Head x) tail bytes us) us' whole whole'
head_goes here x c tail bytes us us' whole whole' e k =
    let C : List ℕ → Type 0 = λ y. ComesSo here.limit c (y ++ bytes) us' in
    record {
      comes = subst C e k.comes;
      same = k.same;
      gives = k.gives;
      few = omega (arith, k.few, length-append x.items bytes);
      all = omega (arith, k.all, ap (λ (y : List ℕ). length (y ++ bytes)) e);
      part = ap (λ (y : List ℕ). is_whole (y ++ bytes)) (sym e) ∙ k.part;
      sound = ap (λ (y : List ℕ). tail_cause here.limit (y ++ bytes)) (sym e) ∙ k.sound;
    }

-- what a head does, said of what has come
pub head_advances : (r : Result (Option Coming) FeedFault) (here : Here) (x : Room ℕ) (tail bytes : List ℕ) (us us' : List Partial) (whole whole' : List Message) → x.items ≡ tail
    → Advances r (at_head here (x.items ++ bytes) us) us' whole whole' → Advances r (at_coming here (Head x) tail bytes us) us' whole whole'
head_advances (Ok (Some c)) here x tail bytes us us' whole whole' e k = head_goes here x c tail bytes us us' whole whole' e k
head_advances (Ok None) here x tail bytes us us' whole whole' e k =
    moved_taken (at_head here (x.items ++ bytes) us) (at_coming here (Head x) tail bytes us) us' whole whole' refl refl (ap (λ (y : List ℕ). y ++ bytes) (sym e)) refl
    (omega (arith, length-append tail bytes, ap length e)) k
head_advances (Err fault) here x tail bytes us us' whole whole' e k =
    moved_fails fault (at_head here (x.items ++ bytes) us) (at_coming here (Head x) tail bytes us) us' whole whole' refl refl (ap (λ (y : List ℕ). y ++ bytes) (sym e)) refl k

goes_core : (here : Here) (c0 c : Coming) (tail bytes : List ℕ) (us us' : List Partial) (whole whole' : List Message) → IsFilled (at_coming here c0 tail bytes us) → GoesOn c (at_coming here c0 tail bytes us) us' whole whole'
    → Same whole (at_rest here c0 tail us) bytes whole' (at_rest here c (tail ++ bytes) us')
goes_core here c0 c tail bytes us us' whole whole' f g =
    let t : State = at_coming here c0 tail bytes us in
    let P : List Partial → Type 0 = λ x. Same whole (at_rest here c0 tail us) bytes whole (record { limit = here.limit; at = here.at; tail = tail ++ bytes; partials = x; kept = kept_of c us' }) in
    let W : List Message → Type 0 = λ x. Same whole (at_rest here c0 tail us) bytes x (at_rest here c (tail ++ bytes) us') in
    subst W (sym g.gives) (subst P (sym g.same)
    (put_same whole whole (at_rest here c0 tail us) (kept_as t (kept_of c us')) bytes (rests_kept whole t (kept_of c us') f g.part g.sound g.few g.all)))

-- the same, where the code has the parts
coming_as : (here : Here) (c0 c1 : Coming) (tail0 tail1 bytes : List ℕ) (us : List Partial) → c1 ≡ c0 → tail1 ≡ tail0 → at_coming here c1 tail1 bytes us ≡ at_coming here c0 tail0 bytes us
coming_as here c0 c1 tail0 tail1 bytes us ec et =
    ap (λ (x : Coming). at_coming here x tail1 bytes us) ec ∙ ap (λ (x : List ℕ). at_coming here c0 x bytes us) et

pub put_filled : (here : Here) (c0 c1 : Coming) (tail0 tail1 bytes : List ℕ) (us : List Partial) (s : State) → at_rest here c0 tail0 us ≡ s → c1 ≡ c0 → tail1 ≡ tail0 → IsFilled (with_tail s bytes)
    → IsFilled (at_coming here c1 tail1 bytes us)
put_filled here c0 c1 tail0 tail1 bytes us s ev ec et f =
    let S : State → Type 0 = λ y. IsFilled (with_tail y bytes) in
    let P : State → Type 0 = λ y. IsFilled y in subst P (sym (coming_as here c0 c1 tail0 tail1 bytes us ec et)) (subst S (sym ev) f)

pub put_comes : (limit : ℕ) (c0 c1 : Coming) (tail0 tail1 : List ℕ) (us : List Partial) → c1 ≡ c0 → tail1 ≡ tail0 → ComesSo limit c0 tail0 us → ComesSo limit c1 tail1 us
put_comes limit c0 c1 tail0 tail1 us ec et k =
    let C : Coming → Type 0 = λ x. ComesSo limit x tail1 us in
    let T : List ℕ → Type 0 = λ x. ComesSo limit c0 x us in subst C (sym ec) (subst T (sym et) k)

pub put_goes : (here : Here) (c0 c1 c : Coming) (tail0 tail1 all bytes : List ℕ) (us us' : List Partial) (whole whole' : List Message) (s : State) → at_rest here c0 tail0 us ≡ s → c1 ≡ c0 → tail1 ≡ tail0
    → all ≡ tail1 ++ bytes → IsFilled (with_tail s bytes) → GoesOn c (at_coming here c1 tail1 bytes us) us' whole whole' → Same whole s bytes whole' (at_rest here c all us')
put_goes here c0 c1 c tail0 tail1 all bytes us us' whole whole' s ev ec et ea f g =
    let G : State → Type 0 = λ y. GoesOn c y us' whole whole' in
    let S : State → Type 0 = λ y. Same whole y bytes whole' (at_rest here c all us') in
    let A : List ℕ → Type 0 = λ x. Same whole (at_rest here c0 tail0 us) bytes whole' (at_rest here c x us') in
    subst S ev (subst A (sym (ea ∙ ap (λ (x : List ℕ). x ++ bytes) et))
    (goes_core here c0 c tail0 bytes us us' whole whole' (put_filled here c0 c0 tail0 tail0 bytes us s ev refl refl f) (subst G (coming_as here c0 c1 tail0 tail1 bytes us ec et) g)))

-- nothing has come of the next piece
none_rest : (here : Here) (at : ℕ) (x : Room ℕ) (us : List Partial) → x.items ≡ [] → at_rest (record here { at = at }) (Head x) [] us ≡ record { limit = here.limit; at = at; tail = []; partials = us; kept = held us }
none_rest here at x us e =
    let h : length x.items + held us ≡ held us = omega (arith, ap length e) in
    ap (λ (n : ℕ). let r : State = record { limit = here.limit; at = at; tail = []; partials = us; kept = n } in r) h

pub put_takes : (here : Here) (c0 c1 cn : Coming) (x : Room ℕ) (tail0 tail1 tailn bytes : List ℕ) (came : ℕ) (us us' : List Partial) (whole whole' : List Message) (s : State) → at_rest here c0 tail0 us ≡ s → c1 ≡ c0
    → tail1 ≡ tail0 → cn ≡ Head x → x.items ≡ [] → tailn ≡ [] → came ≡ length tail0 → IsFilled (with_tail s bytes) → IsTaken (at_coming here c1 tail1 bytes us) us' whole whole'
    → Same whole s bytes whole' (at_rest (record here { at = here.at + (came + length bytes) }) cn tailn us')
put_takes here c0 c1 cn x tail0 tail1 tailn bytes came us us' whole whole' s ev ec et en ex etn ecm f k =
    let at : ℕ = here.at + (came + length bytes) in
    let K : State → Type 0 = λ y. IsTaken y us' whole whole' in
    let S : State → Type 0 = λ y. Same whole y bytes whole' (at_rest (record here { at = at }) cn tailn us') in
    let C : Coming → Type 0 = λ y. Same whole (at_rest here c0 tail0 us) bytes whole' (at_rest (record here { at = at }) y tailn us') in
    let T : List ℕ → Type 0 = λ y. Same whole (at_rest here c0 tail0 us) bytes whole' (at_rest (record here { at = at }) (Head x) y us') in
    let R : State → Type 0 = λ y. Same whole (at_rest here c0 tail0 us) bytes whole' y in
    let N : ℕ → Type 0 = λ n. Same whole (at_rest here c0 tail0 us) bytes whole' (record { limit = here.limit; at = n; tail = []; partials = us'; kept = held us' }) in
    let t : State = at_coming here c0 tail0 bytes us in
    let fl : IsFilled t = put_filled here c0 c0 tail0 tail0 bytes us s ev refl refl f in
    let m : Same whole (at_rest here c0 tail0 us) bytes whole' (behind t us') =
    put_same whole whole' (at_rest here c0 tail0 us) (behind t us') bytes (taken_same whole whole' t us' fl (subst K (coming_as here c0 c1 tail0 tail1 bytes us ec et) k)) in
    subst S ev (subst C (sym en) (subst T (sym etn) (subst R (sym (none_rest here at x us' ex)) (subst N (omega (arith, ecm, length-append tail0 bytes)) m))))

pub put_fails : (fault : FeedFault) (here : Here) (c0 c1 cn : Coming) (x : Room ℕ) (tail0 tail1 tailn bytes : List ℕ) (us us' : List Partial) (whole whole' : List Message) (s : State) → at_rest here c0 tail0 us ≡ s → c1 ≡ c0
    → tail1 ≡ tail0 → cn ≡ Head x → IsFilled (with_tail s bytes) → FailsOn fault (at_coming here c1 tail1 bytes us) us' whole whole'
    → Fails fault bytes s (at_rest here cn tailn us') whole whole'
put_fails fault here c0 c1 cn x tail0 tail1 tailn bytes us us' whole whole' s ev ec et en f k =
    let K : State → Type 0 = λ y. FailsOn fault y us' whole whole' in
    let t : at_coming here c1 tail1 bytes us ≡ with_tail s bytes = coming_as here c0 c1 tail0 tail1 bytes us ec et ∙ ap (λ (y : State). with_tail y bytes) ev in
    put_reads (Err fault) whole whole' s (at_rest here cn tailn us') bytes
    (failed_reads fault (with_tail s bytes) (at_rest here cn tailn us') us' whole whole' f (ap (λ (y : Coming). partials_of y us') en) (subst K t k))

-- ---- a piece that is taken at once

-- nothing of the next piece has come: no message is taken out
only_head : (limit : ℕ) (c : Coming) (us vs : List Partial) → ComesSo limit c [] us → (partials_of c vs ≡ vs) × (kept_of c vs ≡ held vs)
only_head limit (Head x) us vs k = (refl, omega (arith, ap length k))
only_head limit (Open o) us vs k = absurd (omega (arith, k.long))

at_none : (here : Here) (at : ℕ) (c : Coming) (tail : List ℕ) (us vs : List Partial) → tail ≡ [] → ComesSo here.limit c tail us
    → at_rest (record here { at = at }) c tail vs ≡ record { limit = here.limit; at = at; tail = []; partials = vs; kept = held vs }
at_none here at c tail us vs et k =
    let T : List ℕ → Type 0 = λ y. ComesSo here.limit c y us in
    let o = only_head here.limit c us vs (subst T et k) in
    ap (λ (y : List ℕ). at_rest (record here { at = at }) c y vs) et
    ∙ ap (λ (y : List Partial). let r : State = record { limit = here.limit; at = at; tail = []; partials = y; kept = kept_of c vs } in r) o.0
    ∙ ap (λ (n : ℕ). let r : State = record { limit = here.limit; at = at; tail = []; partials = vs; kept = n } in r) o.1

at_once : (here : Here) (c : Coming) (tail bytes : List ℕ) (us : List Partial) (s : State) → at_rest here c tail us ≡ s → s.tail ≡ [] → ComesSo here.limit c tail us → at_head here bytes us ≡ with_tail s bytes
at_once here c tail bytes us s ev none k =
    let et : tail ≡ [] = ap (λ (y : State). y.tail) ev ∙ none in
    let h : held us + length bytes ≡ length bytes + held us = omega arith in
    ap (λ (n : ℕ). let r : State = record { limit = here.limit; at = here.at; tail = bytes; partials = us; kept = n } in r) (sym h)
    ∙ ap (λ (y : State). with_tail y bytes) (sym (at_none here here.at c tail us us et k)) ∙ ap (λ (y : State). with_tail y bytes) ev

pub once_filled : (here : Here) (c : Coming) (tail bytes : List ℕ) (us : List Partial) (s : State) → at_rest here c tail us ≡ s → s.tail ≡ [] → ComesSo here.limit c tail us → IsResting s
    → length bytes ≡ piece_len bytes → IsFilled (at_head here bytes us)
once_filled here c tail bytes us s ev none k r full =
    let F : State → Type 0 = λ y. IsFilled y in
    let L : List ℕ → Type 0 = λ y. length (y ++ bytes) ≤ piece_len (y ++ bytes) in
    subst F (sym (at_once here c tail bytes us s ev none k))
    (record { fits = λ _. subst L (sym none) (omega (arith, full)); distinct = r.distinct; bounded = r.bounded; small = r.small })

pub once_takes : (here : Here) (c : Coming) (tail bytes : List ℕ) (us us' : List Partial) (whole whole' : List Message) (s : State) → at_rest here c tail us ≡ s → s.tail ≡ [] → ComesSo here.limit c tail us
    → IsFilled (at_head here bytes us) → IsTaken (at_head here bytes us) us' whole whole' → Same whole s bytes whole' (at_rest (record here { at = here.at + length bytes }) c tail us')
once_takes here c tail bytes us us' whole whole' s ev none k f t =
    let et : tail ≡ [] = ap (λ (y : State). y.tail) ev ∙ none in
    let e = at_once here c tail bytes us s ev none k in
    let S : State → Type 0 = λ y. Same whole y [] whole' (behind (at_head here bytes us) us') in
    let R : State → Type 0 = λ y. Same whole s bytes whole' y in
    subst R (sym (at_none here (here.at + length bytes) c tail us us' et k))
    (put_same whole whole' s (behind (at_head here bytes us) us') bytes (subst S e (taken_same whole whole' (at_head here bytes us) us' f t)))

pub once_fails : (fault : FeedFault) (here : Here) (c : Coming) (tail bytes : List ℕ) (us us' : List Partial) (whole whole' : List Message) (s : State) → at_rest here c tail us ≡ s → s.tail ≡ [] → ComesSo here.limit c tail us
    → IsFilled (at_head here bytes us) → FailsOn fault (at_head here bytes us) us' whole whole' → Fails fault bytes s (at_rest here c tail us') whole whole'
once_fails fault here c tail bytes us us' whole whole' s ev none k f t =
    let et : tail ≡ [] = ap (λ (y : State). y.tail) ev ∙ none in
    let T : List ℕ → Type 0 = λ y. ComesSo here.limit c y us in
    let e = at_once here c tail bytes us s ev none k in
    let F : State → Type 0 = λ y. IsFilled y in
    let K : State → Type 0 = λ y. FailsOn fault y us' whole whole' in
    put_reads (Err fault) whole whole' s (at_rest here c tail us') bytes
    (failed_reads fault (with_tail s bytes) (at_rest here c tail us') us' whole whole' (subst F e f) (only_head here.limit c us us' (subst T et k)).0 (subst K e t))

-- ---- how many bytes are read next

pub head_is : (limit : ℕ) (c : Coming) (x : Room ℕ) (tail : List ℕ) (us : List Partial) → c ≡ Head x → ComesSo limit c tail us → x.items ≡ tail
head_is limit c x tail us e k = let P : Coming → Type 0 = λ y. ComesSo limit y tail us in subst P e k

pub open_is : (limit : ℕ) (c : Coming) (o : Opened) (tail : List ℕ) (us : List Partial) → c ≡ Open o → ComesSo limit c tail us → IsOpened limit o tail us
open_is limit c o tail us e k = let P : Coming → Type 0 = λ y. ComesSo limit y tail us in subst P e k

pub rest_len : (s : State) (tail : List ℕ) (came len : ℕ) → IsResting s → tail ≡ s.tail → came ≡ length tail → 12 ≤ came → len ≡ piece_len tail → came < len
rest_len s tail came len r et ec l el = omega (arith, ec, el, ap length et, ap piece_len et, not_whole s.tail r.part (omega (arith, ec, l, ap length et)))

pub needs_more : (s : State) (tail : List ℕ) (came len n : ℕ) → IsResting s → tail ≡ s.tail → came ≡ length tail → 12 ≤ came → len ≡ piece_len tail → 0 < n → n ≤ len - came → Needs s n
needs_more s tail came len n r et ec l el some le =
    let lt : came < len = rest_len s tail came len r et ec l el in
    record { some = some; header = λ k. absurd (omega (arith, ec, l, ap length et)); piece = λ k. omega (arith, ec, el, lt, le, ap length et, ap piece_len et) }
