-- The messages of a stream are such as can be read.
use Rattle.std.proofs.Common.{◌≡◌, ℕ, ◌+◌, ◌-◌, ◌/◌, ◌%◌, ◌≤◌, true, false, not, ◌==◌, cond, Bool, List, [], ◌∷◌, ◌++◌, length, map, filter, Option, Some, None, Result, Ok, Err, refl, sym, ap, ◌∙◌, subst, arith, length-append, length-drop}
use Rattle.std.specs.Prelude.{option_to_list, option_map}
use Rattle.std.specs.Int.{w32, byte_len}
use Rattle.std.specs.List.{All}
use Rattle.std.proofs.lemmas.List.{take_at, drop_at, append-nil}
use Rattle.std.proofs.lemmas.List.Elements.{All-nil, All-head, All-tail, All-cons, All-append}
use Rattle.orb_base.specs.declared.limits.TheConstants.{MAX_MESSAGE}
use Rattle.orb_base.specs.declared.order.Order.{Order}
use Rattle.orb_base.specs.declared.order.Order.TheVariants.{Big, Little}
use Rattle.cdr_core.specs.Field.{number_bytes}
use Rattle.cdr_core.specs.Reading.{number_of}
use Rattle.cdr_core.proofs.Numbers.{number_again}
use Rattle.cdr_core.proofs.CallerLemmas.{length-number_bytes}
use Rattle.giop_frames.specs.declared.fault.FrameCause.{FrameCause}
use Rattle.giop_frames.specs.declared.fault.FeedFault.{FeedFault}
use Rattle.giop_frames.specs.declared.fault.FeedFault.TheVariants.{Frame, NoMemory}
use Rattle.giop_frames.specs.Pieces.{Piece, Cut, order_of, has_more, kind_of, piece_len, id_of, cut}
use Rattle.giop_frames.specs.Messages.{Partial, Message, is_fragment, opens, continues, ends, added, begun, open_at, sealed, joined as joined_message, lone, completed}
use Rattle.giop_frames.specs.Headers.{has_magic, has_version}
use Rattle.giop_frames.specs.Stream.{Said, header_cause, fragment_cause, piece_cause, or_else, cause_of, at_end, or_stopped, tail_cause, stream}
use Rattle.giop_frames.specs.Running.{grown, stepped, run, ahead}
use Rattle.giop_frames.specs.Feeds.{Feed, said, Adds, AddsFront, Tells}
use Rattle.giop_frames.specs.Laws.{ArePieces}
use Rattle.giop_frames.proofs.LawProofs.{cuts_exactly}
use Rattle.giop_frames.proofs.Heads.{sound_head, head_is, head_few, header_within}
use Rattle.giop_frames.proofs.Ahead.{magic_front, version_front, order_front, more_front, kind_front}
use Rattle.giop_frames.proofs.Growing.{stream_is}
use Rattle.giop_frames.proofs.Effects.{opens_is}
use Rattle.giop_frames.proofs.Soundness.{fragment_fits, joins_within}
use Rattle.giop_messages.specs.MessageReading.{IsMessage}
use Rattle.giop_messages.specs.Framing.{StreamsMessages, FeedsMessages, ReadsMessages}
use Rattle.giop_messages.proofs.Headed.{Twelve, twelve, joined, is_number}

-- ---- headers

-- bytes that begin with the header of a message in this order, with this fragment bit
record IsBegun (order : Order) (more : Bool) (bytes : List ℕ) : Type 0 where
  pub long : 12 ≤ length bytes
  pub magic : has_magic bytes ≡ true
  pub version : has_version bytes ≡ true
  pub order_is : order_of bytes ≡ order
  pub bit : has_more bytes ≡ more
  pub few_kinds : kind_of bytes ≤ 6

begun_more : (order : Order) (more : Bool) (a b : List ℕ) → IsBegun order more a → IsBegun order more (a ++ b)
begun_more order more a b h = record {
  long = omega (arith, length-append a b, h.long);
  magic = magic_front a b h.long ∙ h.magic;
  version = version_front a b h.long ∙ h.version;
  order_is = order_front a b h.long ∙ h.order_is;
  bit = more_front a b h.long ∙ h.bit;
  few_kinds = omega (arith, kind_front a b h.long, h.few_kinds);
}

-- a header without a cause
record HasNoCause (limit : ℕ) (bytes : List ℕ) : Type 0 where
  pub magic : has_magic bytes ≡ true
  pub version : has_version bytes ≡ true
  pub kind : kind_of bytes ≤ 7
  pub len : piece_len bytes ≤ limit

no_cause : (limit : ℕ) (bytes : List ℕ) → header_cause limit bytes ≡ None → HasNoCause limit bytes
no_cause limit bytes h =
    let s = sound_head limit bytes h in
    let i = head_is bytes s.0 s.1 in
    record { magic = i.magic; version = i.version; kind = head_few bytes s.0 s.1; len = header_within limit bytes h }

other_kind : (bytes : List ℕ) → kind_of bytes ≤ 7 → is_fragment bytes ≡ false → kind_of bytes ≤ 6
unfolding is_fragment
other_kind bytes h f = grind arith

piece_begun : (limit : ℕ) (bytes : List ℕ) (more : Bool) → 12 ≤ length bytes → header_cause limit bytes ≡ None → has_more bytes ≡ more → is_fragment bytes ≡ false
    → IsBegun (order_of bytes) more bytes
piece_begun limit bytes more l h m f =
    let n = no_cause limit bytes h in
    record { long = l; magic = n.magic; version = n.version; order_is = refl; bit = m; few_kinds = other_kind bytes n.kind f }

-- ---- a message of one piece

lone_is : (limit : ℕ) (p : Piece) → limit ≤ MAX_MESSAGE → 12 ≤ length p.bytes → length p.bytes ≡ piece_len p.bytes → header_cause limit p.bytes ≡ None
    → has_more p.bytes ≡ false → is_fragment p.bytes ≡ false → IsMessage (lone p)
lone_is limit p few l w h m f =
    let n = no_cause limit p.bytes h in
    record {
      long = l;
      magic = n.magic;
      version = n.version;
      order = refl;
      unfragmented = m;
      kind = refl;
      few_kinds = other_kind p.bytes n.kind f;
      size = sym w;
      short = omega (arith, w, n.len);
    }

-- ---- a joined message

lower_bit : (n : ℕ) → (n / 2 % 2 == 1) ≡ true → ((n - 2) / 2 % 2 == 1) ≡ false
lower_bit n h = let e : n / 2 % 2 ≡ 1 = is_number (n / 2 % 2) 1 h in grind arith

same_bit : (n : ℕ) → (n / 2 % 2 == 1) ≡ true → (n - 2) % 2 ≡ n % 2
same_bit n h = let e : n / 2 % 2 ≡ 1 = is_number (n / 2 % 2) 1 h in omega arith

abbrev under : {bytes : List ℕ} → Twelve bytes → List ℕ → List ℕ
under t size = t.b0 ∷ t.b1 ∷ t.b2 ∷ t.b3 ∷ t.b4 ∷ t.b5 ∷ (t.flags - 2) ∷ t.kind ∷ size ++ t.behind

sealed_under : (order : Order) {bytes : List ℕ} (t : Twelve bytes) → sealed order (joined t) ≡ under t (number_bytes order w32 (length (joined t) - 12))
unfolding sealed
sealed_under order {bytes} t = ap (λ (x : List ℕ). t.b0 ∷ t.b1 ∷ t.b2 ∷ t.b3 ∷ t.b4 ∷ t.b5 ∷ (t.flags - 2) ∷ t.kind ∷ number_bytes order w32 (length (joined t) - 12) ++ x) (drop_at t.size t.behind 4 t.four)

under_is : (order : Order) {bytes : List ℕ} (t : Twelve bytes) → sealed order bytes ≡ under t (number_bytes order w32 (length t.behind))
under_is order {bytes} t =
    let len : length (joined t) - 12 ≡ length t.behind = omega (arith, length-append t.size t.behind, t.four) in
    ap (sealed order) t.parts ∙ sealed_under order t ∙ ap (λ (n : ℕ). under t (number_bytes order w32 n)) len

under_magic : {bytes : List ℕ} (t : Twelve bytes) (size : List ℕ) → has_magic (under t size) ≡ has_magic (joined t)
unfolding has_magic
under_magic t size = refl

under_version : {bytes : List ℕ} (t : Twelve bytes) (size : List ℕ) → has_version (under t size) ≡ has_version (joined t)
unfolding has_version
under_version t size = refl

under_kind : {bytes : List ℕ} (t : Twelve bytes) (size : List ℕ) → kind_of (under t size) ≡ kind_of (joined t)
unfolding kind_of
under_kind t size = refl

under_more : {bytes : List ℕ} (t : Twelve bytes) (size : List ℕ) → has_more (joined t) ≡ true → has_more (under t size) ≡ false
unfolding has_more
under_more t size h = lower_bit t.flags h

under_order : {bytes : List ℕ} (t : Twelve bytes) (size : List ℕ) → has_more (joined t) ≡ true → order_of (under t size) ≡ order_of (joined t)
unfolding has_more order_of
under_order t size h = ap (λ (n : ℕ). cond (n == 1) Little Big) (same_bit t.flags h)

under_size : {bytes : List ℕ} (t : Twelve bytes) (size : List ℕ) → length size ≡ 4 → piece_len (under t size) ≡ 12 + number_of (order_of (under t size)) w32 size
unfolding piece_len
under_size t size four = ap (λ (x : List ℕ). 12 + number_of (order_of (under t size)) w32 x) (take_at size t.behind 4 four)

back : {A : Type 0} {bytes : List ℕ} (t : Twelve bytes) (f : List ℕ → A) → f (joined t) ≡ f bytes
back t f = ap f (sym t.parts)

-- a message of these parts
abbrev made : ℕ → Order → ℕ → List ℕ → Message
made at order kind bytes = record { at = at; order = order; kind = kind; bytes = bytes }

sealed_is : (at : ℕ) (order : Order) (bytes : List ℕ) → IsBegun order true bytes → length bytes ≤ MAX_MESSAGE → IsMessage (made at order (kind_of bytes) (sealed order bytes))
sealed_is at order bytes h short =
    let t = twelve bytes h.long in
    let n : ℕ = length t.behind in
    let size : List ℕ = number_bytes order w32 n in
    let four : length size ≡ 4 = length-number_bytes order w32 n in
    let whole : 12 + n ≡ length bytes = omega (arith, length-append t.size t.behind, t.four, back t length) in
    let len : length (under t size) ≡ 12 + n = omega (arith, length-append size t.behind, four) in
    let more : has_more (joined t) ≡ true = back t has_more ∙ h.bit in
    let its : order_of (under t size) ≡ order = under_order t size more ∙ back t order_of ∙ h.order_is in
    let four_bytes : byte_len w32 ≤ 8 = omega arith in
    let counted : number_of (order_of (under t size)) w32 size ≡ n = ap (λ (o : Order). number_of o w32 size) its ∙ number_again order w32 n four_bytes (omega (arith, whole, short)) in
    subst (λ (x : List ℕ). IsMessage (made at order (kind_of bytes) x)) (sym (under_is order t))
    (record {
      long = omega (arith, len);
      magic = under_magic t size ∙ back t has_magic ∙ h.magic;
      version = under_version t size ∙ back t has_version ∙ h.version;
      order = its;
      unfragmented = under_more t size more;
      kind = under_kind t size ∙ back t kind_of;
      few_kinds = h.few_kinds;
      size = under_size t size four ∙ ap (λ (k : ℕ). 12 + k) counted ∙ sym len;
      short = omega (arith, len, whole, short);
    })

-- ---- the unfinished messages behind some pieces

-- each begins with the header of a message of its order
abbrev AreBegun : List Partial → Type 0
AreBegun [] = Unit {0}
AreBegun (u ∷ us) = IsBegun u.order true u.bytes × AreBegun us

found_one : (id : ℕ) (v : Partial) (us : List Partial) (u : Partial) (b : Bool) → IsBegun v.order true v.bytes → (open_at id us ≡ Some u → IsBegun u.order true u.bytes) → cond b (Some v) (open_at id us) ≡ Some u
    → IsBegun u.order true u.bytes
found_one id v us u true h rec e = let same : v ≡ u = cc in subst (λ (w : Partial). IsBegun w.order true w.bytes) same h
found_one id v us u false h rec e = rec e

found_begun : (id : ℕ) (us : List Partial) (u : Partial) → AreBegun us → open_at id us ≡ Some u → IsBegun u.order true u.bytes
found_begun id [] u h e = absurd (cc)
found_begun id (v ∷ us) u h e = found_one id v us u (v.id == id) h.0 (found_begun id us u h.1) e

grown_begun : (p : Piece) (u : Partial) (b : Bool) → IsBegun u.order true u.bytes
    → let v : Partial = cond b (let r : Partial = record u { bytes = u.bytes ++ added p } in r) u in IsBegun v.order true v.bytes
grown_begun p u true h = begun_more u.order true u.bytes (added p) h
grown_begun p u false h = h

step_one : (p : Piece) (u : Partial) (us : List Partial) (b : Bool) → IsBegun (grown p u).order true (grown p u).bytes → AreBegun (map (grown p) us) → AreBegun (map (grown p) (cond b (u ∷ us) us))
step_one p u us true h hs = (h, hs)
step_one p u us false h hs = hs

step_all : (p : Piece) (us : List Partial) → AreBegun us → AreBegun (map (grown p) (filter (λ u. not (ends u.id p.bytes)) us))
step_all p [] h = tt
step_all p (u ∷ us) h =
    step_one p u (filter (λ u. not (ends u.id p.bytes)) us) (not (ends u.id p.bytes)) (grown_begun p u (continues u.id p.bytes) h.0) (step_all p us h.1)

add_begun : (us : List Partial) (v : Partial) → AreBegun us → IsBegun v.order true v.bytes → AreBegun (us ++ v ∷ [])
add_begun [] v hs h = (h, tt)
add_begun (u ∷ us) v hs h = (hs.0, add_begun us v hs.1 h)

step_opened : (p : Piece) (us : List Partial) (b : Bool) → AreBegun us → (b ≡ true → IsBegun (order_of p.bytes) true p.bytes) → AreBegun (us ++ cond b (begun p [] ∷ []) [])
step_opened p us true hs h = add_begun us (begun p []) hs (begun_more (order_of p.bytes) true p.bytes [] (h refl))
step_opened p us false hs h = subst AreBegun (sym (append-nil us)) hs

step_begun : (limit : ℕ) (p : Piece) (us : List Partial) → 12 ≤ length p.bytes → header_cause limit p.bytes ≡ None → AreBegun us → AreBegun (stepped p us)
unfolding stepped
step_begun limit p us l h hs =
    let kept : List Partial = map (grown p) (filter (λ u. not (ends u.id p.bytes)) us) in
    step_opened p kept (opens p.bytes) (step_all p us hs) (λ o. let k = opens_is p.bytes o in piece_begun limit p.bytes true l h k.0 k.1)

-- ---- what a piece completes

none_is : All IsMessage []
none_is = All-nil IsMessage

one_is : (m : Message) → IsMessage m → All IsMessage (m ∷ [])
one_is m h = All-cons IsMessage m [] h none_is

joined_is : (limit : ℕ) (p : Piece) (u : Partial) → limit ≤ MAX_MESSAGE → IsBegun u.order true u.bytes → fragment_cause limit (order_of p.bytes) (length p.bytes) (Some u) ≡ None → IsMessage (joined_message p u)
joined_is limit p u few h e =
    let all : List ℕ = u.bytes ++ added p in
    let short : length all ≤ MAX_MESSAGE = omega (arith, length-append u.bytes (added p), length-drop 16 p.bytes, fragment_fits limit (order_of p.bytes) p.bytes u e, few) in
    subst (λ (k : ℕ). IsMessage (made p.at u.order k (sealed u.order all))) (kind_front u.bytes (added p) h.long)
    (sealed_is p.at u.order all (begun_more u.order true u.bytes (added p) h) short)

completed_by : (limit : ℕ) (us : List Partial) (p : Piece) (m f : Bool) (o : Option Partial) → has_more p.bytes ≡ m → is_fragment p.bytes ≡ f → open_at (id_of p.bytes) us ≡ o
    → limit ≤ MAX_MESSAGE → AreBegun us → 12 ≤ length p.bytes → length p.bytes ≡ piece_len p.bytes → header_cause limit p.bytes ≡ None → piece_cause limit us p.bytes ≡ None
    → All IsMessage (option_to_list (cond m None (cond f (option_map (joined_message p) o) (Some (lone p)))))
completed_by limit us p true f o em ef eo few hs l w h k = none_is
completed_by limit us p false false o em ef eo few hs l w h k = one_is (lone p) (lone_is limit p few l w h em ef)
completed_by limit us p false true None em ef eo few hs l w h k = none_is
completed_by limit us p false true (Some u) em ef eo few hs l w h k =
    one_is (joined_message p u)
    (joined_is limit p u few (found_begun (id_of p.bytes) us u hs eo) (ap (fragment_cause limit (order_of p.bytes) (length p.bytes)) (sym eo) ∙ joins_within limit us p.bytes k ef))

completed_is : (limit : ℕ) (us : List Partial) (p : Piece) → limit ≤ MAX_MESSAGE → AreBegun us → 12 ≤ length p.bytes → length p.bytes ≡ piece_len p.bytes → header_cause limit p.bytes ≡ None
    → piece_cause limit us p.bytes ≡ None → All IsMessage (option_to_list (completed us p))
unfolding completed
completed_is limit us p few hs l w h k = completed_by limit us p (has_more p.bytes) (is_fragment p.bytes) (open_at (id_of p.bytes) us) refl refl refl few hs l w h k

-- ---- streams

both_none : (a b : Option FrameCause) → or_else a b ≡ None → (a ≡ None) × (b ≡ None)
both_none None b h = (refl, h)
both_none (Some cause) b h = absurd (cc)

end_is : (us : List Partial) (tail : Piece) (cause : Option FrameCause) → All IsMessage (at_end us tail cause).messages
end_is us tail None = none_is
end_is us tail (Some cause) = none_is

goes_on : (us : List Partial) (p : Piece) (cause : Option FrameCause) (later : Said) → (cause ≡ None → All IsMessage (option_to_list (completed us p)) × All IsMessage later.messages)
    → All IsMessage (or_stopped us p cause later).messages
goes_on us p (Some cause) later h = none_is
goes_on us p None later h = All-append IsMessage (option_to_list (completed us p)) later.messages (h refl).0 (h refl).1

run_is : (limit : ℕ) (us : List Partial) (ps : List Piece) (tail : Piece) (at : ℕ) → limit ≤ MAX_MESSAGE → AreBegun us → ArePieces at ps tail.at → All IsMessage (run limit us ps tail).messages
unfolding run
run_is limit us [] tail at few hs a = end_is us tail (tail_cause limit tail.bytes)
run_is limit us (p ∷ later) tail at few hs a =
    goes_on us p (cause_of limit us p) (run limit (stepped p us) later tail)
    (λ e. let n = both_none (header_cause limit p.bytes) (piece_cause limit us p.bytes) e in (
      completed_is limit us p few hs a.1 a.2 n.0 n.1,
      run_is limit (stepped p us) later tail (at + length p.bytes) few (step_begun limit p us a.1 n.0 hs) a.3,
    ))

pub streams_messages : StreamsMessages
unfolding ahead
streams_messages limit bytes few =
    let c : Cut = cut (length bytes) 0 bytes in
    subst (λ (s : Said). All IsMessage s.messages) (sym (stream_is limit bytes)) (run_is limit [] c.whole c.tail 0 few tt (cuts_exactly bytes).pieces)

-- ---- feeds

front_of : (xs ys : List Message) → All IsMessage (xs ++ ys) → All IsMessage xs
front_of [] ys h = none_is
front_of (x ∷ xs) ys h = All-cons IsMessage x xs (All-head IsMessage x (xs ++ ys) h) (front_of xs ys (All-tail IsMessage x (xs ++ ys) h))

back_of : (xs ys : List Message) → All IsMessage (xs ++ ys) → All IsMessage ys
back_of [] ys h = h
back_of (x ∷ xs) ys h = back_of xs ys (All-tail IsMessage x (xs ++ ys) h)

appended : (whole new whole' : List Message) → whole' ≡ whole ++ new → All IsMessage whole → All IsMessage new → All IsMessage whole'
appended whole new whole' e h k = subst (All IsMessage) (sym e) (All-append IsMessage whole new h k)

-- those that the later stream has and the earlier has not
pub added_messages : (f f' : Feed) (new : List Message) → f'.limit ≤ MAX_MESSAGE → (said f').messages ≡ (said f).messages ++ new → All IsMessage new
added_messages f f' new few e = back_of (said f).messages new (subst (All IsMessage) e (streams_messages f'.limit f'.fed few))

added_is : (f f' : Feed) (whole whole' : List Message) → f'.limit ≤ MAX_MESSAGE → Adds f f' whole whole' → All IsMessage whole → All IsMessage whole'
added_is f f' whole whole' few a h = appended whole a.new whole' a.gives h (added_messages f f' a.new few a.says_new)

front_is : (f f' : Feed) (whole whole' : List Message) → f'.limit ≤ MAX_MESSAGE → AddsFront f f' whole whole' → All IsMessage whole → All IsMessage whole'
front_is f f' whole whole' few a h =
    let more : All IsMessage (a.new ++ a.left []) = back_of (said f).messages (a.new ++ a.left []) (subst (All IsMessage) (a.says_new []) (streams_messages f'.limit (f'.fed ++ []) few)) in
    appended whole a.new whole' a.gives h (front_of a.new (a.left []) more)

lacking : (f f' : Feed) (whole whole' : List Message) (b : Bool) → f.lacked ≡ b → f'.limit ≤ MAX_MESSAGE → (f.lacked ≡ false → AddsFront f f' whole whole') → (f.lacked ≡ true → whole' ≡ whole)
    → All IsMessage whole → All IsMessage whole'
lacking f f' whole whole' true e few front same h = subst (All IsMessage) (sym (same e)) h
lacking f f' whole whole' false e few front same h = front_is f f' whole whole' few (front e) h

pub feeds_messages : FeedsMessages
feeds_messages (Ok x) f f' whole whole' few t h = added_is f f' whole whole' few t.3 h
feeds_messages (Err (Frame e)) f f' whole whole' few t h = added_is f f' whole whole' few t.3 h
feeds_messages (Err NoMemory) f f' whole whole' few t h = lacking f f' whole whole' f.lacked refl few t.1 t.2 h

pub reads_messages : ReadsMessages
reads_messages (Ok rest) limit bytes whole whole' few r h = appended whole (stream limit bytes).messages whole' r.0 h (streams_messages limit bytes few)
reads_messages (Err (Frame e)) limit bytes whole whole' few r h = appended whole (stream limit bytes).messages whole' r.0 h (streams_messages limit bytes few)
reads_messages (Err NoMemory) limit bytes whole whole' few r h =
    appended whole r.new whole' r.gives h (front_of r.new r.left (subst (All IsMessage) r.says_new (streams_messages limit bytes few)))

-- a feed into an empty list
pub first_messages : (result : Result (Unit {0}) FeedFault) (f f' : Feed) (whole whole' : List Message) → whole ≡ [] → f'.limit ≤ MAX_MESSAGE → Tells result f f' whole whole' → All IsMessage whole'
first_messages result f f' whole whole' e few t = feeds_messages result f f' whole whole' few t (subst (All IsMessage) (sym e) none_is)

-- a feed whose framer keeps its limit
pub more_messages : (result : Result (Unit {0}) FeedFault) (f f' : Feed) (whole whole' : List Message) → f'.limit ≡ f.limit → f.limit ≤ MAX_MESSAGE → Tells result f f' whole whole' → All IsMessage whole → All IsMessage whole'
more_messages result f f' whole whole' e few t h = feeds_messages result f f' whole whole' (omega (arith, e, few)) t h
