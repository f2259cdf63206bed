-- What the pieces of a message come to: their lengths, and their stream.
use Rattle.std.proofs.Common.{◌≡◌, ℕ, ◌+◌, ◌-◌, ◌%◌, ◌^◌, ◌<◌, ◌≤◌, ◌==◌, Bool, true, false, List, [], ◌∷◌, ◌++◌, length, take, drop, Some, None, refl, ap, sym, ◌∙◌, subst, arith, append_assoc, length-append, length-drop, nat_lt, nat_le, ◌&&◌}
use Rattle.std.proofs.lemmas.List.{take-append-drop, length-take-le}
use Rattle.orb_base.specs.Room.{Room}
use Rattle.orb_base.specs.declared.order.Order.{Order}
use Rattle.cdr_core.specs.Cursor.{AreBytes}
use Rattle.giop_frames.specs.Pieces.{Piece, order_of, kind_of, piece_len, id_of}
use Rattle.giop_frames.specs.Messages.{Partial, Message, is_fragment, opens, lone}
use Rattle.giop_frames.specs.Kinds.{comes_whole}
use Rattle.giop_frames.specs.Stream.{header_cause, stream}
use Rattle.giop_frames.specs.Running.{ahead}
use Rattle.giop_frames.specs.Feeds.{joined_feeds}
use Rattle.giop_frames.specs.Splitting.{IsUncut, first_piece, fragment, AreFragments, ArePiecesOf, AreFull, last_at, only, ReadsAs}
use Rattle.giop_frames.proofs.Ahead.{kind_front}
use Rattle.giop_frames.proofs.Heads.{header_passes}
use Rattle.giop_frames.proofs.Effects.{opens_first, last_opens_none, step_opens, step_idle, idle_ends}
use Rattle.giop_frames.proofs.Deeds.{completes_none, completes_lone}
use Rattle.giop_frames.proofs.Growing.{stream_is}
use Rattle.giop_frames.proofs.PieceHeads.{IsPieceOf, piece_is}
use Rattle.giop_frames.proofs.PieceSeals.{short_of, seals}
use Rattle.giop_frames.proofs.PieceStreams.{IsBehind, last_says, middle_says, ends_with, long_kind, lone_passes, first_passes, goes_by, other_by, empty_ahead}

part_of : (message : List ℕ) (more : Bool) (bytes p : List ℕ) → IsUncut message → length bytes + 4 < 2 ^ 32 → p ≡ fragment message more bytes → IsPieceOf message more 7 bytes p
part_of message more bytes p u lt e = let P : List ℕ → Type 0 = λ x. IsPieceOf message more 7 bytes x in subst P (sym e) (piece_is message more 7 bytes u (omega arith))

-- the lengths
fragments_full : (limit : ℕ) (message bytes : List ℕ) (ps : List (Room ℕ)) → IsUncut message → 24 ≤ limit → length bytes + 4 < 2 ^ 32 → AreFragments limit message bytes ps → AreFull limit ps
fragments_full limit message bytes [] u least lt f = f
fragments_full limit message bytes (p ∷ []) u least lt f =
    let i : IsPieceOf message false 7 bytes p.items = part_of message false bytes p.items u lt f.1 in omega (arith, i.long, f.0)
fragments_full limit message bytes (p ∷ q ∷ ps) u least lt f =
    let len : length (take (limit - 16) bytes) ≡ limit - 16 = length-take-le (limit - 16) bytes (omega (arith, f.0)) in
    let i : IsPieceOf message true 7 (take (limit - 16) bytes) p.items = part_of message true (take (limit - 16) bytes) p.items u (omega (arith, f.0)) f.1 in
    (omega (arith, i.long), fragments_full limit message (drop (limit - 16) bytes) (q ∷ ps) u least (omega (arith, length-drop (limit - 16) bytes)) f.2)

-- what the first piece is like
first_is : (limit : ℕ) (message : List ℕ) → IsUncut message → AreBytes message → 24 ≤ limit → limit < length message
    → IsPieceOf message true (kind_of message) (take (limit - 16) (drop 16 message)) (first_piece limit message)
first_is limit message u b least lt =
    let len : length (take (limit - 16) (drop 16 message)) ≡ limit - 16 = length-take-le (limit - 16) (drop 16 message) (omega (arith, length-drop 16 message)) in
    piece_is message true (kind_of message) (take (limit - 16) (drop 16 message)) u (omega (arith, short_of message u b))

first_long : (limit : ℕ) (message : List ℕ) → IsUncut message → AreBytes message → 24 ≤ limit → limit < length message → length (first_piece limit message) ≡ limit
first_long limit message u b least lt =
    omega (arith, (first_is limit message u b least lt).long, length-take-le (limit - 16) (drop 16 message) (omega (arith, length-drop 16 message)))

left_short : (limit : ℕ) (message : List ℕ) → IsUncut message → AreBytes message → 24 ≤ limit → length (drop limit message) + 4 < 2 ^ 32
left_short limit message u b least = omega (arith, length-drop limit message, short_of message u b)

pub full : (limit : ℕ) (message : List ℕ) (ps : List (Room ℕ)) → IsUncut message → AreBytes message → 24 ≤ limit → ArePiecesOf limit message ps → AreFull limit ps
full limit message [] u b least f = f
full limit message (p ∷ []) u b least f = omega (arith, f.0, ap length f.1)
full limit message (p ∷ q ∷ ps) u b least f =
    (ap length f.1 ∙ first_long limit message u b least f.0, fragments_full limit message (drop limit message) (q ∷ ps) u least (left_short limit message u b least) f.2)

-- the stream from the Fragments on
fragments_say : (cap limit at : ℕ) (message : List ℕ) (ps : List (Room ℕ)) (u : Partial) (bytes : List ℕ) (kind : ℕ) (all : List ℕ) → IsUncut message → AreFragments cap message bytes ps
    → IsBehind message limit u bytes → cap % 8 ≡ 0 → 24 ≤ cap → cap ≤ limit → length bytes + 4 < 2 ^ 32 → kind_of u.bytes ≡ kind → u.bytes ++ bytes ≡ all
    → ahead limit (u ∷ []) at (joined_feeds ps) ≡ ends_with (at + last_at ps) (order_of message) kind all
fragments_say cap limit at message [] u bytes kind all uncut f b eights least fits lt hk ha = absurd f
fragments_say cap limit at message (p ∷ []) u bytes kind all uncut f b eights least fits lt hk ha =
    let i : IsPieceOf message false 7 bytes p.items = part_of message false bytes p.items uncut lt f.1 in
    last_says limit at message u bytes p.items i b (omega (arith, i.long, f.0))
    ∙ ap (λ (n : ℕ). ends_with n u.order (kind_of u.bytes) (u.bytes ++ bytes)) (let e : at ≡ at + 0 = omega arith in e)
    ∙ ap (λ (o : Order). ends_with (at + 0) o (kind_of u.bytes) (u.bytes ++ bytes)) b.order_is
    ∙ ap (λ (k : ℕ). ends_with (at + 0) (order_of message) k (u.bytes ++ bytes)) hk
    ∙ ap (ends_with (at + 0) (order_of message) kind) ha
fragments_say cap limit at message (p ∷ q ∷ ps) u bytes kind all uncut f b eights least fits lt hk ha =
    let front : List ℕ = take (cap - 16) bytes in
    let behind : List ℕ = drop (cap - 16) bytes in
    let len : length front ≡ cap - 16 = length-take-le (cap - 16) bytes (omega (arith, f.0)) in
    let i : IsPieceOf message true 7 front p.items = part_of message true front p.items uncut (omega (arith, f.0)) f.1 in
    let long : length p.items ≡ cap = omega (arith, i.long) in
    let next : Partial = record u { bytes = u.bytes ++ front } in
    let b' : IsBehind message limit next behind = record {
      id_is = b.id_is;
      order_is = b.order_is;
      header = omega (arith, b.header, length-append u.bytes front);
      room = omega (arith, b.room, length-append u.bytes front, length-drop (cap - 16) bytes, f.0);
    } in
    middle_says limit at message u front bytes p.items (joined_feeds (q ∷ ps)) (ends_with (at + length p.items + last_at (q ∷ ps)) (order_of message) kind all) i b
    (omega (arith, f.0)) (omega arith) (ap (λ (n : ℕ). n % 8) long ∙ eights)
    (fragments_say cap limit (at + length p.items) message (q ∷ ps) next behind kind all uncut f.2 b' eights least fits (omega (arith, length-drop (cap - 16) bytes))
    (kind_front u.bytes front b.header ∙ hk)
    (append_assoc u.bytes front behind ∙ ap (λ (x : List ℕ). u.bytes ++ x) (take-append-drop (cap - 16) bytes) ∙ ha))
    ∙ ap (λ (n : ℕ). ends_with n (order_of message) kind all) (let e : at + length p.items + last_at (q ∷ ps) ≡ at + (length p.items + last_at (q ∷ ps)) = omega arith in e)

-- the stream of a message that is within the limit
alone_says : (limit : ℕ) (message : List ℕ) → IsUncut message → length message ≤ limit → stream limit (message ++ []) ≡ only 0 message
alone_says limit message u l =
    let q : Piece = record { at = 0; bytes = message } in
    let k : (comes_whole (kind_of message) ≡ false) × ((kind_of message == 7) ≡ false) × (nat_lt 7 (kind_of message) ≡ false) × ((kind_of message == 2) ≡ false) =
    long_kind (kind_of message) u.kind in
    let f : is_fragment message ≡ false = other_by message k.1 in
    let size : piece_len message ≡ length message = sym u.size in
    let header : header_cause limit message ≡ None = header_passes limit message u.magic u.version k.2 (grind arith) in
    stream_is limit (message ++ [])
    ∙ goes_by limit [] [] 0 message [] (Some (lone q)) (record { messages = []; rest = None; bad = None }) (omega (arith, u.id)) u.size
    header
    (lone_passes limit [] message header u.alone f)
    (step_idle q [] (last_opens_none message u.alone) f (λ v. idle_ends v message f (ap (λ (b : Bool). b && nat_le 16 (length message)) k.3)))
    (completes_lone [] q u.alone f)
    (empty_ahead limit (0 + length message))

-- the stream of a first piece and what follows
first_says : (cap limit : ℕ) (message : List ℕ) (ps : List (Room ℕ)) → IsUncut message → AreBytes message → cap % 8 ≡ 0 → 24 ≤ cap → cap < length message → length message ≤ limit
    → AreFragments cap message (drop cap message) ps → stream limit (first_piece cap message ++ joined_feeds ps) ≡ only (length (first_piece cap message) + last_at ps) message
first_says cap limit message ps u b eights least lt l f =
    let p : List ℕ = first_piece cap message in
    let q : Piece = record { at = 0; bytes = p } in
    let i : IsPieceOf message true (kind_of message) (take (cap - 16) (drop 16 message)) p = first_is cap message u b least lt in
    let len : length p ≡ cap = first_long cap message u b least lt in
    let k : (comes_whole (kind_of message) ≡ false) × ((kind_of message == 7) ≡ false) × (nat_lt 7 (kind_of message) ≡ false) × ((kind_of message == 2) ≡ false) =
    long_kind (kind_of message) u.kind in
    let kp : kind_of p ≡ kind_of message = i.kind_is in
    let fragment : is_fragment p ≡ false = other_by p (ap (λ (n : ℕ). n == 7) kp ∙ k.1) in
    let opens_it : opens p ≡ true = opens_first p i.bit fragment in
    let header : header_cause limit p ≡ None = header_passes limit p i.magic i.version (ap (λ (n : ℕ). nat_lt 7 n) kp ∙ k.2) (let size : length p ≡ piece_len p = i.size in grind arith) in
    let begun : Partial = record { at = 0; id = id_of p; order = order_of p; bytes = p } in
    let behind : IsBehind message limit begun (drop cap message) = record {
      id_is = i.id;
      order_is = i.order;
      header = omega (arith, len);
      room = omega (arith, len, length-drop cap message);
    } in
    stream_is limit (p ++ joined_feeds ps)
    ∙ goes_by limit [] (begun ∷ []) 0 p (joined_feeds ps) None (ends_with (0 + length p + last_at ps) (order_of message) (kind_of message) (p ++ drop cap message)) (omega (arith, len)) i.size
    header
    (first_passes limit p header i.bit fragment (ap comes_whole kp ∙ k.0) (let e : length p % 8 ≡ 0 = ap (λ (n : ℕ). n % 8) len ∙ eights in grind arith))
    (step_opens q [] opens_it (ap (λ (n : ℕ). n == 2) kp ∙ k.3))
    (completes_none [] q i.bit)
    (fragments_say cap limit (0 + length p) message ps begun (drop cap message) (kind_of message) (p ++ drop cap message) u f behind eights least (omega arith)
    (left_short cap message u b least) kp refl)
    ∙ ap (λ (n : ℕ). ends_with n (order_of message) (kind_of message) (p ++ drop cap message)) (let e : 0 + length p + last_at ps ≡ length p + last_at ps = omega arith in e)
    ∙ ap (λ (x : List ℕ). let m : Message = record { at = length p + last_at ps; order = order_of message; kind = kind_of message; bytes = x } in record { messages = m ∷ []; rest = None; bad = None })
    (seals cap message u b least lt)

pub reads_as : (cap : ℕ) (message : List ℕ) (ps : List (Room ℕ)) → IsUncut message → AreBytes message → cap % 8 ≡ 0 → 24 ≤ cap → ArePiecesOf cap message ps → ReadsAs message ps
reads_as cap message [] u b eights least f limit l = absurd f
reads_as cap message (p ∷ []) u b eights least f limit l =
    ap (λ (x : List ℕ). stream limit (x ++ [])) f.1 ∙ alone_says limit message u l
reads_as cap message (p ∷ q ∷ ps) u b eights least f limit l =
    ap (λ (x : List ℕ). stream limit (x ++ joined_feeds (q ∷ ps))) f.1
    ∙ first_says cap limit message (q ∷ ps) u b eights least f.0 l f.2
    ∙ ap (λ (x : List ℕ). only (length x + last_at (q ∷ ps)) message) (sym f.1)

-- the code's loop: the pieces so far, and the bytes that are left
pub record CutSoFar (limit : ℕ) (message : List ℕ) (pieces : List (Room ℕ)) (left : List ℕ) : Type 0 where
  pub on : (rest : List (Room ℕ)) → AreFragments limit message left rest → ArePiecesOf limit message (pieces ++ rest)
  pub short : length left + limit ≤ length message

first_on : (limit : ℕ) (message : List ℕ) (p : Room ℕ) (rest : List (Room ℕ)) → limit < length message → p.items ≡ first_piece limit message
    → AreFragments limit message (drop limit message) rest → ArePiecesOf limit message (p ∷ rest)
first_on limit message p [] lt e f = absurd f
first_on limit message p (q ∷ rest) lt e f = (lt, e, f)

middle_on : (limit : ℕ) (message left : List ℕ) (p : Room ℕ) (rest : List (Room ℕ)) → limit - 16 < length left → p.items ≡ fragment message true (take (limit - 16) left)
    → AreFragments limit message (drop (limit - 16) left) rest → AreFragments limit message left (p ∷ rest)
middle_on limit message left p [] lt e f = absurd f
middle_on limit message left p (q ∷ rest) lt e f = (lt, e, f)

pub cut_first : (limit : ℕ) (message : List ℕ) (p : Room ℕ) (pieces : List (Room ℕ)) (left : List ℕ) → limit < length message → p.items ≡ first_piece limit message
    → pieces ≡ p ∷ [] → left ≡ drop limit message → CutSoFar limit message pieces left
cut_first limit message p pieces left lt e hp hl =
    let P : List (Room ℕ) → Type 0 = λ x. CutSoFar limit message x left in
    let Q : List ℕ → Type 0 = λ x. CutSoFar limit message (p ∷ []) x in
    subst P (sym hp) (subst Q (sym hl) (record {
      on = λ rest f. first_on limit message p rest lt e f;
      short = omega (arith, length-drop limit message);
    }))

pub cut_middle : (limit : ℕ) (message : List ℕ) (p : Room ℕ) (pieces pieces' : List (Room ℕ)) (left left' : List ℕ) → CutSoFar limit message pieces left
    → limit - 16 < length left → p.items ≡ fragment message true (take (limit - 16) left) → pieces' ≡ pieces ++ p ∷ [] → left' ≡ drop (limit - 16) left → CutSoFar limit message pieces' left'
cut_middle limit message p pieces pieces' left left' s lt e hp hl =
    let P : List (Room ℕ) → Type 0 = λ x. CutSoFar limit message x left' in
    let Q : List ℕ → Type 0 = λ x. CutSoFar limit message (pieces ++ p ∷ []) x in
    subst P (sym hp) (subst Q (sym hl) (record {
      on = λ rest f. (let R : List (Room ℕ) → Type 0 = λ x. ArePiecesOf limit message x in
          subst R (sym (append_assoc pieces (p ∷ []) rest)) (s.on (p ∷ rest) (middle_on limit message left p rest lt e f)));
      short = omega (arith, s.short, length-drop (limit - 16) left);
    }))

pub cut_last : (limit : ℕ) (message : List ℕ) (p : Room ℕ) (pieces pieces' : List (Room ℕ)) (left : List ℕ) → CutSoFar limit message pieces left
    → length left ≤ limit - 16 → p.items ≡ fragment message false left → pieces' ≡ pieces ++ p ∷ [] → ArePiecesOf limit message pieces'
cut_last limit message p pieces pieces' left s l e hp =
    let P : List (Room ℕ) → Type 0 = λ x. ArePiecesOf limit message x in subst P (sym hp) (s.on (p ∷ []) (l, e))

pub cut_alone : (limit : ℕ) (message : List ℕ) (p : Room ℕ) (pieces : List (Room ℕ)) → length message ≤ limit → p.items ≡ message → pieces ≡ p ∷ [] → ArePiecesOf limit message pieces
cut_alone limit message p pieces l e hp = let P : List (Room ℕ) → Type 0 = λ x. ArePiecesOf limit message x in subst P (sym hp) (l, e)
