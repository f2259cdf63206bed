-- A message that is sent whole or in its pieces: what its bytes say wherever they are, and how many they are.
use Rattle.std.proofs.Common.{◌≡◌, ℕ, ◌+◌, ◌*◌, ◌-◌, ◌%◌, ◌<◌, ◌≤◌, ◌==◌, ◌^◌, Bool, true, false, List, [], ◌∷◌, ◌++◌, length, take, drop, Option, Some, None, refl, ap, sym, ◌∙◌, subst, arith, append_assoc, length-append, length-drop, nat_lt, nat_le, ◌&&◌}
use Rattle.std.proofs.lemmas.List.{length-take-le, take-append-drop}
use Rattle.orb_base.specs.Room.{Room}
use Rattle.orb_base.specs.declared.order.Order.{Order}
use Rattle.cdr_core.specs.Cursor.{AreBytes}
use Rattle.giop_frames.specs.Pieces.{Piece, order_of, kind_of, piece_len, id_of}
use Rattle.giop_frames.specs.Messages.{Partial, Message, is_fragment, opens, lone}
use Rattle.giop_frames.specs.Kinds.{comes_whole}
use Rattle.giop_frames.specs.Stream.{header_cause}
use Rattle.giop_frames.specs.Running.{ahead}
use Rattle.giop_frames.specs.Feeds.{joined_feeds}
use Rattle.giop_frames.specs.Splitting.{IsUncut, first_piece, fragment, AreFragments, ArePiecesOf, last_at, only}
use Rattle.giop_frames.proofs.Ahead.{kind_front}
use Rattle.giop_frames.proofs.Heads.{header_passes}
use Rattle.giop_frames.proofs.Effects.{opens_first, last_opens_none, step_opens, step_idle, idle_ends}
use Rattle.giop_frames.proofs.Deeds.{completes_none, completes_lone}
use Rattle.giop_frames.proofs.PieceHeads.{IsPieceOf, piece_is}
use Rattle.giop_frames.proofs.PieceSeals.{short_of, seals}
use Rattle.giop_frames.proofs.PieceStreams.{IsBehind, last_says, middle_says, ends_with, long_kind, lone_passes, first_passes, goes_by, other_by, empty_ahead}
use Rattle.load_runs.specs.Generated.{IsSent}
use Rattle.load_runs.specs.Making.{CutsWell}

-- the bytes say this message alone, which a piece at some place completes
pub record SaysOne (limit at : ℕ) (message bytes : List ℕ) : Type 0 where
  pub place : ℕ
  pub says : ahead limit [] at bytes ≡ only place message

-- a message that is within the limit
alone : (limit at : ℕ) (message : List ℕ) → IsUncut message → length message ≤ limit → ahead limit [] at (message ++ []) ≡ only at message
alone limit at message u l =
    let q : Piece = record { at = at; bytes = message } in
    let k : (comes_whole (kind_of message) ≡ false) × ((kind_of message == 7) ≡ false) × (nat_lt 7 (kind_of message) ≡ false) × ((kind_of message == 2) ≡ false) =
    long_kind (kind_of message) u.kind in
    let f : is_fragment message ≡ false = other_by message k.1 in
    let size : piece_len message ≡ length message = sym u.size in
    let header : header_cause limit message ≡ None = header_passes limit message u.magic u.version k.2 (grind arith) in
    goes_by limit [] [] at message [] (Some (lone q)) (record { messages = []; rest = None; bad = None }) (omega (arith, u.id)) u.size
    header
    (lone_passes limit [] message header u.alone f)
    (step_idle q [] (last_opens_none message u.alone) f (λ v. idle_ends v message f (ap (λ (b : Bool). b && nat_le 16 (length message)) k.3)))
    (completes_lone [] q u.alone f)
    (empty_ahead limit (at + length message))

-- what the first piece is like
first_is : (cap : ℕ) (message : List ℕ) → IsUncut message → AreBytes message → 24 ≤ cap → cap < length message
    → IsPieceOf message true (kind_of message) (take (cap - 16) (drop 16 message)) (first_piece cap message)
first_is cap message u b least lt =
    let len : length (take (cap - 16) (drop 16 message)) ≡ cap - 16 = length-take-le (cap - 16) (drop 16 message) (omega (arith, length-drop 16 message)) in
    piece_is message true (kind_of message) (take (cap - 16) (drop 16 message)) u (omega (arith, short_of message u b))

first_long : (cap : ℕ) (message : List ℕ) → IsUncut message → AreBytes message → 24 ≤ cap → cap < length message → length (first_piece cap message) ≡ cap
first_long cap message u b least lt =
    omega (arith, (first_is cap message u b least lt).long, length-take-le (cap - 16) (drop 16 message) (omega (arith, length-drop 16 message)))

part_of : (message : List ℕ) (more : Bool) (bytes p : List ℕ) → IsUncut message → length bytes + 4 < 2 ^ 32 → p ≡ fragment message more bytes → IsPieceOf message more 7 bytes p
part_of message more bytes p u lt e = let P : List ℕ → Type 0 = λ x. IsPieceOf message more 7 bytes x in subst P (sym e) (piece_is message more 7 bytes u (omega arith))

-- the stream from the Fragments on
fragments_say : (cap limit at : ℕ) (message : List ℕ) (ps : List (Room ℕ)) (u : Partial) (bytes : List ℕ) (kind : ℕ) (all : List ℕ) → IsUncut message → AreFragments cap message bytes ps
    → IsBehind message limit u bytes → cap % 8 ≡ 0 → 24 ≤ cap → cap ≤ limit → length bytes + 4 < 2 ^ 32 → kind_of u.bytes ≡ kind → u.bytes ++ bytes ≡ all
    → ahead limit (u ∷ []) at (joined_feeds ps) ≡ ends_with (at + last_at ps) (order_of message) kind all
fragments_say cap limit at message [] u bytes kind all uncut f b eights least fits lt hk ha = absurd f
fragments_say cap limit at message (p ∷ []) u bytes kind all uncut f b eights least fits lt hk ha =
    let i : IsPieceOf message false 7 bytes p.items = part_of message false bytes p.items uncut lt f.1 in
    last_says limit at message u bytes p.items i b (omega (arith, i.long, f.0))
    ∙ ap (λ (n : ℕ). ends_with n u.order (kind_of u.bytes) (u.bytes ++ bytes)) (let e : at ≡ at + 0 = omega arith in e)
    ∙ ap (λ (o : Order). ends_with (at + 0) o (kind_of u.bytes) (u.bytes ++ bytes)) b.order_is
    ∙ ap (λ (k : ℕ). ends_with (at + 0) (order_of message) k (u.bytes ++ bytes)) hk
    ∙ ap (ends_with (at + 0) (order_of message) kind) ha
fragments_say cap limit at message (p ∷ q ∷ ps) u bytes kind all uncut f b eights least fits lt hk ha =
    let front : List ℕ = take (cap - 16) bytes in
    let behind : List ℕ = drop (cap - 16) bytes in
    let len : length front ≡ cap - 16 = length-take-le (cap - 16) bytes (omega (arith, f.0)) in
    let i : IsPieceOf message true 7 front p.items = part_of message true front p.items uncut (omega (arith, f.0)) f.1 in
    let long : length p.items ≡ cap = omega (arith, i.long) in
    let next : Partial = record u { bytes = u.bytes ++ front } in
    let b' : IsBehind message limit next behind = record {
      id_is = b.id_is;
      order_is = b.order_is;
      header = omega (arith, b.header, length-append u.bytes front);
      room = omega (arith, b.room, length-append u.bytes front, length-drop (cap - 16) bytes, f.0);
    } in
    middle_says limit at message u front bytes p.items (joined_feeds (q ∷ ps)) (ends_with (at + length p.items + last_at (q ∷ ps)) (order_of message) kind all) i b
    (omega (arith, f.0)) (omega arith) (ap (λ (n : ℕ). n % 8) long ∙ eights)
    (fragments_say cap limit (at + length p.items) message (q ∷ ps) next behind kind all uncut f.2 b' eights least fits (omega (arith, length-drop (cap - 16) bytes))
    (kind_front u.bytes front b.header ∙ hk)
    (append_assoc u.bytes front behind ∙ ap (λ (x : List ℕ). u.bytes ++ x) (take-append-drop (cap - 16) bytes) ∙ ha))
    ∙ ap (λ (n : ℕ). ends_with n (order_of message) kind all) (let e : at + length p.items + last_at (q ∷ ps) ≡ at + (length p.items + last_at (q ∷ ps)) = omega arith in e)

-- a first piece and the Fragments after it
first_says : (cap limit at : ℕ) (message : List ℕ) (ps : List (Room ℕ)) → IsUncut message → AreBytes message → cap % 8 ≡ 0 → 24 ≤ cap → cap < length message → length message ≤ limit
    → AreFragments cap message (drop cap message) ps → ahead limit [] at (first_piece cap message ++ joined_feeds ps) ≡ only (at + length (first_piece cap message) + last_at ps) message
first_says cap limit at message ps u b eights least lt l f =
    let p : List ℕ = first_piece cap message in
    let q : Piece = record { at = at; bytes = p } in
    let i : IsPieceOf message true (kind_of message) (take (cap - 16) (drop 16 message)) p = first_is cap message u b least lt in
    let len : length p ≡ cap = first_long cap message u b least lt in
    let k : (comes_whole (kind_of message) ≡ false) × ((kind_of message == 7) ≡ false) × (nat_lt 7 (kind_of message) ≡ false) × ((kind_of message == 2) ≡ false) =
    long_kind (kind_of message) u.kind in
    let kp : kind_of p ≡ kind_of message = i.kind_is in
    let fragment : is_fragment p ≡ false = other_by p (ap (λ (n : ℕ). n == 7) kp ∙ k.1) in
    let opens_it : opens p ≡ true = opens_first p i.bit fragment in
    let header : header_cause limit p ≡ None = header_passes limit p i.magic i.version (ap (λ (n : ℕ). nat_lt 7 n) kp ∙ k.2) (let size : length p ≡ piece_len p = i.size in grind arith) in
    let begun : Partial = record { at = at; id = id_of p; order = order_of p; bytes = p } in
    let behind : IsBehind message limit begun (drop cap message) = record {
      id_is = i.id;
      order_is = i.order;
      header = omega (arith, len);
      room = omega (arith, len, length-drop cap message);
    } in
    goes_by limit [] (begun ∷ []) at p (joined_feeds ps) None (ends_with (at + length p + last_at ps) (order_of message) (kind_of message) (p ++ drop cap message)) (omega (arith, len)) i.size
    header
    (first_passes limit p header i.bit fragment (ap comes_whole kp ∙ k.0) (let e : length p % 8 ≡ 0 = ap (λ (n : ℕ). n % 8) len ∙ eights in grind arith))
    (step_opens q [] opens_it (ap (λ (n : ℕ). n == 2) kp ∙ k.3))
    (completes_none [] q i.bit)
    (fragments_say cap limit (at + length p) message ps begun (drop cap message) (kind_of message) (p ++ drop cap message) u f behind eights least (omega arith)
    (omega (arith, length-drop cap message, short_of message u b)) kp refl)
    ∙ ap (λ (x : List ℕ). let m : Message = record { at = at + length p + last_at ps; order = order_of message; kind = kind_of message; bytes = x } in record { messages = m ∷ []; rest = None; bad = None })
    (seals cap message u b least lt)

pieces_say : (cap limit at : ℕ) (message : List ℕ) (ps : List (Room ℕ)) → IsUncut message → AreBytes message → cap % 8 ≡ 0 → 24 ≤ cap → length message ≤ limit → ArePiecesOf cap message ps
    → SaysOne limit at message (joined_feeds ps)
pieces_say cap limit at message [] u b eights least l f = absurd f
pieces_say cap limit at message (p ∷ []) u b eights least l f =
    record { place = at; says = ap (λ (x : List ℕ). ahead limit [] at (x ++ [])) f.1 ∙ alone limit at message u l }
pieces_say cap limit at message (p ∷ q ∷ ps) u b eights least l f = record {
  place = at + length (first_piece cap message) + last_at (q ∷ ps);
  says = ap (λ (x : List ℕ). ahead limit [] at (x ++ joined_feeds (q ∷ ps))) f.1 ∙ first_says cap limit at message (q ∷ ps) u b eights least f.0 l f.2;
}

empty_behind : (xs : List ℕ) → xs ++ [] ≡ xs
empty_behind [] = refl
empty_behind (x ∷ xs) = ap (λ (ys : List ℕ). x ∷ ys) (empty_behind xs)

pub sent_says : (cut : Option ℕ) (limit at : ℕ) (message bytes : List ℕ) → IsUncut message → AreBytes message → CutsWell cut → length message ≤ limit → IsSent cut message bytes
    → SaysOne limit at message bytes
sent_says None limit at message bytes u b well l sent =
    record { place = at; says = ap (ahead limit [] at) (sent ∙ sym (empty_behind message)) ∙ alone limit at message u l }
sent_says (Some cap) limit at message bytes u b well l sent =
    let one = pieces_say cap limit at message sent.0 u b well.1 (omega (arith, well.0)) l sent.1 in
    record { place = one.place; says = ap (ahead limit [] at) sent.2 ∙ one.says }

-- ---- how many bytes they are

fragments_few : (cap : ℕ) (message bytes : List ℕ) (ps : List (Room ℕ)) → IsUncut message → 24 ≤ cap → length bytes + 4 < 2 ^ 32 → AreFragments cap message bytes ps
    → length (joined_feeds ps) ≤ 3 * length bytes + 16
fragments_few cap message bytes [] u least lt f = absurd f
fragments_few cap message bytes (p ∷ []) u least lt f =
    let i : IsPieceOf message false 7 bytes (fragment message false bytes) = piece_is message false 7 bytes u (omega arith) in
    omega (arith, i.long, ap (λ (x : List ℕ). length x) f.1, length-append p.items [])
fragments_few cap message bytes (p ∷ q ∷ ps) u least lt f =
    let front : List ℕ = take (cap - 16) bytes in
    let left : List ℕ = drop (cap - 16) bytes in
    let len : length front ≡ cap - 16 = length-take-le (cap - 16) bytes (omega (arith, f.0)) in
    let i : IsPieceOf message true 7 front (fragment message true front) = piece_is message true 7 front u (omega (arith, f.0)) in
    let others : length (joined_feeds (q ∷ ps)) ≤ 3 * length left + 16 =
    fragments_few cap message left (q ∷ ps) u least (omega (arith, length-drop (cap - 16) bytes)) f.2 in
    let size : length left ≡ length bytes - (cap - 16) = length-drop (cap - 16) bytes in
    let here : length p.items ≡ cap = omega (arith, i.long, ap (λ (x : List ℕ). length x) f.1, len, least) in
    omega (arith, here, others, size, f.0, least, length-append p.items (joined_feeds (q ∷ ps)))

pieces_few : (cap : ℕ) (message : List ℕ) (ps : List (Room ℕ)) → IsUncut message → AreBytes message → 24 ≤ cap → ArePiecesOf cap message ps
    → length (joined_feeds ps) ≤ 3 * length message + 16
pieces_few cap message [] u b least f = absurd f
pieces_few cap message (p ∷ []) u b least f = omega (arith, ap (λ (x : List ℕ). length x) f.1, length-append p.items [])
pieces_few cap message (p ∷ q ∷ ps) u b least f =
    let first : length p.items ≡ cap = ap (λ (x : List ℕ). length x) f.1 ∙ first_long cap message u b least f.0 in
    let left : List ℕ = drop cap message in
    let size : length left ≡ length message - cap = length-drop cap message in
    let others : length (joined_feeds (q ∷ ps)) ≤ 3 * length left + 16 =
    fragments_few cap message left (q ∷ ps) u least (omega (arith, size, short_of message u b)) f.2 in
    omega (arith, first, others, size, f.0, least, length-append p.items (joined_feeds (q ∷ ps)))

pub sent_few : (cut : Option ℕ) (message bytes : List ℕ) → IsUncut message → AreBytes message → CutsWell cut → IsSent cut message bytes
    → length bytes ≤ 3 * length message + 16
sent_few None message bytes u b well sent = omega (arith, ap (λ (x : List ℕ). length x) sent)
sent_few (Some cap) message bytes u b well sent =
    omega (arith, ap (λ (x : List ℕ). length x) sent.2, pieces_few cap message sent.0 u b (omega (arith, well.0)) sent.1)
