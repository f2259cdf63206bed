-- A whole message cut into pieces: CORBA 3.0.3, section 15.4.9. That each piece but the last is as long as the limit is
-- own profile.
use Rattle.std.specs.Prelude.{ℕ, ◌≡◌, ◌+◌, ◌-◌, ◌<◌, ◌≤◌, Bool, true, false, List, [], ◌∷◌, ◌++◌, None, length, take, drop, slice_index, if◌then◌else◌}
use Rattle.std.specs.Int.{w32}
use Rattle.orb_base.specs.Room.{Room}
use Rattle.cdr_core.specs.Field.{number_bytes}
use Rattle.giop_frames.specs.declared.kind.Kind.TheVariants.{Fragment}
use Rattle.giop_frames.specs.declared.header.Header.{Header}
use Rattle.giop_frames.specs.Kinds.{number, is_long_kind}
use Rattle.giop_frames.specs.Pieces.{order_of, has_more, kind_of, piece_len}
use Rattle.giop_frames.specs.Messages.{lone}
use Rattle.giop_frames.specs.Headers.{has_magic, has_version}
use Rattle.giop_frames.specs.Stream.{Said, stream}
use Rattle.giop_frames.specs.Feeds.{joined_feeds}

-- a whole message of one piece, of a kind that may come in fragments, with the 4 bytes of its id
pub record IsUncut (message : List ℕ) : Type 0 where
  pub magic : has_magic message ≡ true
  pub version : has_version message ≡ true
  pub alone : has_more message ≡ false
  pub kind : is_long_kind (kind_of message) ≡ true
  pub size : length message ≡ piece_len message
  pub id : 16 ≤ length message

-- what the header of such a message says of its length
pub record CountsUncut (h : Header) (len : ℕ) : Type 0 where
  pub id : 16 ≤ len
  pub alone : h.more ≡ false
  pub kind : is_long_kind (number h.kind) ≡ true
  pub size : len ≡ 12 + h.size

-- a piece of a message: its magic, version and flags, the fragment bit set where more pieces follow; a kind; the size;
-- the message's id; and some of its further bytes
unfoldable pub piece_of : List ℕ → Bool → ℕ → List ℕ → List ℕ
piece_of message more kind bytes =
    take 6 message ++ (slice_index message 6 + (if more then 2 else 0)) ∷ kind ∷ number_bytes (order_of message) w32 (4 + length bytes)
    ++ take 4 (drop 12 message) ++ bytes

-- the first piece carries what follows the id, as much as the limit leaves room for
abbrev pub first_piece : ℕ → List ℕ → List ℕ
first_piece limit message = piece_of message true (kind_of message) (take (limit - 16) (drop 16 message))

-- a Fragment carries the next bytes
abbrev pub fragment : List ℕ → Bool → List ℕ → List ℕ
fragment message more bytes = piece_of message more (number Fragment) bytes

-- these Fragments of a message carry its further bytes, each but the last as many as the limit leaves room for
abbrev pub AreFragments : ℕ → List ℕ → List ℕ → List (Room ℕ) → Type 0
AreFragments limit message bytes [] = ⊥
AreFragments limit message bytes (p ∷ []) = (length bytes ≤ limit - 16) × (p.items ≡ fragment message false bytes)
AreFragments limit message bytes (p ∷ q ∷ ps) =
    (limit - 16 < length bytes) × (p.items ≡ fragment message true (take (limit - 16) bytes))
    × AreFragments limit message (drop (limit - 16) bytes) (q ∷ ps)

-- the pieces of a message under a limit: itself, where it is within the limit, or else a first piece and Fragments
abbrev pub ArePiecesOf : ℕ → List ℕ → List (Room ℕ) → Type 0
ArePiecesOf limit message [] = ⊥
ArePiecesOf limit message (p ∷ []) = (length message ≤ limit) × (p.items ≡ message)
ArePiecesOf limit message (p ∷ q ∷ ps) =
    (limit < length message) × (p.items ≡ first_piece limit message)
    × AreFragments limit message (drop limit message) (q ∷ ps)

-- each of these pieces but the last is as long as the limit, and the last is within it
abbrev pub AreFull : ℕ → List (Room ℕ) → Type 0
AreFull limit [] = ⊥
AreFull limit (p ∷ []) = length p.items ≤ limit
AreFull limit (p ∷ q ∷ ps) = (length p.items ≡ limit) × AreFull limit (q ∷ ps)

-- the offset of the last of these pieces
abbrev pub last_at : List (Room ℕ) → ℕ
last_at [] = 0
last_at (p ∷ []) = 0
last_at (p ∷ q ∷ ps) = length p.items + last_at (q ∷ ps)

-- a stream that is one message, which the piece at an offset completes
abbrev pub only : ℕ → List ℕ → Said
only at message = record { messages = lone (record { at = at; bytes = message }) ∷ []; rest = None; bad = None }

-- under every limit that has room for the message, the stream of these pieces is the message and nothing else
abbrev pub ReadsAs : List ℕ → List (Room ℕ) → Type 0
ReadsAs message ps = (limit : ℕ) → length message ≤ limit → stream limit (joined_feeds ps) ≡ only (last_at ps) message
