-- The pieces of a stream of bytes, each of which is a header of 12 bytes and the bytes that it counts: CORBA 3.0.3,
-- section 15.4.
use Rattle.std.specs.Prelude.{ℕ, zero, suc, ◌+◌, ◌/◌, ◌%◌, ◌==◌, ◌&&◌, Bool, List, [], ◌∷◌, length, take, drop, nat_le, slice_index, if◌then◌else◌}
use Rattle.std.specs.Int.{w32}
use Rattle.orb_base.specs.declared.order.Order.{Order}
use Rattle.orb_base.specs.declared.order.Order.TheVariants.{Big, Little}
use Rattle.cdr_core.specs.Reading.{number_of}

-- a piece, and the offset of its first byte in the stream
pub record Piece : Type 0 where
  pub at : ℕ
  pub bytes : List ℕ

-- bit 0 of the flags is set for the little-endian order
unfoldable pub order_of : List ℕ → Order
order_of bytes = if slice_index bytes 6 % 2 == 1 then Little else Big

-- bit 1 of the flags says that more fragments follow
unfoldable pub has_more : List ℕ → Bool
has_more bytes = slice_index bytes 6 / 2 % 2 == 1

-- the number of the kind of message
unfoldable pub kind_of : List ℕ → ℕ
kind_of bytes = slice_index bytes 7

-- how many bytes are after the header
abbrev pub size_of : List ℕ → ℕ
size_of bytes = number_of (order_of bytes) w32 (take 4 (drop 8 bytes))

-- how long a piece is by its header: the header, and the bytes that its size counts
unfoldable pub piece_len : List ℕ → ℕ
piece_len bytes = 12 + size_of bytes

-- the id of a Fragment, or of a message that fragments follow: the 4 bytes after the header
unfoldable pub id_of : List ℕ → ℕ
id_of bytes = number_of (order_of bytes) w32 (take 4 (drop 12 bytes))

-- a whole piece is at the front
unfoldable pub is_whole : List ℕ → Bool
is_whole bytes = nat_le 12 (length bytes) && nat_le (piece_len bytes) (length bytes)

-- bytes cut into pieces, and what has come of the next piece
pub record Cut : Type 0 where
  pub whole : List Piece
  pub tail : Piece

-- a cut with one more whole piece before
abbrev pub with_piece : Piece → Cut → Cut
with_piece p c = record { whole = p ∷ c.whole; tail = c.tail }

-- the cut of the bytes that begin at this offset, into at most so many whole pieces
unfoldable pub cut : ℕ → ℕ → List ℕ → Cut
cut zero at bytes = record { whole = []; tail = record { at = at; bytes = bytes } }
cut (suc n) at bytes =
    if is_whole bytes then with_piece (record { at = at; bytes = take (piece_len bytes) bytes }) (cut n (at + piece_len bytes) (drop (piece_len bytes) bytes))
    else record { whole = []; tail = record { at = at; bytes = bytes } }
