-- Messages of one piece, and messages in fragments: CORBA 3.0.3, section 15.4. That a CancelRequest drops the unfinished
-- message of its id is own profile.
use Rattle.std.specs.Prelude.{ℕ, ◌-◌, ◌==◌, ◌&&◌, ◌||◌, not, Bool, List, [], ◌∷◌, ◌++◌, Option, Some, None, length, take, drop, nat_le, slice_index, filter, flat_map, find, option_map, if◌then◌else◌}
use Rattle.std.specs.List.{list_any}
use Rattle.std.specs.Int.{w32}
use Rattle.orb_base.specs.declared.order.Order.{Order}
use Rattle.cdr_core.specs.Field.{number_bytes}
use Rattle.giop_frames.specs.declared.kind.Kind.TheVariants.{CancelRequest, Fragment}
use Rattle.giop_frames.specs.Kinds.{is_kind}
use Rattle.giop_frames.specs.Pieces.{Piece, order_of, has_more, kind_of, id_of}

-- a piece that is a Fragment
unfoldable pub is_fragment : List ℕ → Bool
is_fragment bytes = is_kind Fragment (kind_of bytes)

-- a first piece of a message in fragments
unfoldable pub opens : List ℕ → Bool
opens bytes = has_more bytes && not (is_fragment bytes)

-- a Fragment of this id
unfoldable pub continues : ℕ → List ℕ → Bool
continues id bytes = is_fragment bytes && (id == id_of bytes)

-- a CancelRequest of this id
unfoldable pub cancels : ℕ → List ℕ → Bool
cancels id bytes = is_kind CancelRequest (kind_of bytes) && (nat_le 16 (length bytes) && (id == id_of bytes))

-- the last Fragment or a CancelRequest of this id
unfoldable pub ends : ℕ → List ℕ → Bool
ends id bytes = (continues id bytes && not (has_more bytes)) || cancels id bytes

-- an unfinished message with the bytes that came of it, and the offset of its first piece
pub record Partial : Type 0 where
  pub at : ℕ
  pub id : ℕ
  pub order : Order
  pub bytes : List ℕ

-- what a Fragment adds: all but its header and its id
abbrev pub added : Piece → List ℕ
added p = drop 16 p.bytes

-- the message that begins with this piece, and goes on in the Fragments after it
abbrev pub begun : Piece → List Piece → Partial
begun p later = record {
  at = p.at;
  id = id_of p.bytes;
  order = order_of p.bytes;
  bytes = p.bytes ++ flat_map added (filter (λ q. continues (id_of p.bytes) q.bytes) later);
}

-- the unfinished messages of some pieces: a first piece opens one, unless a later piece ends its id
unfoldable pub unfinished : List Piece → List Partial
unfinished [] = []
unfinished (p ∷ later) =
    if opens p.bytes && not (list_any (λ q. ends (id_of p.bytes) q.bytes) later) then begun p later ∷ unfinished later else unfinished later

-- the unfinished message of this id, if it is open
abbrev pub open_at : ℕ → List Partial → Option Partial
open_at id us = find (λ u. u.id == id) us

-- a whole message: the offset of the piece that completed it, its kind, its order, and its bytes from the header on
pub record Message : Type 0 where
  pub at : ℕ
  pub order : Order
  pub kind : ℕ
  pub bytes : List ℕ

-- the joined bytes under the first piece's header, with the fragment bit cleared and the joined size
unfoldable pub sealed : Order → List ℕ → List ℕ
sealed order bytes =
    take 6 bytes ++ (slice_index bytes 6 - 2) ∷ slice_index bytes 7 ∷ number_bytes order w32 (length bytes - 12) ++ drop 12 bytes

-- a message in fragments, after its last piece
abbrev pub joined : Piece → Partial → Message
joined p u = record { at = p.at; order = u.order; kind = kind_of u.bytes; bytes = sealed u.order (u.bytes ++ added p) }

-- a message of one piece
abbrev pub lone : Piece → Message
lone p = record { at = p.at; order = order_of p.bytes; kind = kind_of p.bytes; bytes = p.bytes }

-- the message that a piece completes, after these unfinished ones
unfoldable pub completed : List Partial → Piece → Option Message
completed us p =
    if has_more p.bytes then None
    else if is_fragment p.bytes then option_map (joined p) (open_at (id_of p.bytes) us)
    else Some (lone p)
