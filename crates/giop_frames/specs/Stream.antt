-- What a stream of bytes means, however it was cut: CORBA 3.0.3, section 15.4. The causes, their order and the limits are
-- own profile, but for the rule on multiples of 8, which is that of GIOP 1.2.
use Rattle.std.specs.Prelude.{ℕ, ◌+◌, ◌-◌, ◌%◌, ◌==◌, ◌&&◌, not, Bool, true, false, List, [], ◌∷◌, ◌++◌, Option, Some, None, Result, Ok, Err, length, nat_le, nat_lt, option_to_list, is_some, if◌then◌else◌}
use Rattle.orb_base.specs.declared.order.Order.{Order}
use Rattle.orb_base.specs.declared.order.Order.TheVariants.{Big, Little}
use Rattle.giop_frames.specs.declared.fault.FrameCause.{FrameCause}
use Rattle.giop_frames.specs.declared.fault.FrameCause.TheVariants.{TooLong, BadPiece, TooManyPartials}
use Rattle.giop_frames.specs.declared.fault.FrameFault.{FrameFault}
use Rattle.giop_frames.specs.declared.kind.Kind.TheVariants.{Fragment}
use Rattle.giop_frames.specs.declared.header.Header.{Header}
use Rattle.giop_frames.specs.Kinds.{number, is_kind, comes_whole}
use Rattle.giop_frames.specs.Pieces.{Piece, Cut, id_of, cut}
use Rattle.giop_frames.specs.Headers.{header_at}
use Rattle.giop_frames.specs.Messages.{Partial, Message, open_at, unfinished, completed}

-- the rule that a header breaks under a limit on the length of a piece
abbrev pub header_rule : ℕ → Result Header FrameCause → Option FrameCause
header_rule limit (Err cause) = Some cause
header_rule limit (Ok h) = if nat_lt limit (12 + h.size) then Some TooLong else None

-- the first rule that the header of these bytes breaks
unfoldable pub header_cause : ℕ → List ℕ → Option FrameCause
header_cause limit bytes = header_rule limit (header_at bytes)

-- two byte orders are one
unfoldable pub same_order : Order → Order → Bool
same_order Big Big = true
same_order Little Little = true
same_order Big Little = false
same_order Little Big = false

-- the rule that a Fragment of an order and a length breaks, by the unfinished message of its id
unfoldable pub fragment_cause : ℕ → Order → ℕ → Option Partial → Option FrameCause
fragment_cause limit order len None = Some BadPiece
fragment_cause limit order len (Some u) =
    if not (same_order u.order order) then Some BadPiece
    else if nat_lt limit (length u.bytes + (len - 16)) then Some TooLong
    else None

-- the rule that a first piece of an id breaks: the id is open, or 16 messages are unfinished
unfoldable pub first_cause : List Partial → ℕ → Option FrameCause
first_cause us id =
    if is_some (open_at id us) then Some BadPiece
    else if nat_le 16 (length us) then Some TooManyPartials
    else None

-- the first rule that a piece of a length and an id breaks after these unfinished messages, by its header
abbrev pub piece_rule : ℕ → List Partial → ℕ → ℕ → Result Header FrameCause → Option FrameCause
piece_rule limit us len id (Err cause) = Some cause
piece_rule limit us len id (Ok h) =
    if h.more && comes_whole (number h.kind) then Some BadPiece
    else if h.more && not (len % 8 == 0) then Some BadPiece
    else if is_kind Fragment (number h.kind) then
    (if nat_lt len 16 then Some BadPiece else fragment_cause limit h.order len (open_at id us))
    else if h.more then first_cause us id
    else None

-- the first rule that these bytes, a whole piece, break after these unfinished messages
unfoldable pub piece_cause : ℕ → List Partial → List ℕ → Option FrameCause
piece_cause limit us bytes = piece_rule limit us (length bytes) (id_of bytes) (header_at bytes)

-- the first, or else the second
abbrev pub or_else : Option FrameCause → Option FrameCause → Option FrameCause
or_else None second = second
or_else (Some cause) second = Some cause

-- the first rule that a whole piece breaks, its header first
abbrev pub cause_of : ℕ → List Partial → Piece → Option FrameCause
cause_of limit us p = or_else (header_cause limit p.bytes) (piece_cause limit us p.bytes)

-- a header is judged once its 12 bytes are there
abbrev pub tail_cause : ℕ → List ℕ → Option FrameCause
tail_cause limit tail = if nat_le 12 (length tail) then header_cause limit tail else None

-- what a stream says: its messages in the order of their last pieces, the offset at which an unfinished message begins,
-- and the first fault
pub record Said : Type 0 where
  pub messages : List Message
  pub rest : Option ℕ
  pub bad : Option FrameFault

-- what is said, with messages before
abbrev pub with_front : List Message → Said → Said
with_front front said = record { messages = front ++ said.messages; rest = said.rest; bad = said.bad }

-- the offset of the first of the unfinished messages, which are in the order of their first pieces
unfoldable pub rest_of : List Partial → Option ℕ
rest_of [] = None
rest_of (u ∷ us) = Some u.at

-- the offset of what has come of the next piece, if anything has
unfoldable pub tail_rest : Piece → Option ℕ
tail_rest tail = if length tail.bytes == 0 then None else Some tail.at

-- the offset of the first of the unfinished messages, or else of the unfinished piece
unfoldable pub rest_with : List Partial → Piece → Option ℕ
rest_with [] tail = tail_rest tail
rest_with (u ∷ us) tail = Some u.at

-- a stream that stops at a fault: what has come after it doesn't count
abbrev pub stopped : List Partial → ℕ → FrameCause → Said
stopped us at cause = record { messages = []; rest = rest_of us; bad = Some (record { cause = cause; offset = at }) }

-- what is said where no whole piece follows: of an unfinished piece the header may be at fault
abbrev pub at_end : List Partial → Piece → Option FrameCause → Said
at_end us tail (Some cause) = stopped us tail.at cause
at_end us tail None = record { messages = []; rest = rest_with us tail; bad = None }

-- what is said from a piece on: it stops the stream, or what it completes comes before what the others say
abbrev pub or_stopped : List Partial → Piece → Option FrameCause → Said → Said
or_stopped us p (Some cause) said = stopped us p.at cause
or_stopped us p None said = with_front (option_to_list (completed us p)) said

-- what pieces and a tail say after the earlier pieces: the first piece that breaks a rule stops the stream
unfoldable pub said_behind : ℕ → List Piece → List Piece → Piece → Said
said_behind limit earlier [] tail = at_end (unfinished earlier) tail (tail_cause limit tail.bytes)
said_behind limit earlier (p ∷ later) tail =
    or_stopped (unfinished earlier) p (cause_of limit (unfinished earlier) p) (said_behind limit (earlier ++ p ∷ []) later tail)

-- what a cut says
abbrev pub said_of : ℕ → Cut → Said
said_of limit c = said_behind limit [] c.whole c.tail

-- the meaning of a stream of bytes under a limit on the length of a message
unfoldable pub stream : ℕ → List ℕ → Said
stream limit bytes = said_of limit (cut (length bytes) 0 bytes)
