-- What is written is read, and nothing else.
use Rattle.std.proofs.Common.{◌≡◌, ℕ, ◌+◌, ◌^◌, ◌<◌, ◌≤◌, Bool, true, false, cond, List, [], ◌∷◌, ◌++◌, length, take, drop, Some, None, refl, ap, sym, ◌∙◌, arith, length-append}
use Rattle.std.specs.Int.{w32, byte_len}
use Rattle.std.proofs.lemmas.List.{take_at}
use Rattle.orb_base.specs.declared.limits.TheConstants.{MAX_MESSAGE}
use Rattle.orb_base.specs.declared.order.Order.{Order}
use Rattle.orb_base.specs.declared.order.Order.TheVariants.{Big, Little}
use Rattle.cdr_core.specs.Field.{Field, number, number_bytes}
use Rattle.cdr_core.specs.Reading.{number_of}
use Rattle.cdr_core.specs.Spelling.{fields_bytes}
use Rattle.cdr_core.proofs.Numbers.{number_again}
use Rattle.cdr_core.proofs.CallerLemmas.{length-number_bytes}
use Rattle.giop_frames.specs.Pieces as Pieces
use Rattle.giop_frames.specs.Pieces.{Piece, order_of, has_more, piece_len}
use Rattle.giop_frames.specs.Messages as Frames
use Rattle.giop_frames.specs.Messages.{is_fragment, opens, begun, lone}
use Rattle.giop_frames.specs.Headers.{has_magic, has_version}
use Rattle.giop_frames.specs.Stream.{Said, header_cause}
use Rattle.giop_frames.specs.Running.{stepped, ahead}
use Rattle.giop_frames.specs.Kinds.{is_long_kind}
use Rattle.giop_frames.proofs.Effects.{last_opens_none}
use Rattle.giop_frames.proofs.Deeds.{completes_lone}
use Rattle.giop_frames.proofs.Growing.{stream_is}
use Rattle.giop_frames.proofs.Heads.{header_passes}
use Rattle.giop_frames.proofs.PieceStreams.{lone_passes, other_by, goes_by, empty_ahead}
use Rattle.giop_messages.specs.Message.{Message, request, reply, cancel, locate, located, close, error, kind_of}
use Rattle.giop_messages.specs.Spelling.{all_fields, framed, spelled}
use Rattle.giop_messages.specs.Reading.{ReadsIn}
use Rattle.giop_messages.specs.Written.{written_bytes, whole_at, wholes_from, AreWritten, StreamsWritten, ReadsWritten, UncutWritten}
use Rattle.giop_messages.proofs.Headed.{IsHeaded}
use Rattle.giop_messages.proofs.ReadingLaws.{spelled_reads}
use Rattle.giop_messages.proofs.WholeAgain.{in_order}

-- ---- the header in front of what it counts

magic_is : (order : Order) (kind : ℕ) (inner : List ℕ) → has_magic (framed order kind inner) ≡ true
unfolding has_magic
magic_is order kind inner = refl

version_is : (order : Order) (kind : ℕ) (inner : List ℕ) → has_version (framed order kind inner) ≡ true
unfolding has_version
version_is order kind inner = refl

order_is : (order : Order) (kind : ℕ) (inner : List ℕ) → order_of (framed order kind inner) ≡ order
unfolding order_of
order_is Big kind inner = refl
order_is Little kind inner = refl

alone_is : (order : Order) (kind : ℕ) (inner : List ℕ) → has_more (framed order kind inner) ≡ false
unfolding has_more
alone_is Big kind inner = refl
alone_is Little kind inner = refl

kind_is : (order : Order) (kind : ℕ) (inner : List ℕ) → Pieces.kind_of (framed order kind inner) ≡ kind
unfolding Pieces.kind_of
kind_is order kind inner = refl

length_is : (order : Order) (kind : ℕ) (inner : List ℕ) → length (framed order kind inner) ≡ 12 + length inner
length_is order kind inner =
    let size : List ℕ = number_bytes order w32 (length inner) in omega (arith, length-append size inner, length-number_bytes order w32 (length inner))

size_is : (order : Order) (kind : ℕ) (inner : List ℕ) → length inner < 2 ^ 32 → piece_len (framed order kind inner) ≡ 12 + length inner
unfolding piece_len
size_is order kind inner lt =
    let size : List ℕ = number_bytes order w32 (length inner) in
    let four_bytes : byte_len w32 ≤ 8 = omega arith in
    ap (λ (o : Order). 12 + number_of o w32 (take 4 (size ++ inner))) (order_is order kind inner)
    ∙ ap (λ (x : List ℕ). 12 + number_of order w32 x) (take_at size inner 4 (length-number_bytes order w32 (length inner)))
    ∙ ap (λ (n : ℕ). 12 + n) (number_again order w32 (length inner) four_bytes lt)

few_kinds : (message : Message) → kind_of message ≤ 6
few_kinds (request r) = omega arith
few_kinds (reply r) = omega arith
few_kinds (cancel id) = omega arith
few_kinds (locate l) = omega arith
few_kinds (located l) = omega arith
few_kinds close = omega arith
few_kinds error = omega arith

-- what the header of a spelled message says
record IsLone (order : Order) (message : Message) (bytes : List ℕ) : Type 0 where
  pub long : 12 ≤ length bytes
  pub magic : has_magic bytes ≡ true
  pub version : has_version bytes ≡ true
  pub its_order : order_of bytes ≡ order
  pub alone : has_more bytes ≡ false
  pub kind : Pieces.kind_of bytes ≡ kind_of message
  pub size : length bytes ≡ piece_len bytes

lone_is : (order : Order) (message : Message) → length (spelled order message) ≤ MAX_MESSAGE → IsLone order message (spelled order message)
lone_is order message short =
    let inner : List ℕ = fields_bytes order 12 (all_fields message) in
    let len : length (spelled order message) ≡ 12 + length inner = length_is order (kind_of message) inner in
    record {
      long = omega (arith, len);
      magic = magic_is order (kind_of message) inner;
      version = version_is order (kind_of message) inner;
      its_order = order_is order (kind_of message) inner;
      alone = alone_is order (kind_of message) inner;
      kind = kind_is order (kind_of message) inner;
      size = len ∙ sym (size_is order (kind_of message) inner (omega (arith, len, short)));
    }

-- ---- reading

pub reads_written : ReadsWritten
reads_written at order message fits short =
    let inner : List ℕ = fields_bytes order 12 (all_fields message) in
    let len : length (spelled order message) ≡ 12 + length inner = length_is order (kind_of message) inner in
    let r : ReadsIn order message (spelled order message) = spelled_reads order message fits (omega (arith, len, short)) in
    let i : IsHeaded (whole_at at order message) = record {
      flags = r.flags;
      behind = r.named ++ r.rest;
      octet = r.octet;
      order_bit = r.order_bit;
      unfragmented = r.whole;
      few_kinds = few_kinds message;
      long = omega (arith, len);
      short = short;
      parts = r.parts;
    } in
    in_order (whole_at at order message) order message i r

-- ---- cutting into pieces

number_first : (order : Order) (n : ℕ) (fields : List Field) → 4 ≤ length (fields_bytes order 12 (number w32 n ∷ fields))
number_first order n fields = omega (arith, length-number_bytes order w32 n, length-append (number_bytes order w32 n) (fields_bytes order 16 fields))

id_first : (order : Order) (message : Message) → is_long_kind (kind_of message) ≡ true → 4 ≤ length (fields_bytes order 12 (all_fields message))
unfolding is_long_kind
id_first order (request r) h = number_first order r.id (drop 1 (all_fields (request r)))
id_first order (reply r) h = number_first order r.id (drop 1 (all_fields (reply r)))
id_first order (cancel id) h = number_first order id (drop 1 (all_fields (cancel id)))
id_first order (locate l) h = number_first order l.id (drop 1 (all_fields (locate l)))
id_first order (located l) h = number_first order l.id (drop 1 (all_fields (located l)))
id_first order close h = absurd cc
id_first order error h = absurd cc

pub uncut_written : UncutWritten
uncut_written order message short long =
    let i = lone_is order message short in
    let inner : List ℕ = fields_bytes order 12 (all_fields message) in
    record {
      magic = i.magic;
      version = i.version;
      alone = i.alone;
      kind = ap is_long_kind i.kind ∙ long;
      size = i.size;
      id = omega (arith, length_is order (kind_of message) inner, id_first order message long);
    }

-- ---- streams

-- a piece that opens nothing leaves nothing unfinished where nothing was
steps_none : (p : Piece) → opens p.bytes ≡ false → stepped p [] ≡ []
unfolding stepped
steps_none p h = ap (λ (b : Bool). cond b (begun p [] ∷ []) []) h

no_fragment : (order : Order) (message : Message) (bytes : List ℕ) → IsLone order message bytes → is_fragment bytes ≡ false
no_fragment order message bytes i =
    let few : Pieces.kind_of bytes ≤ 6 = omega (arith, i.kind, few_kinds message) in other_by bytes (grind arith)

whole_is : (at : ℕ) (order : Order) (message : Message) → IsLone order message (spelled order message)
    → lone (record { at = at; bytes = spelled order message }) ≡ whole_at at order message
whole_is at order message i k = record { at = at; order = i.its_order k; kind = i.kind k; bytes = spelled order message }

-- what a stream says that is these messages
abbrev only : List Frames.Message → Said
only messages = record { messages = messages; rest = None; bad = None }

written_ahead : (limit at : ℕ) (messages : List (Order × Message)) → limit ≤ MAX_MESSAGE → AreWritten limit messages
    → ahead limit [] at (written_bytes messages) ≡ only (wholes_from at messages)
written_ahead limit at [] few w = empty_ahead limit at
written_ahead limit at (m ∷ later) few w =
    let p : List ℕ = spelled m.0 m.1 in
    let q : Piece = record { at = at; bytes = p } in
    let i : IsLone m.0 m.1 p = lone_is m.0 m.1 (omega (arith, w.1)) in
    let f : is_fragment p ≡ false = no_fragment m.0 m.1 p i in
    let kind : Pieces.kind_of p ≤ 7 = omega (arith, i.kind, few_kinds m.1) in
    let fits : piece_len p ≤ limit = omega (arith, i.size, w.1) in
    let header : header_cause limit p ≡ None = header_passes limit p i.magic i.version (grind arith) (grind arith) in
    goes_by limit [] [] at p (written_bytes later) (Some (whole_at at m.0 m.1)) (only (wholes_from (at + length p) later)) i.long i.size
    header
    (lone_passes limit [] p header i.alone f)
    (steps_none q (last_opens_none p i.alone))
    (completes_lone [] q i.alone f ∙ ap Some (whole_is at m.0 m.1 i))
    (written_ahead limit (at + length p) later few w.2)

pub streams_written : StreamsWritten
streams_written limit messages few w = stream_is limit (written_bytes messages) ∙ written_ahead limit 0 messages few w
