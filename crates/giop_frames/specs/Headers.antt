-- The header of a piece, its first 12 bytes: CORBA 3.0.3, section 15.4.1. The causes and their order are own profile.
use Rattle.std.specs.Prelude.{ℕ, ◌≡◌, ◌≤◌, ◌==◌, ◌&&◌, not, Bool, List, Option, Some, None, Result, Ok, Err, length, nat_eq, slice_index, codes, if◌then◌else◌}
use Rattle.std.specs.List.{starts_with}
use Rattle.giop_frames.specs.declared.fault.FrameCause.{FrameCause}
use Rattle.giop_frames.specs.declared.fault.FrameCause.TheVariants.{BadMagic, BadVersion, BadType}
use Rattle.giop_frames.specs.declared.kind.Kind.{Kind}
use Rattle.giop_frames.specs.declared.header.Header.{Header}
use Rattle.giop_frames.specs.Kinds.{number, kind_by}
use Rattle.giop_frames.specs.Pieces.{order_of, has_more, kind_of, size_of}

-- what every header begins with
abbrev pub magic : List ℕ
magic = codes "GIOP"

-- the bytes begin with it
unfoldable pub has_magic : List ℕ → Bool
has_magic bytes = starts_with nat_eq bytes magic

-- the version is 1.2
unfoldable pub has_version : List ℕ → Bool
has_version bytes = (slice_index bytes 4 == 1) && (slice_index bytes 5 == 2)

-- a header of a kind, if there is one
abbrev pub with_kind : List ℕ → Option Kind → Result Header FrameCause
with_kind bytes None = Err BadType
with_kind bytes (Some kind) =
    Ok (record { order = order_of bytes; more = has_more bytes; kind = kind; size = size_of bytes })

-- the header at the front of the bytes, or the first rule that it breaks
unfoldable pub header_at : List ℕ → Result Header FrameCause
header_at bytes =
    if not (has_magic bytes) then Err BadMagic
    else if not (has_version bytes) then Err BadVersion
    else with_kind bytes (kind_by (kind_of bytes))

-- the bytes begin with this header
pub record BeginsWith (h : Header) (bytes : List ℕ) : Type 0 where
  pub long : 12 ≤ length bytes
  pub order : h.order ≡ order_of bytes
  pub more : h.more ≡ has_more bytes
  pub kind : number h.kind ≡ kind_of bytes
  pub size : h.size ≡ size_of bytes
