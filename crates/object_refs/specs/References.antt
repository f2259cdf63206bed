-- Stringified references: `IOR:` and the hexadecimal digits of an encapsulation: CORBA 3.0.3, section 13.6.9. That
-- letters of either case are read, and lower-case digits of the big order are written, is own profile, as are the
-- causes and their order.
use Rattle.std.specs.Prelude.{◌≡◌, ℕ, ◌+◌, if◌then◌else◌, List, ◌++◌, map, length, take, drop, codes, Result, Ok, Err}
use Rattle.std.specs.Char.{to_ascii_lowercase}
use Rattle.std.specs.Str.{bytes_eq}
use Rattle.orb_base.specs.declared.order.Order.{Order}
use Rattle.orb_base.specs.declared.order.Order.TheVariants.{Big}
use Rattle.cdr_core.specs.Cursor.{Cursor, Reads}
use Rattle.cdr_core.specs.Encapsulation.{Encapsulates, encapsulation}
use Rattle.cdr_core.specs.Reading.{string_at, entered}
use Rattle.hex.specs.Hex.{decode_of, encode_lower}
use Rattle.hex.specs.declared.error.FromHexError.{FromHexError}
use Rattle.hex.specs.declared.error.FromHexError.TheVariants.{InvalidHexCharacter, OddLength}
use Rattle.hex.specs.declared.error.FromHexError.TheVariants.{InvalidStringLength, OutOfMemory}
use Rattle.object_refs.specs.declared.fault.RefFault.{RefFault}
use Rattle.object_refs.specs.declared.fault.RefCause.TheVariants.{NoPrefix, OddHex, BadHex}
use Rattle.object_refs.specs.Reference.{Reference}
use Rattle.object_refs.specs.Layout.{reference_fields, FitsReference}
use Rattle.object_refs.specs.Reading.{Read, fault, cdr, tagged_list_at}
use Rattle.cdr_core.specs.Sequence.{◌>>=◌}

-- what a text begins with, its letters in lower case
abbrev pub lower_prefix : List ℕ
lower_prefix = codes "ior:"

-- the bytes are an encapsulation of the reference, in either order, with any bytes after
pub record IsEncapsulated (r : Reference) (bytes : List ℕ) : Type 0 where
  pub fits : FitsReference r
  pub order : Order
  pub content : Encapsulates order (reference_fields r) bytes

-- the text is the prefix, its letters of either case, and hexadecimal digits of an encapsulation of the reference
pub record IsReference (r : Reference) (text : List ℕ) : Type 0 where
  pub prefix : List ℕ
  pub digits : List ℕ
  pub bytes : List ℕ
  pub parts : text ≡ prefix ++ digits
  pub is_ior : map to_ascii_lowercase prefix ≡ lower_prefix
  pub decoded : decode_of digits ≡ Ok bytes
  pub encapsulated : IsEncapsulated r bytes

-- the one text of a reference that is written
abbrev pub stringified : Reference → List ℕ
stringified r = codes "IOR:" ++ encode_lower (encapsulation Big (reference_fields r))

-- the digits after the prefix
unfoldable pub digits_of : List ℕ → Read (List ℕ)
digits_of text =
    if bytes_eq (map to_ascii_lowercase (take 4 text)) lower_prefix then Ok (drop 4 text) else Err (fault NoPrefix 0)

-- what is wrong with the digits of a text of this length: an odd number of them, at the text's end, or a bad one; the
-- other errors do not come, and count as the first
abbrev pub digits_fault : ℕ → FromHexError → RefFault
digits_fault len (InvalidHexCharacter digit index) = fault BadHex (index + 4)
digits_fault len OddLength = fault OddHex len
digits_fault len InvalidStringLength = fault OddHex len
digits_fault len OutOfMemory = fault OddHex len

-- the bytes of the digits
abbrev pub decoded : ℕ → Result (List ℕ) FromHexError → Read (List ℕ)
decoded len (Ok bytes) = Ok bytes
decoded len (Err e) = Err (digits_fault len e)

-- a reference: the repository id of its type, and its profiles
unfoldable pub reference_at : Cursor → Reads Reference
reference_at c = do
  type_id ← string_at c
  profiles ← tagged_list_at type_id.1
  Ok (record { type_id = type_id.0; profiles = profiles.0 }, profiles.1)

-- the reference that the bytes encapsulate
unfoldable pub reference_in : List ℕ → Read Reference
reference_in bytes = do
  inner ← cdr (entered bytes)
  reference ← cdr (reference_at inner)
  Ok reference.0

-- the reference of a text
unfoldable pub reference_of : List ℕ → Read Reference
reference_of text = do
  digits ← digits_of text
  bytes ← decoded (length text) (decode_of digits)
  reference_in bytes
