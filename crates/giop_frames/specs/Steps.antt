-- What a whole piece does to the unfinished messages.
use Rattle.std.specs.Prelude.{ℕ, ◌≡◌, ◌+◌, ◌-◌, ◌^◌, ◌<◌, ◌≤◌, ◌==◌, true, false, List, [], ◌∷◌, ◌++◌, Option, Some, None, length, option_to_list, slice_get, slice_set, slice_index}
use Rattle.giop_frames.specs.declared.kind.Kind.TheVariants.{CancelRequest}
use Rattle.giop_frames.specs.Kinds.{is_kind}
use Rattle.giop_frames.specs.Pieces.{Piece, kind_of, id_of}
use Rattle.giop_frames.specs.Messages.{Partial, Message, is_fragment, opens, open_at, completed}
use Rattle.giop_frames.specs.Running.{stepped}

-- the unfinished message of an id, and those around it
pub record Found (id : ℕ) (us : List Partial) (i : ℕ) : Type 0 where
  pub front : List Partial
  pub there : Partial
  pub back : List Partial
  pub parts : us ≡ front ++ there ∷ back
  pub place : length front ≡ i
  pub same : (there.id == id) ≡ true
  pub before : open_at id front ≡ None

-- where the unfinished message of an id is, if there is one
abbrev pub Placed : ℕ → List Partial → Option ℕ → Type 0
Placed id us None = open_at id us ≡ None
Placed id us (Some i) = Found id us i

-- no two unfinished messages have one id
abbrev pub IsDistinct : List Partial → Type 0
IsDistinct [] = Unit {0}
IsDistinct (u ∷ us) = (open_at u.id us ≡ None) × IsDistinct us

-- what is joined has a size
abbrev pub JoinFits : ℕ → Option Partial → Type 0
JoinFits len None = Unit {0}
JoinFits len (Some u) = length u.bytes + (len - 16) < 2 ^ 32

-- a whole piece that breaks no rule
pub record IsSound (us : List Partial) (bytes : List ℕ) : Type 0 where
  pub header : 12 ≤ length bytes
  pub fragment_long : is_fragment bytes ≡ true → 16 ≤ length bytes
  pub first_long : opens bytes ≡ true → 16 ≤ length bytes
  pub no_cancel : opens bytes ≡ true → is_kind CancelRequest (kind_of bytes) ≡ false
  pub fits : is_fragment bytes ≡ true → JoinFits (length bytes) (open_at (id_of bytes) us)
  pub distinct : IsDistinct us

-- a piece of these bytes steps the unfinished messages, wherever it is
abbrev pub StepsBy : List ℕ → List Partial → List Partial → Type 0
StepsBy bytes us us' = (at : ℕ) → us' ≡ stepped (record { at = at; bytes = bytes }) us

-- a message of these grew
abbrev pub GrowsAt : ℕ → List ℕ → List Partial → List Partial → Type 0
GrowsAt i more us us' = (u : Partial) → slice_get us i ≡ Some u → us' ≡ slice_set us i (record u { bytes = u.bytes ++ more })

-- the piece steps the unfinished messages, and the message that it completes is given
pub record Does (p : Piece) (us us' : List Partial) (whole whole' : List Message) : Type 0 where
  pub steps : us' ≡ stepped p us
  pub gives : whole' ≡ whole ++ option_to_list (completed us p)

-- a flags byte and four bytes of size written into a list
abbrev pub written : List ℕ → ℕ → List ℕ → List ℕ
written bytes flags size =
    slice_set (slice_set (slice_set (slice_set (slice_set bytes 6 flags) 8 (slice_index size 0)) 9 (slice_index size 1)) 10 (slice_index size 2)) 11 (slice_index size 3)
