-- The parts that are read are those that the bytes spell.
use Rattle.std.proofs.Common.{◌≡◌, ℕ, ◌*◌, ◌^◌, ◌<◌, ◌≤◌, List, [], ◌∷◌, ◌++◌, length, Result, Ok}
use Rattle.std.specs.Int.{Width, byte_len}
use Rattle.cdr_core.specs.Field.{Field, number, string_fields, octets_fields}
use Rattle.cdr_core.specs.Cursor.{Cursor, AreBytes}
use Rattle.cdr_core.specs.Passing.{Spans}
use Rattle.cdr_core.specs.Reading.{number_at, octets_at, string_at}
use Rattle.cdr_core.specs.Lists.{Item, item_fields, FitsItem, item_at, made_at, list_at, tagged_of, FitsTagged, FitsList, context_of}
use Rattle.cdr_core.proofs.CallerLemmas.{spans_then, number_takes, octets_takes, string_takes, as_ok, bytes_behind, items_are_exact, tagged_lists_are_exact, context_lists_are_exact}
use Rattle.giop_messages.specs.declared.message_fault.MessageFault.{MessageFault}
use Rattle.giop_messages.specs.declared.message_fault.MessageFault.TheVariants as faults
use Rattle.orb_base.specs.Tagged.{Tagged, Context}
use Rattle.giop_messages.specs.Message.{FitsText, FitContexts}
use Rattle.giop_messages.specs.Layout.{profiles_fields, contexts_fields}
use Rattle.giop_messages.specs.MessageReading.{basic, profiles_at, contexts_at}

abbrev pub done : {A : Type 0} → A → Result A MessageFault
done x = Ok x

-- ---- what stands between two cursors

-- the bytes between two cursors spell the fields, and those after are bytes
pub record Passed (c d : Cursor) (fields : List Field) : Type 0 where
  pub spans : Spans c d fields
  pub bytes : AreBytes d.rest

pub passed_then : (c d e : Cursor) (a b : List Field) → Passed c d a → Passed d e b → Passed c e (a ++ b)
passed_then c d e a b p q = record { spans = spans_then c d e a b p.spans q.spans; bytes = q.bytes }

passed : (c d : Cursor) (fields : List Field) → AreBytes c.rest → Spans c d fields → Passed c d fields
passed c d fields fits p = record { spans = p; bytes = bytes_behind c d fields fits p }

-- ---- basic types

pub number_found : (w : Width) (c : Cursor) (x : ℕ × Cursor) → byte_len w ≤ 8 → AreBytes c.rest → basic (number_at w c) ≡ Ok x → Passed c x.1 (number w x.0 ∷ []) × (x.0 < 2 ^ (8 * byte_len w))
number_found w c x s fits e =
    let t = number_takes w c x s fits (as_ok faults.Cdr (number_at w c) x e) in
    (record { spans = t.spans; bytes = t.bytes }, t.fits)

pub octets_found : (c : Cursor) (x : List ℕ × Cursor) → AreBytes c.rest → basic (octets_at c) ≡ Ok x → Passed c x.1 (octets_fields x.0) × (length x.0 < 2 ^ 32)
octets_found c x fits e =
    let t = octets_takes c x fits (as_ok faults.Cdr (octets_at c) x e) in
    (record { spans = t.spans; bytes = t.bytes_behind }, t.fits)

pub text_found : (c : Cursor) (x : List ℕ × Cursor) → AreBytes c.rest → basic (string_at c) ≡ Ok x → Passed c x.1 (string_fields x.0) × FitsText x.0
text_found c x fits e =
    let t = string_takes c x fits (as_ok faults.Cdr (string_at c) x e) in
    (passed c x.1 (string_fields x.0) fits t.spans, record { no_nul = t.fits.0; short = t.fits.1 })

-- ---- items and lists of them

pub item_found : (c : Cursor) (x : Item × Cursor) → AreBytes c.rest → basic (item_at c) ≡ Ok x → FitsItem x.0 × Passed c x.1 (item_fields x.0)
item_found c x fits e =
    let t = items_are_exact.found c x fits (as_ok faults.Cdr (item_at c) x e) in
    (t.0, passed c x.1 (item_fields x.0) fits t.1)

pub profiles_found : (c : Cursor) (x : List Tagged × Cursor) → AreBytes c.rest → profiles_at c ≡ Ok x → FitsList FitsTagged x.0 × Passed c x.1 (profiles_fields x.0)
unfolding profiles_at
profiles_found c x fits e =
    let t = tagged_lists_are_exact.found c x fits (as_ok faults.Cdr (list_at (made_at tagged_of) c) x e) in
    (t.0, passed c x.1 (profiles_fields x.0) fits t.1)

pub contexts_found : (c : Cursor) (x : List Context × Cursor) → AreBytes c.rest → contexts_at c ≡ Ok x → FitContexts x.0 × Passed c x.1 (contexts_fields x.0)
unfolding contexts_at
contexts_found c x fits e =
    let t = context_lists_are_exact.found c x fits (as_ok faults.Cdr (list_at (made_at context_of) c) x e) in
    (t.0, passed c x.1 (contexts_fields x.0) fits t.1)
