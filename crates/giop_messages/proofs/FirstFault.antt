-- What is refused has its first fault there.
use Rattle.std.proofs.Common.{◌≡◌, ℕ, ◌≤◌, List, Ok, Err}
use Rattle.std.specs.Int.{Width, byte_len}
use Rattle.cdr_core.specs.declared.fault.CdrFault.{CdrFault}
use Rattle.cdr_core.specs.Cursor.{Cursor, AreBytes, Reads}
use Rattle.cdr_core.specs.Basic.{integer, octet_sequence, string}
use Rattle.cdr_core.specs.Passing.{Fails}
use Rattle.cdr_core.specs.Reading.{number_at, octets_at, string_at}
use Rattle.cdr_core.specs.FirstFault.{Stands, FailsIn, item, FailsList}
use Rattle.cdr_core.specs.Lists.{item_at, made_at, list_at, tagged_of, tagged_fields, FitsTagged, context_of, context_fields, FitsContext}
use Rattle.cdr_core.proofs.Rows as rows
use Rattle.cdr_core.proofs.CallerLemmas.{as_ok, as_err, number_fails, octets_fail, string_fails, items_are_exact, tagged_lists_are_exact, context_lists_are_exact}
use Rattle.giop_messages.specs.declared.message_fault.MessageFault.{MessageFault}
use Rattle.giop_messages.specs.declared.message_fault.MessageFault.TheVariants as faults
use Rattle.giop_messages.specs.MessageReading.{basic, profiles_at, contexts_at}
use Rattle.giop_messages.specs.Refusing.{TellsCdr, FailsBasic}

-- a reading of the representation that is refused tells why
cdr_err : {A : Type 0} (r : Reads A) (Bad : CdrFault → Type 0) (e : MessageFault) → ((f : CdrFault) → r ≡ Err f → Bad f) → basic r ≡ Err e → TellsCdr Bad e
cdr_err r Bad e fails h = let b = as_err faults.Cdr r e h in (b.0, fails b.0 b.1, b.2)

-- ---- basic types

pub number_stands : (w : Width) (c : Cursor) (x : ℕ × Cursor) → byte_len w ≤ 8 → AreBytes c.rest → basic (number_at w c) ≡ Ok x → Stands (integer w) c x.1
number_stands w c x s fits e = rows.number_stands w c x s fits (as_ok faults.Cdr (number_at w c) x e)

pub text_stands : (c : Cursor) (x : List ℕ × Cursor) → AreBytes c.rest → basic (string_at c) ≡ Ok x → Stands string c x.1
text_stands c x fits e = rows.string_stands c x fits (as_ok faults.Cdr (string_at c) x e)

pub number_err : (w : Width) (c : Cursor) (e : MessageFault) → basic (number_at w c) ≡ Err e → FailsBasic (integer w) c e
number_err w c e h = cdr_err (number_at w c) (Fails c (integer w)) e (λ f k. number_fails w c f k) h

pub octets_err : (c : Cursor) (e : MessageFault) → AreBytes c.rest → basic (octets_at c) ≡ Err e → FailsBasic octet_sequence c e
octets_err c e fits h = cdr_err (octets_at c) (Fails c octet_sequence) e (λ f k. octets_fail c f fits k) h

pub text_err : (c : Cursor) (e : MessageFault) → AreBytes c.rest → basic (string_at c) ≡ Err e → FailsBasic string c e
text_err c e fits h = cdr_err (string_at c) (Fails c string) e (λ f k. string_fails c f fits k) h

-- ---- items and lists of them

pub item_err : (c : Cursor) (e : MessageFault) → AreBytes c.rest → basic (item_at c) ≡ Err e → TellsCdr (FailsIn item c) e
item_err c e fits h = cdr_err (item_at c) (FailsIn item c) e (λ f k. items_are_exact.fails c f fits k) h

pub profiles_err : (c : Cursor) (e : MessageFault) → AreBytes c.rest → profiles_at c ≡ Err e → TellsCdr (FailsList tagged_fields FitsTagged (FailsIn item) c) e
unfolding profiles_at
profiles_err c e fits h =
    cdr_err (list_at (made_at tagged_of) c) (FailsList tagged_fields FitsTagged (FailsIn item) c) e (λ f k. tagged_lists_are_exact.fails c f fits k) h

pub contexts_err : (c : Cursor) (e : MessageFault) → AreBytes c.rest → contexts_at c ≡ Err e → TellsCdr (FailsList context_fields FitsContext (FailsIn item) c) e
unfolding contexts_at
contexts_err c e fits h =
    cdr_err (list_at (made_at context_of) c) (FailsList context_fields FitsContext (FailsIn item) c) e (λ f k. context_lists_are_exact.fails c f fits k) h
