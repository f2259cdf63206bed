-- The first fault of a header is given.
use Rattle.std.proofs.Common.{◌≡◌, ℕ, ◌-◌, ◌<◌, ◌≤◌, false, eqb, List, Result, Ok, Err, inl, inr, refl, sym, ap, ◌∙◌, arith}
use Rattle.std.specs.Int.{Width, w16, w32, byte_len}
use Rattle.cdr_core.specs.declared.fault.CdrFault.{CdrFault}
use Rattle.cdr_core.specs.Cursor.{Cursor, Reads}
use Rattle.cdr_core.specs.Basic.{integer, octet_sequence, string, unsigned}
use Rattle.cdr_core.specs.Passing.{Passes, Fails}
use Rattle.cdr_core.specs.Reading.{number_at, octets_at, string_at}
use Rattle.cdr_core.specs.FirstFault.{Stands, FailsIn, item, FailsList}
use Rattle.cdr_core.specs.Lists.{item_at, made_at, list_at, tagged_of, tagged_fields, FitsTagged, context_of, context_fields, FitsContext}
use Rattle.cdr_core.proofs.Rows as rows
use Rattle.cdr_core.proofs.CallerLemmas.{number_reads, number_refuses, octets_refuse, string_refuses, short_len, long_len, items_are_exact, tagged_lists_are_exact, context_lists_are_exact}
use Rattle.giop_messages.specs.declared.message_fault.MessageFault.{MessageFault}
use Rattle.giop_messages.specs.declared.message_fault.MessageFault.TheVariants as faults
use Rattle.giop_messages.specs.Message.{Target}
use Rattle.giop_messages.specs.MessageReading.{basic, profiles_at, contexts_at, key_at, profile_at, addressing_at, form_at, target_at}
use Rattle.giop_messages.specs.Refusing.{TellsCdr, FailsBasic, FailsBehind, FailsReference, FailsTarget}
use Rattle.giop_messages.proofs.HeaderFault.{short_place}

-- a reading that is refused with this fault
abbrev pub fault_as : {A : Type 0} → MessageFault → Result A MessageFault
fault_as e = Err e

-- why a reading of the representation has no value is given
cdr_told : {A : Type 0} (r : Reads A) (Bad : CdrFault → Type 0) (e : MessageFault) → ((f : CdrFault) → Bad f → r ≡ Err f) → TellsCdr Bad e → basic r ≡ Err e
cdr_told r Bad e told h = ap basic (told h.0 h.1) ∙ ap Err (sym h.2)

-- ---- basic types

pub number_told : (w : Width) (c : Cursor) (e : MessageFault) → FailsBasic (integer w) c e → basic (number_at w c) ≡ Err e
number_told w c e h = cdr_told (number_at w c) (Fails c (integer w)) e (λ f k. number_refuses w c f k) h

octets_told : (c : Cursor) (e : MessageFault) → FailsBasic octet_sequence c e → basic (octets_at c) ≡ Err e
octets_told c e h = cdr_told (octets_at c) (Fails c octet_sequence) e (λ f k. octets_refuse c f k) h

pub text_told : (c : Cursor) (e : MessageFault) → FailsBasic string c e → basic (string_at c) ≡ Err e
text_told c e h = cdr_told (string_at c) (Fails c string) e (λ f k. string_refuses c f k) h

pub number_there : (w : Width) (c d : Cursor) → byte_len w ≤ 8 → Stands (integer w) c d → (n : ℕ) × (basic (number_at w c) ≡ Ok (n, d))
number_there w c d s h = let n = rows.number_there w c d s h in (n.0, ap basic n.1)

pub text_there : (c d : Cursor) → Stands string c d → (x : List ℕ) × (basic (string_at c) ≡ Ok (x, d))
text_there c d h = let x = rows.string_there c d h in (x.0, ap basic x.1)

-- ---- items and lists of them

item_told : (c : Cursor) (e : MessageFault) → TellsCdr (FailsIn item c) e → basic (item_at c) ≡ Err e
item_told c e h = cdr_told (item_at c) (FailsIn item c) e (λ f k. items_are_exact.told c f k) h

profiles_told : (c : Cursor) (e : MessageFault) → TellsCdr (FailsList tagged_fields FitsTagged (FailsIn item) c) e → profiles_at c ≡ Err e
unfolding profiles_at
profiles_told c e h =
    cdr_told (list_at (made_at tagged_of) c) (FailsList tagged_fields FitsTagged (FailsIn item) c) e (λ f k. tagged_lists_are_exact.told c f k) h

pub contexts_told : (c : Cursor) (e : MessageFault) → TellsCdr (FailsList context_fields FitsContext (FailsIn item) c) e → contexts_at c ≡ Err e
unfolding contexts_at
contexts_told c e h =
    cdr_told (list_at (made_at context_of) c) (FailsList context_fields FitsContext (FailsIn item) c) e (λ f k. context_lists_are_exact.told c f k) h

-- ---- targets

key_told : (c : Cursor) (e : MessageFault) → FailsBasic octet_sequence c e → key_at c ≡ Err e
unfolding key_at
key_told c e h = rw (octets_told c e h) refl

profile_told : (c : Cursor) (e : MessageFault) → TellsCdr (FailsIn item c) e → profile_at c ≡ Err e
unfolding profile_at
profile_told c e h = rw (item_told c e h) refl

addressing_told : (c : Cursor) (e : MessageFault) → FailsReference c e → addressing_at c ≡ Err e
unfolding addressing_at
addressing_told c e (inl (f, inl h, is)) = rw (number_told w32 c e (f, h, is)) refl
addressing_told c e (inl (f, inr (d, s, inl h), is)) = let n = number_there w32 c d long_len s in rw (n.1, text_told d e (f, h, is)) refl
addressing_told c e (inl (f, inr (d, s, inr (b, t, h)), is)) = absurd h
addressing_told c e (inr (d, b, s, t, h)) =
    let n = number_there w32 c d long_len s in
    let x = text_there d b t in
    rw (n.1, x.1, profiles_told b e h) refl

form_told : (place form : ℕ) (c : Cursor) (e : MessageFault) → FailsBehind form c e → form_at place form c ≡ Err e
unfolding form_at
form_told place form c e (inl (k, h)) = rw (k, key_told c e h) refl
form_told place form c e (inr (inl (k, h))) = rw (k, profile_told c e h) refl
form_told place form c e (inr (inr (k, h))) = rw (k, addressing_told c e h) refl

other_form : (place form : ℕ) (c : Cursor) → 2 < form → form_at place form c ≡ Err (faults.BadTarget place)
unfolding form_at
other_form place form c h =
    let a : eqb form 0 ≡ false = grind arith in
    let b : eqb form 1 ≡ false = grind arith in
    let k : eqb form 2 ≡ false = grind arith in
    rw (a, b, k) refl

short_there : (c d : Cursor) (n : ℕ) → Passes c d (unsigned w16 n) → basic (number_at w16 c) ≡ Ok (n, d)
short_there c d n p = ap basic (number_reads w16 c d n short_len p.fits p.spans)

pub target_told : (c : Cursor) (e : MessageFault) → FailsTarget c e → target_at c ≡ Err e
unfolding target_at
target_told c e (inl h) = rw (number_told w16 c e h) refl
target_told c e (inr (inl h)) =
    rw (short_there c h.behind h.form h.passes, other_form (h.behind.place - 2) h.form h.behind h.high)
    (ap (λ (n : ℕ). fault_as {A = Target × Cursor} (faults.BadTarget n)) (short_place h.form c h.behind h.passes.spans) ∙ ap Err (sym h.told))
target_told c e (inr (inr (form, d, p, h))) = rw (short_there c d form p) (form_told (d.place - 2) form d e h)
