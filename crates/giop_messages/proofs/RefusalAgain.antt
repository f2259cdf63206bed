-- The first fault of a whole message's header is given.
use Rattle.std.proofs.Common.{◌≡◌, ℕ, ◌≤◌, Bool, true, false, cond, eqb, ltb, List, [], ◌∷◌, drop, Result, Ok, Err, ◌⊎◌, inl, inr, refl, sym, ap, subst, ◌∙◌}
use Rattle.std.specs.Int.{Width, w8, w32, byte_len}
use Rattle.std.proofs.lemmas.Bool.{lt-ltb}
use Rattle.cdr_core.specs.Cursor.{Cursor, cursor}
use Rattle.cdr_core.specs.Sequence.{Parsed, ◌>>=◌}
use Rattle.cdr_core.specs.Basic.{integer, string}
use Rattle.cdr_core.specs.Reading.{number_at, string_at}
use Rattle.cdr_core.proofs.CallerLemmas.{number_reads, octet_len, long_len}
use Rattle.giop_frames.specs.Messages as Frames
use Rattle.giop_messages.specs.declared.message.Message as program
use Rattle.giop_messages.specs.declared.message_fault.MessageFault.{MessageFault}
use Rattle.giop_messages.specs.declared.message_fault.MessageFault.TheVariants as faults
use Rattle.giop_messages.specs.Message.{Message, request, reply, cancel, locate, located}
use Rattle.giop_messages.specs.Views.{message_of}
use Rattle.giop_messages.specs.MessageReading.{basic, contexts_at, target_at, reserved_at, status_at, asked_at, request_at, reply_at, cancel_at, locate_at, located_at, as_message, kind_at, message_at}
use Rattle.giop_messages.specs.Answers.{Answers}
use Rattle.giop_messages.specs.Refusing.{Part, basic as plain, target, status, contexts, FailsAs, FailsAmong, octet, long, request_parts, parts_of, Refuses}
use Rattle.giop_messages.proofs.PartsAgain.{contexts_again, target_again}
use Rattle.giop_messages.proofs.WholeAgain.{status_again}
use Rattle.giop_messages.proofs.HeaderFault.{long_place}
use Rattle.giop_messages.proofs.FaultAgain.{fault_as, number_told, number_there, text_told, text_there, contexts_told, target_told}

-- a reading is refused with the fault, or passes and the fault is after it
abbrev Tried : {A : Type 0} → Parsed MessageFault A → List Part → MessageFault → Type 0
Tried {A} r parts e = (r ≡ Err e) ⊎ ((x : A × Cursor) × (r ≡ Ok x) × FailsAmong parts x.1 e)

bound_err : {A B : Type 0} (r : Result A MessageFault) (f : A → Result B MessageFault) (e : MessageFault) → r ≡ Err e → (r >>= f) ≡ Err e
bound_err r f e h = rw h refl

bound_ok : {A B : Type 0} (r : Result A MessageFault) (f : A → Result B MessageFault) (x : A) → r ≡ Ok x → (r >>= f) ≡ f x
bound_ok r f x h = rw h refl

-- the fault of a reading and those after it
ends_so : {A B : Type 0} (r : Parsed MessageFault A) (f : A × Cursor → Result B MessageFault) (parts : List Part) (e : MessageFault) → Tried r parts e
    → ((x : A × Cursor) → FailsAmong parts x.1 e → f x ≡ Err e) → (r >>= f) ≡ Err e
ends_so r f parts e (inl h) later = bound_err r f e h
ends_so r f parts e (inr (x, h, k)) later = bound_ok r f x h ∙ later x k

goes_so : {A B : Type 0} (r : Parsed MessageFault A) (f : A × Cursor → Parsed MessageFault B) (parts after : List Part) (e : MessageFault) → Tried r parts e
    → ((x : A × Cursor) → FailsAmong parts x.1 e → Tried (f x) after e) → Tried (r >>= f) after e
goes_so r f parts after e (inl h) later = inl (bound_err r f e h)
goes_so {A} {B} r f parts after e (inr (x, h, k)) later =
    let P : Parsed MessageFault B → Type 0 = λ s. Tried s after e in
    subst P (sym (bound_ok r f x h)) (later x k)

-- ---- parts

number_tried : (w : Width) (parts : List Part) (c : Cursor) (e : MessageFault) → byte_len w ≤ 8 → FailsAmong (plain (integer w) ∷ parts) c e → Tried (basic (number_at w c)) parts e
number_tried w parts c e s (inl h) = inl (number_told w c e h)
number_tried w parts c e s (inr (d, h, k)) = let n = number_there w c d s h in inr ((n.0, d), n.1, k)

text_tried : (parts : List Part) (c : Cursor) (e : MessageFault) → FailsAmong (plain string ∷ parts) c e → Tried (basic (string_at c)) parts e
text_tried parts c e (inl h) = inl (text_told c e h)
text_tried parts c e (inr (d, h, k)) = let n = text_there c d h in inr ((n.0, d), n.1, k)

target_tried : (parts : List Part) (c : Cursor) (e : MessageFault) → FailsAmong (target ∷ parts) c e → Tried (target_at c) parts e
target_tried parts c e (inl h) = inl (target_told c e h)
target_tried parts c e (inr (d, (t, fits, p), k)) = inr ((t, d), target_again c d t fits p, k)

contexts_tried : (parts : List Part) (c : Cursor) (e : MessageFault) → FailsAmong (contexts ∷ parts) c e → Tried (contexts_at c) parts e
contexts_tried parts c e (inl h) = inl (contexts_told c e h)
contexts_tried parts c e (inr (d, (s, fits, p), k)) = inr ((s, d), contexts_again c d s fits p, k)

status_told : (c : Cursor) (e : MessageFault) → FailsAs status c e → status_at c ≡ Err e
unfolding status_at
status_told c e (inl h) = rw (number_told w32 c e h) refl
status_told c e (inr h) =
    let there : basic (number_at w32 c) ≡ Ok (h.status, h.behind) = ap basic (number_reads w32 c h.behind h.status long_len h.passes.fits h.passes.spans) in
    let high : ltb 5 h.status ≡ true = lt-ltb 5 h.status h.high in
    rw (there, high) (ap (λ (n : ℕ). fault_as {A = ℕ × Cursor} (faults.BadStatus n)) (long_place h.status c h.behind h.passes.spans) ∙ ap Err (sym h.told))

status_tried : (parts : List Part) (c : Cursor) (e : MessageFault) → FailsAmong (status ∷ parts) c e → Tried (status_at c) parts e
status_tried parts c e (inl h) = inl (status_told c e h)
status_tried parts c e (inr (d, (n, few, p), k)) = inr ((n, d), status_again c d n few p, k)

reserved_tried : (parts : List Part) (c : Cursor) (e : MessageFault) → FailsAmong (octet ∷ octet ∷ octet ∷ parts) c e → Tried (reserved_at c) parts e
unfolding reserved_at
reserved_tried parts c e h =
    goes_so (basic (number_at w8 c)) _ (octet ∷ octet ∷ parts) parts e (number_tried w8 (octet ∷ octet ∷ parts) c e octet_len h)
    (λ x k. goes_so (basic (number_at w8 x.1)) _ (octet ∷ parts) parts e (number_tried w8 (octet ∷ parts) x.1 e octet_len k)
    (λ y l. number_tried w8 parts y.1 e octet_len l))

asked_tried : (parts : List Part) (c : Cursor) (e : MessageFault) → FailsAmong (long ∷ octet ∷ octet ∷ octet ∷ octet ∷ target ∷ parts) c e → Tried (asked_at c) parts e
unfolding asked_at
asked_tried parts c e h =
    goes_so (basic (number_at w32 c)) _ (octet ∷ octet ∷ octet ∷ octet ∷ target ∷ parts) parts e (number_tried w32 (octet ∷ octet ∷ octet ∷ octet ∷ target ∷ parts) c e long_len h)
    (λ id h1. goes_so (basic (number_at w8 id.1)) _ (octet ∷ octet ∷ octet ∷ target ∷ parts) parts e (number_tried w8 (octet ∷ octet ∷ octet ∷ target ∷ parts) id.1 e octet_len h1)
    (λ flags h2. goes_so (reserved_at flags.1) _ (target ∷ parts) parts e (reserved_tried (target ∷ parts) flags.1 e h2)
    (λ reserved h3. goes_so (target_at reserved.1) _ parts parts e (target_tried parts reserved.1 e h3) (λ t h4. inr (((id.0, flags.0, t.0), t.1), refl, h4)))))

-- ---- headers

request_told : (bytes : List ℕ) (c : Cursor) (e : MessageFault) → FailsAmong request_parts c e → request_at bytes c ≡ Err e
unfolding request_at
request_told bytes c e h =
    ends_so (asked_at c) _ (plain string ∷ contexts ∷ []) e (asked_tried (plain string ∷ contexts ∷ []) c e h)
    (λ x k. ends_so (basic (string_at x.1)) _ (contexts ∷ []) e (text_tried (contexts ∷ []) x.1 e k)
    (λ y l. ends_so (contexts_at y.1) _ [] e (contexts_tried [] y.1 e l) (λ z no. absurd no)))

reply_told : (bytes : List ℕ) (c : Cursor) (e : MessageFault) → FailsAmong (long ∷ status ∷ contexts ∷ []) c e → reply_at bytes c ≡ Err e
unfolding reply_at
reply_told bytes c e h =
    ends_so (basic (number_at w32 c)) _ (status ∷ contexts ∷ []) e (number_tried w32 (status ∷ contexts ∷ []) c e long_len h)
    (λ x k. ends_so (status_at x.1) _ (contexts ∷ []) e (status_tried (contexts ∷ []) x.1 e k)
    (λ y l. ends_so (contexts_at y.1) _ [] e (contexts_tried [] y.1 e l) (λ z no. absurd no)))

cancel_told : (c : Cursor) (e : MessageFault) → FailsAmong (long ∷ []) c e → cancel_at c ≡ Err e
unfolding cancel_at
cancel_told c e h = ends_so (basic (number_at w32 c)) _ [] e (number_tried w32 [] c e long_len h) (λ z no. absurd no)

locate_told : (c : Cursor) (e : MessageFault) → FailsAmong (long ∷ target ∷ []) c e → locate_at c ≡ Err e
unfolding locate_at
locate_told c e h =
    ends_so (basic (number_at w32 c)) _ (target ∷ []) e (number_tried w32 (target ∷ []) c e long_len h)
    (λ x k. ends_so (target_at x.1) _ [] e (target_tried [] x.1 e k) (λ z no. absurd no))

located_told : (c : Cursor) (e : MessageFault) → FailsAmong (long ∷ long ∷ []) c e → located_at c ≡ Err e
unfolding located_at
located_told c e h =
    ends_so (basic (number_at w32 c)) _ (long ∷ []) e (number_tried w32 (long ∷ []) c e long_len h)
    (λ x k. ends_so (basic (number_at w32 x.1)) _ [] e (number_tried w32 [] x.1 e long_len k) (λ z no. absurd no))

-- ---- whole messages

as_told : {A : Type 0} (of : A → Message) (r : Result A MessageFault) (e : MessageFault) → r ≡ Err e → as_message of r ≡ Err e
as_told of r e h = rw h refl

-- a choice of readings goes with the choice of parts
chosen_so : (b : Bool) (r s : Result Message MessageFault) (x y : List Part) (c : Cursor) (e : MessageFault) → (FailsAmong x c e → r ≡ Err e) → (FailsAmong y c e → s ≡ Err e)
    → FailsAmong (cond b x y) c e → cond b r s ≡ Err e
chosen_so true r s x y c e f g h = f h
chosen_so false r s x y c e f g h = g h

kind_told : (kind : ℕ) (bytes : List ℕ) (c : Cursor) (e : MessageFault) → FailsAmong (parts_of kind) c e → kind_at kind bytes c ≡ Err e
unfolding kind_at
kind_told kind bytes c e =
    chosen_so (eqb kind 0) (as_message request (request_at bytes c)) _ request_parts _ c e (λ h. as_told request (request_at bytes c) e (request_told bytes c e h))
    (chosen_so (eqb kind 1) (as_message reply (reply_at bytes c)) _ (long ∷ status ∷ contexts ∷ []) _ c e (λ h. as_told reply (reply_at bytes c) e (reply_told bytes c e h))
    (chosen_so (eqb kind 2) (as_message cancel (cancel_at c)) _ (long ∷ []) _ c e (λ h. as_told cancel (cancel_at c) e (cancel_told c e h))
    (chosen_so (eqb kind 3) (as_message locate (locate_at c)) _ (long ∷ target ∷ []) _ c e (λ h. as_told locate (locate_at c) e (locate_told c e h))
    (chosen_so (eqb kind 4) (as_message located (located_at c)) _ (long ∷ long ∷ []) _ c e (λ h. as_told located (located_at c) e (located_told c e h))
    (λ no. absurd no)))))

pub message_told : (m : Frames.Message) (e : MessageFault) → Refuses m e → message_at m ≡ Err e
unfolding message_at
message_told m e h = kind_told m.kind m.bytes (cursor m.order 12 (drop 12 m.bytes)) e h

pub told_so : (r : Result program.Message MessageFault) (m : Frames.Message) → Answers message_of r (message_at m) → (e : MessageFault) → Refuses m e → Answers message_of r (Err e)
told_so r m a e h = subst (Answers message_of r) (message_told m e h) a
