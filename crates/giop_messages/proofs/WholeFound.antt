-- Whole messages that are read are those that their bytes mean.
use Rattle.std.proofs.Common.{◌≡◌, ℕ, ◌+◌, ◌^◌, ◌<◌, ◌≤◌, true, eqb, List, [], ◌∷◌, ◌++◌, length, drop, Result, Ok, Err, inl, inr, refl, sym, ap, subst, ◌∙◌, arith, append_assoc, length-append}
use Rattle.std.specs.Prelude.{IfOk}
use Rattle.std.specs.Int.{w32}
use Rattle.std.proofs.lemmas.Bool.{eqb-true, eqb-false}
use Rattle.std.proofs.lemmas.List.{drop_at}
use Rattle.orb_base.specs.declared.order.Order.{Order}
use Rattle.cdr_core.specs.Field.{number_bytes}
use Rattle.cdr_core.specs.Cursor.{Cursor, cursor, AreBytes}
use Rattle.cdr_core.proofs.CallerLemmas.{length-number_bytes, ok_is}
use Rattle.cdr_core.proofs.Parts.{AreBytes-drop}
use Rattle.giop_frames.specs.Messages as Frames
use Rattle.giop_messages.specs.declared.message_fault.MessageFault.{MessageFault}
use Rattle.giop_messages.specs.Message.{Message, request, reply, cancel, locate, located, close, error, kind_of, Fits, HasStatus}
use Rattle.giop_frames.specs.Headers.{magic}
use Rattle.giop_messages.specs.Layout.{header, named_fields}
use Rattle.giop_messages.specs.Reading.{HasBody, ReadsIn, Reads}
use Rattle.giop_messages.specs.declared.message.Message as program
use Rattle.giop_messages.specs.Views.{message_of}
use Rattle.giop_messages.specs.MessageReading.{IsMessage, request_at, reply_at, cancel_at, locate_at, located_at, as_message, kind_at, message_at}
use Rattle.giop_messages.specs.Answers.{Answers}
use Rattle.giop_messages.proofs.Headed.{IsHeaded, headed}
use Rattle.giop_messages.proofs.KindFound.{either, Meant, request_found, reply_found, cancel_found, locate_found, located_found, zeros, three_zeros}

as_ok : {A : Type 0} (of : A → Message) (r : Result A MessageFault) (m : Message) → as_message of r ≡ Ok m → (x : A) × (r ≡ Ok x) × (of x ≡ m)
as_ok of (Ok x) m e = (x, refl, ok_is (of x) m e)
as_ok of (Err f) m e = absurd cc

none_found : (bytes : List ℕ) (c : Cursor) → (m : Message) → (named_fields zeros m ≡ []) → HasBody m c.place (drop c.place bytes) → Fits m → Meant (kind_of m) bytes c m
none_found bytes c m none body fits = record {
  behind = c;
  reserved = zeros;
  three = three_zeros;
  spans = record { spelling = []; parts = refl; spelled = rw none refl; order = refl; place = omega arith };
  is = refl;
  body = body;
  fits = fits;
}

kind_found : (kind : ℕ) (bytes : List ℕ) (c : Cursor) (m : Message) → kind ≤ 6 → AreBytes c.rest → kind_at kind bytes c ≡ Ok m → Meant kind bytes c m
unfolding kind_at
kind_found kind bytes c m le fits e =
    let to : (n : ℕ) → eqb kind n ≡ true → Meant n bytes c m → Meant kind bytes c m = λ n h p. subst (λ (k : ℕ). Meant k bytes c m) (sym (eqb-true kind n h)) p in
    elim (either (eqb kind 0) (as_message request (request_at bytes c)) _ (Ok m) e) [
      | inl h ↦ let a = as_ok request (request_at bytes c) m h.1 in to 0 h.0 (subst (Meant 0 bytes c) a.2 (request_found bytes c a.0 fits a.1))
      | inr h0 ↦ elim (either (eqb kind 1) (as_message reply (reply_at bytes c)) _ (Ok m) h0.1) [
        | inl h ↦ let a = as_ok reply (reply_at bytes c) m h.1 in to 1 h.0 (subst (Meant 1 bytes c) a.2 (reply_found bytes c a.0 fits a.1))
        | inr h1 ↦ elim (either (eqb kind 2) (as_message cancel (cancel_at c)) _ (Ok m) h1.1) [
          | inl h ↦ let a = as_ok cancel (cancel_at c) m h.1 in to 2 h.0 (subst (Meant 2 bytes c) a.2 (cancel_found bytes c a.0 fits a.1))
          | inr h2 ↦ elim (either (eqb kind 3) (as_message locate (locate_at c)) _ (Ok m) h2.1) [
            | inl h ↦ let a = as_ok locate (locate_at c) m h.1 in to 3 h.0 (subst (Meant 3 bytes c) a.2 (locate_found bytes c a.0 fits a.1))
            | inr h3 ↦ elim (either (eqb kind 4) (as_message located (located_at c)) _ (Ok m) h3.1) [
              | inl h ↦ let a = as_ok located (located_at c) m h.1 in to 4 h.0 (subst (Meant 4 bytes c) a.2 (located_found bytes c a.0 fits a.1))
              | inr h4 ↦ elim (either (eqb kind 5) (Ok close) (Ok error) (Ok m) h4.1) [
                | inl h ↦ to 5 h.0 (subst (Meant 5 bytes c) (ok_is close m h.1) (none_found bytes c close refl tt tt))
                | inr h5 ↦
                    let six : kind ≡ 6 = omega (arith, le, eqb-false kind 0 h0.0, eqb-false kind 1 h1.0, eqb-false kind 2 h2.0, eqb-false kind 3 h3.0, eqb-false kind 4 h4.0, eqb-false kind 5 h5.0) in
                    subst (λ (k : ℕ). Meant k bytes c m) (sym six) (subst (Meant 6 bytes c) (ok_is error m h5.1) (none_found bytes c error refl tt tt))
              ]
            ]
          ]
        ]
      ]
    ]

header_len : (order : Order) (flags kind size : ℕ) → length (header order flags kind size) ≡ 12
header_len order flags kind size = omega (arith, length-append (magic ++ 1 ∷ 2 ∷ flags ∷ kind ∷ []) (number_bytes order w32 size), length-number_bytes order w32 size)

-- what is after the header
pub behind_header : (w : Frames.Message) (i : IsHeaded w) → drop 12 w.bytes ≡ i.behind
behind_header w i =
    let front = header w.order i.flags w.kind (length i.behind) in
    ap (drop 12) i.parts ∙ drop_at front i.behind 12 (header_len w.order i.flags w.kind (length i.behind))

-- what is after the named fields
pub rest_is : (w : Frames.Message) (i : IsHeaded w) (named rest : List ℕ) → i.behind ≡ named ++ rest → drop (12 + length named) w.bytes ≡ rest
rest_is w i named rest e =
    let front = header w.order i.flags w.kind (length i.behind) in
    let parts : w.bytes ≡ (front ++ named) ++ rest = i.parts ∙ ap (λ (x : List ℕ). front ++ x) e ∙ sym (append_assoc front named rest) in
    let len : length (front ++ named) ≡ 12 + length named = length-append front named ∙ ap (λ (n : ℕ). n + length named) (header_len w.order i.flags w.kind (length i.behind)) in
    ap (drop (12 + length named)) parts ∙ drop_at (front ++ named) rest (12 + length named) len

pub message_found : (w : Frames.Message) (m : Message) → IsHeaded w → AreBytes w.bytes → message_at w ≡ Ok m → ReadsIn w.order m w.bytes
unfolding message_at
message_found w m i fits e =
    let c : Cursor = cursor w.order 12 (drop 12 w.bytes) in
    let k = kind_found w.kind w.bytes c m i.few_kinds (AreBytes-drop 12 w.bytes fits) e in
    let named = k.spans.spelling in
    let rest = k.behind.rest in
    let whole : i.behind ≡ named ++ rest = sym (behind_header w i) ∙ k.spans.parts in
    let place : k.behind.place ≡ 12 + length named = k.spans.place in
    let body : HasBody m (12 + length named) (drop (12 + length named) w.bytes) = subst (λ (n : ℕ). HasBody m n (drop n w.bytes)) place k.body in
    let len : length w.bytes ≡ 12 + length i.behind =
    ap length i.parts ∙ length-append (header w.order i.flags w.kind (length i.behind)) i.behind ∙ ap (λ (n : ℕ). n + length i.behind) (header_len w.order i.flags w.kind (length i.behind)) in
    let short : length i.behind < 2 ^ 32 = omega (arith, len, i.short) in
    let parts : w.bytes ≡ header w.order i.flags (kind_of m) (length i.behind) ++ i.behind = subst (λ (n : ℕ). w.bytes ≡ header w.order i.flags n (length i.behind) ++ i.behind) (sym k.is) i.parts in
    record {
      flags = i.flags;
      reserved = k.reserved;
      named = named;
      rest = rest;
      octet = i.octet;
      order_bit = i.order_bit;
      whole = i.unfragmented;
      three = k.three;
      size = subst (λ (x : List ℕ). length x < 2 ^ 32) whole short;
      parts = subst (λ (x : List ℕ). w.bytes ≡ header w.order i.flags (kind_of m) (length x) ++ x) whole parts;
      fields = k.spans.spelled;
      body = subst (HasBody m (12 + length named)) (rest_is w i named rest whole) body;
      fits = k.fits;
    }

pub found_so : (r : Result program.Message MessageFault) (w : Frames.Message) → IsMessage w → AreBytes w.bytes → Answers message_of r (message_at w) → IfOk r (λ m. Reads (message_of m) w.bytes)
found_so (Ok m) w i fits e = (w.order, message_found w (message_of m) (headed w i fits) fits e)
found_so (Err f) w i fits e = tt

-- a message that bytes mean may be written again
pub has_status : (m : Message) (bytes : List ℕ) → Reads m bytes → HasStatus m
has_status (request r) bytes p = tt
has_status (reply r) bytes p = p.1.fits.status
has_status (cancel id) bytes p = tt
has_status (locate l) bytes p = tt
has_status (located l) bytes p = tt
has_status close bytes p = tt
has_status error bytes p = tt

-- and so may one that is read
pub read_has_status : (r : Result program.Message MessageFault) (bytes : List ℕ) → IfOk r (λ m. Reads (message_of m) bytes) → IfOk r (λ m. HasStatus (message_of m))
read_has_status (Ok m) bytes p = has_status (message_of m) bytes p
read_has_status (Err f) bytes p = tt
