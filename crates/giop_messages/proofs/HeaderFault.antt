-- A header that is refused has its first fault there.
use Rattle.std.proofs.Common.{◌≡◌, ℕ, ◌-◌, ◌<◌, ◌≤◌, Bool, true, false, cond, eqb, ltb, List, [], ◌∷◌, drop, Result, Ok, Err, ◌⊎◌, inl, inr, refl, sym, ap, subst, ◌∙◌, arith}
use Rattle.std.specs.Prelude.{IfErr, ◌≢◌}
use Rattle.std.specs.Int.{Width, w8, w16, w32, byte_len}
use Rattle.std.proofs.lemmas.Bool.{eqb-true, eqb-false, ltb-true}
use Rattle.cdr_core.specs.Field.{number}
use Rattle.cdr_core.specs.Cursor.{Cursor, cursor, aligned, AreBytes}
use Rattle.cdr_core.specs.Basic.{integer, octet_sequence, string, unsigned}
use Rattle.cdr_core.specs.Passing.{Spans, Passes}
use Rattle.cdr_core.specs.Reading.{number_at, octets_at, string_at}
use Rattle.cdr_core.specs.Lists.{item_at}
use Rattle.cdr_core.specs.FirstFault.{FailsIn, item}
use Rattle.cdr_core.proofs.CallerLemmas.{passes_of, length-spelled, bind_ok, bind_err, ok_is, octet_len, short_len, long_len}
use Rattle.cdr_core.proofs.Parts.{AreBytes-drop}
use Rattle.giop_frames.specs.Messages as Frames
use Rattle.giop_messages.specs.declared.message.Message as program
use Rattle.giop_messages.specs.declared.message_fault.MessageFault.{MessageFault}
use Rattle.giop_messages.specs.declared.message_fault.MessageFault.TheVariants as faults
use Rattle.giop_messages.specs.Message.{Target, Message, request, reply, cancel, locate, located, close, error}
use Rattle.giop_messages.specs.Views.{message_of}
use Rattle.giop_messages.specs.MessageReading.{basic, profiles_at, contexts_at, key_at, profile_at, addressing_at, form_at, target_at, reserved_at, status_at, asked_at, request_at, reply_at, cancel_at, locate_at, located_at, as_message, kind_at, message_at}
use Rattle.giop_messages.specs.Answers.{Answers, Fails}
use Rattle.giop_messages.specs.Refusing.{TellsCdr, FailsBasic, FailsBehind, FailsReference, FailsTarget, Part, basic as plain, target, status, contexts, StandsAs, FailsAs, FailsAmong, octet, long, request_parts, parts_of, Refuses}
use Rattle.giop_messages.proofs.MessageFound.{done, number_found, text_found}
use Rattle.giop_messages.proofs.KindFound.{either, target_found, reserved_found, status_found, asked_found}
use Rattle.giop_messages.proofs.FirstFault.{number_stands, text_stands, number_err, octets_err, text_err, item_err, profiles_err, contexts_err}

-- ---- targets

key_err : (c : Cursor) (e : MessageFault) → AreBytes c.rest → key_at c ≡ Err e → FailsBasic octet_sequence c e
unfolding key_at
key_err c e fits h =
    elim (bind_err (basic (octets_at c)) _ e h) [
      | inl a ↦ octets_err c e fits a
      | inr a ↦ let no = a.2 in absurd cc
    ]

profile_err : (c : Cursor) (e : MessageFault) → AreBytes c.rest → profile_at c ≡ Err e → TellsCdr (FailsIn item c) e
unfolding profile_at
profile_err c e fits h =
    elim (bind_err (basic (item_at c)) _ e h) [
      | inl a ↦ item_err c e fits a
      | inr a ↦ let no = a.2 in absurd cc
    ]

addressing_err : (c : Cursor) (e : MessageFault) → AreBytes c.rest → addressing_at c ≡ Err e → FailsReference c e
unfolding addressing_at
addressing_err c e fits h =
    elim (bind_err (basic (number_at w32 c)) _ e h) [
      | inl a ↦ let n = number_err w32 c e a in inl (n.0, inl n.1, n.2)
      | inr a ↦
          let t = number_found w32 c a.0 long_len fits a.1 in
          let index = number_stands w32 c a.0 long_len fits a.1 in
          elim (bind_err (basic (string_at a.0.1)) _ e a.2) [
            | inl b ↦ let n = text_err a.0.1 e t.0.bytes b in inl (n.0, inr (a.0.1, index, inl n.1), n.2)
            | inr b ↦
                let u = text_found a.0.1 b.0 t.0.bytes b.1 in
                elim (bind_err (profiles_at b.0.1) _ e b.2) [
                  | inl k ↦ inr (a.0.1, b.0.1, index, text_stands a.0.1 b.0 t.0.bytes b.1, profiles_err b.0.1 e u.0.bytes k)
                  | inr k ↦ let no = k.2 in absurd cc
                ]
          ]
    ]

-- what is after a form fails, or the form is above 2
form_err : (place form : ℕ) (c : Cursor) (e : MessageFault) → AreBytes c.rest → form_at place form c ≡ Err e → FailsBehind form c e ⊎ ((2 < form) × (e ≡ faults.BadTarget place))
unfolding form_at
form_err place form c e fits h =
    elim (either (eqb form 0) (key_at c) _ (Err e) h) [
      | inl a ↦ inl (inl (eqb-true form 0 a.0, key_err c e fits a.1))
      | inr a ↦
          elim (either (eqb form 1) (profile_at c) _ (Err e) a.1) [
            | inl b ↦ inl (inr (inl (eqb-true form 1 b.0, profile_err c e fits b.1)))
            | inr b ↦
                elim (either (eqb form 2) (addressing_at c) _ (Err e) b.1) [
                  | inl k ↦ inl (inr (inr (eqb-true form 2 k.0, addressing_err c e fits k.1)))
                  | inr k ↦ inr (omega (arith, eqb-false form 0 a.0, eqb-false form 1 b.0, eqb-false form 2 k.0), let same = k.1 in cc)
                ]
          ]
    ]

-- the place of a number, by the one after it
pub short_place : (n : ℕ) (c d : Cursor) → Spans c d (number w16 n ∷ []) → d.place - 2 ≡ aligned 2 c.place
short_place n c d p = omega (arith, p.place, length-spelled c.order c.place (number w16 n ∷ []) p.spelling p.spelled)

pub long_place : (n : ℕ) (c d : Cursor) → Spans c d (number w32 n ∷ []) → d.place - 4 ≡ aligned 4 c.place
long_place n c d p = omega (arith, p.place, length-spelled c.order c.place (number w32 n ∷ []) p.spelling p.spelled)

pub target_err : (c : Cursor) (e : MessageFault) → AreBytes c.rest → target_at c ≡ Err e → FailsTarget c e
unfolding target_at
target_err c e fits h =
    elim (bind_err (basic (number_at w16 c)) _ e h) [
      | inl a ↦ inl (number_err w16 c e a)
      | inr a ↦
          let t = number_found w16 c a.0 short_len fits a.1 in
          let form : Passes c a.0.1 (unsigned w16 a.0.0) = passes_of c a.0.1 (unsigned w16 a.0.0) t.1 t.0.spans in
          elim (form_err (a.0.1.place - 2) a.0.0 a.0.1 e t.0.bytes a.2) [
            | inl b ↦ inr (inr (a.0.0, a.0.1, form, b))
            | inr b ↦ inr (inl (record {
              form = a.0.0;
              behind = a.0.1;
              passes = form;
              high = b.0;
              told = b.1 ∙ ap faults.BadTarget (short_place a.0.0 c a.0.1 t.0.spans);
            }))
          ]
    ]

-- ---- headers

status_err : (c : Cursor) (e : MessageFault) → AreBytes c.rest → status_at c ≡ Err e → FailsAs status c e
unfolding status_at
status_err c e fits h =
    elim (bind_err (basic (number_at w32 c)) _ e h) [
      | inl a ↦ inl (number_err w32 c e a)
      | inr a ↦
          let t = number_found w32 c a.0 long_len fits a.1 in
          elim (either (ltb 5 a.0.0) _ _ (Err e) a.2) [
            | inl b ↦
                let same : faults.BadStatus (a.0.1.place - 4) ≡ e = let no = b.1 in cc in
                inr (record {
                  status = a.0.0;
                  behind = a.0.1;
                  passes = passes_of c a.0.1 (unsigned w32 a.0.0) t.1 t.0.spans;
                  high = ltb-true 5 a.0.0 b.0;
                  told = sym same ∙ ap faults.BadStatus (long_place a.0.0 c a.0.1 t.0.spans);
                })
            | inr b ↦ let no = b.1 in absurd cc
          ]
    ]

-- after a part that is there
next : (part : Part) (parts : List Part) (c d : Cursor) (e : MessageFault) → StandsAs part c d → FailsAmong parts d e → FailsAmong (part ∷ parts) c e
next part parts c d e s f = inr (d, s, f)

number_part : (w : Width) (parts : List Part) (c : Cursor) (x : ℕ × Cursor) (e : MessageFault) → byte_len w ≤ 8 → AreBytes c.rest → basic (number_at w c) ≡ Ok x → FailsAmong parts x.1 e
    → FailsAmong (plain (integer w) ∷ parts) c e
number_part w parts c x e s fits h f = inr (x.1, number_stands w c x s fits h, f)

target_part : (parts : List Part) (c : Cursor) (x : Target × Cursor) (e : MessageFault) → AreBytes c.rest → target_at c ≡ Ok x → FailsAmong parts x.1 e → FailsAmong (target ∷ parts) c e
target_part parts c x e fits h f = let t = target_found c x fits h in inr (x.1, (x.0, t.1, t.0.spans), f)

reserved_err : (parts : List Part) (c : Cursor) (e : MessageFault) → AreBytes c.rest → reserved_at c ≡ Err e → FailsAmong (octet ∷ octet ∷ octet ∷ parts) c e
unfolding reserved_at
reserved_err parts c e fits h =
    elim (bind_err (basic (number_at w8 c)) _ e h) [
      | inl a ↦ inl (number_err w8 c e a)
      | inr a ↦
          let t = number_found w8 c a.0 octet_len fits a.1 in
          number_part w8 (octet ∷ octet ∷ parts) c a.0 e octet_len fits a.1
          (elim (bind_err (basic (number_at w8 a.0.1)) _ e a.2) [
            | inl b ↦ inl (number_err w8 a.0.1 e b)
            | inr b ↦
                number_part w8 (octet ∷ parts) a.0.1 b.0 e octet_len t.0.bytes b.1 (inl (number_err w8 b.0.1 e b.2))
          ])
    ]

reserved_part : (parts : List Part) (c : Cursor) (x : ℕ × Cursor) (e : MessageFault) → AreBytes c.rest → reserved_at c ≡ Ok x → FailsAmong parts x.1 e → FailsAmong (octet ∷ octet ∷ octet ∷ parts) c e
unfolding reserved_at
reserved_part parts c x e fits h f =
    let a = bind_ok _ _ x h in
    let b = bind_ok _ _ x a.2 in
    let t0 = number_found w8 c a.0 octet_len fits a.1 in
    let t1 = number_found w8 a.0.1 b.0 octet_len t0.0.bytes b.1 in
    number_part w8 (octet ∷ octet ∷ parts) c a.0 e octet_len fits a.1
    (number_part w8 (octet ∷ parts) a.0.1 b.0 e octet_len t0.0.bytes b.1 (number_part w8 parts b.0.1 x e octet_len t1.0.bytes b.2 f))

-- the parts up to the target of a request
abbrev asked_parts : List Part → List Part
asked_parts parts = long ∷ octet ∷ octet ∷ octet ∷ octet ∷ target ∷ parts

asked_err : (parts : List Part) (c : Cursor) (e : MessageFault) → AreBytes c.rest → asked_at c ≡ Err e → FailsAmong (asked_parts parts) c e
unfolding asked_at
asked_err parts c e fits h =
    elim (bind_err (basic (number_at w32 c)) _ e h) [
      | inl a ↦ inl (number_err w32 c e a)
      | inr a ↦
          let t0 = number_found w32 c a.0 long_len fits a.1 in
          number_part w32 (octet ∷ octet ∷ octet ∷ octet ∷ target ∷ parts) c a.0 e long_len fits a.1
          (elim (bind_err (basic (number_at w8 a.0.1)) _ e a.2) [
            | inl b ↦ inl (number_err w8 a.0.1 e b)
            | inr b ↦
                let t1 = number_found w8 a.0.1 b.0 octet_len t0.0.bytes b.1 in
                number_part w8 (octet ∷ octet ∷ octet ∷ target ∷ parts) a.0.1 b.0 e octet_len t0.0.bytes b.1
                (elim (bind_err (reserved_at b.0.1) _ e b.2) [
                  | inl r ↦ reserved_err (target ∷ parts) b.0.1 e t1.0.bytes r
                  | inr r ↦
                      let t2 = reserved_found b.0.1 r.0 t1.0.bytes r.1 in
                      reserved_part (target ∷ parts) b.0.1 r.0 e t1.0.bytes r.1
                      (elim (bind_err (target_at r.0.1) _ e r.2) [
                        | inl k ↦ inl (target_err r.0.1 e t2.passed.bytes k)
                        | inr k ↦ let no = k.2 in absurd cc
                      ])
                ])
          ])
    ]

fails_behind : {A : Type 0} (parts : List Part) (made x : A × Cursor) (e : MessageFault) → done made ≡ done x → FailsAmong parts x.1 e → FailsAmong parts made.1 e
fails_behind {A} parts made x e same f = subst (λ (y : A × Cursor). FailsAmong parts y.1 e) (sym (ok_is made x same)) f

asked_part : (parts : List Part) (c : Cursor) (x : (ℕ × ℕ × Target) × Cursor) (e : MessageFault) → AreBytes c.rest → asked_at c ≡ Ok x → FailsAmong parts x.1 e → FailsAmong (asked_parts parts) c e
unfolding asked_at
asked_part parts c x e fits h f =
    let a = bind_ok _ _ x h in
    let b = bind_ok _ _ x a.2 in
    let r = bind_ok _ _ x b.2 in
    let k = bind_ok _ _ x r.2 in
    let t0 = number_found w32 c a.0 long_len fits a.1 in
    let t1 = number_found w8 a.0.1 b.0 octet_len t0.0.bytes b.1 in
    let t2 = reserved_found b.0.1 r.0 t1.0.bytes r.1 in
    let made : (ℕ × ℕ × Target) × Cursor = ((a.0.0, b.0.0, k.0.0), k.0.1) in
    let behind : FailsAmong parts k.0.1 e = fails_behind parts made x e k.2 f in
    number_part w32 (octet ∷ octet ∷ octet ∷ octet ∷ target ∷ parts) c a.0 e long_len fits a.1
    (number_part w8 (octet ∷ octet ∷ octet ∷ target ∷ parts) a.0.1 b.0 e octet_len t0.0.bytes b.1
    (reserved_part (target ∷ parts) b.0.1 r.0 e t1.0.bytes r.1 (target_part parts r.0.1 k.0 e t2.passed.bytes k.1 behind)))

request_err : (bytes : List ℕ) (c : Cursor) (e : MessageFault) → AreBytes c.rest → request_at bytes c ≡ Err e → FailsAmong request_parts c e
unfolding request_at
request_err bytes c e fits h =
    elim (bind_err (asked_at c) _ e h) [
      | inl a ↦ asked_err (plain string ∷ contexts ∷ []) c e fits a
      | inr a ↦
          let t0 = asked_found c a.0 fits a.1 in
          asked_part (plain string ∷ contexts ∷ []) c a.0 e fits a.1
          (elim (bind_err (basic (string_at a.0.1)) _ e a.2) [
            | inl o ↦ inl (text_err a.0.1 e t0.passed.bytes o)
            | inr o ↦
                let t1 = text_found a.0.1 o.0 t0.passed.bytes o.1 in
                next (plain string) (contexts ∷ []) a.0.1 o.0.1 e (text_stands a.0.1 o.0 t0.passed.bytes o.1)
                (elim (bind_err (contexts_at o.0.1) _ e o.2) [
                  | inl s ↦ inl (contexts_err o.0.1 e t1.0.bytes s)
                  | inr s ↦ let no = s.2 in absurd cc
                ])
          ])
    ]

reply_err : (bytes : List ℕ) (c : Cursor) (e : MessageFault) → AreBytes c.rest → reply_at bytes c ≡ Err e → FailsAmong (long ∷ status ∷ contexts ∷ []) c e
unfolding reply_at
reply_err bytes c e fits h =
    elim (bind_err (basic (number_at w32 c)) _ e h) [
      | inl a ↦ inl (number_err w32 c e a)
      | inr a ↦
          let t0 = number_found w32 c a.0 long_len fits a.1 in
          number_part w32 (status ∷ contexts ∷ []) c a.0 e long_len fits a.1
          (elim (bind_err (status_at a.0.1) _ e a.2) [
            | inl o ↦ inl (status_err a.0.1 e t0.0.bytes o)
            | inr o ↦
                let t1 = status_found a.0.1 o.0 t0.0.bytes o.1 in
                next status (contexts ∷ []) a.0.1 o.0.1 e (o.0.0, t1.1, t1.0.spans)
                (elim (bind_err (contexts_at o.0.1) _ e o.2) [
                  | inl s ↦ inl (contexts_err o.0.1 e t1.0.bytes s)
                  | inr s ↦ let no = s.2 in absurd cc
                ])
          ])
    ]

cancel_err : (c : Cursor) (e : MessageFault) → cancel_at c ≡ Err e → FailsAmong (long ∷ []) c e
unfolding cancel_at
cancel_err c e h =
    elim (bind_err (basic (number_at w32 c)) _ e h) [
      | inl a ↦ inl (number_err w32 c e a)
      | inr a ↦ let no = a.2 in absurd cc
    ]

locate_err : (c : Cursor) (e : MessageFault) → AreBytes c.rest → locate_at c ≡ Err e → FailsAmong (long ∷ target ∷ []) c e
unfolding locate_at
locate_err c e fits h =
    elim (bind_err (basic (number_at w32 c)) _ e h) [
      | inl a ↦ inl (number_err w32 c e a)
      | inr a ↦
          let t0 = number_found w32 c a.0 long_len fits a.1 in
          number_part w32 (target ∷ []) c a.0 e long_len fits a.1
          (elim (bind_err (target_at a.0.1) _ e a.2) [
            | inl o ↦ inl (target_err a.0.1 e t0.0.bytes o)
            | inr o ↦ let no = o.2 in absurd cc
          ])
    ]

located_err : (c : Cursor) (e : MessageFault) → AreBytes c.rest → located_at c ≡ Err e → FailsAmong (long ∷ long ∷ []) c e
unfolding located_at
located_err c e fits h =
    elim (bind_err (basic (number_at w32 c)) _ e h) [
      | inl a ↦ inl (number_err w32 c e a)
      | inr a ↦
          number_part w32 (long ∷ []) c a.0 e long_len fits a.1
          (elim (bind_err (basic (number_at w32 a.0.1)) _ e a.2) [
            | inl o ↦ inl (number_err w32 a.0.1 e o)
            | inr o ↦ let no = o.2 in absurd cc
          ])
    ]

-- ---- whole messages

as_err : {A : Type 0} (of : A → Message) (r : Result A MessageFault) (e : MessageFault) → as_message of r ≡ Err e → r ≡ Err e
as_err of (Ok x) e h = absurd cc
as_err of (Err f) e h = let same : f ≡ e = cc in rw same refl

chosen : (b : Bool) (x y : List Part) (c : Cursor) (e : MessageFault) → (b ≡ true → FailsAmong x c e) → (b ≡ false → FailsAmong y c e) → FailsAmong (cond b x y) c e
chosen true x y c e f g = f refl
chosen false x y c e f g = g refl

given : {R : Type 0} (b : Bool) (x y z : R) → cond b x y ≡ z → (b ≡ true → x ≡ z) × (b ≡ false → y ≡ z)
given true x y z h = (λ _. h, λ q. absurd cc)
given false x y z h = (λ q. absurd cc, λ _. h)

kind_err : (kind : ℕ) (bytes : List ℕ) (c : Cursor) (e : MessageFault) → AreBytes c.rest → kind_at kind bytes c ≡ Err e → FailsAmong (parts_of kind) c e
unfolding kind_at
kind_err kind bytes c e fits h =
    let g0 = given (eqb kind 0) (as_message request (request_at bytes c)) _ (Err e) h in
    chosen (eqb kind 0) request_parts _ c e (λ q. request_err bytes c e fits (as_err request (request_at bytes c) e (g0.0 q)))
    (λ q0. let g1 = given (eqb kind 1) (as_message reply (reply_at bytes c)) _ (Err e) (g0.1 q0) in
    chosen (eqb kind 1) (long ∷ status ∷ contexts ∷ []) _ c e (λ q. reply_err bytes c e fits (as_err reply (reply_at bytes c) e (g1.0 q)))
    (λ q1. let g2 = given (eqb kind 2) (as_message cancel (cancel_at c)) _ (Err e) (g1.1 q1) in
    chosen (eqb kind 2) (long ∷ []) _ c e (λ q. cancel_err c e (as_err cancel (cancel_at c) e (g2.0 q)))
    (λ q2. let g3 = given (eqb kind 3) (as_message locate (locate_at c)) _ (Err e) (g2.1 q2) in
    chosen (eqb kind 3) (long ∷ target ∷ []) _ c e (λ q. locate_err c e fits (as_err locate (locate_at c) e (g3.0 q)))
    (λ q3. let g4 = given (eqb kind 4) (as_message located (located_at c)) _ (Err e) (g3.1 q3) in
    chosen (eqb kind 4) (long ∷ long ∷ []) _ c e (λ q. located_err c e fits (as_err located (located_at c) e (g4.0 q)))
    (λ q4. let g5 = given (eqb kind 5) (Ok close) (Ok error) (Err e) (g4.1 q4) in
    elim (eqb kind 5) as (λ b. eqb kind 5 ≡ b → FailsAmong [] c e) [
      | true ↦ λ q. let no = g5.0 q in absurd cc
      | false ↦ λ q. let no = g5.1 q in absurd cc
    ] refl)))))

pub message_err : (m : Frames.Message) (e : MessageFault) → AreBytes m.bytes → message_at m ≡ Err e → Refuses m e
unfolding message_at
message_err m e fits h = kind_err m.kind m.bytes (cursor m.order 12 (drop 12 m.bytes)) e (AreBytes-drop 12 m.bytes fits) h

told : (m : Frames.Message) (e : MessageFault) → AreBytes m.bytes → Fails e (message_at m) → e ≢ faults.NoMemory → Refuses m e
told m (faults.Cdr f) fits h n = message_err m (faults.Cdr f) fits h
told m (faults.BadTarget place) fits h n = message_err m (faults.BadTarget place) fits h
told m (faults.BadStatus place) fits h n = message_err m (faults.BadStatus place) fits h
told m faults.NoMemory fits h n = absurd (n refl)

pub fails_so : (r : Result program.Message MessageFault) (m : Frames.Message) → AreBytes m.bytes → Answers message_of r (message_at m) → IfErr r (λ e. e ≢ faults.NoMemory → Refuses m e)
fails_so (Ok x) m fits h = tt
fails_so (Err e) m fits h = told m e fits h
