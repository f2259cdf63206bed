-- The messages that are read are those that the bytes mean.
use Rattle.std.proofs.Common.{◌≡◌, ℕ, ◌-◌, ◌^◌, ◌<◌, ◌≤◌, Bool, true, false, cond, eqb, ltb, List, [], ◌∷◌, ◌++◌, length, drop, Ok, ◌⊎◌, inl, inr, refl, sym, subst, arith}
use Rattle.std.specs.Int.{w8, w16, w32}
use Rattle.std.proofs.lemmas.Bool.{eqb-true, ltb-false}
use Rattle.cdr_core.specs.Alignment.{pad_len}
use Rattle.cdr_core.specs.Field.{Field, number, run, string_fields, octets_fields}
use Rattle.cdr_core.specs.Cursor.{Cursor, AreBytes}
use Rattle.cdr_core.specs.Passing.{Spans}
use Rattle.cdr_core.proofs.CallerLemmas.{spelled_run, length-spelled, bind_ok, ok_is, octet_len, short_len, long_len}
use Rattle.giop_messages.specs.Message.{Target, key, profile, addressing, Request, Reply, Locate, Located, Message, request, reply, cancel, locate, located, kind_of, Fits, FitsTarget}
use Rattle.cdr_core.specs.Lists.{tagged_of, tagged_fields}
use Rattle.giop_messages.specs.Layout.{profiles_fields, target_fields, contexts_fields, named_fields}
use Rattle.giop_messages.specs.Reading.{HasBody}
use Rattle.giop_messages.specs.MessageReading.{body_from, key_at, profile_at, addressing_at, form_at, target_at, reserved_at, status_at, asked_at, request_at, reply_at, cancel_at, locate_at, located_at}
use Rattle.giop_messages.proofs.MessageFound.{Passed, passed_then, number_found, octets_found, text_found, item_found, profiles_found, contexts_found}

-- one of two readings gave the value
pub either : {R : Type 0} (b : Bool) (x y z : R) → cond b x y ≡ z → ((b ≡ true) × (x ≡ z)) ⊎ ((b ≡ false) × (y ≡ z))
either true x y z e = inl (refl, e)
either false x y z e = inr (refl, e)

-- ---- targets

-- the form of a target
abbrev pub form_of : Target → ℕ
form_of (key bytes) = 0
form_of (profile t) = 1
form_of (addressing index type_id profiles) = 2

-- what is after the form
abbrev pub form_fields : Target → List Field
form_fields (key bytes) = octets_fields bytes
form_fields (profile t) = tagged_fields t
form_fields (addressing index type_id profiles) = number w32 index ∷ string_fields type_id ++ profiles_fields profiles

pub target_parts : (t : Target) → number w16 (form_of t) ∷ form_fields t ≡ target_fields t
target_parts (key bytes) = refl
target_parts (profile t) = refl
target_parts (addressing index type_id profiles) = refl

-- a target of this form that is spelled between two cursors
record Formed (form : ℕ) (c : Cursor) (x : Target × Cursor) : Type 0 where
  pub passed : Passed c x.1 (form_fields x.0)
  pub fits : FitsTarget x.0
  pub is : form_of x.0 ≡ form

key_found : (c : Cursor) (x : Target × Cursor) → AreBytes c.rest → key_at c ≡ Ok x → Formed 0 c x
unfolding key_at
key_found c x fits e =
    let a = bind_ok _ _ x e in
    let t = octets_found c a.0 fits a.1 in
    subst (Formed 0 c) (ok_is (key a.0.0, a.0.1) x a.2) (record { passed = t.0; fits = t.1; is = refl })

profile_found : (c : Cursor) (x : Target × Cursor) → AreBytes c.rest → profile_at c ≡ Ok x → Formed 1 c x
unfolding profile_at
profile_found c x fits e =
    let a = bind_ok _ _ x e in
    let t = item_found c a.0 fits a.1 in
    subst (Formed 1 c) (ok_is (profile (tagged_of a.0.0), a.0.1) x a.2) (record { passed = t.1; fits = t.0; is = refl })

addressing_found : (c : Cursor) (x : Target × Cursor) → AreBytes c.rest → addressing_at c ≡ Ok x → Formed 2 c x
unfolding addressing_at
addressing_found c x fits e =
    let a = bind_ok _ _ x e in
    let b = bind_ok _ _ x a.2 in
    let d = bind_ok _ _ x b.2 in
    let t0 = number_found w32 c a.0 long_len fits a.1 in
    let t1 = text_found a.0.1 b.0 t0.0.bytes b.1 in
    let t2 = profiles_found b.0.1 d.0 t1.0.bytes d.1 in
    let front = passed_then c a.0.1 b.0.1 (number w32 a.0.0 ∷ []) (string_fields b.0.0) t0.0 t1.0 in
    let all = passed_then c b.0.1 d.0.1 (number w32 a.0.0 ∷ string_fields b.0.0) (profiles_fields d.0.0) front t2.1 in
    subst (Formed 2 c) (ok_is (addressing a.0.0 b.0.0 d.0.0, d.0.1) x d.2) (record { passed = all; fits = (t0.1, t1.1, t2.0.0, t2.0.1); is = refl })

form_found : (place form : ℕ) (c : Cursor) (x : Target × Cursor) → AreBytes c.rest → form_at place form c ≡ Ok x → Formed form c x
unfolding form_at
form_found place form c x fits e =
    elim (either (eqb form 0) (key_at c) _ (Ok x) e) [
      | inl h ↦ subst (λ (n : ℕ). Formed n c x) (sym (eqb-true form 0 h.0)) (key_found c x fits h.1)
      | inr h ↦
          elim (either (eqb form 1) (profile_at c) _ (Ok x) h.1) [
            | inl k ↦ subst (λ (n : ℕ). Formed n c x) (sym (eqb-true form 1 k.0)) (profile_found c x fits k.1)
            | inr k ↦
                elim (either (eqb form 2) (addressing_at c) _ (Ok x) k.1) [
                  | inl l ↦ subst (λ (n : ℕ). Formed n c x) (sym (eqb-true form 2 l.0)) (addressing_found c x fits l.1)
                  | inr l ↦ let no = l.1 in absurd cc
                ]
          ]
    ]

pub target_found : (c : Cursor) (x : Target × Cursor) → AreBytes c.rest → target_at c ≡ Ok x → Passed c x.1 (target_fields x.0) × FitsTarget x.0
unfolding target_at
target_found c x fits e =
    let a = bind_ok _ _ x e in
    let t0 = number_found w16 c a.0 short_len fits a.1 in
    let t1 = form_found (a.0.1.place - 2) a.0.0 a.0.1 x t0.0.bytes a.2 in
    let both = passed_then c a.0.1 x.1 (number w16 a.0.0 ∷ []) (form_fields x.0) t0.0 t1.passed in
    let named : Passed c x.1 (number w16 (form_of x.0) ∷ form_fields x.0) = subst (λ (n : ℕ). Passed c x.1 (number w16 n ∷ form_fields x.0)) (sym t1.is) both in
    (subst (Passed c x.1) (target_parts x.0) named, t1.fits)

-- ---- the parts of a request and a reply

-- three octets that are read
pub record Reserved (c d : Cursor) : Type 0 where
  pub octets : List ℕ
  pub three : length octets ≡ 3
  pub passed : Passed c d (run 1 octets ∷ [])

pub no_pad : (place : ℕ) → pad_len 1 place ≡ 0
no_pad place = omega arith

pub reserved_found : (c : Cursor) (x : ℕ × Cursor) → AreBytes c.rest → reserved_at c ≡ Ok x → Reserved c x.1
unfolding reserved_at
reserved_found c x fits e =
    let a = bind_ok _ _ x e in
    let b = bind_ok _ _ x a.2 in
    let t0 = number_found w8 c a.0 octet_len fits a.1 in
    let t1 = number_found w8 a.0.1 b.0 octet_len t0.0.bytes b.1 in
    let t2 = number_found w8 b.0.1 x octet_len t1.0.bytes b.2 in
    let two = passed_then c a.0.1 b.0.1 (number w8 a.0.0 ∷ []) (number w8 b.0.0 ∷ []) t0.0 t1.0 in
    let all = passed_then c b.0.1 x.1 (number w8 a.0.0 ∷ number w8 b.0.0 ∷ []) (number w8 x.0 ∷ []) two t2.0 in
    let s = all.spans in
    let end = length-spelled c.order c.place (number w8 a.0.0 ∷ number w8 b.0.0 ∷ number w8 x.0 ∷ []) s.spelling s.spelled in
    record {
      octets = s.spelling;
      three = omega (arith, end);
      passed = record {
        spans = record { spelling = s.spelling; parts = s.parts; spelled = spelled_run c.order c.place s.spelling; order = s.order; place = s.place };
        bytes = all.bytes;
      };
    }

pub status_found : (c : Cursor) (x : ℕ × Cursor) → AreBytes c.rest → status_at c ≡ Ok x → Passed c x.1 (number w32 x.0 ∷ []) × (x.0 ≤ 5)
unfolding status_at
status_found c x fits e =
    let a = bind_ok _ _ x e in
    let t = number_found w32 c a.0 long_len fits a.1 in
    elim (either (ltb 5 a.0.0) _ _ (Ok x) a.2) [
      | inl h ↦ let no = h.1 in absurd cc
      | inr h ↦ subst (λ (y : ℕ × Cursor). Passed c y.1 (number w32 y.0 ∷ []) × (y.0 ≤ 5)) (ok_is a.0 x h.1) (t.0, ltb-false _ _ h.0)
    ]

-- the id, the flags and the target of a request that are read
pub record Asked (c : Cursor) (x : (ℕ × ℕ × Target) × Cursor) : Type 0 where
  pub octets : List ℕ
  pub three : length octets ≡ 3
  pub passed : Passed c x.1 (number w32 x.0.0 ∷ number w8 x.0.1 ∷ run 1 octets ∷ target_fields x.0.2)
  pub id : x.0.0 < 2 ^ 32
  pub flags : x.0.1 < 2 ^ 8
  pub target : FitsTarget x.0.2

pub asked_found : (c : Cursor) (x : (ℕ × ℕ × Target) × Cursor) → AreBytes c.rest → asked_at c ≡ Ok x → Asked c x
unfolding asked_at
asked_found c x fits e =
    let a = bind_ok _ _ x e in
    let b = bind_ok _ _ x a.2 in
    let r = bind_ok _ _ x b.2 in
    let t = bind_ok _ _ x r.2 in
    let t0 = number_found w32 c a.0 long_len fits a.1 in
    let t1 = number_found w8 a.0.1 b.0 octet_len t0.0.bytes b.1 in
    let t2 = reserved_found b.0.1 r.0 t1.0.bytes r.1 in
    let t3 = target_found r.0.1 t.0 t2.passed.bytes t.1 in
    let two = passed_then c a.0.1 b.0.1 (number w32 a.0.0 ∷ []) (number w8 b.0.0 ∷ []) t0.0 t1.0 in
    let three = passed_then c b.0.1 r.0.1 (number w32 a.0.0 ∷ number w8 b.0.0 ∷ []) (run 1 t2.octets ∷ []) two t2.passed in
    let all = passed_then c r.0.1 t.0.1 (number w32 a.0.0 ∷ number w8 b.0.0 ∷ run 1 t2.octets ∷ []) (target_fields t.0.0) three t3.0 in
    let made : (ℕ × ℕ × Target) × Cursor = ((a.0.0, b.0.0, t.0.0), t.0.1) in
    subst (Asked c) (ok_is made x t.2) (record { octets = t2.octets; three = t2.three; passed = all; id = t0.1; flags = t1.1; target = t3.1 })

-- ---- messages

-- a message of this kind that is spelled from the cursor on, within the bytes
pub record Meant (kind : ℕ) (bytes : List ℕ) (c : Cursor) (m : Message) : Type 0 where
  pub behind : Cursor
  pub reserved : List ℕ
  pub three : length reserved ≡ 3
  pub spans : Spans c behind (named_fields reserved m)
  pub is : kind_of m ≡ kind
  pub body : HasBody m behind.place (drop behind.place bytes)
  pub fits : Fits m

-- reserved octets of a message that has none
abbrev pub zeros : List ℕ
zeros = 0 ∷ 0 ∷ 0 ∷ []

pub three_zeros : length zeros ≡ 3
three_zeros = refl

pub request_found : (bytes : List ℕ) (c : Cursor) (r : Request) → AreBytes c.rest → request_at bytes c ≡ Ok r → Meant 0 bytes c (request r)
unfolding request_at
request_found bytes c r fits e =
    let a = bind_ok _ _ r e in
    let o = bind_ok _ _ r a.2 in
    let s = bind_ok _ _ r o.2 in
    let t0 = asked_found c a.0 fits a.1 in
    let t1 = text_found a.0.1 o.0 t0.passed.bytes o.1 in
    let t2 = contexts_found o.0.1 s.0 t1.0.bytes s.1 in
    let first = number w32 a.0.0.0 ∷ number w8 a.0.0.1 ∷ run 1 t0.octets ∷ target_fields a.0.0.2 in
    let two = passed_then c a.0.1 o.0.1 first (string_fields o.0.0) t0.passed t1.0 in
    let all = passed_then c o.0.1 s.0.1 (first ++ string_fields o.0.0) (contexts_fields s.0.0) two t2.1 in
    let made : Request = record { id = a.0.0.0; flags = a.0.0.1; target = a.0.0.2; operation = o.0.0; contexts = s.0.0; body = body_from s.0.1.place bytes } in
    subst (λ (q : Request). Meant 0 bytes c (request q)) (ok_is made r s.2) (record {
      behind = s.0.1;
      reserved = t0.octets;
      three = t0.three;
      spans = all.spans;
      is = refl;
      body = refl;
      fits = record { id = t0.id; flags = t0.flags; target = t0.target; operation = t1.1; contexts = t2.0 };
    })

pub reply_found : (bytes : List ℕ) (c : Cursor) (r : Reply) → AreBytes c.rest → reply_at bytes c ≡ Ok r → Meant 1 bytes c (reply r)
unfolding reply_at
reply_found bytes c r fits e =
    let a = bind_ok _ _ r e in
    let o = bind_ok _ _ r a.2 in
    let s = bind_ok _ _ r o.2 in
    let t0 = number_found w32 c a.0 long_len fits a.1 in
    let t1 = status_found a.0.1 o.0 t0.0.bytes o.1 in
    let t2 = contexts_found o.0.1 s.0 t1.0.bytes s.1 in
    let two = passed_then c a.0.1 o.0.1 (number w32 a.0.0 ∷ []) (number w32 o.0.0 ∷ []) t0.0 t1.0 in
    let all = passed_then c o.0.1 s.0.1 (number w32 a.0.0 ∷ number w32 o.0.0 ∷ []) (contexts_fields s.0.0) two t2.1 in
    let made : Reply = record { id = a.0.0; status = o.0.0; contexts = s.0.0; body = body_from s.0.1.place bytes } in
    subst (λ (q : Reply). Meant 1 bytes c (reply q)) (ok_is made r s.2) (record {
      behind = s.0.1;
      reserved = zeros;
      three = three_zeros;
      spans = all.spans;
      is = refl;
      body = refl;
      fits = record { id = t0.1; status = t1.1; contexts = t2.0 };
    })

pub cancel_found : (bytes : List ℕ) (c : Cursor) (n : ℕ) → AreBytes c.rest → cancel_at c ≡ Ok n → Meant 2 bytes c (cancel n)
unfolding cancel_at
cancel_found bytes c n fits e =
    let a = bind_ok _ _ n e in
    let t = number_found w32 c a.0 long_len fits a.1 in
    subst (λ (k : ℕ). Meant 2 bytes c (cancel k)) (ok_is a.0.0 n a.2) (record { behind = a.0.1; reserved = zeros; three = three_zeros; spans = t.0.spans; is = refl; body = tt; fits = t.1 })

pub locate_found : (bytes : List ℕ) (c : Cursor) (l : Locate) → AreBytes c.rest → locate_at c ≡ Ok l → Meant 3 bytes c (locate l)
unfolding locate_at
locate_found bytes c l fits e =
    let a = bind_ok _ _ l e in
    let b = bind_ok _ _ l a.2 in
    let t0 = number_found w32 c a.0 long_len fits a.1 in
    let t1 = target_found a.0.1 b.0 t0.0.bytes b.1 in
    let all = passed_then c a.0.1 b.0.1 (number w32 a.0.0 ∷ []) (target_fields b.0.0) t0.0 t1.0 in
    let made : Locate = record { id = a.0.0; target = b.0.0 } in
    subst (λ (q : Locate). Meant 3 bytes c (locate q)) (ok_is made l b.2)
    (record { behind = b.0.1; reserved = zeros; three = three_zeros; spans = all.spans; is = refl; body = tt; fits = record { id = t0.1; target = t1.1 } })

pub located_found : (bytes : List ℕ) (c : Cursor) (l : Located) → AreBytes c.rest → located_at c ≡ Ok l → Meant 4 bytes c (located l)
unfolding located_at
located_found bytes c l fits e =
    let a = bind_ok _ _ l e in
    let b = bind_ok _ _ l a.2 in
    let t0 = number_found w32 c a.0 long_len fits a.1 in
    let t1 = number_found w32 a.0.1 b.0 long_len t0.0.bytes b.1 in
    let all = passed_then c a.0.1 b.0.1 (number w32 a.0.0 ∷ []) (number w32 b.0.0 ∷ []) t0.0 t1.0 in
    let made : Located = record { id = a.0.0; status = b.0.0 } in
    subst (λ (q : Located). Meant 4 bytes c (located q)) (ok_is made l b.2)
    (record { behind = b.0.1; reserved = zeros; three = three_zeros; spans = all.spans; is = refl; body = tt; fits = record { id = t0.1; status = t1.1 } })
