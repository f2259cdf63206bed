-- Whole bytes are read as at most one message: part by part from the left, each is spelled by one prefix alone.
use Rattle.std.proofs.Common.{◌≡◌, ℕ, ◌+◌, ◌*◌, ◌^◌, ◌<◌, ◌≤◌, ◌%◌, List, [], ◌∷◌, ◌++◌, length, drop, refl, sym, ap, subst, ◌∙◌, append_assoc, arith, lit<}
use Rattle.std.specs.List.{AllByRecursion, flat_map}
use Rattle.std.specs.Int.{Width, w8, w16, w32, byte_len}
use Rattle.std.proofs.lemmas.List.{append-nil, append_cancel_left, append_cancel_right, drop_at}
use Rattle.orb_base.specs.declared.order.Order.{Order}
use Rattle.orb_base.specs.declared.order.Order.TheVariants.{Big, Little}
use Rattle.cdr_core.specs.Alignment.{pad_len}
use Rattle.cdr_core.specs.Field.{Field, number, run, number_bytes, fields_end, string_fields, octets_fields}
use Rattle.cdr_core.specs.Spelling.{IsSpelled}
use Rattle.cdr_core.specs.Basic.{BasicValue, unsigned, octets, text, type_of, IsBasic, Fits, fields_of}
use Rattle.cdr_core.proofs.LawProofs.{reads_one_way_law}
use Rattle.cdr_core.proofs.CallerLemmas.{split, spelled_run_is, length-number_bytes}
use Rattle.giop_messages.specs.Message.{Message, Target, key, profile, addressing, Request, Reply, Locate, Located, request, reply, cancel, locate, located, close, error, kind_of, FitsText, FitsTarget, FitContexts, FitsRequest, FitsReply, FitsLocate, FitsLocated}
use Rattle.cdr_core.specs.Lists.{tagged_fields, FitsTagged, context_fields, FitsContext}
use Rattle.cdr_core.specs.Encapsulation.{order_byte}
use Rattle.giop_messages.specs.Layout.{header, target_fields, contexts_fields, named_fields}
use Rattle.giop_messages.specs.Reading.{ReadsIn, Reads}

-- two lists of fields that are spelled from one place on, with what is after each, by the same bytes
record Tails (order : Order) (fs gs : List Field) (bx by : List ℕ) : Type 0 where
  pub place : ℕ
  pub x : List ℕ
  pub y : List ℕ
  pub spelled_x : IsSpelled order place fs x
  pub spelled_y : IsSpelled order place gs y
  pub same : x ++ bx ≡ y ++ by

-- the same fields, grouped otherwise

with_end : {order : Order} {fs gs : List Field} {bx by : List ℕ} → Tails order fs gs bx by → Tails order (fs ++ []) (gs ++ []) bx by
with_end {order} {fs} {gs} {bx} {by} t = rw (append-nil fs, append-nil gs) t

grouped : (a b c d e f : List Field) {order : Order} {bx by : List ℕ} → Tails order (a ++ b ++ c) (d ++ e ++ f) bx by → Tails order (a ++ (b ++ c)) (d ++ (e ++ f)) bx by
grouped a b c d e f t = rw (← append_assoc a b c, ← append_assoc d e f) t

-- no fields are spelled by no bytes
ends : {order : Order} {bx by : List ℕ} → Tails order [] [] bx by → bx ≡ by
ends {order} {bx} {by} t = ap (λ (z : List ℕ). z ++ bx) (sym t.spelled_x) ∙ t.same ∙ ap (λ (z : List ℕ). z ++ by) t.spelled_y

-- ---- one part

value_one : (v w : BasicValue) (fs gs : List Field) {order : Order} {bx by : List ℕ} → IsBasic (type_of v) → type_of v ≡ type_of w → Fits v → Fits w
    → Tails order (fields_of v ++ fs) (fields_of w ++ gs) bx by → (v ≡ w) × Tails order fs gs bx by
value_one v w fs gs {order} {bx} {by} basic kinds fv fw t =
    let a = split order t.place (fields_of v) fs t.x t.spelled_x in
    let b = split order t.place (fields_of w) gs t.y t.spelled_y in
    let same : a.front ++ (a.behind ++ bx) ≡ b.front ++ (b.behind ++ by) =
    sym (append_assoc a.front a.behind bx) ∙ ap (λ (z : List ℕ). z ++ bx) (sym a.parts) ∙ t.same ∙ ap (λ (z : List ℕ). z ++ by) b.parts ∙ append_assoc b.front b.behind by in
    let one = reads_one_way_law order t.place v w a.front b.front (a.behind ++ bx) (b.behind ++ by) basic kinds (fv, a.first) (fw, b.first) same in (
      one.0,
      record {
        place = fields_end t.place (fields_of v);
        x = a.behind;
        y = b.behind;
        spelled_x = a.others;
        spelled_y = subst (λ (u : BasicValue). IsSpelled order (fields_end t.place (fields_of u)) gs b.behind) (sym one.0) b.others;
        same = append_cancel_left a.front (a.behind ++ bx) (b.behind ++ by) (same ∙ ap (λ (z : List ℕ). z ++ (b.behind ++ by)) (sym one.1));
      },
    )

run_one : (a b : List ℕ) (fs gs : List Field) {order : Order} {bx by : List ℕ} → length a ≡ length b
    → Tails order (run 1 a ∷ fs) (run 1 b ∷ gs) bx by → Tails order fs gs bx by
run_one a b fs gs {order} {bx} {by} len t =
    let p = split order t.place (run 1 a ∷ []) fs t.x t.spelled_x in
    let q = split order t.place (run 1 b ∷ []) gs t.y t.spelled_y in
    let left : t.x ++ bx ≡ a ++ (p.behind ++ bx) =
    ap (λ (z : List ℕ). z ++ bx) (p.parts ∙ ap (λ (z : List ℕ). z ++ p.behind) (spelled_run_is order t.place a p.front p.first)) ∙ append_assoc a p.behind bx in
    let right : t.y ++ by ≡ b ++ (q.behind ++ by) =
    ap (λ (z : List ℕ). z ++ by) (q.parts ∙ ap (λ (z : List ℕ). z ++ q.behind) (spelled_run_is order t.place b q.front q.first)) ∙ append_assoc b q.behind by in
    record {
      place = fields_end t.place (run 1 a ∷ []);
      x = p.behind;
      y = q.behind;
      spelled_x = p.others;
      spelled_y = subst (λ (n : ℕ). IsSpelled order (t.place + pad_len 1 t.place + n) gs q.behind) (sym len) q.others;
      same = sym (drop_at a (p.behind ++ bx) (length a) refl) ∙ ap (drop (length a)) (sym left ∙ t.same ∙ right) ∙ drop_at b (q.behind ++ by) (length a) (sym len);
    }

number_one : (w : Width) (n k : ℕ) (fs gs : List Field) {order : Order} {bx by : List ℕ} → byte_len w ≤ 8 → n < 2 ^ (8 * byte_len w) → k < 2 ^ (8 * byte_len w)
    → Tails order (number w n ∷ fs) (number w k ∷ gs) bx by → (n ≡ k) × Tails order fs gs bx by
number_one w n k fs gs basic fn fk t =
    let h = value_one (unsigned w n) (unsigned w k) fs gs basic refl fn fk t in
    let e = h.0 in
    (cc, h.1)

octets_one : (a b : List ℕ) (fs gs : List Field) {order : Order} {bx by : List ℕ} → length a < 2 ^ 32 → length b < 2 ^ 32
    → Tails order (octets_fields a ++ fs) (octets_fields b ++ gs) bx by → (a ≡ b) × Tails order fs gs bx by
octets_one a b fs gs fa fb t =
    let h = value_one (octets a) (octets b) fs gs tt refl fa fb t in
    let e = h.0 in
    (cc, h.1)

text_one : (a b : List ℕ) (fs gs : List Field) {order : Order} {bx by : List ℕ} → FitsText a → FitsText b
    → Tails order (string_fields a ++ fs) (string_fields b ++ gs) bx by → (a ≡ b) × Tails order fs gs bx by
text_one a b fs gs fa fb t =
    let h = value_one (text a) (text b) fs gs tt refl (fa.no_nul, fa.short) (fb.no_nul, fb.short) t in
    let e = h.0 in
    (cc, h.1)

-- ---- items and lists of them

-- two items that fit and are before the same bytes are one
abbrev One : {A : Type 0} → (A → List Field) → (A → Type 0) → Type 0
One {A} fields P =
    (order : Order) (a b : A) (fs gs : List Field) (bx by : List ℕ) → P a → P b → Tails order (fields a ++ fs) (fields b ++ gs) bx by → (a ≡ b) × Tails order fs gs bx by

tagged_one : One tagged_fields FitsTagged
tagged_one order a b fs gs bx by fa fb t =
    let tag = number_one w32 a.tag b.tag (octets_fields a.bytes ++ fs) (octets_fields b.bytes ++ gs) (lit< tt) fa.0 fb.0 t in
    let bytes = octets_one a.bytes b.bytes fs gs fa.1 fb.1 tag.1 in
    (λ i. record { tag = tag.0 i; bytes = bytes.0 i }, bytes.1)

context_one : One context_fields FitsContext
context_one order a b fs gs bx by fa fb t =
    let id = number_one w32 a.id b.id (octets_fields a.bytes ++ fs) (octets_fields b.bytes ++ gs) (lit< tt) fa.0 fb.0 t in
    let bytes = octets_one a.bytes b.bytes fs gs fa.1 fb.1 id.1 in
    (λ i. record { id = id.0 i; bytes = bytes.0 i }, bytes.1)

items_one : {A : Type 0} (fields : A → List Field) (P : A → Type 0) → One fields P → (order : Order) (s r : List A) (fs gs : List Field) (bx by : List ℕ)
    → length s ≡ length r → AllByRecursion P s → AllByRecursion P r → Tails order (flat_map fields s ++ fs) (flat_map fields r ++ gs) bx by → (s ≡ r) × Tails order fs gs bx by
items_one fields P one order [] [] fs gs bx by len ps pr t = (refl, t)
items_one {A} fields P one order (a ∷ s) (b ∷ r) fs gs bx by len ps pr t =
    let h = one order a b (flat_map fields s ++ fs) (flat_map fields r ++ gs) bx by ps.0 pr.0 (grouped (fields a) (flat_map fields s) fs (fields b) (flat_map fields r) gs t) in
    let rest = items_one fields P one order s r fs gs bx by (omega arith) ps.1 pr.1 h.1 in
    let e = h.0 in
    let f = rest.0 in
    (cc, rest.1)
items_one fields P one order s r fs gs bx by len ps pr t = absurd (omega (arith, len))

counted_one : {A : Type 0} (fields : A → List Field) (P : A → Type 0) → One fields P → (order : Order) (s r : List A) (fs gs : List Field) (bx by : List ℕ)
    → length s < 2 ^ 32 → length r < 2 ^ 32 → AllByRecursion P s → AllByRecursion P r
    → Tails order (number w32 (length s) ∷ (flat_map fields s ++ fs)) (number w32 (length r) ∷ (flat_map fields r ++ gs)) bx by → (s ≡ r) × Tails order fs gs bx by
counted_one fields P one order s r fs gs bx by few_s few_r ps pr t =
    let n = number_one w32 (length s) (length r) (flat_map fields s ++ fs) (flat_map fields r ++ gs) (lit< tt) few_s few_r t in
    items_one fields P one order s r fs gs bx by n.0 ps pr n.1

contexts_one : One contexts_fields FitContexts
contexts_one order s r fs gs bx by fs_fit fr_fit t =
    counted_one context_fields FitsContext context_one order s r fs gs bx by fs_fit.0 fr_fit.0 fs_fit.1 fr_fit.1 t

-- ---- targets

-- a target's form, and its fields after that number
abbrev form_of : Target → ℕ
form_of (key _) = 0
form_of (profile _) = 1
form_of (addressing _ _ _) = 2

abbrev form_rest : Target → List Field
form_rest (key bytes) = octets_fields bytes
form_rest (profile t) = tagged_fields t
form_rest (addressing index type_id profiles) = number w32 index ∷ string_fields type_id ++ number w32 (length profiles) ∷ flat_map tagged_fields profiles

target_one : One target_fields FitsTarget
target_one order (key a) (key b) fs gs bx by fa fb t =
    let form = number_one w16 0 0 (octets_fields a ++ fs) (octets_fields b ++ gs) (lit< tt) (lit< tt) (lit< tt) t in
    let h = octets_one a b fs gs fa fb form.1 in
    (ap key h.0, h.1)
target_one order (profile a) (profile b) fs gs bx by fa fb t =
    let form = number_one w16 1 1 (tagged_fields a ++ fs) (tagged_fields b ++ gs) (lit< tt) (lit< tt) (lit< tt) t in
    let h = tagged_one order a b fs gs bx by fa fb form.1 in
    (ap profile h.0, h.1)
target_one order (addressing i a s) (addressing j b r) fs gs bx by fa fb t =
    let profiles_s : List Field = number w32 (length s) ∷ (flat_map tagged_fields s ++ fs) in
    let profiles_r : List Field = number w32 (length r) ∷ (flat_map tagged_fields r ++ gs) in
    let form = number_one w16 2 2 (number w32 i ∷ (string_fields a ++ profiles_s)) (number w32 j ∷ (string_fields b ++ profiles_r)) (lit< tt) (lit< tt) (lit< tt) t in
    let index = number_one w32 i j (string_fields a ++ profiles_s) (string_fields b ++ profiles_r) (lit< tt) fa.0 fb.0 form.1 in
    let type_id = text_one a b profiles_s profiles_r fa.1 fb.1 index.1 in
    let profiles = counted_one tagged_fields FitsTagged tagged_one order s r fs gs bx by fa.2 fb.2 fa.3 fb.3 type_id.1 in
    (λ k. addressing (index.0 k) (type_id.0 k) (profiles.0 k), profiles.1)
target_one order a b fs gs bx by fa fb t =
    let form = number_one w16 (form_of a) (form_of b) (form_rest a ++ fs) (form_rest b ++ gs) (lit< tt) (lit< tt) (lit< tt) t in
    absurd (omega (arith, form.0))

-- ---- messages

request_one : {order : Order} {bx by : List ℕ} (u v : List ℕ) (r s : Request) → length u ≡ length v → FitsRequest r → FitsRequest s
    → Tails order (named_fields u (request r)) (named_fields v (request s)) bx by → (r.body ≡ s.body → r ≡ s) × (bx ≡ by)
request_one u v r s len fr fs t =
    let target_r : List Field = target_fields r.target in
    let target_s : List Field = target_fields s.target in
    let text_r : List Field = string_fields r.operation in
    let text_s : List Field = string_fields s.operation in
    let contexts_r : List Field = contexts_fields r.contexts in
    let contexts_s : List Field = contexts_fields s.contexts in
    let behind_r : List Field = run 1 u ∷ (target_r ++ text_r ++ contexts_r) in
    let behind_s : List Field = run 1 v ∷ (target_s ++ text_s ++ contexts_s) in
    let id = number_one w32 r.id s.id (number w8 r.flags ∷ behind_r) (number w8 s.flags ∷ behind_s) (lit< tt) fr.id fs.id t in
    let flags = number_one w8 r.flags s.flags behind_r behind_s (lit< tt) fr.flags fs.flags id.1 in
    let three = run_one u v (target_r ++ text_r ++ contexts_r) (target_s ++ text_s ++ contexts_s) len flags.1 in
    let target = target_one _ r.target s.target (text_r ++ contexts_r) (text_s ++ contexts_s) _ _ fr.target fs.target (grouped target_r text_r contexts_r target_s text_s contexts_s three) in
    let operation = text_one r.operation s.operation contexts_r contexts_s fr.operation fs.operation target.1 in
    let contexts = contexts_one _ r.contexts s.contexts [] [] _ _ fr.contexts fs.contexts (with_end operation.1) in
    (λ body i. record { id = id.0 i; flags = flags.0 i; target = target.0 i; operation = operation.0 i; contexts = contexts.0 i; body = body i }, ends contexts.1)

reply_one : {order : Order} {bx by : List ℕ} (u v : List ℕ) (r s : Reply) → FitsReply r → FitsReply s
    → Tails order (named_fields u (reply r)) (named_fields v (reply s)) bx by → (r.body ≡ s.body → r ≡ s) × (bx ≡ by)
reply_one u v r s fr fs t =
    let id = number_one w32 r.id s.id (number w32 r.status ∷ contexts_fields r.contexts) (number w32 s.status ∷ contexts_fields s.contexts) (lit< tt) fr.id fs.id t in
    let status = number_one w32 r.status s.status (contexts_fields r.contexts) (contexts_fields s.contexts) (lit< tt) (omega (arith, fr.status)) (omega (arith, fs.status)) id.1 in
    let contexts = contexts_one _ r.contexts s.contexts [] [] _ _ fr.contexts fs.contexts (with_end status.1) in
    (λ body i. record { id = id.0 i; status = status.0 i; contexts = contexts.0 i; body = body i }, ends contexts.1)

cancel_one : {order : Order} {bx by : List ℕ} (a b : ℕ) → a < 2 ^ 32 → b < 2 ^ 32 → Tails order (number w32 a ∷ []) (number w32 b ∷ []) bx by → a ≡ b
cancel_one a b fa fb t = (number_one w32 a b [] [] (lit< tt) fa fb t).0

locate_one : {order : Order} {bx by : List ℕ} (r s : Locate) → FitsLocate r → FitsLocate s
    → Tails order (number w32 r.id ∷ target_fields r.target) (number w32 s.id ∷ target_fields s.target) bx by → r ≡ s
locate_one r s fr fs t =
    let id = number_one w32 r.id s.id (target_fields r.target) (target_fields s.target) (lit< tt) fr.id fs.id t in
    let target = target_one _ r.target s.target [] [] _ _ fr.target fs.target (with_end id.1) in
    λ i. record { id = id.0 i; target = target.0 i }

located_one : {order : Order} {bx by : List ℕ} (r s : Located) → FitsLocated r → FitsLocated s
    → Tails order (number w32 r.id ∷ number w32 r.status ∷ []) (number w32 s.id ∷ number w32 s.status ∷ []) bx by → r ≡ s
located_one r s fr fs t =
    let id = number_one w32 r.id s.id (number w32 r.status ∷ []) (number w32 s.status ∷ []) (lit< tt) fr.id fs.id t in
    let status = number_one w32 r.status s.status [] [] (lit< tt) fr.status fs.status id.1 in
    λ i. record { id = id.0 i; status = status.0 i }

-- one body after one spelling
body_one : (a b x y u v : List ℕ) → u ≡ v → x ++ u ≡ y ++ v → a ≡ drop (pad_len 8 (12 + length x)) u → b ≡ drop (pad_len 8 (12 + length y)) v → a ≡ b
body_one a b x y u v behind all ea eb =
    let front : x ≡ y = append_cancel_right x y v (ap (λ (z : List ℕ). x ++ z) (sym behind) ∙ all) in
    ea ∙ ap (λ (z : List ℕ). drop (pad_len 8 (12 + length x)) z) behind ∙ ap (λ (z : List ℕ). drop (pad_len 8 (12 + length z)) v) front ∙ sym eb

-- the named fields of two messages in the same bytes
both : {order : Order} {m n : Message} {bytes : List ℕ} (p : ReadsIn order m bytes) (q : ReadsIn order n bytes) → p.named ++ p.rest ≡ q.named ++ q.rest
    → Tails order (named_fields p.reserved m) (named_fields q.reserved n) p.rest q.rest
both p q all = record { place = 12; x = p.named; y = q.named; spelled_x = p.fields; spelled_y = q.fields; same = all }

-- in one order, after headers of one kind
message_one : (order : Order) (m n : Message) (bytes : List ℕ) (p : ReadsIn order m bytes) (q : ReadsIn order n bytes) → kind_of m ≡ kind_of n
    → p.named ++ p.rest ≡ q.named ++ q.rest → m ≡ n
message_one order (request r) (request s) bytes p q kinds all =
    let h = request_one p.reserved q.reserved r s (p.three ∙ sym q.three) p.fits q.fits (both p q all) in
    ap request (h.0 (body_one r.body s.body p.named q.named p.rest q.rest h.1 all p.body q.body))
message_one order (reply r) (reply s) bytes p q kinds all =
    let h = reply_one p.reserved q.reserved r s p.fits q.fits (both p q all) in
    ap reply (h.0 (body_one r.body s.body p.named q.named p.rest q.rest h.1 all p.body q.body))
message_one order (cancel a) (cancel b) bytes p q kinds all = ap cancel (cancel_one a b p.fits q.fits (both p q all))
message_one order (locate r) (locate s) bytes p q kinds all = ap locate (locate_one r s p.fits q.fits (both p q all))
message_one order (located r) (located s) bytes p q kinds all = ap located (located_one r s p.fits q.fits (both p q all))
message_one order close close bytes p q kinds all = refl
message_one order error error bytes p q kinds all = refl
message_one order m n bytes p q kinds all = absurd (omega (arith, kinds))

-- ---- headers

-- what one header says
pub record Heads (o z : Order) (f g k l s r : ℕ) (x y : List ℕ) : Type 0 where
  pub flags : f ≡ g
  pub kinds : k ≡ l
  pub sized : number_bytes o w32 s ++ x ≡ number_bytes z w32 r ++ y

pub heads : (o z : Order) (f g k l s r : ℕ) (x y : List ℕ) → header o f k s ++ x ≡ header z g l r ++ y → Heads o z f g k l s r x y
heads o z f g k l s r x y e = record { flags = cc; kinds = cc; sized = cc }

pub behind_heads : (o z : Order) (s r : ℕ) (x y : List ℕ) → number_bytes o w32 s ++ x ≡ number_bytes z w32 r ++ y → x ≡ y
behind_heads o z s r x y e =
    sym (drop_at (number_bytes o w32 s) x 4 (length-number_bytes o w32 s)) ∙ ap (drop 4) e ∙ drop_at (number_bytes z w32 r) y 4 (length-number_bytes z w32 r)

pub flag_order : (o z : Order) → order_byte o ≡ order_byte z → o ≡ z
flag_order Big Big e = refl
flag_order Little Little e = refl
flag_order o z e = absurd (omega (arith, e))

pub order_one : (o z : Order) (m n : Message) (bytes : List ℕ) → ReadsIn o m bytes → ReadsIn z n bytes → z ≡ o
order_one o z m n bytes p q =
    let h = heads o z p.flags q.flags (kind_of m) (kind_of n) (length (p.named ++ p.rest)) (length (q.named ++ q.rest)) (p.named ++ p.rest) (q.named ++ q.rest) (sym p.parts ∙ q.parts) in
    flag_order z o (sym q.order_bit ∙ ap (λ (f : ℕ). f % 2) (sym h.flags) ∙ p.order_bit)

in_one_order : (order : Order) (m n : Message) (bytes : List ℕ) → ReadsIn order m bytes → ReadsIn order n bytes → m ≡ n
in_one_order o m n bytes p q =
    let x : List ℕ = p.named ++ p.rest in
    let y : List ℕ = q.named ++ q.rest in
    let h = heads o o p.flags q.flags (kind_of m) (kind_of n) (length x) (length y) x y (sym p.parts ∙ q.parts) in
    message_one o m n bytes p q h.kinds (behind_heads o o (length x) (length y) x y h.sized)

pub reads_one_way : (m n : Message) (bytes : List ℕ) → Reads m bytes → Reads n bytes → m ≡ n
reads_one_way m n bytes p q =
    in_one_order p.0 m n bytes p.1 (subst (λ (o : Order). ReadsIn o n bytes) (order_one p.0 q.0 m n bytes p.1 q.1) q.1)
