-- The header of a message, as its bytes spell it.
use Rattle.std.proofs.Common.{◌≡◌, ℕ, ◌+◌, ◌/◌, ◌%◌, ◌^◌, ◌<◌, ◌≤◌, true, false, ◌==◌, ◌&&◌, cond, Bool, List, [], ◌∷◌, ◌++◌, length, refl, sym, ap, ◌∙◌, subst, arith, length-append}
use Rattle.std.specs.Int.{w32, byte_len}
use Rattle.std.proofs.lemmas.List.{take_at}
use Rattle.orb_base.specs.declared.limits.TheConstants.{MAX_MESSAGE}
use Rattle.orb_base.specs.declared.order.Order.{Order}
use Rattle.orb_base.specs.declared.order.Order.TheVariants.{Big, Little}
use Rattle.cdr_core.specs.Field.{number_bytes}
use Rattle.cdr_core.specs.Cursor.{AreBytes}
use Rattle.cdr_core.specs.Reading.{number_of}
use Rattle.cdr_core.proofs.Numbers.{number_back}
use Rattle.cdr_core.proofs.Parts.{AreBytes-drop, AreBytes-take}
use Rattle.giop_frames.specs.Messages as Frames
use Rattle.giop_frames.specs.Pieces.{order_of, has_more, kind_of, piece_len}
use Rattle.giop_frames.specs.Headers.{has_magic, has_version}
use Rattle.cdr_core.specs.Encapsulation.{order_byte}
use Rattle.giop_messages.specs.Layout.{header}
use Rattle.giop_messages.specs.MessageReading.{IsMessage}

-- a header before what it counts
pub record IsHeaded (m : Frames.Message) : Type 0 where
  pub flags : ℕ
  pub behind : List ℕ
  pub octet : flags < 2 ^ 8
  pub order_bit : flags % 2 ≡ order_byte m.order
  pub unfragmented : flags / 2 % 2 ≡ 0
  pub few_kinds : m.kind ≤ 6
  pub long : 12 ≤ length m.bytes
  pub short : length m.bytes ≤ MAX_MESSAGE
  pub parts : m.bytes ≡ header m.order flags m.kind (length behind) ++ behind

-- the first twelve bytes, and those after them
pub record Twelve (bytes : List ℕ) : Type 0 where
  pub b0 : ℕ
  pub b1 : ℕ
  pub b2 : ℕ
  pub b3 : ℕ
  pub b4 : ℕ
  pub b5 : ℕ
  pub flags : ℕ
  pub kind : ℕ
  pub size : List ℕ
  pub behind : List ℕ
  pub four : length size ≡ 4
  pub parts : bytes ≡ b0 ∷ b1 ∷ b2 ∷ b3 ∷ b4 ∷ b5 ∷ flags ∷ kind ∷ size ++ behind

pub twelve : (bytes : List ℕ) → 12 ≤ length bytes → Twelve bytes
twelve [] h = absurd (omega arith)
twelve (b0 ∷ []) h = absurd (omega arith)
twelve (b0 ∷ b1 ∷ []) h = absurd (omega arith)
twelve (b0 ∷ b1 ∷ b2 ∷ []) h = absurd (omega arith)
twelve (b0 ∷ b1 ∷ b2 ∷ b3 ∷ []) h = absurd (omega arith)
twelve (b0 ∷ b1 ∷ b2 ∷ b3 ∷ b4 ∷ []) h = absurd (omega arith)
twelve (b0 ∷ b1 ∷ b2 ∷ b3 ∷ b4 ∷ b5 ∷ []) h = absurd (omega arith)
twelve (b0 ∷ b1 ∷ b2 ∷ b3 ∷ b4 ∷ b5 ∷ b6 ∷ []) h = absurd (omega arith)
twelve (b0 ∷ b1 ∷ b2 ∷ b3 ∷ b4 ∷ b5 ∷ b6 ∷ b7 ∷ []) h = absurd (omega arith)
twelve (b0 ∷ b1 ∷ b2 ∷ b3 ∷ b4 ∷ b5 ∷ b6 ∷ b7 ∷ b8 ∷ []) h = absurd (omega arith)
twelve (b0 ∷ b1 ∷ b2 ∷ b3 ∷ b4 ∷ b5 ∷ b6 ∷ b7 ∷ b8 ∷ b9 ∷ []) h = absurd (omega arith)
twelve (b0 ∷ b1 ∷ b2 ∷ b3 ∷ b4 ∷ b5 ∷ b6 ∷ b7 ∷ b8 ∷ b9 ∷ b10 ∷ []) h = absurd (omega arith)
twelve (b0 ∷ b1 ∷ b2 ∷ b3 ∷ b4 ∷ b5 ∷ b6 ∷ b7 ∷ b8 ∷ b9 ∷ b10 ∷ b11 ∷ behind) h = record {
  b0 = b0;
  b1 = b1;
  b2 = b2;
  b3 = b3;
  b4 = b4;
  b5 = b5;
  flags = b6;
  kind = b7;
  size = b8 ∷ b9 ∷ b10 ∷ b11 ∷ [];
  behind = behind;
  four = refl;
  parts = refl;
}

abbrev pub joined : {bytes : List ℕ} → Twelve bytes → List ℕ
joined t = t.b0 ∷ t.b1 ∷ t.b2 ∷ t.b3 ∷ t.b4 ∷ t.b5 ∷ t.flags ∷ t.kind ∷ t.size ++ t.behind

both_hold : (a b : Bool) → (a && b) ≡ true → (a ≡ true) × (b ≡ true)
both_hold true b h = (refl, h)
both_hold false b h = absurd cc

pub is_number : (n k : ℕ) → (n == k) ≡ true → n ≡ k
is_number n k h = grind arith

pub magic_is : {bytes : List ℕ} (t : Twelve bytes) → has_magic (joined t) ≡ true → (t.b0 ≡ 71) × (t.b1 ≡ 73) × (t.b2 ≡ 79) × (t.b3 ≡ 80)
unfolding has_magic
magic_is t h =
    let a = both_hold (71 == t.b0) _ h in
    let b = both_hold (73 == t.b1) _ a.1 in
    let c = both_hold (79 == t.b2) _ b.1 in
    let d = both_hold (80 == t.b3) _ c.1 in
    (sym (is_number 71 t.b0 a.0), sym (is_number 73 t.b1 b.0), sym (is_number 79 t.b2 c.0), sym (is_number 80 t.b3 d.0))

pub version_is : {bytes : List ℕ} (t : Twelve bytes) → has_version (joined t) ≡ true → (t.b4 ≡ 1) × (t.b5 ≡ 2)
unfolding has_version
version_is t h = let a = both_hold (t.b4 == 1) _ h in (is_number t.b4 1 a.0, is_number t.b5 2 a.1)

flag_by : (n : ℕ) (b : Bool) → (n % 2 == 1) ≡ b → n % 2 ≡ order_byte (cond b Little Big)
flag_by n true h = is_number (n % 2) 1 h
flag_by n false h = grind arith

pub order_bit : {bytes : List ℕ} (t : Twelve bytes) (order : Order) → order_of (joined t) ≡ order → t.flags % 2 ≡ order_byte order
unfolding order_of
order_bit t order h = flag_by t.flags (t.flags % 2 == 1) refl ∙ ap order_byte h

not_one : (n : ℕ) → (n % 2 == 1) ≡ false → n % 2 ≡ 0
not_one n h = grind arith

pub more_bit : {bytes : List ℕ} (t : Twelve bytes) → has_more (joined t) ≡ false → t.flags / 2 % 2 ≡ 0
unfolding has_more
more_bit t h = not_one (t.flags / 2) h

pub kind_is : {bytes : List ℕ} (t : Twelve bytes) → kind_of (joined t) ≡ t.kind
unfolding kind_of
kind_is t = refl

pub size_is : {bytes : List ℕ} (t : Twelve bytes) → piece_len (joined t) ≡ 12 + number_of (order_of (joined t)) w32 t.size
unfolding piece_len
size_is t = ap (λ (x : List ℕ). 12 + number_of (order_of (joined t)) w32 x) (take_at t.size t.behind 4 t.four)

size_bytes : (order its : Order) (size behind : List ℕ) → its ≡ order → length size ≡ 4 → AreBytes size → number_of its w32 size ≡ length behind
    → size ≡ number_bytes order w32 (length behind)
size_bytes order its size behind o four fits e =
    let short : byte_len w32 ≤ 8 = omega arith in
    sym (number_back order w32 size short four fits) ∙ ap (λ (k : Order). number_bytes order w32 (number_of k w32 size)) (sym o) ∙ ap (number_bytes order w32) e

same_front : {bytes : List ℕ} (t : Twelve bytes) (kind : ℕ) (size : List ℕ) → (t.b0 ≡ 71) × (t.b1 ≡ 73) × (t.b2 ≡ 79) × (t.b3 ≡ 80) → (t.b4 ≡ 1) × (t.b5 ≡ 2) → t.kind ≡ kind → t.size ≡ size
    → joined t ≡ 71 ∷ 73 ∷ 79 ∷ 80 ∷ 1 ∷ 2 ∷ t.flags ∷ kind ∷ size ++ t.behind
same_front t kind size m v k s = rw (m.0, m.1, m.2, m.3, v.0, v.1, k, s) refl

of : {A : Type 0} {bytes : List ℕ} (t : Twelve bytes) (f : List ℕ → A) → f (joined t) ≡ f bytes
of t f = ap f (sym t.parts)

-- octets that are a message have a header that counts what is after it
pub headed : (m : Frames.Message) → IsMessage m → AreBytes m.bytes → IsHeaded m
headed m i fits =
    let t = twelve m.bytes i.long in
    let order : order_of (joined t) ≡ m.order = of t order_of ∙ i.order in
    let octets : AreBytes (joined t) = subst AreBytes t.parts fits in
    let size_octets : AreBytes t.size = subst AreBytes (take_at t.size t.behind 4 t.four) (AreBytes-take 4 (t.size ++ t.behind) (AreBytes-drop 8 (joined t) octets)) in
    let counted : 12 + number_of (order_of (joined t)) w32 t.size ≡ 12 + length t.behind =
    sym (size_is t) ∙ of t piece_len ∙ i.size ∙ sym (of t length) ∙ omega (arith, length-append t.size t.behind, t.four) in
    let size : t.size ≡ number_bytes m.order w32 (length t.behind) = size_bytes m.order (order_of (joined t)) t.size t.behind order t.four size_octets (omega (arith, counted)) in
    record {
      flags = t.flags;
      behind = t.behind;
      octet = octets 6;
      order_bit = order_bit t m.order order;
      unfragmented = more_bit t (of t has_more ∙ i.unfragmented);
      few_kinds = i.few_kinds;
      long = i.long;
      short = i.short;
      parts = t.parts ∙ same_front t m.kind (number_bytes m.order w32 (length t.behind)) (magic_is t (of t has_magic ∙ i.magic)) (version_is t (of t has_version ∙ i.version)) (sym (kind_is t) ∙ of t kind_of ∙ i.kind) size;
    }
