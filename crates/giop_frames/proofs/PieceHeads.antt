-- What the header of a piece that is cut from a message says.
use Rattle.std.proofs.Common.{◌≡◌, ℕ, ◌+◌, ◌/◌, ◌%◌, ◌^◌, ◌<◌, ◌≤◌, ◌==◌, Bool, true, false, cond, List, [], ◌∷◌, ◌++◌, length, take, drop, refl, ap, sym, ◌∙◌, subst, arith, append_assoc, length-append, length-drop}
use Rattle.std.specs.Prelude.{slice_index, if◌then◌else◌}
use Rattle.std.specs.Int.{w32}
use Rattle.std.proofs.lemmas.List.{take-append-drop, length-take-le, drop-drop}
use Rattle.std.proofs.Math.Seq.{drop-append_seam}
use Rattle.orb_base.specs.declared.order.Order.{Order}
use Rattle.orb_base.specs.declared.order.Order.TheVariants.{Big, Little}
use Rattle.cdr_core.specs.Field.{number_bytes}
use Rattle.cdr_core.specs.Reading.{number_of}
use Rattle.cdr_core.proofs.Numbers.{number_again}
use Rattle.cdr_core.proofs.CallerLemmas.{length-number_bytes}
use Rattle.giop_frames.specs.Pieces.{order_of, has_more, kind_of, piece_len, id_of}
use Rattle.giop_frames.specs.Headers.{has_magic, has_version}
use Rattle.giop_frames.specs.Splitting.{IsUncut, piece_of}
use Rattle.giop_frames.proofs.Sealing.{front_is}

-- a piece of its parts: the magic and the version, the flags, the kind, the size, the body
abbrev pub laid : List ℕ → ℕ → ℕ → List ℕ → List ℕ → List ℕ
laid w f k s body = w ++ f ∷ k ∷ s ++ body

pub by_six : (P : List ℕ → Type 0) (w : List ℕ) → length w ≡ 6 → ((a b c d e g : ℕ) → P (a ∷ b ∷ c ∷ d ∷ e ∷ g ∷ [])) → P w
by_six P [] l h = absurd (omega arith)
by_six P (a ∷ []) l h = absurd (omega arith)
by_six P (a ∷ b ∷ []) l h = absurd (omega arith)
by_six P (a ∷ b ∷ c ∷ []) l h = absurd (omega arith)
by_six P (a ∷ b ∷ c ∷ d ∷ []) l h = absurd (omega arith)
by_six P (a ∷ b ∷ c ∷ d ∷ e ∷ []) l h = absurd (omega arith)
by_six P (a ∷ b ∷ c ∷ d ∷ e ∷ g ∷ []) l h = h a b c d e g
by_six P (a ∷ b ∷ c ∷ d ∷ e ∷ g ∷ i ∷ w) l h = absurd (omega arith)

pub flags_at : (w : List ℕ) (f k : ℕ) (s body : List ℕ) → length w ≡ 6 → slice_index (laid w f k s body) 6 ≡ f
flags_at w f k s body l = let P : List ℕ → Type 0 = λ x. slice_index (laid x f k s body) 6 ≡ f in by_six P w l (λ a b c d e g. refl)

pub kind_at : (w : List ℕ) (f k : ℕ) (s body : List ℕ) → length w ≡ 6 → slice_index (laid w f k s body) 7 ≡ k
kind_at w f k s body l = let P : List ℕ → Type 0 = λ x. slice_index (laid x f k s body) 7 ≡ k in by_six P w l (λ a b c d e g. refl)

from_eight : (w : List ℕ) (f k : ℕ) (s body : List ℕ) → length w ≡ 6 → drop 8 (laid w f k s body) ≡ s ++ body
from_eight w f k s body l = let P : List ℕ → Type 0 = λ x. drop 8 (laid x f k s body) ≡ s ++ body in by_six P w l (λ a b c d e g. refl)

pub from_twelve : (w : List ℕ) (f k : ℕ) (s body : List ℕ) → length w ≡ 6 → drop 12 (laid w f k s body) ≡ drop 4 (s ++ body)
from_twelve w f k s body l = let P : List ℕ → Type 0 = λ x. drop 12 (laid x f k s body) ≡ drop 4 (s ++ body) in by_six P w l (λ a b c d e g. refl)

pub first_six : (w : List ℕ) (x : List ℕ) → length w ≡ 6 → take 6 (w ++ x) ≡ w
first_six w x l = front_is 6 w x (sym l)

magic_by : (w : List ℕ) (f k : ℕ) (s body : List ℕ) → length w ≡ 6 → has_magic (laid w f k s body) ≡ has_magic w
unfolding has_magic
magic_by w f k s body l = let P : List ℕ → Type 0 = λ x. has_magic (laid x f k s body) ≡ has_magic x in by_six P w l (λ a b c d e g. refl)

version_by : (w : List ℕ) (f k : ℕ) (s body : List ℕ) → length w ≡ 6 → has_version (laid w f k s body) ≡ has_version w
unfolding has_version
version_by w f k s body l = let P : List ℕ → Type 0 = λ x. has_version (laid x f k s body) ≡ has_version x in by_six P w l (λ a b c d e g. refl)

pub back_is : (n : ℕ) (w x : List ℕ) → n ≡ length w → drop n (w ++ x) ≡ x
back_is n w x e = ap (λ (k : ℕ). drop k (w ++ x)) e ∙ drop-append_seam w x

pub laid_length : (w : List ℕ) (f k : ℕ) (s body : List ℕ) → length w ≡ 6 → length s ≡ 4 → length (laid w f k s body) ≡ 12 + length body
laid_length w f k s body l m =
    let P : List ℕ → Type 0 = λ x. length (laid x f k s body) ≡ 12 + length body in
    by_six P w l (λ a b c d e g. omega (arith, length-append s body))

-- the fragment bit leaves the order alone
same_parity : (g : ℕ) (more : Bool) → (g + (if more then 2 else 0)) % 2 ≡ g % 2
same_parity g true = omega arith
same_parity g false = omega arith

more_bit : (g : ℕ) (more : Bool) → (g / 2 % 2 == 1) ≡ false → ((g + (if more then 2 else 0)) / 2 % 2 == 1) ≡ more
more_bit g true h = grind arith
more_bit g false h = grind arith

-- what a piece of a message is like
pub record IsPieceOf (message : List ℕ) (more : Bool) (kind : ℕ) (bytes p : List ℕ) : Type 0 where
  pub long : length p ≡ 16 + length bytes
  pub order : order_of p ≡ order_of message
  pub bit : has_more p ≡ more
  pub kind_is : kind_of p ≡ kind
  pub size : length p ≡ piece_len p
  pub magic : has_magic p ≡ true
  pub version : has_version p ≡ true
  pub id : id_of p ≡ id_of message
  pub adds : drop 16 p ≡ bytes

order_by : (message p : List ℕ) (more : Bool) → slice_index p 6 ≡ slice_index message 6 + (if more then 2 else 0) → order_of p ≡ order_of message
unfolding order_of
order_by message p more e =
    ap (λ (n : ℕ). cond (n % 2 == 1) Little Big) e
    ∙ ap (λ (n : ℕ). cond (n == 1) Little Big) (same_parity (slice_index message 6) more)

bit_by : (message p : List ℕ) (more : Bool) → slice_index p 6 ≡ slice_index message 6 + (if more then 2 else 0) → has_more message ≡ false → has_more p ≡ more
unfolding has_more
bit_by message p more e h = ap (λ (n : ℕ). n / 2 % 2 == 1) e ∙ more_bit (slice_index message 6) more h

kind_by : (p : List ℕ) (k : ℕ) → slice_index p 7 ≡ k → kind_of p ≡ k
unfolding kind_of
kind_by p k e = e

size_by : (p : List ℕ) (n : ℕ) (o : Order) → order_of p ≡ o → take 4 (drop 8 p) ≡ number_bytes o w32 n → n < 2 ^ 32 → piece_len p ≡ 12 + n
unfolding piece_len
size_by p n o ho hs lt =
    ap (λ (x : Order). 12 + number_of x w32 (take 4 (drop 8 p))) ho ∙ ap (λ (x : List ℕ). 12 + number_of o w32 x) hs
    ∙ ap (λ (k : ℕ). 12 + k) (number_again o w32 n (omega arith) (omega arith))

id_by : (p body : List ℕ) (o : Order) → order_of p ≡ o → drop 12 p ≡ body → id_of p ≡ number_of o w32 (take 4 body)
unfolding id_of
id_by p body o ho hb = ap (λ (x : Order). number_of x w32 (take 4 (drop 12 p))) ho ∙ ap (λ (x : List ℕ). number_of o w32 (take 4 x)) hb

pub six_of : (message : List ℕ) → 16 ≤ length message → length (take 6 message) ≡ 6
six_of message h = length-take-le 6 message (omega arith)

magic_front : (w x : List ℕ) → length w ≡ 6 → has_magic (w ++ x) ≡ has_magic w
unfolding has_magic
magic_front w x l = let P : List ℕ → Type 0 = λ y. has_magic (y ++ x) ≡ has_magic y in by_six P w l (λ a b c d e g. refl)

version_front : (w x : List ℕ) → length w ≡ 6 → has_version (w ++ x) ≡ has_version w
unfolding has_version
version_front w x l = let P : List ℕ → Type 0 = λ y. has_version (y ++ x) ≡ has_version y in by_six P w l (λ a b c d e g. refl)

magic_of : (message : List ℕ) → 16 ≤ length message → has_magic (take 6 message) ≡ has_magic message
magic_of message h = sym (magic_front (take 6 message) (drop 6 message) (six_of message h)) ∙ ap has_magic (take-append-drop 6 message)

version_of : (message : List ℕ) → 16 ≤ length message → has_version (take 6 message) ≡ has_version message
version_of message h = sym (version_front (take 6 message) (drop 6 message) (six_of message h)) ∙ ap has_version (take-append-drop 6 message)

id_in : (message : List ℕ) → id_of message ≡ number_of (order_of message) w32 (take 4 (drop 12 message))
unfolding id_of
id_in message = refl

pub id_length : (message : List ℕ) → 16 ≤ length message → length (take 4 (drop 12 message)) ≡ 4
id_length message h = length-take-le 4 (drop 12 message) (omega (arith, length-drop 12 message))

-- the body is the id and the bytes
pub piece_laid : (message : List ℕ) (more : Bool) (kind : ℕ) (bytes : List ℕ) → piece_of message more kind bytes
    ≡ laid (take 6 message) (slice_index message 6 + (if more then 2 else 0)) kind (number_bytes (order_of message) w32 (4 + length bytes)) (take 4 (drop 12 message) ++ bytes)
unfolding piece_of
piece_laid message more kind bytes =
    append_assoc (take 6 message ++ (slice_index message 6 + (if more then 2 else 0)) ∷ kind ∷ number_bytes (order_of message) w32 (4 + length bytes)) (take 4 (drop 12 message)) bytes

laid_piece : (message : List ℕ) (more : Bool) (kind : ℕ) (bytes : List ℕ) → IsUncut message → 4 + length bytes < 2 ^ 32
    → IsPieceOf message more kind bytes
    (laid (take 6 message) (slice_index message 6 + (if more then 2 else 0)) kind (number_bytes (order_of message) w32 (4 + length bytes)) (take 4 (drop 12 message) ++ bytes))
laid_piece message more kind bytes u lt =
    let w : List ℕ = take 6 message in
    let f : ℕ = slice_index message 6 + (if more then 2 else 0) in
    let s : List ℕ = number_bytes (order_of message) w32 (4 + length bytes) in
    let id : List ℕ = take 4 (drop 12 message) in
    let body : List ℕ = id ++ bytes in
    let p : List ℕ = laid w f kind s body in
    let six : length w ≡ 6 = six_of message u.id in
    let four : length s ≡ 4 = length-number_bytes (order_of message) w32 (4 + length bytes) in
    let ids : length id ≡ 4 = id_length message u.id in
    let order : order_of p ≡ order_of message = order_by message p more (flags_at w f kind s body six) in
    let long : length p ≡ 16 + length bytes = omega (arith, laid_length w f kind s body six four, length-append id bytes) in
    let rest : drop 12 p ≡ body = from_twelve w f kind s body six ∙ back_is 4 s body (sym four) in
    let size : piece_len p ≡ 12 + (4 + length bytes) =
    size_by p (4 + length bytes) (order_of message) order (ap (λ (x : List ℕ). take 4 x) (from_eight w f kind s body six) ∙ front_is 4 s body (sym four)) lt in
    record {
      long = long;
      order = order;
      bit = bit_by message p more (flags_at w f kind s body six) u.alone;
      kind_is = kind_by p kind (kind_at w f kind s body six);
      size = omega (arith, size, long);
      magic = magic_by w f kind s body six ∙ magic_of message u.id ∙ u.magic;
      version = version_by w f kind s body six ∙ version_of message u.id ∙ u.version;
      id = id_by p body (order_of message) order rest ∙ ap (λ (x : List ℕ). number_of (order_of message) w32 x) (front_is 4 id bytes (sym ids)) ∙ sym (id_in message);
      adds = sym (drop-drop 4 12 p) ∙ ap (λ (x : List ℕ). drop 4 x) rest ∙ back_is 4 id bytes (sym ids);
    }

pub piece_is : (message : List ℕ) (more : Bool) (kind : ℕ) (bytes : List ℕ) → IsUncut message → 4 + length bytes < 2 ^ 32
    → IsPieceOf message more kind bytes (piece_of message more kind bytes)
piece_is message more kind bytes u lt =
    let P : List ℕ → Type 0 = λ x. IsPieceOf message more kind bytes x in subst P (sym (piece_laid message more kind bytes)) (laid_piece message more kind bytes u lt)
