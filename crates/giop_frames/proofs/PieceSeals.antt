-- The pieces of a message joined are the message.
use Rattle.std.proofs.Common.{◌≡◌, ℕ, ◌+◌, ◌-◌, ◌^◌, ◌<◌, ◌≤◌, true, List, ◌∷◌, ◌++◌, length, take, drop, refl, ap, sym, ◌∙◌, arith, append_assoc, length-drop, drop-cons}
use Rattle.std.specs.Prelude.{slice_index}
use Rattle.std.specs.Int.{w32}
use Rattle.std.proofs.lemmas.List.{take-append-drop, length-take-le, drop-drop}
use Rattle.orb_base.specs.declared.order.Order.{Order}
use Rattle.cdr_core.specs.Field.{number_bytes}
use Rattle.cdr_core.specs.Reading.{number_of}
use Rattle.cdr_core.specs.Cursor.{AreBytes}
use Rattle.cdr_core.proofs.Numbers.{number_back, number_below}
use Rattle.cdr_core.proofs.Parts.{AreBytes-drop, AreBytes-take}
use Rattle.cdr_core.proofs.CallerLemmas.{length-number_bytes}
use Rattle.giop_frames.specs.Pieces.{order_of, kind_of, piece_len}
use Rattle.giop_frames.specs.Messages.{sealed}
use Rattle.giop_frames.specs.Splitting.{IsUncut, first_piece}
use Rattle.giop_frames.proofs.PieceHeads.{laid, by_six, flags_at, kind_at, first_six, from_twelve, laid_length, six_of, back_is, piece_laid}

size_of : (message : List ℕ) → IsUncut message → length message ≡ 12 + number_of (order_of message) w32 (take 4 (drop 8 message))
unfolding piece_len
size_of message u = u.size

pub short_of : (message : List ℕ) → IsUncut message → AreBytes message → length message < 2 ^ 32 + 12
short_of message u b =
    omega (arith, size_of message u, number_below (order_of message) w32 (take 4 (drop 8 message)) (omega arith) (AreBytes-take 4 (drop 8 message) (AreBytes-drop 8 message b)))

-- the size that a message has is the one that its length asks for
size_again : (message : List ℕ) → IsUncut message → AreBytes message → number_bytes (order_of message) w32 (length message - 12) ≡ take 4 (drop 8 message)
size_again message u b =
    let s : List ℕ = take 4 (drop 8 message) in
    let four : length s ≡ 4 = length-take-le 4 (drop 8 message) (omega (arith, u.id, length-drop 8 message)) in
    let n : length message - 12 ≡ number_of (order_of message) w32 s = omega (arith, size_of message u) in
    ap (number_bytes (order_of message) w32) n
    ∙ number_back (order_of message) w32 s (omega arith) four (AreBytes-take 4 (drop 8 message) (AreBytes-drop 8 message b))

laid_cells : (w : List ℕ) (f k : ℕ) (s body : List ℕ) → length w ≡ 6 → laid w f k s body ≡ w ++ (f ∷ (k ∷ (s ++ body)))
laid_cells w f k s body l = let P : List ℕ → Type 0 = λ x. laid x f k s body ≡ x ++ (f ∷ (k ∷ (s ++ body))) in by_six P w l (λ a b c d e g. refl)

-- a message is laid of its parts
laid_parts : (message : List ℕ) → 16 ≤ length message
    → laid (take 6 message) (slice_index message 6) (slice_index message 7) (take 4 (drop 8 message)) (drop 12 message) ≡ message
laid_parts message h =
    laid_cells (take 6 message) (slice_index message 6) (slice_index message 7) (take 4 (drop 8 message)) (drop 12 message) (six_of message h)
    ∙ ap (λ (x : List ℕ). take 6 message ++ (slice_index message 6 ∷ (slice_index message 7 ∷ (take 4 (drop 8 message) ++ x)))) (sym (drop-drop 4 8 message))
    ∙ ap (λ (x : List ℕ). take 6 message ++ (slice_index message 6 ∷ (slice_index message 7 ∷ x))) (take-append-drop 4 (drop 8 message))
    ∙ ap (λ (x : List ℕ). take 6 message ++ (slice_index message 6 ∷ x)) (sym (drop-cons message 7 0 (omega arith)))
    ∙ ap (λ (x : List ℕ). take 6 message ++ x) (sym (drop-cons message 6 0 (omega arith)))
    ∙ take-append-drop 6 message

laid_more : (w : List ℕ) (f k : ℕ) (s body more : List ℕ) → laid w f k s body ++ more ≡ laid w f k s (body ++ more)
laid_more w f k s body more = append_assoc (w ++ (f ∷ k ∷ s)) body more

-- sealing puts the message's own flags and size back
seal_laid : (o : Order) (w : List ℕ) (f k n : ℕ) (s t body : List ℕ) → length w ≡ 6 → length s ≡ 4 → n ≡ length body → number_bytes o w32 n ≡ t
    → sealed o (laid w (f + 2) k s body) ≡ laid w f k t body
unfolding sealed
seal_laid o w f k n s t body six four len e =
    let p : List ℕ = laid w (f + 2) k s body in
    let size : length p - 12 ≡ n = omega (arith, laid_length w (f + 2) k s body six four) in
    let flags : slice_index p 6 - 2 ≡ f = omega (arith, flags_at w (f + 2) k s body six) in
    let front : take 6 p ≡ w = ap (take 6) (laid_cells w (f + 2) k s body six) ∙ first_six w ((f + 2) ∷ (k ∷ (s ++ body))) six in
    ap (λ (x : List ℕ). x ++ (slice_index p 6 - 2) ∷ slice_index p 7 ∷ number_bytes o w32 (length p - 12) ++ drop 12 p) front
    ∙ ap (λ (x : ℕ). w ++ x ∷ slice_index p 7 ∷ number_bytes o w32 (length p - 12) ++ drop 12 p) flags
    ∙ ap (λ (x : ℕ). w ++ f ∷ x ∷ number_bytes o w32 (length p - 12) ++ drop 12 p) (kind_at w (f + 2) k s body six)
    ∙ ap (λ (x : ℕ). w ++ f ∷ k ∷ number_bytes o w32 x ++ drop 12 p) size
    ∙ ap (λ (x : List ℕ). w ++ f ∷ k ∷ x ++ drop 12 p) e
    ∙ ap (λ (x : List ℕ). w ++ f ∷ k ∷ t ++ x) (from_twelve w (f + 2) k s body six ∙ back_is 4 s body (sym four))

kind_in : (message : List ℕ) → kind_of message ≡ slice_index message 7
unfolding kind_of
kind_in message = refl

-- what the first piece carries, and the further bytes
rest_is : (limit : ℕ) (message : List ℕ) → 24 ≤ limit → (take 4 (drop 12 message) ++ take (limit - 16) (drop 16 message)) ++ drop limit message ≡ drop 12 message
rest_is limit message least =
    let n : 16 + (limit - 16) ≡ limit = omega arith in
    append_assoc (take 4 (drop 12 message)) (take (limit - 16) (drop 16 message)) (drop limit message)
    ∙ ap (λ (k : ℕ). take 4 (drop 12 message) ++ (take (limit - 16) (drop 16 message) ++ drop k message)) (sym n)
    ∙ ap (λ (x : List ℕ). take 4 (drop 12 message) ++ (take (limit - 16) (drop 16 message) ++ x)) (sym (drop-drop (limit - 16) 16 message))
    ∙ ap (λ (x : List ℕ). take 4 (drop 12 message) ++ x) (take-append-drop (limit - 16) (drop 16 message))
    ∙ ap (λ (x : List ℕ). take 4 (drop 12 message) ++ x) (sym (drop-drop 4 12 message))
    ∙ take-append-drop 4 (drop 12 message)

-- the first piece and the further bytes, sealed, are the message
pub seals : (limit : ℕ) (message : List ℕ) → IsUncut message → AreBytes message → 24 ≤ limit → limit < length message
    → sealed (order_of message) (first_piece limit message ++ drop limit message) ≡ message
seals limit message u b least lt =
    let w : List ℕ = take 6 message in
    let g : ℕ = slice_index message 6 in
    let bytes : List ℕ = take (limit - 16) (drop 16 message) in
    let body : List ℕ = take 4 (drop 12 message) ++ bytes in
    let s : List ℕ = number_bytes (order_of message) w32 (4 + length bytes) in
    let t : List ℕ = take 4 (drop 8 message) in
    ap (λ (x : List ℕ). sealed (order_of message) (x ++ drop limit message)) (piece_laid message true (kind_of message) bytes)
    ∙ ap (sealed (order_of message)) (laid_more w (g + 2) (kind_of message) s body (drop limit message) ∙ ap (laid w (g + 2) (kind_of message) s) (rest_is limit message least))
    ∙ seal_laid (order_of message) w g (kind_of message) (length message - 12) s t (drop 12 message) (six_of message u.id) (length-number_bytes (order_of message) w32 (4 + length bytes))
    (sym (length-drop 12 message)) (size_again message u b)
    ∙ ap (λ (x : ℕ). laid w g x t (drop 12 message)) (kind_in message)
    ∙ laid_parts message u.id
