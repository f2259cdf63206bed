-- What a stream says of bytes that left nothing unfinished, and of further ones after them.
use Rattle.std.proofs.Common.{◌≡◌, ℕ, zero, suc, ◌+◌, ◌-◌, ◌≤◌, Bool, true, false, List, [], ◌∷◌, ◌++◌, length, take, drop, Option, Some, None, refl, sym, ap, ◌∙◌, arith, append_assoc, take-append-drop, length-drop, length-take-le, eqb}
use Rattle.std.specs.Prelude.{option_to_list}
use Rattle.giop_frames.specs.declared.fault.FrameCause.{FrameCause}
use Rattle.giop_frames.specs.declared.fault.FrameFault.{FrameFault}
use Rattle.giop_frames.specs.Pieces.{Piece, piece_len, is_whole}
use Rattle.giop_frames.specs.Messages.{Message, Partial, completed}
use Rattle.giop_frames.specs.Stream.{Said, tail_cause, cause_of, at_end, or_stopped, with_front, rest_with, tail_rest}
use Rattle.giop_frames.specs.Running.{ahead, stepped}
use Rattle.giop_frames.proofs.Ahead.{ahead_piece, ahead_part, whole_long, long_piece, piece_len_front}

-- nothing is unfinished, and no rule was broken
pub record IsEven (s : Said) : Type 0 where
  pub rest : s.rest ≡ None
  pub bad : s.bad ≡ None

not_zero : (n : ℕ) → eqb (suc n) 0 ≡ false
not_zero n = grind arith

tail_there : (at b : ℕ) (bytes : List ℕ) → tail_rest (record { at = at; bytes = b ∷ bytes }) ≡ Some at
unfolding tail_rest
tail_there at b bytes = rw (not_zero (length bytes)) refl

no_tail : (at : ℕ) (bytes : List ℕ) → tail_rest (record { at = at; bytes = bytes }) ≡ None → bytes ≡ []
unfolding tail_rest
no_tail at [] h = refl
no_tail at (b ∷ bytes) h = let wrong : Some at ≡ None = sym (tail_there at b bytes) ∙ h in absurd (cc)

nothing_left : (us : List Partial) (at : ℕ) (bytes : List ℕ) → rest_with us (record { at = at; bytes = bytes }) ≡ None → (us ≡ []) × (bytes ≡ [])
unfolding rest_with
nothing_left [] at bytes h = (refl, no_tail at bytes h)
nothing_left (u ∷ us) at bytes h = absurd (cc)

-- less than a piece is nothing at all
part_by : (cause : Option FrameCause) (s : Said) (us : List Partial) (at : ℕ) (a : List ℕ) → s ≡ at_end us (record { at = at; bytes = a }) cause → IsEven s
    → (us ≡ []) × (a ≡ []) × (s.messages ≡ [])
part_by (Some c) s us at a is h =
    let f : FrameFault = record { cause = c; offset = at } in
    let wrong : Some f ≡ None = sym (ap (λ (x : Said). x.bad) is) ∙ h.bad in absurd (cc)
part_by None s us at a is h =
    let none = nothing_left us at a (sym (ap (λ (x : Said). x.rest) is) ∙ h.rest) in (none.0, none.1, ap (λ (x : Said). x.messages) is)

past_part : (limit : ℕ) (us : List Partial) (at : ℕ) (a b : List ℕ) → is_whole a ≡ false → IsEven (ahead limit us at a)
    → ahead limit us at (a ++ b) ≡ with_front (ahead limit us at a).messages (ahead limit [] (at + length a) b)
past_part limit us at a b w h =
    let none = part_by (tail_cause limit a) (ahead limit us at a) us at a (ahead_part limit us at a w) h in
    let here : at ≡ at + length a = omega (arith, ap (λ (x : List ℕ). length x) none.1) in
    ap (λ (vs : List Partial). ahead limit vs at (a ++ b)) none.0
    ∙ ap (λ (x : List ℕ). ahead limit [] at (x ++ b)) none.1
    ∙ ap (λ (n : ℕ). ahead limit [] n b) here
    ∙ ap (λ (ms : List Message). with_front ms (ahead limit [] (at + length a) b)) (sym none.2)

-- a piece before
past_piece : (cause : Option FrameCause) (us : List Partial) (p : Piece) (s early late later : Said) → s ≡ or_stopped us p cause early → IsEven s
    → (IsEven early → late ≡ with_front early.messages later) → or_stopped us p cause late ≡ with_front s.messages later
past_piece (Some c) us p s early late later is h rec =
    let f : FrameFault = record { cause = c; offset = p.at } in
    let wrong : Some f ≡ None = sym (ap (λ (x : Said). x.bad) is) ∙ h.bad in absurd (cc)
past_piece None us p s early late later is h rec =
    let even : IsEven early = record { rest = sym (ap (λ (x : Said). x.rest) is) ∙ h.rest; bad = sym (ap (λ (x : Said). x.bad) is) ∙ h.bad } in
    let front : List Message = option_to_list (completed us p) in
    ap (with_front front) (rec even)
    ∙ ap (λ (ms : List Message). let x : Said = record { messages = ms; rest = later.rest; bad = later.bad } in x) (sym (append_assoc front early.messages later.messages))
    ∙ ap (λ (ms : List Message). with_front ms later) (sym (ap (λ (x : Said). x.messages) is))

-- by the number of bytes
past_by : (n limit : ℕ) (us : List Partial) (at : ℕ) (a b : List ℕ) (w : Bool) → is_whole a ≡ w → length a ≤ n → IsEven (ahead limit us at a)
    → ahead limit us at (a ++ b) ≡ with_front (ahead limit us at a).messages (ahead limit [] (at + length a) b)
past_by n limit us at a b false e h even = past_part limit us at a b e even
past_by zero limit us at a b true e h even = absurd (omega (arith, (whole_long a e).0))
past_by (suc n) limit us at a b true e h even =
    let long = whole_long a e in
    let p : List ℕ = take (piece_len a) a in
    let rest : List ℕ = drop (piece_len a) a in
    let parts : p ++ rest ≡ a = take-append-drop (piece_len a) a in
    let len : length p ≡ piece_len a = length-take-le (piece_len a) a long.1 in
    let min : 12 ≤ length p = omega (arith, long_piece a) in
    let same : length p ≡ piece_len p = len ∙ sym (ap piece_len parts) ∙ piece_len_front p rest min in
    let left : length rest ≡ length a - piece_len a = length-drop (piece_len a) a in
    let piece : Piece = record { at = at; bytes = p } in
    let one : ahead limit us at a ≡ or_stopped us piece (cause_of limit us piece) (ahead limit (stepped piece us) (at + length p) rest) =
    ap (ahead limit us at) (sym parts) ∙ ahead_piece limit us at p rest min same in
    let two : ahead limit us at (a ++ b) ≡ or_stopped us piece (cause_of limit us piece) (ahead limit (stepped piece us) (at + length p) (rest ++ b)) =
    ap (ahead limit us at) (ap (λ (x : List ℕ). x ++ b) (sym parts) ∙ append_assoc p rest b) ∙ ahead_piece limit us at p (rest ++ b) min same in
    let there : at + length p + length rest ≡ at + length a = omega arith in
    two
    ∙ past_piece (cause_of limit us piece) us piece (ahead limit us at a) (ahead limit (stepped piece us) (at + length p) rest)
    (ahead limit (stepped piece us) (at + length p) (rest ++ b)) (ahead limit [] (at + length p + length rest) b) one even
    (λ later. past_by n limit (stepped piece us) (at + length p) rest b (is_whole rest) refl (omega (arith, long_piece a)) later)
    ∙ ap (λ (k : ℕ). with_front (ahead limit us at a).messages (ahead limit [] k b)) there

pub past : (limit at : ℕ) (a b : List ℕ) → IsEven (ahead limit [] at a)
    → ahead limit [] at (a ++ b) ≡ with_front (ahead limit [] at a).messages (ahead limit [] (at + length a) b)
past limit at a b even = past_by (length a) limit [] at a b (is_whole a) refl (omega arith) even
