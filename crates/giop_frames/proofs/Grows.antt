-- What a stream says when further bytes follow, and before the first byte.
use Rattle.std.proofs.Common.{◌≡◌, ℕ, zero, suc, ◌+◌, ◌-◌, ◌≤◌, Bool, true, false, List, [], ◌++◌, length, take, drop, Option, Some, None, refl, sym, ap, ◌∙◌, subst, cond, arith, append_assoc, append-nil, take-append-drop, length-drop, length-take-le}
use Rattle.std.specs.Prelude.{nat_le, option_to_list}
use Rattle.giop_frames.specs.declared.fault.FrameCause.{FrameCause}
use Rattle.giop_frames.specs.declared.fault.FrameFault.{FrameFault}
use Rattle.giop_frames.specs.Pieces.{Piece, cut, piece_len, is_whole}
use Rattle.giop_frames.specs.Messages.{Message, Partial, completed, unfinished}
use Rattle.giop_frames.specs.Stream.{Said, header_cause, tail_cause, cause_of, at_end, stopped, or_stopped, with_front, stream, said_behind, rest_with, tail_rest}
use Rattle.giop_frames.specs.Running.{ahead, stepped}
use Rattle.giop_frames.proofs.Ahead.{ahead_piece, ahead_part, ahead_bad, whole_long, long_piece, piece_len_front}
use Rattle.giop_frames.proofs.Growing.{stream_is}

-- nothing is said of no bytes
pub nothing_said : (limit : ℕ) → stream limit [] ≡ record { messages = []; rest = None; bad = None }
unfolding stream cut said_behind unfinished rest_with tail_rest
nothing_said limit = refl

-- the later saying has all messages of the earlier one, and is the same after a fault
pub record Grows (s s' : Said) : Type 0 where
  pub new : List Message
  pub more : s'.messages ≡ s.messages ++ new
  pub stops : (f : FrameFault) → s.bad ≡ Some f → s' ≡ s

-- the same saying
stays : (s : Said) → Grows s s
stays s = record { new = []; more = sym (append-nil s.messages); stops = λ f h. refl }

-- an end without a fault, whatever else is said later
end_grows : (us : List Partial) (tail : Piece) (cause : Option FrameCause) (s' : Said) → ((c : FrameCause) → cause ≡ Some c → s' ≡ stopped us tail.at c) → Grows (at_end us tail cause) s'
end_grows us tail None s' h = record { new = s'.messages; more = refl; stops = λ f e. absurd (cc) }
end_grows us tail (Some c) s' h = subst (λ (s : Said). Grows (stopped us tail.at c) s) (sym (h c refl)) (stays (stopped us tail.at c))

-- a piece before both
piece_grows : (us : List Partial) (p : Piece) (cause : Option FrameCause) (s s' : Said) → Grows s s' → Grows (or_stopped us p cause s) (or_stopped us p cause s')
piece_grows us p (Some c) s s' h = stays (stopped us p.at c)
piece_grows us p None s s' h = record {
  new = h.new;
  more = ap (λ (x : List Message). option_to_list (completed us p) ++ x) h.more ∙ sym (append_assoc (option_to_list (completed us p)) s.messages h.new);
  stops = λ f e. ap (with_front (option_to_list (completed us p))) (h.stops f e);
}

-- a header is at fault only where its 12 bytes are there
cause_there : (limit : ℕ) (tail : List ℕ) (c : FrameCause) (b : Bool) → nat_le 12 (length tail) ≡ b → cond b (header_cause limit tail) None ≡ Some c → (12 ≤ length tail) × (header_cause limit tail ≡ Some c)
cause_there limit tail c true e h = (grind arith, h)
cause_there limit tail c false e h = absurd (cc)

part_grows : (limit : ℕ) (us : List Partial) (at : ℕ) (a b : List ℕ) → is_whole a ≡ false → Grows (ahead limit us at a) (ahead limit us at (a ++ b))
part_grows limit us at a b w =
    subst (λ (s : Said). Grows s (ahead limit us at (a ++ b))) (sym (ahead_part limit us at a w))
    (end_grows us (record { at = at; bytes = a }) (tail_cause limit a) (ahead limit us at (a ++ b))
    (λ c h. let there = cause_there limit a c (nat_le 12 (length a)) refl h in ahead_bad limit us at a b c there.0 there.1))

-- by the number of bytes
grows_by : (n limit : ℕ) (us : List Partial) (at : ℕ) (a b : List ℕ) (w : Bool) → is_whole a ≡ w → length a ≤ n → Grows (ahead limit us at a) (ahead limit us at (a ++ b))
grows_by n limit us at a b false e h = part_grows limit us at a b e
grows_by zero limit us at a b true e h = absurd (omega (arith, (whole_long a e).0))
grows_by (suc n) limit us at a b true e h =
    let long = whole_long a e in
    let p : List ℕ = take (piece_len a) a in
    let rest : List ℕ = drop (piece_len a) a in
    let parts : p ++ rest ≡ a = take-append-drop (piece_len a) a in
    let len : length p ≡ piece_len a = length-take-le (piece_len a) a long.1 in
    let min : 12 ≤ length p = omega (arith, long_piece a) in
    let same : length p ≡ piece_len p = len ∙ sym (ap piece_len parts) ∙ piece_len_front p rest min in
    let left : length rest ≡ length a - piece_len a = length-drop (piece_len a) a in
    let piece : Piece = record { at = at; bytes = p } in
    let one : ahead limit us at a ≡ or_stopped us piece (cause_of limit us piece) (ahead limit (stepped piece us) (at + length p) rest) =
    ap (ahead limit us at) (sym parts) ∙ ahead_piece limit us at p rest min same in
    let two : ahead limit us at (a ++ b) ≡ or_stopped us piece (cause_of limit us piece) (ahead limit (stepped piece us) (at + length p) (rest ++ b)) =
    ap (ahead limit us at) (ap (λ (x : List ℕ). x ++ b) (sym parts) ∙ append_assoc p rest b) ∙ ahead_piece limit us at p (rest ++ b) min same in
    let rec : Grows (ahead limit (stepped piece us) (at + length p) rest) (ahead limit (stepped piece us) (at + length p) (rest ++ b)) =
    grows_by n limit (stepped piece us) (at + length p) rest b (is_whole rest) refl (omega (arith, long_piece a)) in
    subst (λ (s : Said). Grows s (ahead limit us at (a ++ b))) (sym one)
    (subst (λ (s : Said). Grows (or_stopped us piece (cause_of limit us piece) (ahead limit (stepped piece us) (at + length p) rest)) s) (sym two)
    (piece_grows us piece (cause_of limit us piece) (ahead limit (stepped piece us) (at + length p) rest) (ahead limit (stepped piece us) (at + length p) (rest ++ b)) rec))

-- whatever follows the bytes
pub stream_grows : (limit : ℕ) (a b : List ℕ) → Grows (stream limit a) (stream limit (a ++ b))
stream_grows limit a b =
    subst (λ (s : Said). Grows s (stream limit (a ++ b))) (sym (stream_is limit a))
    (subst (λ (s : Said). Grows (ahead limit [] 0 a) s) (sym (stream_is limit (a ++ b)))
    (grows_by (length a) limit [] 0 a b (is_whole a) refl (omega arith)))
