-- What bytes say ahead: a whole piece at their front, less than a piece, or a header that breaks a rule.
use Rattle.std.proofs.Common.{◌≡◌, ℕ, zero, suc, ◌+◌, ◌-◌, ◌<◌, ◌≤◌, Bool, true, false, cond, not, List, [], ◌∷◌, ◌++◌, length, take, drop, get_or, Option, Some, None, Result, Ok, Err, refl, ap, sym, ◌∙◌, arith, nat_le, length-append, length-drop}
use Rattle.std.specs.Int.{w32}
use Rattle.std.proofs.lemmas.List.{take-append-le, drop-append-le, get_or_append_left, length-take-le, take-append-drop}
use Rattle.std.proofs.Math.Seq.{take-append_seam, drop-append_seam}
use Rattle.orb_base.specs.declared.order.Order.{Order}
use Rattle.cdr_core.specs.Reading.{number_of}
use Rattle.giop_frames.specs.declared.fault.FrameCause.{FrameCause}
use Rattle.giop_frames.specs.declared.fault.FrameCause.TheVariants.{BadMagic, BadVersion}
use Rattle.giop_frames.specs.declared.kind.Kind.{Kind}
use Rattle.giop_frames.specs.declared.header.Header.{Header}
use Rattle.giop_frames.specs.Pieces.{Piece, Cut, order_of, has_more, kind_of, size_of, piece_len, is_whole, cut, with_piece}
use Rattle.giop_frames.specs.Headers.{has_magic, has_version, with_kind, header_at}
use Rattle.giop_frames.specs.Kinds.{kind_by}
use Rattle.giop_frames.specs.Messages.{Partial}
use Rattle.giop_frames.specs.Stream.{Said, header_rule, header_cause, piece_cause, or_else, cause_of, tail_cause, at_end, or_stopped, stopped}
use Rattle.giop_frames.specs.Running.{stepped, run, run_cut, ahead}

at_front : (a b : List ℕ) (n : ℕ) → n < 12 → 12 ≤ length a → get_or (a ++ b) n 0 ≡ get_or a n 0
at_front a b n lt h = get_or_append_left a b 0 n (omega arith)

pub order_front : (a b : List ℕ) → 12 ≤ length a → order_of (a ++ b) ≡ order_of a
unfolding order_of
order_front a b h = rw (at_front a b 6 (omega arith) h) refl

pub kind_front : (a b : List ℕ) → 12 ≤ length a → kind_of (a ++ b) ≡ kind_of a
unfolding kind_of
kind_front a b h = at_front a b 7 (omega arith) h

size_front : (a b : List ℕ) → 12 ≤ length a → take 4 (drop 8 (a ++ b)) ≡ take 4 (drop 8 a)
size_front a b h = ap (λ (x : List ℕ). take 4 x) (drop-append-le 8 a b (omega arith)) ∙ take-append-le 4 (drop 8 a) b (omega (arith, length-drop 8 a))

pub head_size_front : (a b : List ℕ) → 12 ≤ length a → size_of (a ++ b) ≡ size_of a
head_size_front a b h =
    ap (λ (o : Order). number_of o w32 (take 4 (drop 8 (a ++ b)))) (order_front a b h)
    ∙ ap (λ (x : List ℕ). number_of (order_of a) w32 x) (size_front a b h)

pub piece_len_front : (a b : List ℕ) → 12 ≤ length a → piece_len (a ++ b) ≡ piece_len a
unfolding piece_len
piece_len_front a b h = ap (λ (n : ℕ). 12 + n) (head_size_front a b h)

pub magic_front : (a b : List ℕ) → 12 ≤ length a → has_magic (a ++ b) ≡ has_magic a
unfolding has_magic
magic_front [] b h = absurd (omega arith)
magic_front (w ∷ []) b h = absurd (omega arith)
magic_front (w ∷ x ∷ []) b h = absurd (omega arith)
magic_front (w ∷ x ∷ y ∷ []) b h = absurd (omega arith)
magic_front (w ∷ x ∷ y ∷ z ∷ a) b h = refl

pub version_front : (a b : List ℕ) → 12 ≤ length a → has_version (a ++ b) ≡ has_version a
unfolding has_version
version_front a b h = rw (at_front a b 4 (omega arith) h, at_front a b 5 (omega arith) h) refl

pub more_front : (a b : List ℕ) → 12 ≤ length a → has_more (a ++ b) ≡ has_more a
unfolding has_more
more_front a b h = rw (at_front a b 6 (omega arith) h) refl

abbrev head_of : Order → Bool → Kind → ℕ → Result Header FrameCause
head_of o m k n = Ok (record { order = o; more = m; kind = k; size = n })

kind_with : (a b : List ℕ) (o : Option Kind) → 12 ≤ length a → with_kind (a ++ b) o ≡ with_kind a o
kind_with a b None h = refl
kind_with a b (Some k) h =
    ap (λ (o : Order). head_of o (has_more (a ++ b)) k (size_of (a ++ b))) (order_front a b h)
    ∙ ap (λ (m : Bool). head_of (order_of a) m k (size_of (a ++ b))) (more_front a b h)
    ∙ ap (λ (n : ℕ). head_of (order_of a) (has_more a) k n) (head_size_front a b h)

abbrev judged_by : Bool → Bool → Result Header FrameCause → Result Header FrameCause
judged_by m v r = cond (not m) (Err BadMagic) (cond (not v) (Err BadVersion) r)

pub head_front : (a b : List ℕ) → 12 ≤ length a → header_at (a ++ b) ≡ header_at a
unfolding header_at
head_front a b h =
    ap (λ (m : Bool). judged_by m (has_version (a ++ b)) (with_kind (a ++ b) (kind_by (kind_of (a ++ b))))) (magic_front a b h)
    ∙ ap (λ (v : Bool). judged_by (has_magic a) v (with_kind (a ++ b) (kind_by (kind_of (a ++ b))))) (version_front a b h)
    ∙ ap (λ (n : ℕ). judged_by (has_magic a) (has_version a) (with_kind (a ++ b) (kind_by n))) (kind_front a b h)
    ∙ ap (judged_by (has_magic a) (has_version a)) (kind_with a b (kind_by (kind_of a)) h)

pub header_front : (limit : ℕ) (a b : List ℕ) → 12 ≤ length a → header_cause limit (a ++ b) ≡ header_cause limit a
unfolding header_cause
header_front limit a b h = ap (header_rule limit) (head_front a b h)

pub long_piece : (bytes : List ℕ) → 12 ≤ piece_len bytes
unfolding piece_len
long_piece bytes = omega arith

whole_is : (bytes : List ℕ) → 12 ≤ length bytes → piece_len bytes ≤ length bytes → is_whole bytes ≡ true
unfolding is_whole
whole_is bytes h l = grind arith

pub whole_long : (bytes : List ℕ) → is_whole bytes ≡ true → (12 ≤ length bytes) × (piece_len bytes ≤ length bytes)
unfolding is_whole
whole_long bytes h = grind arith

pub part_short : (bytes : List ℕ) → length bytes < 12 → is_whole bytes ≡ false
unfolding is_whole
part_short bytes h = grind arith

pub part_of : (bytes : List ℕ) → length bytes < piece_len bytes → is_whole bytes ≡ false
unfolding is_whole
part_of bytes h = grind arith

-- bytes that are no whole piece are the tail, with any fuel
pub cut_part : (n at : ℕ) (bytes : List ℕ) → is_whole bytes ≡ false → cut n at bytes ≡ record { whole = []; tail = record { at = at; bytes = bytes } }
unfolding cut
cut_part zero at bytes h = refl
cut_part (suc n) at bytes h =
    ap (λ (b : Bool). cond b (with_piece (record { at = at; bytes = take (piece_len bytes) bytes }) (cut n (at + piece_len bytes) (drop (piece_len bytes) bytes)))
    (record { whole = []; tail = record { at = at; bytes = bytes } })) h

pub cut_whole : (n at : ℕ) (bytes : List ℕ) → is_whole bytes ≡ true
    → cut (suc n) at bytes ≡ with_piece (record { at = at; bytes = take (piece_len bytes) bytes }) (cut n (at + piece_len bytes) (drop (piece_len bytes) bytes))
unfolding cut
cut_whole n at bytes h =
    ap (λ (b : Bool). cond b (with_piece (record { at = at; bytes = take (piece_len bytes) bytes }) (cut n (at + piece_len bytes) (drop (piece_len bytes) bytes)))
    (record { whole = []; tail = record { at = at; bytes = bytes } })) h

both : (n m at : ℕ) (bytes : List ℕ) (b : Bool) → is_whole bytes ≡ b → length bytes ≤ suc n → length bytes ≤ suc m
    → (length (drop (piece_len bytes) bytes) ≤ n → length (drop (piece_len bytes) bytes) ≤ m
    → cut n (at + piece_len bytes) (drop (piece_len bytes) bytes) ≡ cut m (at + piece_len bytes) (drop (piece_len bytes) bytes))
    → cut (suc n) at bytes ≡ cut (suc m) at bytes
both n m at bytes true e h k rec =
    let l : 12 ≤ piece_len bytes = long_piece bytes in
    let d : length (drop (piece_len bytes) bytes) ≡ length bytes - piece_len bytes = length-drop (piece_len bytes) bytes in
    cut_whole n at bytes e
    ∙ ap (with_piece (record { at = at; bytes = take (piece_len bytes) bytes })) (rec (omega arith) (omega arith))
    ∙ sym (cut_whole m at bytes e)
both n m at bytes false e h k rec = cut_part (suc n) at bytes e ∙ sym (cut_part (suc m) at bytes e)

-- fuel that is enough is as good as other fuel that is enough
cut_enough : (n m at : ℕ) (bytes : List ℕ) → length bytes ≤ n → length bytes ≤ m → cut n at bytes ≡ cut m at bytes
cut_enough zero m at bytes h k =
    let p : is_whole bytes ≡ false = part_short bytes (omega arith) in cut_part zero at bytes p ∙ sym (cut_part m at bytes p)
cut_enough (suc n) zero at bytes h k =
    let p : is_whole bytes ≡ false = part_short bytes (omega arith) in cut_part (suc n) at bytes p ∙ sym (cut_part zero at bytes p)
cut_enough (suc n) (suc m) at bytes h k = both n m at bytes (is_whole bytes) refl h k (λ lt le. cut_enough n m (at + piece_len bytes) (drop (piece_len bytes) bytes) lt le)

pub cut_piece : (n at : ℕ) (p more : List ℕ) → 12 ≤ length p → length p ≡ piece_len p → length (p ++ more) ≤ n
    → cut n at (p ++ more) ≡ with_piece (record { at = at; bytes = p }) (cut (length more) (at + length p) more)
cut_piece zero at p more h l f = absurd (omega (arith, length-append p more))
cut_piece (suc n) at p more h l f =
    let long : length (p ++ more) ≡ length p + length more = length-append p more in
    let len : piece_len (p ++ more) ≡ length p = piece_len_front p more h ∙ sym l in
    cut_whole n at (p ++ more) (whole_is (p ++ more) (omega arith) (omega arith))
    ∙ ap (λ (k : ℕ). with_piece (record { at = at; bytes = take k (p ++ more) }) (cut n (at + k) (drop k (p ++ more)))) len
    ∙ ap (λ (x : List ℕ). with_piece (record { at = at; bytes = x }) (cut n (at + length p) (drop (length p) (p ++ more)))) (take-append_seam p more)
    ∙ ap (λ (x : List ℕ). with_piece (record { at = at; bytes = p }) (cut n (at + length p) x)) (drop-append_seam p more)
    ∙ ap (with_piece (record { at = at; bytes = p })) (cut_enough n (length more) (at + length p) more (omega arith) (omega arith))

-- a whole piece at the front is judged and steps the unfinished messages
pub ahead_piece : (limit : ℕ) (us : List Partial) (at : ℕ) (p more : List ℕ) → 12 ≤ length p → length p ≡ piece_len p
    → ahead limit us at (p ++ more) ≡ or_stopped us (record { at = at; bytes = p }) (cause_of limit us (record { at = at; bytes = p }))
    (ahead limit (stepped (record { at = at; bytes = p }) us) (at + length p) more)
unfolding ahead run
ahead_piece limit us at p more h l = ap (λ (c : Cut). run_cut limit us c) (cut_piece (length (p ++ more)) at p more h l (omega arith))

-- less than a piece says the end
pub ahead_part : (limit : ℕ) (us : List Partial) (at : ℕ) (bytes : List ℕ) → is_whole bytes ≡ false
    → ahead limit us at bytes ≡ at_end us (record { at = at; bytes = bytes }) (tail_cause limit bytes)
unfolding ahead run
ahead_part limit us at bytes h = ap (λ (c : Cut). run_cut limit us c) (cut_part (length bytes) at bytes h)

bad_tail : (limit : ℕ) (us : List Partial) (at : ℕ) (bytes : List ℕ) (cause : FrameCause) → 12 ≤ length bytes → header_cause limit bytes ≡ Some cause
    → at_end us (record { at = at; bytes = bytes }) (tail_cause limit bytes) ≡ stopped us at cause
bad_tail limit us at bytes cause h e =
    let le : nat_le 12 (length bytes) ≡ true = grind arith in
    ap (λ (b : Bool). at_end us (record { at = at; bytes = bytes }) (cond b (header_cause limit bytes) None)) le
    ∙ ap (at_end us (record { at = at; bytes = bytes })) e

bad_piece : (limit : ℕ) (us : List Partial) (p : Piece) (cause : FrameCause) (later : Said) → header_cause limit p.bytes ≡ Some cause
    → or_stopped us p (cause_of limit us p) later ≡ stopped us p.at cause
bad_piece limit us p cause later e = ap (λ (o : Option FrameCause). or_stopped us p (or_else o (piece_cause limit us p.bytes)) later) e

-- a header with a fault stops the stream, whatever follows
bad_whole : (limit : ℕ) (us : List Partial) (at : ℕ) (bytes : List ℕ) (cause : FrameCause) (b : Bool) → is_whole bytes ≡ b → 12 ≤ length bytes
    → header_cause limit bytes ≡ Some cause → ahead limit us at bytes ≡ stopped us at cause
bad_whole limit us at bytes cause false w h e = ahead_part limit us at bytes w ∙ bad_tail limit us at bytes cause h e
bad_whole limit us at bytes cause true w h e =
    let long : (12 ≤ length bytes) × (piece_len bytes ≤ length bytes) = whole_long bytes w in
    let p : List ℕ = take (piece_len bytes) bytes in
    let more : List ℕ = drop (piece_len bytes) bytes in
    let parts : p ++ more ≡ bytes = take-append-drop (piece_len bytes) bytes in
    let len : length p ≡ piece_len bytes = length-take-le (piece_len bytes) bytes long.1 in
    let min : 12 ≤ length p = omega (arith, long_piece bytes) in
    let same : length p ≡ piece_len p = len ∙ sym (ap piece_len parts) ∙ piece_len_front p more min in
    let told : header_cause limit p ≡ Some cause = sym (header_front limit p more min) ∙ ap (header_cause limit) parts ∙ e in
    ap (ahead limit us at) (sym parts) ∙ ahead_piece limit us at p more min same
    ∙ bad_piece limit us (record { at = at; bytes = p }) cause (ahead limit (stepped (record { at = at; bytes = p }) us) (at + length p) more) told

pub ahead_bad : (limit : ℕ) (us : List Partial) (at : ℕ) (a more : List ℕ) (cause : FrameCause) → 12 ≤ length a → header_cause limit a ≡ Some cause
    → ahead limit us at (a ++ more) ≡ stopped us at cause
ahead_bad limit us at a more cause h e =
    bad_whole limit us at (a ++ more) cause (is_whole (a ++ more)) refl (omega (arith, length-append a more)) (header_front limit a more h ∙ e)
