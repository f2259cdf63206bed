-- The same steps, as the code has the parts of a state, and a read in parts.
use Rattle.std.proofs.Common.{◌≡◌, ℕ, ◌+◌, ◌-◌, ◌≤◌, ◌<◌, Bool, true, false, List, ◌++◌, length, take, drop, refl, ap, sym, ◌∙◌, subst, arith, nat_le, length-append, length-drop}
use Rattle.std.proofs.lemmas.List.{take-append-drop, length-take-le}
use Rattle.std.proofs.Math.Seq.{take-length, take-append-add}
use Rattle.giop_frames.specs.declared.fault.FeedFault.{FeedFault}
use Rattle.giop_frames.specs.Pieces.{piece_len}
use Rattle.giop_frames.specs.Messages.{Message}
use Rattle.giop_frames.specs.Running.{State}
use Rattle.giop_frames.specs.Joining.{IsResting, IsFilled, Same, Fails, Took, with_tail, Needs, SoFar, StandsWhole}
use Rattle.giop_frames.proofs.Ahead.{piece_len_front, long_piece}
use Rattle.giop_frames.proofs.Deeds.{all_behind}
use Rattle.giop_frames.proofs.Joins.{same_fails, same_none, same_same}

-- a read in parts
take_more : (n m : ℕ) (xs : List ℕ) → n + m ≤ length xs → take n xs ++ take m (drop n xs) ≡ take (n + m) xs
take_more n m xs h =
    let l : length (take n xs) ≡ n = length-take-le n xs (omega arith) in
    sym (ap (λ (y : List ℕ). take (n + m) y) (sym (take-append-drop n xs))
    ∙ ap (λ (k : ℕ). take (k + m) (take n xs ++ drop n xs)) (sym l)
    ∙ take-append-add (take n xs) (drop n xs) m)

pub so_far_none : (input : List ℕ) (whole : List Message) (s : State) → IsResting s → SoFar 0 input whole s whole s
so_far_none input whole s r = record { within = omega arith; same = same_none whole s r }

pub so_far_more : (taken n : ℕ) (input : List ℕ) (whole mid whole' : List Message) (s t s' : State) → SoFar taken input whole s mid t
    → Took n (take (length input - taken) (drop taken input)) t s' mid whole' → SoFar (taken + n) input whole s whole' s'
so_far_more taken n input whole mid whole' s t s' f k =
    let P : List ℕ → Type 0 = λ b. Took n b t s' mid whole' in
    let o : Took n (drop taken input) t s' mid whole' = subst P (all_behind taken input) k in
    let len : taken + n ≤ length input = omega (arith, o.within, length-drop taken input, f.within) in
    let Q : List ℕ → Type 0 = λ b. Same whole s b whole' s' in
    record {
      within = len;
      same = subst Q (take_more taken n input len) (same_same whole mid whole' s t s' (take taken input) (take n (drop taken input)) f.same o.same);
    }

pub so_far_err : (fault : FeedFault) (taken : ℕ) (input : List ℕ) (whole mid whole' : List Message) (s t s' : State) → SoFar taken input whole s mid t
    → Fails fault (take (length input - taken) (drop taken input)) t s' mid whole' → Fails fault input s s' whole whole'
so_far_err fault taken input whole mid whole' s t s' f k =
    let P : List ℕ → Type 0 = λ b. Fails fault b t s' mid whole' in
    let Q : List ℕ → Type 0 = λ b. Fails fault b s s' whole whole' in
    subst Q (take-append-drop taken input)
    (same_fails fault whole mid whole' s t s' (take taken input) (drop taken input) f.same (subst P (all_behind taken input) k))

pub so_far_all : (taken : ℕ) (input : List ℕ) (whole whole' : List Message) (s s' : State) → SoFar taken input whole s whole' s' → length input ≤ taken → Same whole s input whole' s'
so_far_all taken input whole whole' s s' f h =
    let n : taken ≡ length input = omega (arith, f.within) in
    let P : List ℕ → Type 0 = λ b. Same whole s b whole' s' in
    subst P (ap (λ (k : ℕ). take k input) n ∙ take-length input) f.same

-- what a header lacks, or no more than its piece lacks, fills no more than there is room for
fits_by : (tail bytes : List ℕ) (n : ℕ) (b : Bool) → nat_le 12 (length tail) ≡ b → (length tail < 12 → length tail + n ≡ 12) → (12 ≤ length tail → length tail + n ≤ piece_len tail)
    → length bytes ≤ n → length (tail ++ bytes) ≤ piece_len (tail ++ bytes)
fits_by tail bytes n true e h p l =
    let m : 12 ≤ length tail = grind arith in
    omega (arith, p m, length-append tail bytes, piece_len_front tail bytes m)
fits_by tail bytes n false e h p l =
    let m : length tail < 12 = grind arith in
    omega (arith, h m, length-append tail bytes, long_piece (tail ++ bytes))

pub fills : (s : State) (bytes : List ℕ) (n : ℕ) → IsResting s → Needs s n → length bytes ≤ n → IsFilled (with_tail s bytes)
fills s bytes n r d l = record {
  fits = λ _. fits_by s.tail bytes n (nat_le 12 (length s.tail)) refl d.header d.piece l;
  distinct = r.distinct;
  bounded = r.bounded;
  small = r.small;
}

-- a whole piece that the input begins with
pub stands_full : (input : List ℕ) (has n : ℕ) → StandsWhole has input n → length (take n input) ≡ piece_len (take n input)
stands_full input has n w =
    let len : length (take n input) ≡ n = length-take-le n input w.within in
    let same : piece_len input ≡ piece_len (take n input) =
    ap piece_len (sym (take-append-drop n input)) ∙ piece_len_front (take n input) (drop n input) (omega (arith, len, w.len, long_piece input)) in
    omega (arith, len, same, w.len)

pub stands_long : (input : List ℕ) (has n : ℕ) → StandsWhole has input n → 12 ≤ length (take n input)
stands_long input has n w = omega (arith, length-take-le n input w.within, w.len, long_piece input)

pub stands_whole : (has : ℕ) (input : List ℕ) (n : ℕ) → has ≤ 0 → 12 ≤ length input → n ≡ piece_len input → n ≤ length input → StandsWhole has input n
stands_whole has input n h l e k = record { none = omega arith; header = l; len = e; within = k }
