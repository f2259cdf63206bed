-- A whole piece that breaks no rule keeps the bounds, and what they bound.
use Rattle.std.proofs.Common.{◌≡◌, ℕ, suc, nat_le, ◌+◌, ◌*◌, ◌≤◌, ◌<◌, Bool, true, false, cond, not, ◌&&◌, ◌==◌, List, [], ◌∷◌, ◌++◌, length, Some, None, refl, ap, sym, ◌∙◌, subst, arith, length-append, length-drop, map, filter}
use Rattle.std.specs.Prelude.{sum_by}
use Rattle.std.proofs.Math.Nat.{mul-le-mul_right}
use Rattle.std.proofs.lemmas.List.{append-nil}
use Rattle.std.proofs.lemmas.List.Sums.{sum_by-cons}
use Rattle.giop_frames.specs.Pieces.{Piece, order_of, piece_len, is_whole, id_of}
use Rattle.giop_frames.specs.Messages.{Partial, is_fragment, opens, continues, ends, added, begun, open_at}
use Rattle.giop_frames.specs.Stream.{piece_cause, header_cause, fragment_cause, tail_cause}
use Rattle.giop_frames.specs.Running.{State, grown, stepped}
use Rattle.giop_frames.specs.Steps.{IsDistinct}
use Rattle.giop_frames.specs.Bounds.{AreWithin, AreLong, IsBounded, kept_bytes}
use Rattle.giop_frames.proofs.Heads.{header_within}
use Rattle.giop_frames.proofs.Places.{same}
use Rattle.giop_frames.proofs.Effects.{quiet}
use Rattle.giop_frames.proofs.Soundness.{opens_new, joins_within, fragment_fits}

-- what continues a message of an id is a Fragment of that id
has_id : (v : ℕ) (b : List ℕ) (t : Bool) → (v == id_of b) ≡ t → continues v b ≡ true → t ≡ true
has_id v b true e c = refl
has_id v b false e c = absurd (let h : true ≡ false = sym c ∙ (quiet v b e).1 in cc)

is_same : (a b : ℕ) → (a == b) ≡ true → a ≡ b
is_same a b h = grind arith

-- what joins the message of a piece's id is within the limit
abbrev Joins : ℕ → Piece → List Partial → Type 0
Joins limit p us = (u : Partial) → open_at (id_of p.bytes) us ≡ Some u → continues u.id p.bytes ≡ true → length (u.bytes ++ added p) ≤ limit

joins_tail : (limit : ℕ) (p : Piece) (u : Partial) (us : List Partial) (b : Bool) → same (id_of p.bytes) u ≡ b → open_at u.id us ≡ None → Joins limit p (u ∷ us) → Joins limit p us
joins_tail limit p u us true e d j =
    λ v o c. absurd (let h : None ≡ Some v = sym d ∙ ap (λ (k : ℕ). open_at k us) (is_same u.id (id_of p.bytes) e) ∙ o in cc)
joins_tail limit p u us false e d j = λ v o c. j v (ap (λ (b : Bool). cond b (Some u) (open_at (id_of p.bytes) us)) e ∙ o) c

grown_within : (limit : ℕ) (p : Piece) (u : Partial) (us : List Partial) (b : Bool) → continues u.id p.bytes ≡ b → length u.bytes ≤ limit → Joins limit p (u ∷ us)
    → length (cond b (let r : Partial = record u { bytes = u.bytes ++ added p } in r) u).bytes ≤ limit
grown_within limit p u us true e w j =
    j u (ap (λ (b : Bool). cond b (Some u) (open_at (id_of p.bytes) us)) (has_id u.id p.bytes (u.id == id_of p.bytes) refl e)) e
grown_within limit p u us false e w j = w

within_one : (limit : ℕ) (u : Partial) (us : List Partial) (p : Piece) (b : Bool) → length (grown p u).bytes ≤ limit → AreWithin limit (map (grown p) us)
    → AreWithin limit (map (grown p) (cond b (u ∷ us) us))
within_one limit u us p true w ws = (w, ws)
within_one limit u us p false w ws = ws

within_step : (limit : ℕ) (p : Piece) (us : List Partial) → IsDistinct us → AreWithin limit us → Joins limit p us
    → AreWithin limit (map (grown p) (filter (λ u. not (ends u.id p.bytes)) us))
within_step limit p [] d w j = tt
within_step limit p (u ∷ us) d w j =
    within_one limit u (filter (λ u. not (ends u.id p.bytes)) us) p (not (ends u.id p.bytes)) (grown_within limit p u us (continues u.id p.bytes) refl w.0 j)
    (within_step limit p us d.1 w.1 (joins_tail limit p u us (same (id_of p.bytes) u) refl d.0 j))

within_more : (limit : ℕ) (us : List Partial) (v : Partial) → AreWithin limit us → length v.bytes ≤ limit → AreWithin limit (us ++ v ∷ [])
within_more limit [] v w h = (h, tt)
within_more limit (u ∷ us) v w h = (w.0, within_more limit us v w.1 h)

grown_long : (p : Piece) (u : Partial) (b : Bool) → 12 ≤ length u.bytes → 12 ≤ length (cond b (let r : Partial = record u { bytes = u.bytes ++ added p } in r) u).bytes
grown_long p u true w = omega (arith, length-append u.bytes (added p))
grown_long p u false w = w

long_one : (u : Partial) (us : List Partial) (p : Piece) (b : Bool) → 12 ≤ length (grown p u).bytes → AreLong (map (grown p) us) → AreLong (map (grown p) (cond b (u ∷ us) us))
long_one u us p true w ws = (w, ws)
long_one u us p false w ws = ws

long_step : (p : Piece) (us : List Partial) → AreLong us → AreLong (map (grown p) (filter (λ u. not (ends u.id p.bytes)) us))
long_step p [] w = tt
long_step p (u ∷ us) w =
    long_one u (filter (λ u. not (ends u.id p.bytes)) us) p (not (ends u.id p.bytes)) (grown_long p u (continues u.id p.bytes) w.0) (long_step p us w.1)

long_more : (us : List Partial) (v : Partial) → AreLong us → 12 ≤ length v.bytes → AreLong (us ++ v ∷ [])
long_more [] v w h = (h, tt)
long_more (u ∷ us) v w h = (w.0, long_more us v w.1 h)

filter_one : (u : Partial) (us vs : List Partial) (b : Bool) → length vs ≤ length us → length (cond b (u ∷ vs) vs) ≤ length (u ∷ us)
filter_one u us vs true h = omega arith
filter_one u us vs false h = omega arith

filter_few : (t : Partial → Bool) (us : List Partial) → length (filter t us) ≤ length us
filter_few t [] = omega arith
filter_few t (u ∷ us) = filter_one u us (filter t us) (t u) (filter_few t us)

map_few : (p : Piece) (us : List Partial) → length (map (grown p) us) ≡ length us
map_few p [] = refl
map_few p (u ∷ us) = omega (arith, map_few p us)

bounded_by : (limit : ℕ) (p : Piece) (vs us : List Partial) (b : Bool) → opens p.bytes ≡ b → AreWithin limit vs → AreLong vs → length vs ≤ length us → length us ≤ 16 → (b ≡ true → length us < 16) → 16 ≤ limit → length p.bytes ≤ limit
    → 12 ≤ length p.bytes → IsBounded limit (vs ++ cond b (begun p [] ∷ []) [])
bounded_by limit p vs us true e w g l few new least fits header = record {
  few = omega (arith, length-append vs (begun p [] ∷ []), new refl);
  within = within_more limit vs (begun p []) w (omega (arith, length-append p.bytes []));
  long = long_more vs (begun p []) g (omega (arith, length-append p.bytes []));
  least = least;
}
bounded_by limit p vs us false e w g l few new least fits header =
    let P : List Partial → Type 0 = λ ws. IsBounded limit ws in
    subst P (sym (append-nil vs)) (record { few = omega arith; within = w; long = g; least = least })

of_fragment : (v : ℕ) (b : List ℕ) (f : Bool) → is_fragment b ≡ f → continues v b ≡ true → f ≡ true
unfolding continues
of_fragment v b true e c = refl
of_fragment v b false e c = absurd (let h : true ≡ false = sym c ∙ ap (λ (x : Bool). x && (v == id_of b)) e in cc)

joins_all : (limit : ℕ) (p : Piece) (us : List Partial) → piece_cause limit us p.bytes ≡ None → Joins limit p us
joins_all limit p us h =
    λ u o c.
    let f : is_fragment p.bytes ≡ true = of_fragment u.id p.bytes (is_fragment p.bytes) refl c in
    let e = ap (fragment_cause limit (order_of p.bytes) (length p.bytes)) (sym o) ∙ joins_within limit us p.bytes h f in
    omega (arith, length-append u.bytes (added p), length-drop 16 p.bytes, fragment_fits limit (order_of p.bytes) p.bytes u e)

pub step_bounded : (limit : ℕ) (p : Piece) (us : List Partial) → IsBounded limit us → IsDistinct us → length p.bytes ≤ limit → 12 ≤ length p.bytes → piece_cause limit us p.bytes ≡ None → IsBounded limit (stepped p us)
unfolding stepped
step_bounded limit p us b d fits header h =
    let vs : List Partial = filter (λ u. not (ends u.id p.bytes)) us in
    bounded_by limit p (map (grown p) vs) us (opens p.bytes) refl (within_step limit p us d b.within (joins_all limit p us h)) (long_step p us b.long)
    (omega (arith, map_few p vs, filter_few (λ u. not (ends u.id p.bytes)) us)) b.few (λ o. (opens_new limit us p.bytes h o).1) b.least fits header

pub not_whole : (bytes : List ℕ) → is_whole bytes ≡ false → 12 ≤ length bytes → length bytes < piece_len bytes
unfolding is_whole
not_whole bytes h l = grind arith

more_within : (a b n limit : ℕ) → a ≤ limit → b ≤ n * limit → a + b ≤ (suc n) * limit
more_within a b n limit h k = omega (arith, h, k)

sum_within : (limit : ℕ) (us : List Partial) → AreWithin limit us → sum_by (λ u. length u.bytes) us ≤ length us * limit
sum_within limit [] w = omega arith
sum_within limit (u ∷ us) w = rw (sum_by-cons (λ v. length v.bytes) u us) (more_within (length u.bytes) (sum_by (λ v. length v.bytes) us) (length us) limit w.0 (sum_within limit us w.1))

tail_by : (limit : ℕ) (tail : List ℕ) (b : Bool) → nat_le 12 (length tail) ≡ b → is_whole tail ≡ false → cond b (header_cause limit tail) None ≡ None → 16 ≤ limit → length tail ≤ limit
tail_by limit tail true e w h l =
    let m : 12 ≤ length tail = grind arith in omega (arith, not_whole tail w m, header_within limit tail h)
tail_by limit tail false e w h l = let m : length tail < 12 = grind arith in omega arith

times_16 : (n limit : ℕ) → n ≤ 16 → n * limit ≤ 16 * limit
times_16 n limit h = mul-le-mul_right limit h

-- between two reads at most 17 times the limit is kept
pub kept_within : (s : State) → s.kept ≤ kept_bytes s → is_whole s.tail ≡ false → tail_cause s.limit s.tail ≡ None → IsBounded s.limit s.partials → s.kept ≤ 17 * s.limit
kept_within s few w h b =
    omega (arith, few, tail_by s.limit s.tail (nat_le 12 (length s.tail)) refl w h b.least, sum_within s.limit s.partials b.within, times_16 (length s.partials) s.limit b.few)
