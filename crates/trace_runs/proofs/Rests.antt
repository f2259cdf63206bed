-- A text of lines, of which some are known and one comes next.
use Rattle.std.proofs.Common.{◌≡◌, ℕ, ltb, true, inl, inr, List, [], ◌∷◌, ◌++◌, length, refl, sym, ap, ◌∙◌, arith, append_assoc, append-nil, eq-eqb}
use Rattle.std.specs.List.{flat_map}
use Rattle.std.proofs.lemmas.Bool.{and_parts, both_ways, ltb-true}
use Rattle.std.proofs.lemmas.List.{length-append}
use Rattle.trace_reading.specs.Faults.{IsWholeLines, is_feed}
use Rattle.trace_reading.proofs.Joins.{above}
use Rattle.trace_reading.proofs.Pieces.{Piece, piece_line, piece_text, piece_in, FitsPiece, Fit, piece_back, piece_above, cut, no_text}
use Rattle.trace_runs.specs.Begun.{HasNoFeed}

-- a printed line and any other are cut at their line feeds alike
cut_any : (a b x y : List ℕ) → above 10 a ≡ true → HasNoFeed b → a ++ 10 ∷ x ≡ b ++ 10 ∷ y → (a ≡ b) × (x ≡ y)
cut_any [] [] x y p q e = (refl, cc)
cut_any [] (d ∷ ds) x y p q e = let h : d ≡ 10 = cc in absurd (both_ways (is_feed d) q.0 (eq-eqb d 10 h))
cut_any (c ∷ cs) [] x y p q e = let h : c ≡ 10 = cc in absurd (let k = ltb-true 10 c (and_parts (ltb 10 c) (above 10 cs) p).0 in omega arith)
cut_any (c ∷ cs) (d ∷ ds) x y p q e =
    let h : c ≡ d = cc in
    let t : cs ++ 10 ∷ x ≡ ds ++ 10 ∷ y = cc in
    let k = cut_any cs ds x y (and_parts (ltb 10 c) (above 10 cs) p).1 q.1 t in
    ((λ i. h i ∷ k.0 i), k.1)

-- a text without a line feed has no line
no_line : (a b x : List ℕ) → HasNoFeed b → b ≡ a ++ 10 ∷ x → ⊥
no_line [] [] x f e = cc
no_line [] (d ∷ ds) x f e = let h : d ≡ 10 = cc in both_ways (is_feed d) f.0 (eq-eqb d 10 h)
no_line (c ∷ cs) [] x f e = cc
no_line (c ∷ cs) (d ∷ ds) x f e = let t : ds ≡ cs ++ 10 ∷ x = cc in no_line cs ds x f.1 t

-- a line and what comes after it
line_and : (p : Piece) (rest : List ℕ) → piece_text p ++ rest ≡ piece_line p ++ 10 ∷ rest
line_and p rest = append_assoc (piece_line p) (10 ∷ []) rest

-- two texts begin with the same line
first_same : (p q : Piece) (x y : List ℕ) → FitsPiece p → FitsPiece q → piece_text p ++ x ≡ piece_text q ++ y → (p ≡ q) × (x ≡ y)
first_same p q x y f g e =
    let h = cut (piece_line p) (piece_line q) x y (piece_above p f) (piece_above q g) (sym (line_and p x) ∙ e ∙ line_and q y) in
    (sym (piece_back p f) ∙ ap piece_in h.0 ∙ piece_back q g, h.1)

-- the line that comes after those that are known
pub record Next (ps qs : List Piece) (w more : List ℕ) : Type 0 where
  pub piece : Piece
  pub later : List Piece
  pub parts : qs ≡ ps ++ piece ∷ later
  pub line : piece_line piece ≡ w
  pub fits : FitsPiece piece
  pub rest : more ≡ flat_map piece_text later

pub next_line : (ps qs : List Piece) (w more : List ℕ) → Fit ps → Fit qs → HasNoFeed w → flat_map piece_text ps ++ (w ++ 10 ∷ more) ≡ flat_map piece_text qs → Next ps qs w more
next_line [] [] w more f g n e = absurd (omega (arith, ap length e, length-append w (10 ∷ more)))
next_line [] (q ∷ qs) w more f g n e =
    let h = cut_any (piece_line q) w (flat_map piece_text qs) more (piece_above q g.0) n (sym (line_and q (flat_map piece_text qs)) ∙ sym e) in
    record { piece = q; later = qs; parts = refl; line = h.0; fits = g.0; rest = sym h.1 }
next_line (p ∷ ps) [] w more f g n e =
    absurd (no_text p (flat_map piece_text ps ++ (w ++ 10 ∷ more)) (sym e ∙ append_assoc (piece_text p) (flat_map piece_text ps) (w ++ 10 ∷ more)))
next_line (p ∷ ps) (q ∷ qs) w more f g n e =
    let h = first_same p q (flat_map piece_text ps ++ (w ++ 10 ∷ more)) (flat_map piece_text qs) f.0 g.0
    (sym (append_assoc (piece_text p) (flat_map piece_text ps) (w ++ 10 ∷ more)) ∙ e) in
    let k = next_line ps qs w more f.1 g.1 n h.1 in
    record { piece = k.piece; later = k.later; parts = (λ i. sym h.0 i ∷ k.parts i); line = k.line; fits = k.fits; rest = k.rest }

-- what comes after the lines that are known, where it has no line feed, is nothing
pub no_rest : (ps qs : List Piece) (after : List ℕ) → Fit ps → Fit qs → HasNoFeed after → flat_map piece_text ps ++ after ≡ flat_map piece_text qs → qs ≡ ps
no_rest [] [] after f g n e = refl
no_rest [] (q ∷ qs) after f g n e = absurd (no_line (piece_line q) after (flat_map piece_text qs) n (e ∙ line_and q (flat_map piece_text qs)))
no_rest (p ∷ ps) [] after f g n e =
    absurd (no_text p (flat_map piece_text ps ++ after) (sym e ∙ append_assoc (piece_text p) (flat_map piece_text ps) after))
no_rest (p ∷ ps) (q ∷ qs) after f g n e =
    let h = first_same p q (flat_map piece_text ps ++ after) (flat_map piece_text qs) f.0 g.0
    (sym (append_assoc (piece_text p) (flat_map piece_text ps) after) ∙ e) in
    let k = no_rest ps qs after f.1 g.1 n h.1 in
    λ i. sym h.0 i ∷ k i

-- whole lines after whole lines
pub lines_after : (a b : List ℕ) → IsWholeLines a → IsWholeLines b → IsWholeLines (a ++ b)
lines_after a b f (inl none) = elim f [
  | inl e ↦ inl ((λ i. e i ++ none i))
  | inr h ↦ inr (h.0, ap (λ (z : List ℕ). a ++ z) none ∙ append-nil a ∙ h.1)
]
lines_after a b f (inr h) = inr (a ++ h.0, ap (λ (z : List ℕ). a ++ z) h.1 ∙ sym (append_assoc a h.0 (10 ∷ [])))

pub whole_lines : (ps : List Piece) → IsWholeLines (flat_map piece_text ps)
whole_lines [] = inl refl
whole_lines (p ∷ ps) = lines_after (piece_text p) (flat_map piece_text ps) (inr (piece_line p, refl)) (whole_lines ps)
