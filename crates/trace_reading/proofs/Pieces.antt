-- An input as a list of lines.
use Rattle.std.proofs.Common.{◌≡◌, ℕ, ◌*◌, ◌<◌, ◌≤◌, ◌^◌, zero, suc, ltb, Bool, true, false, List, [], ◌∷◌, ◌++◌, length, map, Option, Some, None, refl, sym, ap, ◌∙◌, arith, append_assoc, append-nil}
use Rattle.std.specs.List.{All, flat_map}
use Rattle.std.proofs.lemmas.Bool.{and_parts, ltb-true}
use Rattle.std.proofs.lemmas.List.{length-append}
use Rattle.std.proofs.lemmas.List.Concat.{flat_map-append}
use Rattle.orb_base.specs.declared.lane_spec.LaneSpec.{LaneSpec}
use Rattle.trace_lines.specs.ReadBack.{history_of}
use Rattle.trace_lines.specs.Summaries.{summary_of}
use Rattle.trace_lines.specs.Texts.{lane_text, line_text}
use Rattle.trace_lines.specs.declared.trace_line.TraceLine.{TraceLine}
use Rattle.trace_reading.specs.declared.row.Row.{Row}
use Rattle.trace_reading.specs.declared.row.Row.TheVariants.{Pool, Lane, Entry, Count}
use Rattle.trace_reading.specs.RowReading.{line_in}
use Rattle.trace_reading.specs.RowWords.{row_words, row_line, FitsLane, FitsRow}
use Rattle.trace_reading.specs.Traces.{Trace, told_text, run_text, IsWithin, IsTrace}
use Rattle.trace_reading.proofs.Counted.{said, summary_printed, said_unread, said_above}
use Rattle.trace_reading.proofs.Joins.{above, above_join}
use Rattle.trace_reading.proofs.Printed.{head_of, line_printed, lane_printed, count_printed, pool_printed}
use Rattle.trace_reading.proofs.RowsBack.{row_above, line_back}

-- a line: one that is read as a row, or any other
pub data Piece : Type 0 where
  Told : Row → Piece
  Said : List ℕ → Piece

abbrev pub piece_line : Piece → List ℕ
piece_line (Told r) = row_line r
piece_line (Said w) = w

abbrev pub piece_text : Piece → List ℕ
piece_text p = piece_line p ++ 10 ∷ []

abbrev pub FitsPiece : Piece → Type 0
FitsPiece (Told r) = FitsRow r
FitsPiece (Said w) = (line_in w ≡ None) × (above 10 w ≡ true)

abbrev pub Fit : List Piece → Type 0
Fit [] = Unit {0}
Fit (p ∷ ps) = FitsPiece p × Fit ps

abbrev pub piece_by : Option Row → List ℕ → Piece
piece_by (Some r) w = Told r
piece_by None w = Said w

abbrev pub piece_in : List ℕ → Piece
piece_in w = piece_by (line_in w) w

pub piece_back : (p : Piece) → FitsPiece p → piece_in (piece_line p) ≡ p
piece_back (Told r) f = ap (λ (o : Option Row). piece_by o (row_line r)) (line_back r f)
piece_back (Said w) f = ap (λ (o : Option Row). piece_by o w) f.0

pub piece_above : (p : Piece) → FitsPiece p → above 10 (piece_line p) ≡ true
piece_above (Told r) f = above_join (row_words r) (row_above r f)
piece_above (Said w) f = f.1

-- two texts are cut at their first line feeds alike
pub cut : (a b x y : List ℕ) → above 10 a ≡ true → above 10 b ≡ true → a ++ 10 ∷ x ≡ b ++ 10 ∷ y → (a ≡ b) × (x ≡ y)
cut [] [] x y p q e = (refl, cc)
cut [] (d ∷ ds) x y p q e = let h : 10 ≡ d = cc in absurd (let k = ltb-true 10 d (and_parts (ltb 10 d) (above 10 ds) q).0 in omega arith)
cut (c ∷ cs) [] x y p q e = let h : c ≡ 10 = cc in absurd (let k = ltb-true 10 c (and_parts (ltb 10 c) (above 10 cs) p).0 in omega arith)
cut (c ∷ cs) (d ∷ ds) x y p q e =
    let h : c ≡ d = cc in
    let t : cs ++ 10 ∷ x ≡ ds ++ 10 ∷ y = cc in
    let k = cut cs ds x y (and_parts (ltb 10 c) (above 10 cs) p).1 (and_parts (ltb 10 d) (above 10 ds) q).1 t in
    ((λ i. h i ∷ k.0 i), k.1)

pub no_text : (p : Piece) (rest : List ℕ) → [] ≡ piece_text p ++ rest → ⊥
no_text p rest e = omega (arith, ap length e, length-append (piece_text p) rest, length-append (piece_line p) (10 ∷ []))

-- a text has its lines one way
pub pieces_same : (ps qs : List Piece) → Fit ps → Fit qs → flat_map piece_text ps ≡ flat_map piece_text qs → ps ≡ qs
pieces_same [] [] f g e = refl
pieces_same [] (q ∷ qs) f g e = absurd (no_text q (flat_map piece_text qs) e)
pieces_same (p ∷ ps) [] f g e = absurd (no_text p (flat_map piece_text ps) (sym e))
pieces_same (p ∷ ps) (q ∷ qs) f g e =
    let h = cut (piece_line p) (piece_line q) (flat_map piece_text ps) (flat_map piece_text qs) (piece_above p f.0) (piece_above q g.0)
    (sym (append_assoc (piece_line p) (10 ∷ []) (flat_map piece_text ps)) ∙ e ∙ append_assoc (piece_line q) (10 ∷ []) (flat_map piece_text qs)) in
    let same : p ≡ q = sym (piece_back p f.0) ∙ ap piece_in h.0 ∙ piece_back q g.0 in
    let rest = pieces_same ps qs f.1 g.1 h.1 in
    λ i. same i ∷ rest i

-- the lines of a run

abbrev pub lane_piece : LaneSpec → Piece
lane_piece lane = Told (Lane lane)

abbrev pub entry_piece : TraceLine → Piece
entry_piece line = Told (Entry line)

abbrev pub said_pieces : Bool → List TraceLine → List Piece
said_pieces true lines = Said (said (summary_of (history_of lines))) ∷ []
said_pieces false lines = []

abbrev pub run_pieces : Trace → List Piece
run_pieces t =
    Told (Pool (head_of t.pool t.slots t.per_slot))
    ∷ (map lane_piece t.pool.lanes ++ (map entry_piece t.lines ++ (Told (Count (length t.lines)) ∷ said_pieces t.summed t.lines)))

pub lanes_printed : (lanes : List LaneSpec) → flat_map lane_text lanes ≡ flat_map piece_text (map lane_piece lanes)
lanes_printed [] = refl
lanes_printed (l ∷ ls) = λ i. lane_printed l i ++ lanes_printed ls i

pub lines_printed : (lines : List TraceLine) → flat_map line_text lines ≡ flat_map piece_text (map entry_piece lines)
lines_printed [] = refl
lines_printed (l ∷ ls) = λ i. line_printed l i ++ lines_printed ls i

told_printed : (summed : Bool) (lines : List TraceLine) → told_text summed lines ≡ flat_map piece_text (said_pieces summed lines)
told_printed true lines = summary_printed (summary_of (history_of lines)) ∙ sym (append-nil (piece_text (Said (said (summary_of (history_of lines))))))
told_printed false lines = refl

regroup : (a b c d e : List ℕ) → (((a ++ b) ++ c) ++ d) ++ e ≡ a ++ (b ++ (c ++ (d ++ e)))
regroup a b c d e = simp append_assoc

pub run_printed : (t : Trace) → IsTrace t → run_text t ≡ flat_map piece_text (run_pieces t)
run_printed t is =
    let head = Told (Pool (head_of t.pool t.slots t.per_slot)) in
    let lanes = map lane_piece t.pool.lanes in
    let entries = map entry_piece t.lines in
    let last = Told (Count (length t.lines)) ∷ said_pieces t.summed t.lines in
    (λ i. (((pool_printed t.pool t.slots t.per_slot is.bare i ++ lanes_printed t.pool.lanes i) ++ lines_printed t.lines i) ++ count_printed (length t.lines) i) ++ told_printed t.summed t.lines i)
    ∙ regroup (piece_text head) (flat_map piece_text lanes) (flat_map piece_text entries) (piece_text (Told (Count (length t.lines)))) (flat_map piece_text (said_pieces t.summed t.lines))
    ∙ ap (λ (z : List ℕ). piece_text head ++ z) (ap (λ (z : List ℕ). flat_map piece_text lanes ++ z) (sym (flat_map-append piece_text entries last))
    ∙ sym (flat_map-append piece_text lanes (entries ++ last)))

-- the numbers of a run fit

pub fit-append : (ps qs : List Piece) → Fit ps → Fit qs → Fit (ps ++ qs)
fit-append [] qs f g = g
fit-append (p ∷ ps) qs f g = (f.0, fit-append ps qs f.1 g)

pub fit_lanes : (lanes : List LaneSpec) → All FitsLane lanes → Fit (map lane_piece lanes)
fit_lanes [] h = tt
fit_lanes (l ∷ ls) h = (h 0 l (omega arith), fit_lanes ls (λ k d m. h (suc k) d (omega arith)))

pub fit_lines : (t : Trace) (lines : List TraceLine) → All (IsWithin t) lines → Fit (map entry_piece lines)
fit_lines t [] h = tt
fit_lines t (l ∷ ls) h = ((h 0 l (omega arith)).0, fit_lines t ls (λ k d m. h (suc k) d (omega arith)))

fit_said : (summed : Bool) (lines : List TraceLine) → length lines < 2 ^ 32 → Fit (said_pieces summed lines)
fit_said true lines l = ((said_unread lines l, said_above lines l), tt)
fit_said false lines l = tt

pub few_per_slot : (slots per_slot : ℕ) → 1 ≤ slots → slots * per_slot ≤ 128 → per_slot < 2 ^ 8
few_per_slot zero per_slot some l = absurd (omega arith)
few_per_slot (suc slots) per_slot some l = grind arith

pub run_fits : (t : Trace) → IsTrace t → Fit (run_pieces t)
run_fits t is =
    let limits = is.can.well_formed.limits in
    let slots = is.can.slots in
    let small : t.per_slot < 2 ^ 8 = few_per_slot t.slots t.per_slot slots.some_slot slots.few_connections in (
      ((omega (arith, limits.requests), omega (arith, limits.bytes), omega (arith, limits.calls), omega (arith, limits.run)), omega (arith, slots.few_slots), small),
      fit-append (map lane_piece t.pool.lanes) (map entry_piece t.lines ++ (Told (Count (length t.lines)) ∷ said_pieces t.summed t.lines)) (fit_lanes t.pool.lanes is.lanes)
          (fit-append (map entry_piece t.lines) (Told (Count (length t.lines)) ∷ said_pieces t.summed t.lines) (fit_lines t t.lines is.within)
          (is.few, fit_said t.summed t.lines is.few)),
    )
