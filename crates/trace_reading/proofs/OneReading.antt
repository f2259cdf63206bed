-- An input has one reading.
use Rattle.std.proofs.Common.{◌≡◌, ℕ, suc, Bool, true, false, List, [], ◌∷◌, ◌++◌, length, map, refl, sym, ap, subst, ◌∙◌, arith, append_assoc}
use Rattle.std.specs.List.{All, flat_map}
use Rattle.std.proofs.lemmas.List.Concat.{flat_map-append}
use Rattle.orb_base.specs.declared.lane_spec.LaneSpec.{LaneSpec}
use Rattle.trace_lines.specs.declared.trace_line.TraceLine.{TraceLine}
use Rattle.trace_reading.specs.declared.row.Head.{Head}
use Rattle.trace_reading.specs.declared.row.Row.TheVariants.{Pool, Lane, Entry, Count}
use Rattle.trace_reading.specs.Laws.{HasOneReading}
use Rattle.trace_reading.specs.Traces.{Trace, run_text, IsTrace}
use Rattle.trace_reading.proofs.Pieces.{Piece, Told, Said, piece_text, Fit, fit-append, pieces_same, lane_piece, entry_piece, said_pieces, run_pieces, run_printed, run_fits}
use Rattle.trace_reading.proofs.Printed.{head_of}

abbrev pub pieces : List Trace → List Piece
pieces ts = flat_map run_pieces ts

pub tail : (ts : List Trace) (t : Trace) → All IsTrace (t ∷ ts) → All IsTrace ts
tail ts t h = λ k d l. h (suc k) d (omega arith)

pub all_printed : (ts : List Trace) → All IsTrace ts → flat_map run_text ts ≡ flat_map piece_text (pieces ts)
all_printed [] h = refl
all_printed (t ∷ ts) h =
    (λ i. run_printed t (h 0 t (omega arith)) i ++ all_printed ts (tail ts t h) i) ∙ sym (flat_map-append piece_text (run_pieces t) (pieces ts))

pub all_fit : (ts : List Trace) → All IsTrace ts → Fit (pieces ts)
all_fit [] h = tt
all_fit (t ∷ ts) h = fit-append (run_pieces t) (pieces ts) (run_fits t (h 0 t (omega arith))) (all_fit ts (tail ts t h))

-- which kind of line it is
abbrev pub kind : Piece → ℕ
kind (Told (Pool h)) = 0
kind (Told (Lane l)) = 1
kind (Told (Entry l)) = 2
kind (Told (Count n)) = 3
kind (Said w) = 4

abbrev pub Other : ℕ → List Piece → Type 0
Other k [] = Unit {0}
Other k (p ∷ ps) = kind p ≡ k → ⊥

-- lines of one kind, and then others, are cut alike
lanes_cut : (xs ys : List LaneSpec) (r s : List Piece) → Other 1 r → Other 1 s → map lane_piece xs ++ r ≡ map lane_piece ys ++ s → (xs ≡ ys) × (r ≡ s)
lanes_cut [] [] r s o p e = (refl, e)
lanes_cut [] (y ∷ ys) r s o p e = absurd (subst (Other 1) e o refl)
lanes_cut (x ∷ xs) [] r s o p e = absurd (subst (Other 1) (sym e) p refl)
lanes_cut (x ∷ xs) (y ∷ ys) r s o p e =
    let h : x ≡ y = cc in
    let t : map lane_piece xs ++ r ≡ map lane_piece ys ++ s = cc in
    let k = lanes_cut xs ys r s o p t in ((λ i. h i ∷ k.0 i), k.1)

entries_cut : (xs ys : List TraceLine) (r s : List Piece) → Other 2 r → Other 2 s → map entry_piece xs ++ r ≡ map entry_piece ys ++ s → (xs ≡ ys) × (r ≡ s)
entries_cut [] [] r s o p e = (refl, e)
entries_cut [] (y ∷ ys) r s o p e = absurd (subst (Other 2) e o refl)
entries_cut (x ∷ xs) [] r s o p e = absurd (subst (Other 2) (sym e) p refl)
entries_cut (x ∷ xs) (y ∷ ys) r s o p e =
    let h : x ≡ y = cc in
    let t : map entry_piece xs ++ r ≡ map entry_piece ys ++ s = cc in
    let k = entries_cut xs ys r s o p t in ((λ i. h i ∷ k.0 i), k.1)

-- after the lanes comes no lane
no_lane : (lines : List TraceLine) (n : ℕ) (rest : List Piece) → Other 1 (map entry_piece lines ++ (Told (Count n) ∷ rest))
no_lane [] n rest = λ e. omega (arith, e)
no_lane (l ∷ ls) n rest = λ e. omega (arith, e)

-- no summary begins a run
pub no_said : (ts : List Trace) → Other 4 (pieces ts)
no_said [] = tt
no_said (t ∷ ts) = λ e. omega (arith, e)

said_cut : (a b : Bool) (lines : List TraceLine) (r s : List Piece) → Other 4 r → Other 4 s → said_pieces a lines ++ r ≡ said_pieces b lines ++ s → (a ≡ b) × (r ≡ s)
said_cut true true lines r s o p e = (refl, cc)
said_cut false false lines r s o p e = (refl, e)
said_cut true false lines r s o p e = absurd (subst (Other 4) (sym e) p refl)
said_cut false true lines r s o p e = absurd (subst (Other 4) e o refl)

-- a run, by its parts
abbrev made : Head → List LaneSpec → List TraceLine → Bool → Trace
made head lanes lines summed = record {
  pool = record {
    laned = head.flags.laned;
    lanes = lanes;
    borrowing = head.flags.borrowing;
    buffering = head.flags.buffering;
    max_requests = head.limits.max_requests;
    max_bytes = head.limits.max_bytes;
    run_calls = head.limits.run_calls;
    run_bytes = head.limits.run_bytes;
  };
  slots = head.slots;
  per_slot = head.per_slot;
  lines = lines;
  summed = summed;
}

-- what comes after the first line of a run, and of what is after the run
abbrev pub after_head : Trace → List Piece → List Piece
after_head t r =
    map lane_piece t.pool.lanes ++ (map entry_piece t.lines ++ (Told (Count (length t.lines)) ∷ (said_pieces t.summed t.lines ++ r)))

pub grouped : (t : Trace) (r : List Piece) → run_pieces t ++ r ≡ Told (Pool (head_of t.pool t.slots t.per_slot)) ∷ after_head t r
grouped t r =
    ap (λ (z : List Piece). Told (Pool (head_of t.pool t.slots t.per_slot)) ∷ z)
    (append_assoc (map lane_piece t.pool.lanes) (map entry_piece t.lines ++ (Told (Count (length t.lines)) ∷ said_pieces t.summed t.lines)) r
    ∙ ap (λ (z : List Piece). map lane_piece t.pool.lanes ++ z) (append_assoc (map entry_piece t.lines) (Told (Count (length t.lines)) ∷ said_pieces t.summed t.lines) r))

-- a run is cut off alike, where no summary comes after it
pub run_cut : (t u : Trace) (r s : List Piece) → Other 4 r → Other 4 s → run_pieces t ++ r ≡ run_pieces u ++ s → (t ≡ u) × (r ≡ s)
run_cut t u r s o p e =
    let both : Told (Pool (head_of t.pool t.slots t.per_slot)) ∷ after_head t r ≡ Told (Pool (head_of u.pool u.slots u.per_slot)) ∷ after_head u s = sym (grouped t r) ∙ e ∙ grouped u s in
    let head : head_of t.pool t.slots t.per_slot ≡ head_of u.pool u.slots u.per_slot = cc in
    let rest : after_head t r ≡ after_head u s = cc in
    let lanes = lanes_cut t.pool.lanes u.pool.lanes (map entry_piece t.lines ++ (Told (Count (length t.lines)) ∷ (said_pieces t.summed t.lines ++ r)))
    (map entry_piece u.lines ++ (Told (Count (length u.lines)) ∷ (said_pieces u.summed u.lines ++ s)))
    (no_lane t.lines (length t.lines) (said_pieces t.summed t.lines ++ r)) (no_lane u.lines (length u.lines) (said_pieces u.summed u.lines ++ s)) rest in
    let lines = entries_cut t.lines u.lines (Told (Count (length t.lines)) ∷ (said_pieces t.summed t.lines ++ r)) (Told (Count (length u.lines)) ∷ (said_pieces u.summed u.lines ++ s))
    (λ e. omega (arith, e)) (λ e. omega (arith, e)) lanes.1 in
    let end = lines.1 in
    let last : said_pieces t.summed t.lines ++ r ≡ said_pieces u.summed u.lines ++ s = cc in
    let told = said_cut t.summed u.summed t.lines r s o p (last ∙ ap (λ (z : List TraceLine). said_pieces u.summed z ++ s) (sym lines.0)) in
    ((λ i. made (head i) (lanes.0 i) (lines.0 i) (told.0 i)), told.1)

pub no_run : (t : Trace) (r : List Piece) → [] ≡ run_pieces t ++ r → ⊥
no_run t r e = let h : [] ≡ Told (Pool (head_of t.pool t.slots t.per_slot)) ∷ after_head t r = e ∙ grouped t r in cc

pub runs_same : (ts us : List Trace) → pieces ts ≡ pieces us → ts ≡ us
runs_same [] [] e = refl
runs_same [] (u ∷ us) e = absurd (no_run u (pieces us) e)
runs_same (t ∷ ts) [] e = absurd (no_run t (pieces ts) (sym e))
runs_same (t ∷ ts) (u ∷ us) e =
    let k = run_cut t u (pieces ts) (pieces us) (no_said ts) (no_said us) e in
    let more = runs_same ts us k.1 in
    λ i. k.0 i ∷ more i

pub one_reading : HasOneReading
one_reading bytes ts us a b =
    runs_same ts us (pieces_same (pieces ts) (pieces us) (all_fit ts a.each) (all_fit us b.each)
    (sym (all_printed ts a.each) ∙ sym a.text ∙ b.text ∙ all_printed us b.each))
