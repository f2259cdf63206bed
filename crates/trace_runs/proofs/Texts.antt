-- The text of a run that was begun, line by line.
use Rattle.std.proofs.Common.{◌≡◌, ℕ, ◌<◌, Bool, false, List, [], ◌∷◌, ◌++◌, length, map, Some, refl, sym, ap, subst, ◌∙◌, arith, append_assoc, append-nil}
use Rattle.std.specs.List.{All, flat_map}
use Rattle.std.proofs.lemmas.List.Concat.{flat_map-append}
use Rattle.std.proofs.lemmas.List.Elements.{All-nil, All-cons}
use Rattle.orb_base.specs.declared.lane_spec.LaneSpec.{LaneSpec}
use Rattle.trace_lines.specs.Texts.{lane_text, count_text, pool_text}
use Rattle.trace_lines.specs.declared.trace_line.TraceLine.{TraceLine}
use Rattle.trace_reading.specs.declared.row.Head.{Head}
use Rattle.trace_reading.specs.declared.row.Row.{Row}
use Rattle.trace_reading.specs.declared.row.Row.TheVariants.{Pool as PoolRow, Lane, Entry, Count}
use Rattle.trace_reading.specs.RowReading.{line_in}
use Rattle.trace_reading.specs.RowWords.{FitsLane}
use Rattle.trace_reading.specs.Traces.{Trace, IsTrace, AreTraces, MayBegin}
use Rattle.trace_reading.proofs.OneReading.{all_printed, all_fit, pieces}
use Rattle.trace_reading.proofs.Pieces.{Piece, Told, Said, piece_line, piece_text, FitsPiece, Fit, fit-append, lane_piece, entry_piece, run_fits, lanes_printed, lines_printed, fit_lanes, fit_lines}
use Rattle.trace_reading.proofs.Printed.{head_of, pool_printed}
use Rattle.trace_reading.proofs.RowsBack.{line_back}
use Rattle.trace_runs.specs.Begun.{run_of, with_lanes, first_lane, some_lanes, begun_text, IsBegun, MayFollow, HasNoFeed}
use Rattle.trace_runs.proofs.Rests.{next_line, no_rest}
use Rattle.trace_runs.proofs.Following.{begun_pieces, Follows, follows, Opens, opens, unfinished}

-- the lines of a run that was begun
abbrev pub lines_of : Trace → List Piece
lines_of t = begun_pieces (head_of t.pool t.slots t.per_slot) t.pool.lanes t.lines

regroup : (a b c : List ℕ) → (a ++ b) ++ c ≡ a ++ (b ++ c)
regroup a b c = append_assoc a b c

pub begun_printed : (t : Trace) → IsBegun t → begun_text t ≡ flat_map piece_text (lines_of t)
begun_printed t f =
    let head = Told (PoolRow (head_of t.pool t.slots t.per_slot)) in
    (λ i. (pool_printed t.pool t.slots t.per_slot f.is.bare i ++ lanes_printed t.pool.lanes i) ++ lines_printed t.lines i)
    ∙ append_assoc (piece_text head) (flat_map piece_text (map lane_piece t.pool.lanes)) (flat_map piece_text (map entry_piece t.lines))
    ∙ ap (λ (z : List ℕ). piece_text head ++ z) (sym (flat_map-append piece_text (map lane_piece t.pool.lanes) (map entry_piece t.lines)))

-- lanes that fit with one of one's own choosing fit
pub own_lanes : (P : LaneSpec → Type 0) (lanes : List LaneSpec) → All P (some_lanes lanes) → All P lanes
own_lanes P [] h = All-nil P
own_lanes P (l ∷ ls) h = h

pub begun_fits : (t : Trace) → IsBegun t → Fit (lines_of t)
begun_fits t f = (
  (run_fits (with_lanes t (some_lanes t.pool.lanes)) f.is).0,
  fit-append (map lane_piece t.pool.lanes) (map entry_piece t.lines) (fit_lanes t.pool.lanes (own_lanes FitsLane t.pool.lanes f.is.lanes))
      (fit_lines (with_lanes t (some_lanes t.pool.lanes)) t.lines f.is.within),
)

-- a run that is not summed is what its first line, its lanes and its entries say
pub is_run_of : (t : Trace) → t.summed ≡ false → t ≡ run_of (head_of t.pool t.slots t.per_slot) t.pool.lanes t.lines
is_run_of t e = ap (λ (b : Bool). record t { summed = b }) e

-- a line after a run that was begun, with which an input begins, may follow
pub next_follows : (t : Trace) (w : List ℕ) → IsBegun t → HasNoFeed w → MayBegin (begun_text t ++ (w ++ 10 ∷ [])) → (r : Row) × (line_in w ≡ Some r) × MayFollow t r
next_follows t w f n begins =
    let more = begins.0 in let us = begins.1 in let are = begins.2 in
    let text : flat_map piece_text (lines_of t) ++ (w ++ 10 ∷ more) ≡ flat_map piece_text (pieces us) =
    ap (λ (z : List ℕ). z ++ (w ++ 10 ∷ more)) (sym (begun_printed t f))
    ∙ ap (λ (z : List ℕ). begun_text t ++ z) (sym (append_assoc w (10 ∷ []) more))
    ∙ sym (append_assoc (begun_text t) (w ++ 10 ∷ []) more) ∙ are.text ∙ all_printed us are.each in
    let k = next_line (lines_of t) (pieces us) w more (begun_fits t f) (all_fit us are.each) n text in
    let may = follows us (head_of t.pool t.slots t.per_slot) t.pool.lanes t.lines k.piece k.later are.each k.parts in
    told t w k.piece k.fits k.line (subst (λ (z : Trace). Follows z k.piece) (sym (is_run_of t f.unsummed)) may)
  where
    told : (t : Trace) (w : List ℕ) (q : Piece) → FitsPiece q → piece_line q ≡ w → Follows t q → (r : Row) × (line_in w ≡ Some r) × MayFollow t r
    told t w (Told r) fits e may = (r, ap line_in (sym e) ∙ line_back r fits, may)
    told t w (Said v) fits e may = absurd may

-- the first line of an input opens a run
pub first_opens : (w : List ℕ) → HasNoFeed w → MayBegin (w ++ 10 ∷ []) → (head : Head) × (line_in w ≡ Some (PoolRow head)) × IsTrace (run_of head (first_lane ∷ []) [])
first_opens w n begins =
    let more = begins.0 in let us = begins.1 in let are = begins.2 in
    let text : w ++ 10 ∷ more ≡ flat_map piece_text (pieces us) = sym (append_assoc w (10 ∷ []) more) ∙ are.text ∙ all_printed us are.each in
    let k = next_line [] (pieces us) w more tt (all_fit us are.each) n text in
    told w k.piece k.fits k.line (opens us k.piece k.later are.each k.parts)
  where
    told : (w : List ℕ) (q : Piece) → FitsPiece q → piece_line q ≡ w → Opens q → (head : Head) × (line_in w ≡ Some (PoolRow head)) × IsTrace (run_of head (first_lane ∷ []) [])
    told w (Told (PoolRow head)) fits e may = (head, ap line_in (sym e) ∙ line_back (PoolRow head) fits, may)
    told w (Told (Lane l)) fits e may = absurd may
    told w (Told (Entry l)) fits e may = absurd may
    told w (Told (Count m)) fits e may = absurd may
    told w (Said v) fits e may = absurd may

-- a run that was begun is no whole input, also not with a part of a line
pub no_traces : (t : Trace) (after : List ℕ) (us : List Trace) → IsBegun t → HasNoFeed after → ¬ AreTraces (begun_text t ++ after) us
no_traces t after us f n are =
    let text : flat_map piece_text (lines_of t) ++ after ≡ flat_map piece_text (pieces us) =
    ap (λ (z : List ℕ). z ++ after) (sym (begun_printed t f)) ∙ are.text ∙ all_printed us are.each in
    unfinished us (head_of t.pool t.slots t.per_slot) t.pool.lanes t.lines (no_rest (lines_of t) (pieces us) after (begun_fits t f) (all_fit us are.each) n text)

-- nor is a part of a line
pub no_part : (after : List ℕ) (us : List Trace) → HasNoFeed after → 0 < length after → ¬ AreTraces after us
no_part after us n some are =
    let same : pieces us ≡ [] = no_rest [] (pieces us) after tt (all_fit us are.each) n (are.text ∙ all_printed us are.each) in
    let none : after ≡ [] = are.text ∙ all_printed us are.each ∙ ap (λ (z : List Piece). flat_map piece_text z) same in
    omega (arith, ap length none)

-- an input may begin with a run that was begun

counted : (head : Head) (lanes : List LaneSpec) (lines : List TraceLine) → IsTrace (run_of head lanes lines)
    → AreTraces (begun_text (run_of head lanes lines) ++ count_text (length lines)) (run_of head lanes lines ∷ [])
counted head lanes lines is = record {
  text = sym (append-nil (begun_text (run_of head lanes lines) ++ count_text (length lines)))
      ∙ sym (append-nil ((begun_text (run_of head lanes lines) ++ count_text (length lines)) ++ []));
  each = All-cons IsTrace (run_of head lanes lines) [] is (All-nil IsTrace);
}

whole : (head : Head) (lanes : List LaneSpec) (lines : List TraceLine) → IsTrace (run_of head lanes lines) → MayBegin (begun_text (run_of head lanes lines))
whole head lanes lines is = (count_text (length lines), run_of head lanes lines ∷ [], counted head lanes lines is)

bare_begins : (head : Head) → IsTrace (run_of head (first_lane ∷ []) []) → MayBegin (begun_text (run_of head [] []))
bare_begins head is =
    let h = counted head (first_lane ∷ []) [] is in (
      lane_text first_lane ++ count_text 0,
      run_of head (first_lane ∷ []) [] ∷ [],
      record { text = all_alike (pool_text (run_of head [] []).pool head.slots head.per_slot) (lane_text first_lane) (count_text 0) ∙ h.text; each = h.each },
    )
  where
    all_alike : (a b c : List ℕ) → ((a ++ []) ++ []) ++ (b ++ c) ≡ ((a ++ (b ++ [])) ++ []) ++ c
    all_alike a b c = simp (append_assoc, append-nil)

begins_by : (head : Head) (lanes : List LaneSpec) (lines : List TraceLine) → (lanes ≡ [] → lines ≡ []) → IsTrace (run_of head (some_lanes lanes) lines)
    → MayBegin (begun_text (run_of head lanes lines))
begins_by head [] lines order is =
    subst (λ (z : List TraceLine). MayBegin (begun_text (run_of head [] z))) (sym (order refl))
    (bare_begins head (subst (λ (z : List TraceLine). IsTrace (run_of head (first_lane ∷ []) z)) (order refl) is))
begins_by head (l ∷ ls) lines order is = whole head (l ∷ ls) lines is

pub begins : (t : Trace) → IsBegun t → MayBegin (begun_text t)
begins t f =
    subst (λ (z : Trace). MayBegin (begun_text z)) (sym (is_run_of t f.unsummed))
    (begins_by (head_of t.pool t.slots t.per_slot) t.pool.lanes t.lines f.in_order
    (subst IsTrace (is_run_of (with_lanes t (some_lanes t.pool.lanes)) f.unsummed) f.is))
