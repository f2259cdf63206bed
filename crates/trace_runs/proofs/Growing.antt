-- A run that was begun, and one more line.
use Rattle.std.proofs.Common.{◌≡◌, ℕ, ◌≤◌, Bool, false, List, [], ◌∷◌, ◌++◌, length, Some, None, refl, sym, ap, subst, ◌∙◌, arith, append_assoc, append-nil}
use Rattle.std.specs.List.{All, flat_map}
use Rattle.std.proofs.lemmas.List.{length-append}
use Rattle.std.proofs.lemmas.List.Concat.{flat_map-append}
use Rattle.std.proofs.lemmas.List.Elements.{All-push, All-nil, All-tail, All-head}
use Rattle.std.proofs.lemmas.Option.{same_Some, none-some}
use Rattle.orb_base.specs.Pool.{IsWellFormed}
use Rattle.orb_base.specs.declared.lane_spec.LaneSpec.{LaneSpec}
use Rattle.trace_lines.specs.Texts.{lane_text, line_text, pool_text}
use Rattle.trace_lines.specs.declared.trace_line.TraceLine.{TraceLine}
use Rattle.trace_reading.specs.declared.row.Head.{Head}
use Rattle.trace_reading.specs.declared.row.Row.{Row}
use Rattle.trace_reading.specs.declared.row.Row.TheVariants.{Pool as PoolRow, Lane, Entry, Count}
use Rattle.trace_reading.specs.RowReading.{line_in}
use Rattle.trace_reading.specs.RowWords.{row_line, FitsLane, FitsLine, FitsRow}
use Rattle.trace_reading.specs.Traces.{Trace, IsTrace, IsWithin, IsOf, run_text, told_text}
use Rattle.trace_reading.proofs.Printed.{pool_printed, lane_printed, line_printed}
use Rattle.trace_reading.proofs.RowsBack.{line_was}
use Rattle.trace_runs.specs.Reading.{IsMore, IsCount, TakesRow, TakesLine}
use Rattle.trace_runs.specs.declared.step.Step.{Step}
use Rattle.trace_runs.specs.declared.step.Step.TheVariants.{Goes, Ends, Refused}
use Rattle.trace_runs.specs.Begun.{run_of, with_lanes, first_lane, some_lanes, begun_text, IsBegun, HasSpace, add_lane, add_line, MayFollow, after_row}
use Rattle.trace_runs.proofs.Texts.{own_lanes}

-- lanes of which there is one are themselves
some_longer : (xs : List LaneSpec) (x : LaneSpec) → some_lanes (xs ++ x ∷ []) ≡ xs ++ x ∷ []
some_longer [] x = refl
some_longer (y ∷ ys) x = refl

some_same : (xs : List LaneSpec) → 1 ≤ length xs → some_lanes xs ≡ xs
some_same [] l = absurd (omega arith)
some_same (y ∷ ys) l = refl

-- a line that reads as a row is its words
printed : (w : List ℕ) (r : Row) → line_in w ≡ Some r → w ++ 10 ∷ [] ≡ row_line r ++ 10 ∷ []
printed w r e = ap (λ (z : List ℕ). z ++ 10 ∷ []) (line_was w r e).0

pub line_fits : (w : List ℕ) (r : Row) → Some r ≡ line_in w → FitsRow r
line_fits w r e = (line_was w r (sym e)).1

-- one more lane
pub lane_begun : (t : Trace) (l : LaneSpec) → IsBegun t → MayFollow t (Lane l) → IsBegun (add_lane t l)
lane_begun t l f may = record {
  is = subst (λ (z : List LaneSpec). IsTrace (with_lanes t z)) (sym (some_longer t.pool.lanes l)) may.1;
  in_order = λ none. may.0;
  unsummed = f.unsummed;
}

pub lane_text_more : (t : Trace) (l : LaneSpec) (w : List ℕ) → line_in w ≡ Some (Lane l) → MayFollow t (Lane l) → begun_text (add_lane t l) ≡ begun_text t ++ (w ++ 10 ∷ [])
lane_text_more t l w e may =
    let head = pool_text t.pool t.slots t.per_slot in
    ap (λ (z : List TraceLine). (head ++ flat_map lane_text (t.pool.lanes ++ l ∷ [])) ++ flat_map line_text z) may.0
    ∙ append-nil (head ++ flat_map lane_text (t.pool.lanes ++ l ∷ []))
    ∙ ap (λ (z : List ℕ). head ++ z) (flat_map-append lane_text t.pool.lanes (l ∷ []) ∙ ap (λ (z : List ℕ). flat_map lane_text t.pool.lanes ++ z) (append-nil (lane_text l) ∙ lane_printed l ∙ sym (printed w (Lane l) e)))
    ∙ sym (append_assoc head (flat_map lane_text t.pool.lanes) (w ++ 10 ∷ []))
    ∙ ap (λ (z : List ℕ). z ++ (w ++ 10 ∷ [])) (sym (append-nil (head ++ flat_map lane_text t.pool.lanes)) ∙ ap (λ (z : List TraceLine). (head ++ flat_map lane_text t.pool.lanes) ++ flat_map line_text z) (sym may.0))

-- it is one that may follow where the pool is well formed with it
pub lane_may : (t : Trace) (l : LaneSpec) → IsBegun t → FitsLane l → t.lines ≡ [] → IsWellFormed (add_lane t l).pool → MayFollow t (Lane l)
lane_may t l f fits none well = (
  none,
  record {
    can = record { well_formed = well; slots = f.is.can.slots };
    bare = f.is.bare;
    some_lane = omega (arith, length-append t.pool.lanes (l ∷ []));
    lanes = All-push FitsLane t.pool.lanes l (own_lanes FitsLane t.pool.lanes f.is.lanes) fits;
    within = subst (All (IsWithin (add_lane t l))) (sym none) (All-nil (IsWithin (add_lane t l)));
    few = f.is.few;
  },
)

pub lane_well : (t : Trace) (l : LaneSpec) → MayFollow t (Lane l) → IsWellFormed (add_lane t l).pool
lane_well t l may = may.1.can.well_formed

-- one more entry
pub line_begun : (t : Trace) (l : TraceLine) → IsBegun t → MayFollow t (Entry l) → IsBegun (add_line t l)
line_begun t l f is = record {
  is = subst (λ (z : List LaneSpec). IsTrace (with_lanes (add_line t l) z)) (sym (some_same t.pool.lanes is.some_lane)) is;
  in_order = λ none. absurd (omega (arith, is.some_lane, ap length none));
  unsummed = f.unsummed;
}

pub line_text_more : (t : Trace) (l : TraceLine) (w : List ℕ) → line_in w ≡ Some (Entry l) → begun_text (add_line t l) ≡ begun_text t ++ (w ++ 10 ∷ [])
line_text_more t l w e =
    let head = pool_text t.pool t.slots t.per_slot ++ flat_map lane_text t.pool.lanes in
    ap (λ (z : List ℕ). head ++ z) (flat_map-append line_text t.lines (l ∷ []) ∙ ap (λ (z : List ℕ). flat_map line_text t.lines ++ z) (append-nil (line_text l) ∙ line_printed l ∙ sym (printed w (Entry l) e)))
    ∙ sym (append_assoc head (flat_map line_text t.lines) (w ++ 10 ∷ []))

-- it is one that may follow where what it names is the run's, and the run has a lane and may have one more entry
pub line_may : (t : Trace) (l : TraceLine) → IsBegun t → FitsLine l → HasSpace t → IsOf t l.action → MayFollow t (Entry l)
line_may t l f fits space own =
    let some = space.0 in let few = space.1 in
    let is : IsTrace t = subst (λ (z : List LaneSpec). IsTrace (with_lanes t z)) (some_same t.pool.lanes some) f.is in
    record {
      can = is.can;
      bare = is.bare;
      some_lane = some;
      lanes = is.lanes;
      within = All-push (IsWithin t) t.lines l is.within (fits, own);
      few = omega (arith, length-append t.lines (l ∷ []));
    }

pub line_own : (t : Trace) (l : TraceLine) → MayFollow t (Entry l) → HasSpace t × IsOf t l.action
line_own t l is =
    let many = length-append t.lines (l ∷ []) in
    ((is.some_lane, omega (arith, is.few)), (last (IsWithin t) t.lines l is.within).1)
  where
    last : (P : TraceLine → Type 0) (xs : List TraceLine) (x : TraceLine) → All P (xs ++ x ∷ []) → P x
    last P [] x h = All-head P x [] h
    last P (y ∷ ys) x h = last P ys x (All-tail P y (ys ++ x ∷ []) h)

-- how many entries there are
pub count_may : (t : Trace) (n : ℕ) → IsBegun t → 1 ≤ length t.pool.lanes → n ≡ length t.lines → MayFollow t (Count n)
count_may t n f some same = (subst (λ (z : List LaneSpec). IsTrace (with_lanes t z)) (some_same t.pool.lanes some) f.is, same)

pub count_needs : (t : Trace) (n : ℕ) → MayFollow t (Count n) → (1 ≤ length t.pool.lanes) × (n ≡ length t.lines)
count_needs t n may = (may.0.some_lane, may.1)

pub count_text_more : (t : Trace) (n : ℕ) (w : List ℕ) → t.summed ≡ false → line_in w ≡ Some (Count n) → n ≡ length t.lines → run_text t ≡ begun_text t ++ (w ++ 10 ∷ [])
count_text_more t n w none e same =
    ap (λ (b : Bool). (begun_text t ++ (row_line (Count (length t.lines)) ++ 10 ∷ [])) ++ told_text b t.lines) none
    ∙ append-nil (begun_text t ++ (row_line (Count (length t.lines)) ++ 10 ∷ []))
    ∙ ap (λ (m : ℕ). begun_text t ++ (row_line (Count m) ++ 10 ∷ [])) (sym same)
    ∙ ap (λ (z : List ℕ). begun_text t ++ z) (sym (printed w (Count n) e))

-- the first line
pub head_begun : (head : Head) → IsTrace (run_of head (first_lane ∷ []) []) → IsBegun (run_of head [] [])
head_begun head is = record { is = is; in_order = λ none. refl; unsummed = refl }

pub head_text_is : (head : Head) (w : List ℕ) → line_in w ≡ Some (PoolRow head) → IsTrace (run_of head (first_lane ∷ []) []) → begun_text (run_of head [] []) ≡ w ++ 10 ∷ []
head_text_is head w e is =
    append-nil (pool_text (run_of head [] []).pool head.slots head.per_slot ++ [])
    ∙ append-nil (pool_text (run_of head [] []).pool head.slots head.per_slot)
    ∙ pool_printed (run_of head [] []).pool head.slots head.per_slot is.bare
    ∙ sym (printed w (PoolRow head) e)

pub few_lanes : (t : Trace) → IsBegun t → length t.pool.lanes ≤ 16
few_lanes t f = omega (arith, f.is.can.well_formed.lanes.few, own_few t.pool.lanes)
  where
    own_few : (xs : List LaneSpec) → length xs ≤ length (some_lanes xs)
    own_few [] = omega arith
    own_few (x ∷ xs) = omega arith

-- a line that was taken

more_taken : (t : Trace) (w : List ℕ) (r : Row) → IsBegun t → line_in w ≡ Some r → IsMore r → MayFollow t r → TakesLine t w (after_row t r) Goes
more_taken t w (PoolRow h) f e more may = absurd more
more_taken t w (Lane l) f e more may = (lane_begun t l f may, lane_text_more t l w e may)
more_taken t w (Entry l) f e more may = (line_begun t l f may, line_text_more t l w e)
more_taken t w (Count n) f e more may = absurd more

count_taken : (t : Trace) (w : List ℕ) (r : Row) → IsBegun t → line_in w ≡ Some r → IsCount r → MayFollow t r → TakesLine t w t Ends
count_taken t w (PoolRow h) f e last may = absurd last
count_taken t w (Lane l) f e last may = absurd last
count_taken t w (Entry l) f e last may = absurd last
count_taken t w (Count n) f e last may = (may.0, f.unsummed, count_text_more t n w f.unsummed e may.1)

pub row_taken : (t : Trace) (w : List ℕ) (r : Row) (t' : Trace) (s : Step) → IsBegun t → Some r ≡ line_in w → TakesRow t r t' s → TakesLine t w t' s
row_taken t w r t' Goes f e h = subst (λ (z : Trace). TakesLine t w z Goes) (sym h.2) (more_taken t w r f (sym e) h.0 h.1)
row_taken t w r t' Ends f e h = subst (λ (z : Trace). TakesLine t w z Ends) (sym h.2) (count_taken t w r f (sym e) h.0 h.1)
row_taken t w r t' Refused f e h = record { none = λ row is may. h (subst (MayFollow t) (same_Some row r (sym is ∙ sym e)) may) }

pub none_taken : (t : Trace) (w : List ℕ) (t' : Trace) → None ≡ line_in w → TakesLine t w t' Refused
none_taken t w t' e = record { none = λ row is may. none-some row (e ∙ is) }
