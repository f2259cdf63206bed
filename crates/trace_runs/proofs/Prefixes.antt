-- What a run is without some of its last lanes and entries.
use Rattle.std.proofs.Common.{◌≡◌, ◌+◌, ◌<◌, ◌≤◌, false, List, [], ◌++◌, length, sym, ap, subst, arith}
use Rattle.std.specs.Prelude.{slice_index_or}
use Rattle.std.specs.List.{All, AllAdjacentBelow}
use Rattle.std.proofs.lemmas.List.{length-append, get_or_append_left}
use Rattle.std.proofs.lemmas.List.Sums.{sum_by-append}
use Rattle.orb_base.specs.Pool.{HasLanes, lane_threads}
use Rattle.orb_base.specs.declared.lane_spec.LaneSpec.{LaneSpec}
use Rattle.trace_lines.specs.declared.trace_line.TraceLine.{TraceLine}
use Rattle.trace_reading.specs.RowWords.{FitsLane}
use Rattle.trace_reading.specs.Traces.{Trace, IsTrace, IsWithin}
use Rattle.trace_runs.specs.Begun.{with_lanes}

-- each of a prefix
pub all_front : {X : Type 0} (P : X → Type 0) (xs ys : List X) → All P (xs ++ ys) → All P xs
all_front P xs ys h k d l = subst P (get_or_append_left xs ys d k l) (h k d (omega (arith, length-append xs ys)))

rising_front : (xs ys : List LaneSpec) → AllAdjacentBelow (λ lane next. lane.priority < next.priority) (xs ++ ys) (length (xs ++ ys))
    → AllAdjacentBelow (λ lane next. lane.priority < next.priority) xs (length xs)
rising_front xs ys h k d l =
    let next : k + 1 < length (xs ++ ys) = omega (arith, length-append xs ys) in
    subst (λ (a : LaneSpec). a.priority < (slice_index_or xs (k + 1) d).priority) (get_or_append_left xs ys d k (omega arith))
    (subst (λ (b : LaneSpec). (slice_index_or (xs ++ ys) k d).priority < b.priority) (get_or_append_left xs ys d (k + 1) l) (h k d next))

lanes_front : (xs ys : List LaneSpec) → HasLanes (xs ++ ys) → HasLanes xs
lanes_front xs ys h = record {
  rising = rising_front xs ys h.rising;
  each = all_front (λ (lane : LaneSpec). 0 < lane_threads lane) xs ys h.each;
  few = omega (arith, h.few, length-append xs ys);
  few_threads = omega (arith, h.few_threads, sum_by-append lane_threads xs ys);
}

-- a run with fewer lanes, and without entries, is one, where it has a lane
pub fewer_lanes : (t : Trace) (xs ys : List LaneSpec) → t.pool.lanes ≡ xs ++ ys → 1 ≤ length xs → t.lines ≡ [] → IsTrace t → IsTrace (with_lanes t xs)
fewer_lanes t xs ys e some none is =
    let many = ap length e in
    record {
      can = record {
        well_formed = record {
          lanes = lanes_front xs ys (subst HasLanes e is.can.well_formed.lanes);
          flat = record {
            one_lane = λ off. omega (arith, is.can.well_formed.flat.one_lane off, many, length-append xs ys);
            no_borrowing = is.can.well_formed.flat.no_borrowing;
          };
          room = record { some_request = is.can.well_formed.room.some_request; some_byte = is.can.well_formed.room.some_byte };
          limits = record {
            requests = is.can.well_formed.limits.requests;
            bytes = is.can.well_formed.limits.bytes;
            calls = is.can.well_formed.limits.calls;
            run = is.can.well_formed.limits.run;
          };
        };
        slots = is.can.slots;
      };
      bare = is.bare;
      some_lane = some;
      lanes = all_front FitsLane xs ys (subst (All FitsLane) e is.lanes);
      within = subst (All (IsWithin (with_lanes t xs))) (sym none) (λ k d l. absurd (omega arith));
      few = is.few;
    }

-- a run with fewer entries is one
pub fewer_lines : (t : Trace) (xs ys : List TraceLine) → t.lines ≡ xs ++ ys → IsTrace t → IsTrace (record t { lines = xs; summed = false })
fewer_lines t xs ys e is = record {
  can = is.can;
  bare = is.bare;
  some_lane = is.some_lane;
  lanes = is.lanes;
  within = all_front (IsWithin t) xs ys (subst (All (IsWithin t)) e is.within);
  few = omega (arith, is.few, ap length e, length-append xs ys);
}
