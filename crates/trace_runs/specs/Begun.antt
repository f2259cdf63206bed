-- A run of which not all lines were read: its summary isn't, and it may have no lane yet. Own profile.
use Rattle.std.specs.Prelude.{◌≡◌, ◌≤◌, ◌<◌, ◌+◌, ◌^◌, ℕ, false, List, [], ◌∷◌, ◌++◌, length}
use Rattle.std.specs.List.{flat_map}
use Rattle.orb_base.specs.Pool.{Pool}
use Rattle.orb_base.specs.declared.lane_spec.LaneSpec.{LaneSpec}
use Rattle.trace_lines.specs.Texts.{head_text, line_text}
use Rattle.trace_lines.specs.declared.trace_line.TraceLine.{TraceLine}
use Rattle.trace_reading.specs.Faults.{is_feed}
use Rattle.trace_reading.specs.Traces.{Trace, IsTrace}
use Rattle.trace_reading.specs.declared.row.Head.{Head}
use Rattle.trace_reading.specs.declared.row.Row.{Row}
use Rattle.trace_reading.specs.declared.row.Row.TheVariants.{Pool as PoolRow, Lane, Entry, Count}

-- a pool, by the first line of a run and its lanes
abbrev pub pool_of : Head → List LaneSpec → Pool
pool_of head lanes = record {
  laned = head.flags.laned;
  lanes = lanes;
  borrowing = head.flags.borrowing;
  buffering = head.flags.buffering;
  max_requests = head.limits.max_requests;
  max_bytes = head.limits.max_bytes;
  run_calls = head.limits.run_calls;
  run_bytes = head.limits.run_bytes;
}

-- a run without a summary, by its first line, its lanes and its entries
abbrev pub run_of : Head → List LaneSpec → List TraceLine → Trace
run_of head lanes lines = record {
  pool = pool_of head lanes;
  slots = head.slots;
  per_slot = head.per_slot;
  lines = lines;
  summed = false;
}

-- a run with these lanes
abbrev pub with_lanes : Trace → List LaneSpec → Trace
with_lanes t lanes = record t { pool = record t.pool { lanes = lanes } }

-- a lane that any run may begin with
abbrev pub first_lane : LaneSpec
first_lane = record { priority = 0; statics = 1; dynamics = 0 }

-- these lanes, or such a one where there is none yet
abbrev pub some_lanes : List LaneSpec → List LaneSpec
some_lanes [] = first_lane ∷ []
some_lanes (l ∷ ls) = l ∷ ls

-- the lines of a run that were read so far
abbrev pub begun_text : Trace → List ℕ
begun_text t = head_text t.pool t.slots t.per_slot ++ flat_map line_text t.lines

-- a run of which these lines can be the first ones: with its lanes, or with one where none was read yet, it is a run
pub record IsBegun (t : Trace) : Type 0 where
  pub is : IsTrace (with_lanes t (some_lanes t.pool.lanes))
  pub in_order : t.pool.lanes ≡ [] → t.lines ≡ []
  pub unsummed : t.summed ≡ false

-- a run with one more lane
abbrev pub add_lane : Trace → LaneSpec → Trace
add_lane t lane = with_lanes t (t.pool.lanes ++ lane ∷ [])

-- a run with one more entry
abbrev pub add_line : Trace → TraceLine → Trace
add_line t line = record t { lines = t.lines ++ line ∷ [] }

-- a run has a lane, and one more entry is no more than a trace counts
abbrev pub HasSpace : Trace → Type 0
HasSpace t = (1 ≤ length t.pool.lanes) × (length t.lines + 1 < 2 ^ 32)

-- a line may come next
abbrev pub MayFollow : Trace → Row → Type 0
MayFollow t (PoolRow head) = ⊥
MayFollow t (Lane lane) = (t.lines ≡ []) × IsTrace (add_lane t lane)
MayFollow t (Entry line) = IsTrace (add_line t line)
MayFollow t (Count n) = IsTrace t × (n ≡ length t.lines)

-- the run with it
abbrev pub after_row : Trace → Row → Trace
after_row t (Lane lane) = add_lane t lane
after_row t (Entry line) = add_line t line
after_row t row = t

-- no byte is a line feed
abbrev pub HasNoFeed : List ℕ → Type 0
HasNoFeed [] = Unit {0}
HasNoFeed (b ∷ bs) = (is_feed b ≡ false) × HasNoFeed bs
