-- Where things are drawn: entries from left to right, and from the bottom up the threads of each lane and above them a strip for what
-- waits. Lengths are in units of the picture. Own profile.
use Rattle.std.specs.Prelude.{ℕ, ◌+◌, ◌-◌, ◌*◌, ◌/◌, List, [], ◌∷◌, ◌++◌, length, map, max, count_by, slice_index, replicate, nat_le, nat_lt, if◌then◌else◌}
use Rattle.orb_base.specs.Pool.{Pool, lane_threads}
use Rattle.orb_base.specs.declared.lane_spec.LaneSpec.{LaneSpec}
use Rattle.trace_picture.specs.declared.layout.TheConstants.{LEFT, TOP, ROW, STRIP, SPACE, EDGE, MIN_WIDTH, FOOT}

-- a picture: the number of its first entry and how many there are, how wide an entry is, the lane of each thread, and the priority of each
-- lane
pub record Plot : Type 0 where
  pub first : ℕ
  pub count : ℕ
  pub step : ℕ
  pub homes : List ℕ
  pub priorities : List ℕ

-- how wide an entry is, by how many there are
abbrev pub step_of : ℕ → ℕ
step_of count =
    if nat_lt count 31 then 40 else if nat_lt count 61 then 20 else if nat_lt count 151 then 8 else if nat_lt count 301 then 4 else 2

-- the lane of each thread of these lanes, of which the first has this number
abbrev pub homes_from : ℕ → List LaneSpec → List ℕ
homes_from l [] = []
homes_from l (lane ∷ lanes) = replicate (lane_threads lane) l ++ homes_from (l + 1) lanes

-- the picture of so many entries of a run with this pool, of which the first has this number
abbrev pub plot_of : Pool → ℕ → ℕ → Plot
plot_of pool first count = record {
  first = first;
  count = count;
  step = step_of count;
  homes = homes_from 0 pool.lanes;
  priorities = map (λ lane. lane.priority) pool.lanes;
}

-- where an entry is; the left edge for one before the first
abbrev pub x_of : Plot → ℕ → ℕ
x_of p n = LEFT + (n - p.first) * p.step

-- how wide the rows are
abbrev pub row_width : Plot → ℕ
row_width p = p.count * p.step + EDGE

-- where the last row ends
abbrev pub bottom : Plot → ℕ
bottom p = TOP + (ROW * length p.homes + STRIP * length p.priorities)

-- the lane of a thread
abbrev pub home_of : Plot → ℕ → ℕ
home_of p t = slice_index p.homes t

-- how many threads the lanes up to this one have, by the lane of each thread
abbrev pub homes_up_to : List ℕ → ℕ → ℕ
homes_up_to homes l = count_by (λ h. nat_le h l) homes

-- how many entries are between two numbers at the axis, the number at a place there, and how many places there are besides the first
abbrev pub spacing : Plot → ℕ
spacing p = SPACE / p.step

-- the number at this place of the axis
abbrev pub number_of : Plot → ℕ → ℕ
number_of p i = p.first + spacing p * i

-- how many places there are besides the first
abbrev pub ticks : Plot → ℕ
ticks p = p.count * p.step / SPACE

-- where the row of a thread is
abbrev pub thread_y : Plot → ℕ → ℕ
thread_y p t = bottom p - (ROW * (t + 1) + STRIP * home_of p t)

-- where the strip of a lane is
abbrev pub strip_y : Plot → ℕ → ℕ
strip_y p l = bottom p - (ROW * homes_up_to p.homes l + STRIP * (l + 1))

-- how wide and how high a picture is
abbrev pub width : Plot → ℕ
width p = max MIN_WIDTH (LEFT + row_width p)

-- how high a picture is
abbrev pub height : Plot → ℕ
height p = bottom p + FOOT
