-- The choice of a thread, as the way of a request down the lanes: Real-time CORBA 1.2, Threadpools.
use Rattle.std.specs.Prelude.{◌≡◌, ◌<◌, ◌≤◌, ◌⊎◌, ℕ, zero, suc, Bool, true, false, ◌==◌, ◌&&◌, List, Option, position}
use Rattle.std.specs.Option.{option_or}
use Rattle.thread_borrowing.specs.ThreadList.{Thread, is_free}
use Rattle.thread_borrowing.specs.Choice.{standing}

-- a thread of a lane that has no task and is so
abbrev pub stands_in : ℕ → ℕ → Thread → Bool
stands_in lane how thread = is_free thread.doing && (thread.lane == lane) && (standing thread == how)

-- the first such thread
abbrev pub first_standing : ℕ → ℕ → List Thread → Option ℕ
first_standing lane how threads = position (stands_in lane how) threads

-- in a lane: a static thread, else a started dynamic one, else one that is not started
abbrev pub in_lane : ℕ → List Thread → Option ℕ
in_lane lane threads = option_or (first_standing lane 2 threads) (option_or (first_standing lane 1 threads) (first_standing lane 0 threads))

-- a lane, and with borrowing the lanes below it, one after another
abbrev pub down_from : Bool → ℕ → List Thread → Option ℕ
down_from false lane threads = in_lane lane threads
down_from true zero threads = in_lane zero threads
down_from true (suc lane) threads = option_or (in_lane (suc lane) threads) (down_from true lane threads)

-- this thread is before the other: in a higher lane, or of higher standing in the same, or of a smaller number
abbrev pub StandsBefore : ℕ → Thread → ℕ → Thread → Type 0
StandsBefore t thread k other =
    (other.lane < thread.lane)
    ⊎ ((other.lane ≡ thread.lane) × ((standing other < standing thread) ⊎ ((standing other ≡ standing thread) × (t ≤ k))))
