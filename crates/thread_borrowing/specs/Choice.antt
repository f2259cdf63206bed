-- The thread for a request: Real-time CORBA 1.2, Threadpools.
use Rattle.std.specs.Prelude.{◌≡◌, ℕ, ◌+◌, ◌*◌, max, Bool, true, not, ◌==◌, ◌&&◌, ◌||◌, nat_lt, if◌then◌else◌, List, [], ◌∷◌, Option, position}
use Rattle.thread_borrowing.specs.declared.choice.Choice.{Choice}
use Rattle.thread_borrowing.specs.ThreadList.{Thread, is_free}

-- the greatest weight of those that pass, or 0
abbrev pub greatest : {X : Type 0} → (X → Bool) → (X → ℕ) → List X → ℕ
greatest passes weight [] = 0
greatest passes weight (x ∷ xs) = if passes x then max (weight x) (greatest passes weight xs) else greatest passes weight xs

-- the place of the first among those that pass and have the greatest weight of them
abbrev pub first_greatest : {X : Type 0} → (X → Bool) → (X → ℕ) → List X → Option ℕ
first_greatest passes weight xs = position (λ x. passes x && (weight x == greatest passes weight xs)) xs

-- a thread may run the requests of its lane, and with borrowing those of higher lanes
abbrev pub may_run : Bool → ℕ → ℕ → Bool
may_run borrowing thread_lane job_lane = (thread_lane == job_lane) || (borrowing && nat_lt thread_lane job_lane)

-- in a lane a static thread is before a started dynamic one, and that before one that is not started
abbrev pub standing : Thread → ℕ
standing thread = if thread.is_static then 2 else (if thread.started then 1 else 0)

-- higher lanes first, and in a lane by standing
abbrev pub rank : Thread → ℕ
rank thread = 3 * thread.lane + standing thread

-- the thread has no task and may run a request of this lane
abbrev pub can_start : Bool → ℕ → Thread → Bool
can_start borrowing lane thread = is_free thread.doing && may_run borrowing thread.lane lane

-- the number of the thread that is given a request of this lane
unfoldable pub chosen_thread : Bool → ℕ → List Thread → Option ℕ
chosen_thread borrowing lane threads = first_greatest (can_start borrowing lane) rank threads

-- what a choice says of its thread: it can start, it is lent, it is started for the request
abbrev pub Suits : Bool → ℕ → Choice → Thread → Type 0
Suits borrowing lane choice thread =
    (can_start borrowing lane thread ≡ true) × (choice.lent ≡ not (thread.lane == lane)) × (choice.starts ≡ not thread.started)
