-- The threads of a lane without a task, as sets of their numbers: Real-time CORBA 1.2, Threadpools.
use Rattle.std.specs.Prelude.{◌≡◌, ◌<◌, ◌≤◌, ◌⊎◌, ℕ, Bool, true, false, not, ◌==◌, ◌&&◌, ◌||◌, List, Option, Some, None, length, slice_get}
use Rattle.std.specs.Int.{bit_at}
use Rattle.orb_base.specs.declared.limits.TheConstants.{MAX_LANES, MAX_THREADS}
use Rattle.thread_borrowing.specs.declared.mask.Mask.{Mask}
use Rattle.thread_borrowing.specs.declared.probes.LaneSet.{LaneSet}
use Rattle.thread_borrowing.specs.declared.standing.Standing.{Standing}
use Rattle.thread_borrowing.specs.declared.standing.Standing.TheVariants.{Static, Started, Resting}
use Rattle.thread_borrowing.specs.ThreadList.{Thread, is_free}
use Rattle.thread_borrowing.specs.Chain.{stands_in}

-- a mask has this number
unfoldable pub has : Mask → ℕ → Bool
has mask number = bit_at mask.bits number == 1

-- the least number of a mask, or None where it has none
abbrev pub IsLeast : Mask → Option ℕ → Type 0
IsLeast mask None = (k : ℕ) → has mask k ≡ false
IsLeast mask (Some least) = (has mask least ≡ true) × ((k : ℕ) → k < least → has mask k ≡ false)

-- a mask gained a number, and kept the others
pub record Gained (number : ℕ) (old new : Mask) : Type 0 where
  pub is : (k : ℕ) → has new k ≡ ((k == number) || has old k)

-- a mask lost a number, and kept the others
pub record Lost (number : ℕ) (old new : Mask) : Type 0 where
  pub is : (k : ℕ) → has new k ≡ (not (k == number) && has old k)

-- a lane's first thread without a task, and whether it is started for the request: a static one, a started one, or another
abbrev pub IsProbed : LaneSet → Option (ℕ × Bool) → Type 0
IsProbed set None = IsLeast set.statics None × IsLeast set.started None × IsLeast set.resting None
IsProbed set (Some (thread, starts)) =
    (IsLeast set.statics (Some thread) × (starts ≡ false))
    ⊎ ((IsLeast set.statics None × IsLeast set.started (Some thread) × (starts ≡ false))
    ⊎ (IsLeast set.statics None × IsLeast set.started None × IsLeast set.resting (Some thread) × (starts ≡ true)))

-- a set gained a thread that is so, and kept the others
abbrev pub IsPut : ℕ → Standing → LaneSet → LaneSet → Type 0
IsPut thread Static old new = Gained thread old.statics new.statics × (new.started ≡ old.started) × (new.resting ≡ old.resting)
IsPut thread Started old new = (new.statics ≡ old.statics) × Gained thread old.started new.started × (new.resting ≡ old.resting)
IsPut thread Resting old new = (new.statics ≡ old.statics) × (new.started ≡ old.started) × Gained thread old.resting new.resting

-- a set lost a thread, and kept the others
pub record IsCleared (thread : ℕ) (old new : LaneSet) : Type 0 where
  pub statics : Lost thread old.statics new.statics
  pub started : Lost thread old.started new.started
  pub resting : Lost thread old.resting new.resting

-- a standing as a number, which is greater for a thread that goes first
abbrev pub level : Standing → ℕ
level Static = 2
level Started = 1
level Resting = 0

-- a number is that of a thread that passes
abbrev pub passes_at : (Thread → Bool) → Option Thread → Bool
passes_at passes None = false
passes_at passes (Some thread) = passes thread

-- a mask has the numbers of the threads that pass, and no other
pub record IsMask (passes : Thread → Bool) (threads : List Thread) (mask : Mask) : Type 0 where
  pub is : (k : ℕ) → has mask k ≡ passes_at passes (slice_get threads k)

-- a set has the lane's threads without a task, each in the mask of its standing
pub record IsSetOf (lane : ℕ) (threads : List Thread) (set : LaneSet) : Type 0 where
  pub statics : IsMask (stands_in lane 2) threads set.statics
  pub started : IsMask (stands_in lane 1) threads set.started
  pub resting : IsMask (stands_in lane 0) threads set.resting

-- there is a set for each lane
pub record AreSetsOf (threads : List Thread) (sets : List LaneSet) : Type 0 where
  pub all : length sets ≡ MAX_LANES
  pub each : (lane : ℕ) (set : LaneSet) → slice_get sets lane ≡ Some set → IsSetOf lane threads set

-- a thread's lane is one that a pool may have, and a static thread is started
pub record IsPlaced (thread : Thread) : Type 0 where
  pub in_pool : thread.lane < MAX_LANES
  pub ready : thread.is_static ≡ true → thread.started ≡ true

-- each thread is placed so
pub record ArePlaced (threads : List Thread) : Type 0 where
  pub each : (k : ℕ) (thread : Thread) → slice_get threads k ≡ Some thread → IsPlaced thread

-- no thread has a task
pub record AreIdle (threads : List Thread) : Type 0 where
  pub each : (k : ℕ) (thread : Thread) → slice_get threads k ≡ Some thread → is_free thread.doing ≡ true

-- the threads of a pool with the sets of those without a task
pub record AreMarked (threads : List Thread) (sets : List LaneSet) : Type 0 where
  pub few : length threads ≤ MAX_THREADS
  pub placed : ArePlaced threads
  pub sets_of : AreSetsOf threads sets
