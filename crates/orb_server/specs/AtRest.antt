-- The lane machine where nothing is left to do: Real-time CORBA 1.2, Threadpools.
use Rattle.std.specs.Prelude.{◌≡◌, ℕ, [], Some, slice_get}
use Rattle.thread_borrowing.specs.ThreadList.{Thread}
use Rattle.thread_borrowing.specs.declared.doing.Doing.TheVariants.{Free}
use Rattle.lane_machine.specs.State.{State}

-- no request waits, and no thread has one in hand
pub record IsAtRest (s : State) : Type 0 where
  pub waiting : s.waiting ≡ []
  pub free : (t : ℕ) (thread : Thread) → slice_get s.threads t ≡ Some thread → thread.doing ≡ Free
