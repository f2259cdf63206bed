-- Between two turns no thread is busy.
use Rattle.std.specs.Prelude.{◌≡◌, ℕ, Bool, true, false, List, Some, slice_get}
use Rattle.thread_borrowing.specs.declared.doing.Doing.{Doing}
use Rattle.thread_borrowing.specs.declared.doing.Doing.TheVariants.{Free, Given, Busy}
use Rattle.thread_borrowing.specs.ThreadList.{Thread}

-- the thread has taken its task
abbrev pub is_busy : Doing → Bool
is_busy (Busy _) = true
is_busy Free = false
is_busy (Given _) = false

-- none has
abbrev pub NoneBusy : List Thread → Type 0
NoneBusy threads = (t : ℕ) (thread : Thread) → slice_get threads t ≡ Some thread → is_busy thread.doing ≡ false
