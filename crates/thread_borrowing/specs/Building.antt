-- How the threads of a pool are put together.
use Rattle.std.specs.Prelude.{◌≡◌, List, ◌++◌, Result, IfOk}
use Rattle.orb_base.specs.Room.{Room}
use Rattle.thread_borrowing.specs.ThreadList.{Thread}

-- a list holds these threads, unless memory was wanting
abbrev pub IsBuilt : {E : Type 0} → List Thread → Result (Room Thread) E → Type 0
IsBuilt threads result = IfOk result (λ list. list.items ≡ threads)

-- a list grew by these threads
abbrev pub IsGrown : Room Thread → List Thread → Room Thread → Type 0
IsGrown old threads new = new.items ≡ old.items ++ threads
