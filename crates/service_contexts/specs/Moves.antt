-- What a call that reads from a cursor answers.
use Rattle.std.specs.Prelude.{◌≡◌, List, Option, Some, None}
use Rattle.orb_base.specs.Room.{Room}
use Rattle.cdr_core.specs.Cursor.{Cursor}
use Rattle.service_contexts.specs.Reading.{Taken}

-- the call answers what the reading takes, and is after it
abbrev pub Moves : {A : Type 0} → Option A → Cursor → Taken A → Type 0
Moves (Some value) new reading = reading ≡ Some (value, new)
Moves None new reading = reading ≡ None

-- the items of a list of the program
abbrev pub items_of : {A : Type 0} → Room A → List A
items_of list = list.items
