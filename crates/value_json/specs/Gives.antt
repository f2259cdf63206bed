-- What a call that reads or shows answers, where memory may run out.
use Rattle.std.specs.Prelude.{◌≡◌, Option, Some, None, Result, Ok, Err}
use Rattle.orb_base.specs.declared.no_memory.NoMemory.{NoMemory as OutOfMemory}
use Rattle.serde_json.specs.Data.{Data}
use Rattle.serde_json.specs.View.{view}
use Rattle.serde_json.specs.declared.value.Value.{Value}
use Rattle.value_json.specs.declared.fault.JsonError.{JsonError}
use Rattle.value_json.specs.declared.fault.JsonError.TheVariants.{NotOfType, NoMemory}

-- there is none; out of memory, nothing is said
abbrev pub Refuses : {Y : Type 0} → JsonError → Option Y → Type 0
Refuses NotOfType meaning = meaning ≡ None
Refuses NoMemory meaning = Unit {0}

-- the answer, seen by the view, is what is meant
abbrev pub Gives : {X Y : Type 0} → (X → Y) → Result X JsonError → Option Y → Type 0
Gives seen (Ok x) meaning = meaning ≡ Some (seen x)
Gives seen (Err e) meaning = Refuses e meaning

-- the answer is this JSON; out of memory, nothing is said
abbrev pub Shows : Result Value OutOfMemory → Data → Type 0
Shows (Ok v) d = view v ≡ d
Shows (Err e) d = Unit {0}
