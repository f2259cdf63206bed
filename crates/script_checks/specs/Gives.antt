-- What the calls of this crate answer.
use Rattle.std.specs.Prelude.{◌≡◌, Result, Ok, Err}
use Rattle.script_checks.specs.declared.fault.CheckError.{CheckError}
use Rattle.script_checks.specs.declared.fault.CheckError.TheVariants.{Refused, NoMemory}
use Rattle.script_checks.specs.Scene.{Checks}

-- the fault is this one, unless memory ran out
abbrev pub Stops : {Y : Type 0} → CheckError → Checks Y → Type 0
Stops (Refused fault) asked = asked ≡ Err fault
Stops NoMemory asked = Unit {0}

-- what is answered is this, seen so, or the fault this one
abbrev pub Gives : {X Y : Type 0} → (X → Y) → Result X CheckError → Checks Y → Type 0
Gives view (Ok x) asked = asked ≡ Ok (view x)
Gives view (Err e) asked = Stops e asked
