-- A call's answer is what a definition gives, or memory was wanting.
use Rattle.std.specs.Prelude.{Bool, ◌≡◌, Result, Ok, Err}
use Rattle.cdr_values.specs.Trees.{Value}
use Rattle.script_values.specs.declared.limit.Limit.{Limit}
use Rattle.script_values.specs.declared.limit.Stop.{Stop}
use Rattle.script_values.specs.declared.limit.Stop.TheVariants as stop
use Rattle.script_values.specs.Operations.{Comes, as_truth}

-- the limit that was met, or memory was wanting
abbrev pub Stops : {Y : Type 0} → Stop → Comes Y → Type 0
Stops (stop.Limit e) asked = asked ≡ Err e
Stops stop.NoMemory asked = Unit {0}

-- the answer, as this view of it, is what is asked; or memory was wanting
abbrev pub Gives : {X Y : Type 0} → (X → Y) → Result X Stop → Comes Y → Type 0
Gives view (Ok x) asked = asked ≡ Ok (view x)
Gives view (Err e) asked = Stops e asked

-- the answer, as this view of it, is what is asked
abbrev pub Holds : {X Y : Type 0} → (X → Y) → Result X Limit → Comes Y → Type 0
Holds view (Ok x) asked = asked ≡ Ok (view x)
Holds view (Err e) asked = asked ≡ Err e

-- the answer is the truth of what is asked; or memory was wanting
abbrev pub Tells : Result Bool Stop → Comes Value → Type 0
Tells (Ok b) asked = (v : Value) × (asked ≡ Ok v) × (as_truth v ≡ b)
Tells (Err e) asked = Stops e asked
