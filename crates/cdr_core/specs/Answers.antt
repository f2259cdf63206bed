-- What a call answers, against the reading that it does, where memory may be wanting.
use Rattle.std.specs.Prelude.{◌≡◌, ◌↔◌, Option, Some, None, Result, Ok, Err}
use Rattle.cdr_core.specs.Cursor.{Cursor}
use Rattle.cdr_core.specs.Sequence.{Parsed}

-- an error that is a fault is that of the reading; one that is none, as out of memory, says nothing of it
abbrev pub FailsWith : {F Y : Type 0} → Option F → Result Y F → Type 0
FailsWith (Some fault) reading = reading ≡ Err fault
FailsWith None reading = Unit {0}

-- what a call answers, seen by the view, is what the reading gives, unless its error is no fault
abbrev pub Answers : {E F X Y : Type 0} → (E → Option F) → (X → Y) → Result X E → Result Y F → Type 0
Answers fault_of view (Ok x) reading = reading ≡ Ok (view x)
Answers fault_of view (Err e) reading = FailsWith (fault_of e) reading

-- the same with the cursor after it
abbrev pub Gives : {E F X Y : Type 0} → (E → Option F) → (X → Y) → Result X E → Cursor → Parsed F Y → Type 0
Gives fault_of view (Ok x) new reading = reading ≡ Ok (view x, new)
Gives fault_of view (Err e) new reading = FailsWith (fault_of e) reading

-- the answer is that of a value exactly where the fact holds of the value
abbrev pub IsExactly : {A B : Type 0} → (A → B) → B → (A → Type 0) → Type 0
IsExactly {A} {B} answered answer Fact = (value : A) → (answer ≡ answered value) ↔ Fact value
