-- What a call that reads answers, where memory may run out.
use Rattle.std.specs.Prelude.{◌≡◌, ℕ, ◌+◌, List, drop, Result, Ok, Err}
use Rattle.cdr_core.specs.Cursor.{Cursor, Reads, cursor}
use Rattle.cdr_values.specs.Trees.{Kind}
use Rattle.orb_base.specs.declared.order.Order.{Order}
use Rattle.cdr_values.specs.Reading.{read}
use Rattle.cdr_values.specs.Values.{value_of}
use Rattle.cdr_values.specs.declared.value.IdlValue.{IdlValue}
use Rattle.cdr_values.specs.declared.fault.DecodeFault.{DecodeFault}
use Rattle.cdr_values.specs.declared.fault.DecodeFault.TheVariants.{Cdr, NoMemory}

-- a fault is that of the reading; out of memory says nothing
abbrev pub Refuses : {Y : Type 0} → DecodeFault → Reads Y → Type 0
Refuses (Cdr f) reading = reading ≡ Err f
Refuses NoMemory reading = Unit {0}

-- the answer, seen by the view, and where the reader is then are those of the reading
abbrev pub Gives : {X Y : Type 0} → (X → Y) → Result X DecodeFault → Cursor → Reads Y → Type 0
Gives view (Ok x) new reading = reading ≡ Ok (view x, new)
Gives view (Err e) new reading = Refuses e reading

-- the answer is the value of the reading from a place on and how many bytes that took, or its fault
abbrev pub Decodes : Result (IdlValue × ℕ) DecodeFault → Order → ℕ → Kind → List ℕ → Type 0
Decodes (Ok x) order place k bytes = read k (cursor order place bytes) ≡ Ok (value_of x.0, cursor order (place + x.1) (drop x.1 bytes))
Decodes (Err e) order place k bytes = Refuses e (read k (cursor order place bytes))
