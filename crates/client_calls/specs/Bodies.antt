-- What calls answer that read the body of a reply, where memory may run out.
use Rattle.std.specs.Prelude.{◌≡◌, List, [], ◌∷◌, ◌++◌, Result, Ok, Err}
use Rattle.orb_base.specs.Room.{Room}
use Rattle.cdr_core.specs.Cursor.{Cursor, cursor, Reads}
use Rattle.cdr_values.specs.Gives.{Refuses}
use Rattle.cdr_values.specs.Trees.{Value}
use Rattle.cdr_values.specs.Values.{values_view}
use Rattle.cdr_values.specs.declared.fault.DecodeFault.{DecodeFault}
use Rattle.cdr_values.specs.declared.fault.DecodeFault.TheVariants.{NoMemory}
use Rattle.cdr_values.specs.declared.value.IdlValue.{IdlValue}
use Rattle.client_calls.specs.declared.body.Body.{Body}

-- where the rest of a body is
abbrev pub cursor_of : Body → Cursor
cursor_of b = cursor b.order b.place b.rest.now

-- the answer, seen by the view, is what is read; what is after it is left open
abbrev pub Took : {X Y : Type 0} → (X → Y) → Result X DecodeFault → Reads Y → Type 0
Took view (Ok x) reading = (behind : Cursor) × (reading ≡ Ok (view x, behind))
Took view (Err e) reading = Refuses e reading

-- the values are those that are read
abbrev pub GivesAll : Result (Room IdlValue) DecodeFault → Reads (List Value) → Type 0
GivesAll result reading = Took (λ l. values_view l.items) result reading

-- the value was put after the others
abbrev pub Adds : Result (Unit {0}) DecodeFault → Room IdlValue → Room IdlValue → IdlValue → Type 0
Adds (Ok _) old new v = new.items ≡ old.items ++ v ∷ []
Adds (Err e) old new v = e ≡ NoMemory
