-- Where arguments are taken from, and what taking them answers.
use Rattle.std.specs.Prelude.{◌≡◌, ◌%◌, List, Result, Ok, Err, Vec}
use Rattle.std.specs.declared.alloc.Global.{Global}
use Rattle.cdr_core.specs.declared.fault.CdrFault.{CdrFault}
use Rattle.cdr_core.specs.Cursor.{Cursor, Reads}
use Rattle.cdr_values.specs.Trees.{Value}
use Rattle.cdr_values.specs.Values.{value_of, values_view}
use Rattle.cdr_values.specs.declared.fault.DecodeFault.{DecodeFault}
use Rattle.cdr_values.specs.declared.fault.DecodeFault.TheVariants.{Cdr, NoMemory}
use Rattle.cdr_values.specs.declared.value.IdlValue.{IdlValue}
use Rattle.dynamic_servants.specs.declared.body.Body.{Body}

-- the rest of a body is where a cursor is; its place counts modulo 8
pub record StandsAt (b : Body) (c : Cursor) : Type 0 where
  pub order : c.order ≡ b.order
  pub rest : c.rest ≡ b.rest.now
  pub place : b.place ≡ c.place % 8

-- there is no reading; out of memory says nothing
abbrev pub Unread : {A : Type 0} → DecodeFault → Reads A → Type 0
Unread (Cdr f) reading = (fault : CdrFault) × (reading ≡ Err fault)
Unread NoMemory reading = Unit {0}

-- the value is that of a reading, after which the body's rest is then; or there is none
abbrev pub Takes : Result IdlValue DecodeFault → Body → Reads Value → Type 0
Takes (Ok v) new reading = (d : Cursor) × (reading ≡ Ok (value_of v, d)) × StandsAt new d
Takes (Err e) new reading = Unread e reading

-- the values are those of a reading, or there is none
abbrev pub Begins : Result (Vec IdlValue Global) DecodeFault → Reads (List Value) → Type 0
Begins (Ok v) reading = (d : Cursor) × (reading ≡ Ok (values_view v.items, d))
Begins (Err e) reading = Unread e reading
