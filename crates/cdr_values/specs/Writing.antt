-- What a writer holds after a value.
use Rattle.std.specs.Prelude.{List, Option, Result, IfSome}
use Rattle.orb_base.specs.declared.no_memory.NoMemory.{NoMemory}
use Rattle.cdr_core.specs.Field.{Field}
use Rattle.cdr_core.specs.Writing.{Page, Puts}

-- where the value has fields, they were spelled, or a prefix of them once out of memory
abbrev pub Wrote : Result (Unit {0}) NoMemory → Page → Page → Option (List Field) → Type 0
Wrote r old new asked = IfSome asked (λ fields. Puts r old new fields)
