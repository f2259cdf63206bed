-- What putting values of types after one another answers.
use Rattle.std.specs.Prelude.{◌≡◌, List, Option, Some, None, Result, Ok, Err}
use Rattle.cdr_core.specs.Field.{Field}
use Rattle.cdr_core.specs.Writing.{Page, written}
use Rattle.script_values.specs.declared.limit.Limit.TheVariants.{Misfit}
use Rattle.script_values.specs.declared.limit.Stop.{Stop}
use Rattle.script_values.specs.declared.limit.Stop.TheVariants as stop

-- the fields were spelled
pub record Spelled (old new : Page) (asked : Option (List Field)) : Type 0 where
  pub fields : List Field
  pub are : asked ≡ Some fields
  pub page : new ≡ written old fields

-- there are no fields, which is a misfit; out of memory says nothing
abbrev pub Unsaid : Stop → Option (List Field) → Type 0
Unsaid (stop.Limit l) asked = (asked ≡ None) × (l ≡ Misfit)
Unsaid stop.NoMemory asked = Unit {0}

-- the fields were spelled, or there are none
abbrev pub Said : Result (Unit {0}) Stop → Page → Page → Option (List Field) → Type 0
Said (Ok u) old new asked = Spelled old new asked
Said (Err e) old new asked = Unsaid e asked
