-- The first fault of parts that are judged in order.
use Rattle.std.proofs.Common.{◌≡◌, Option, None}
use Rattle.config_tables.specs.declared.fault.SetupError.{SetupError}
use Rattle.config_tables.specs.declared.fault.SetupError.TheVariants.{Refused, NoMemory}
use Rattle.config_tables.specs.Fault.{Fault, first_of, Refuses}

pub refuses_first : (e : SetupError) (x y : Option Fault) → Refuses e x → Refuses e (first_of x y)
refuses_first (Refused f) x y h = rw h
refuses_first NoMemory x y h = tt

pub refuses_later : (e : SetupError) (x y : Option Fault) → x ≡ None → Refuses e y → Refuses e (first_of x y)
refuses_later e x y none h = rw none h
