-- The system exceptions that servants answer (own profile).
use Rattle.std.specs.Prelude.{ℕ, Ok, Err}
use Rattle.orb_base.specs.declared.outcome.Outcome.{Outcome}
use Rattle.orb_base.specs.declared.outcome.Outcome.TheVariants.{System}
use Rattle.orb_base.specs.declared.system.SysName.TheVariants.{Marshal, ImpLimit}
use Rattle.orb_base.specs.declared.system.Completed.TheVariants.{Maybe, No}
use Rattle.script_values.specs.declared.limit.Limit.{Limit}
use Rattle.script_values.specs.declared.limit.Limit.TheVariants.{TooLarge, Arithmetic, Index, Misfit}
use Rattle.script_values.specs.Operations.{Comes}

-- MARSHAL, minor 1, completed NO
abbrev pub marshal : Outcome
marshal = System (record { name = Marshal; minor = 1; completed = No })

-- the minor of a limit
abbrev pub minor_of : Limit → ℕ
minor_of TooLarge = 1
minor_of Arithmetic = 2
minor_of Index = 3
minor_of Misfit = 4

-- IMP_LIMIT with the minor of the limit, completed MAYBE
abbrev pub limited : Limit → Outcome
limited l = System (record { name = ImpLimit; minor = minor_of l; completed = Maybe })

-- an outcome, or the limit that was met before it
abbrev pub or_limited : Comes Outcome → Outcome
or_limited (Ok o) = o
or_limited (Err l) = limited l
