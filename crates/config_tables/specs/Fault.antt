-- The first fault of a configuration: own profile.
use Rattle.std.specs.Prelude.{◌≡◌, ℕ, List, Option, Some, None, Result, Ok, Err}
use Rattle.config_tables.specs.Path.{up_to_nul}
use Rattle.config_tables.specs.declared.fault.ConfigCause.{ConfigCause}
use Rattle.config_tables.specs.declared.fault.ConfigFault.{ConfigFault}
use Rattle.config_tables.specs.declared.fault.SetupError.{SetupError}
use Rattle.config_tables.specs.declared.fault.SetupError.TheVariants.{Refused, NoMemory}

-- a cause, and the path of what is at fault
pub record Fault : Type 0 where
  pub cause : ConfigCause
  pub path : List ℕ

-- the fault that a refusal holds
abbrev pub fault_of : ConfigFault → Fault
fault_of f = record { cause = f.cause; path = f.path }

-- the fault at a path
abbrev pub at_path : List ℕ → ConfigCause → Fault
at_path path cause = record { cause = cause; path = up_to_nul path }

-- the first fault of two parts that are judged in this order
abbrev pub first_of : Option Fault → Option Fault → Option Fault
first_of (Some f) later = Some f
first_of None later = later

-- the refusal tells this fault; out of memory says nothing
abbrev pub Refuses : SetupError → Option Fault → Type 0
Refuses (Refused f) found = found ≡ Some (fault_of f)
Refuses NoMemory found = Unit {0}

-- what was judged has no fault where it is Ok, else this first one
abbrev pub Judged : {A : Type 0} → Result A SetupError → Option Fault → Type 0
Judged (Ok x) found = found ≡ None
Judged (Err e) found = Refuses e found

-- the refusal tells a fault of which this holds
abbrev pub Tells : SetupError → (Fault → Type 0) → Type 0
Tells (Refused f) P = P (fault_of f)
Tells NoMemory P = Unit {0}
