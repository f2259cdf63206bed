-- What serves the setup without a configuration: own profile.
use Rattle.std.specs.Prelude.{◌≡◌, Ok, Err}
use Rattle.orb_base.specs.Filing.{FilesState}
use Rattle.adapter_policies.specs.BuiltIn.{built_in}
use Rattle.dynamic_servants.specs.PingLaw.{ServesPing}
use Rattle.dynamic_servants.specs.Served.{served_of}
use Rattle.dynamic_servants.specs.declared.servants.Servants.{Servants}
use Rattle.setup_servants.specs.Servants.{GivesServants}
use Rattle.setup_servants.specs.declared.fault.ServingFault.{ServingFault}
use Rattle.setup_servants.specs.declared.fault.ServingFault.TheVariants as fault

-- its servants serve the built-in interface by that interface's own servant
abbrev pub BuiltInIsServed : Type 0
BuiltInIsServed = (s : Servants) (old new : FilesState) → GivesServants (Ok s) built_in old new → ServesPing (served_of s)

-- and nothing but out of memory leaves it without servants
abbrev pub BuiltInHasServants : Type 0
BuiltInHasServants = (f : ServingFault) (old new : FilesState) → GivesServants (Err f) built_in old new → f ≡ fault.NoMemory
