-- The servants of a setup, and what there is in place of them: own profile.
use Rattle.std.specs.Prelude.{◌≡◌, ◌⊎◌, List, Option, Some, None, IsSome, Result, Ok, Err}
use Rattle.orb_base.specs.Filing.{FilesState}
use Rattle.orb_base.specs.Outside.{Rose}
use Rattle.config_tables.specs.Fault.{Fault, fault_of}
use Rattle.adapter_policies.specs.SetupData.{SetupData}
use Rattle.idl_types.specs.BuiltIn.{with_ping}
use Rattle.idl_types.specs.Things.{Thing}
use Rattle.servant_scripts.specs.Trees.{ServantSaid}
use Rattle.dynamic_servants.specs.Outcome.{Served}
use Rattle.dynamic_servants.specs.Served.{served_by, served_of}
use Rattle.dynamic_servants.specs.declared.servants.Servants.{Servants}
use Rattle.setup_servants.specs.Texts.{IsAbsent, IsTooLong}
use Rattle.setup_servants.specs.Interfaces.{InterfacesGive}
use Rattle.setup_servants.specs.Scripts.{ScriptsGive}
use Rattle.setup_servants.specs.Serving.{unserved_fault}
use Rattle.setup_servants.specs.declared.fault.TextRole.TheVariants as role
use Rattle.setup_servants.specs.declared.fault.ServingFault.{ServingFault}
use Rattle.setup_servants.specs.declared.fault.ServingFault.TheVariants as fault

-- servants serve each object of a setup, or this is the first that none serves; out of memory says nothing
abbrev pub JudgesObjects : Result Servants ServingFault → SetupData → Served → Type 0
JudgesObjects (Ok s) setup served = (served_of s ≡ served) × (unserved_fault served setup ≡ None)
JudgesObjects (Err (fault.Object f)) setup served = unserved_fault served setup ≡ Some (fault_of f)
JudgesObjects (Err fault.NoMemory) setup served = Unit {0}
JudgesObjects (Err _) setup served = ⊥

-- a script serves this over interfaces, and this is the first object of the setup that none of its servants serves
pub record Judges (setup : SetupData) (things : List Thing) (said : List ServantSaid) (found : Option Fault) : Type 0 where
  pub served : Served
  pub checks : served_by (with_ping things) said ≡ Ok served
  pub first : unserved_fault served setup ≡ found

-- what a script over interfaces comes to: servants that serve each object, or its first fault, or the first object without a servant
abbrev pub Serves : Result Servants ServingFault → SetupData → List Thing → List ServantSaid → Type 0
Serves (Ok s) setup things said = (served_by (with_ping things) said ≡ Ok (served_of s)) × (unserved_fault (served_of s) setup ≡ None)
Serves (Err (fault.Check f)) setup things said = served_by (with_ping things) said ≡ Err f
Serves (Err (fault.Object f)) setup things said = Judges setup things said (Some (fault_of f))
Serves (Err fault.NoMemory) setup things said = Unit {0}
Serves (Err _) setup things said = ⊥

-- the setup's interfaces were read
pub record HasInterfaces (files : FilesState) (setup : SetupData) : Type 0 where
  pub things : List Thing
  pub interfaces : InterfacesGive files setup.idl (Ok things)

-- its interfaces and its scripts were read, and they come to this
pub record BothGive (files : FilesState) (setup : SetupData) (answer : Result Servants ServingFault) : Type 0 where
  pub things : List Thing
  pub said : List ServantSaid
  pub interfaces : InterfacesGive files setup.idl (Ok things)
  pub scripts : ScriptsGive files setup.scripts (Ok said)
  pub serves : Serves answer setup things said

-- a file that may have failed to be read is named: that of the interfaces, or, once these were read, that of the scripts
abbrev pub FailsReading : FilesState → SetupData → Type 0
FailsReading files setup = IsSome setup.idl ⊎ (HasInterfaces files setup × IsSome setup.scripts)

-- the servants of a setup whose texts are in these files, or the first fault in the order of work, and how often a read failed
abbrev pub GivesServants : Result Servants ServingFault → SetupData → FilesState → FilesState → Type 0
GivesServants (Ok s) setup old new = BothGive old setup (Ok s) × (new.faults ≡ old.faults)
GivesServants (Err (fault.Idl f)) setup old new = InterfacesGive old setup.idl (Err f) × (new.faults ≡ old.faults)
GivesServants (Err (fault.Script f)) setup old new =
    HasInterfaces old setup × ScriptsGive old setup.scripts (Err f) × (new.faults ≡ old.faults)
GivesServants (Err (fault.Check f)) setup old new = BothGive old setup (Err (fault.Check f)) × (new.faults ≡ old.faults)
GivesServants (Err (fault.Object f)) setup old new = BothGive old setup (Err (fault.Object f)) × (new.faults ≡ old.faults)
GivesServants (Err (fault.Absent role.Idl)) setup old new = IsAbsent old setup.idl × (new.faults ≡ old.faults)
GivesServants (Err (fault.Absent role.Scripts)) setup old new =
    HasInterfaces old setup × IsAbsent old setup.scripts × (new.faults ≡ old.faults)
GivesServants (Err (fault.TooLong role.Idl)) setup old new = IsTooLong old setup.idl × (new.faults ≡ old.faults)
GivesServants (Err (fault.TooLong role.Scripts)) setup old new =
    HasInterfaces old setup × IsTooLong old setup.scripts × (new.faults ≡ old.faults)
GivesServants (Err fault.ReadFault) setup old new = FailsReading old setup × Rose old.faults new.faults
GivesServants (Err fault.NoMemory) setup old new = new.faults ≡ old.faults
