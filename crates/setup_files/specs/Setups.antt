-- The setup of a configuration in a store of files, and what there is in place of it: own profile.
use Rattle.std.specs.Prelude.{◌≡◌, ◌<◌, ℕ, List, length, Option, Some, None, Result, Ok, Err, IfSome, MatchOption}
use Rattle.orb_base.specs.Filing.{FilesState, content}
use Rattle.orb_base.specs.Outside.{Rose}
use Rattle.text_streams.specs.Files.{IsFile}
use Rattle.config_tables.specs.Fault.{fault_of}
use Rattle.adapter_policies.specs.BuiltIn.{built_in}
use Rattle.adapter_policies.specs.Configuration.{Configures, HasFault}
use Rattle.adapter_policies.specs.SetupData.{SetupData}
use Rattle.setup_files.specs.declared.setup_end.SetupEnd.{SetupEnd}
use Rattle.setup_files.specs.declared.setup_end.SetupEnd.TheVariants.{Refused, Absent, TooLong, ReadFault, NoMemory}
use Rattle.setup_files.specs.declared.setup_end.TheConstants.{MAX_CONFIG}

-- what the bytes of a configuration give: its setup, or its first fault
abbrev pub ReadsBytes : Result SetupData SetupEnd → List ℕ → Type 0
ReadsBytes (Ok setup) bytes = Configures bytes setup
ReadsBytes (Err (Refused f)) bytes = HasFault bytes (fault_of f)
ReadsBytes (Err NoMemory) bytes = Unit {0}
ReadsBytes (Err _) bytes = ⊥

-- what the configuration of a name gives: what its bytes give, or why there are none
abbrev pub ReadsConfig : Result SetupData SetupEnd → List ℕ → FilesState → FilesState → Type 0
ReadsConfig (Ok setup) name old new = ((bytes : List ℕ) × IsFile MAX_CONFIG old name bytes × Configures bytes setup)
    × (new.faults ≡ old.faults)
ReadsConfig (Err (Refused f)) name old new =
    ((bytes : List ℕ) × IsFile MAX_CONFIG old name bytes × HasFault bytes (fault_of f)) × (new.faults ≡ old.faults)
ReadsConfig (Err Absent) name old new = IfSome old.files (λ fs. content fs name ≡ None) × (new.faults ≡ old.faults)
ReadsConfig (Err TooLong) name old new =
    IfSome old.files (λ fs. MatchOption (content fs name) ⊥ (λ bytes. MAX_CONFIG < length bytes)) × (new.faults ≡ old.faults)
ReadsConfig (Err ReadFault) name old new = Rose old.faults new.faults
ReadsConfig (Err NoMemory) name old new = new.faults ≡ old.faults
ReadsConfig (Err _) name old new = ⊥

-- the setup of the configuration of a name; without one it is the built-in one
abbrev pub GivesSetup : Result SetupData SetupEnd → Option (List ℕ) → FilesState → FilesState → Type 0
GivesSetup answer (Some name) old new = ReadsConfig answer name old new
GivesSetup (Ok setup) None old new = (setup ≡ built_in) × (new ≡ old)
GivesSetup (Err NoMemory) None old new = new ≡ old
GivesSetup (Err _) None old new = ⊥
