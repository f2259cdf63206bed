-- A setup with its servants, from files, and what there is in place of them: own profile.
use Rattle.std.specs.Prelude.{◌≡◌, ℕ, List, Option, Result, Ok, Err}
use Rattle.orb_base.specs.Filing.{FilesState}
use Rattle.adapter_policies.specs.SetupData.{SetupData}
use Rattle.setup_servants.specs.Servants.{GivesServants}
use Rattle.setup_files.specs.Setups.{GivesSetup}
use Rattle.setup_files.specs.declared.broker.Broker.{Broker}
use Rattle.setup_files.specs.declared.setup_end.SetupEnd.{SetupEnd}
use Rattle.setup_files.specs.declared.setup_end.SetupEnd.TheVariants.{Unserved}

-- the setup with the servants that its files give, or why there are none
abbrev pub Serves : Result Broker SetupEnd → SetupData → FilesState → FilesState → Type 0
Serves (Ok broker) setup old new = (broker.setup ≡ setup) × GivesServants (Ok broker.servants) setup old new
Serves (Err (Unserved why)) setup old new = GivesServants (Err why) setup old new
Serves (Err _) setup old new = ⊥

-- the configuration of a name, or the built-in setup, gives this setup, and it comes to this with its servants; the store knows the same
-- files in between
pub record SetupServes (answer : Result Broker SetupEnd) (config : Option (List ℕ)) (old new : FilesState) : Type 0 where
  pub setup : SetupData
  pub between : FilesState
  pub given : GivesSetup (Ok setup) config old between
  pub kept : between.files ≡ old.files
  pub serves : Serves answer setup between new

-- the setup of the configuration of a name with its servants, or of the built-in one where there is no name; or why there is none
abbrev pub GivesBroker : Result Broker SetupEnd → Option (List ℕ) → FilesState → FilesState → Type 0
GivesBroker (Ok broker) config old new = SetupServes (Ok broker) config old new
GivesBroker (Err (Unserved why)) config old new = SetupServes (Err (Unserved why)) config old new
GivesBroker (Err end) config old new = GivesSetup (Err end) config old new
