-- What comes of a configuration and of its setup.
use Rattle.std.proofs.Common.{◌≡◌, ℕ, List, Option}
use Rattle.std.specs.Prelude.{Some, None, Result, Ok, Err}
use Rattle.orb_base.specs.Filing.{FilesState}
use Rattle.adapter_policies.specs.SetupData.{SetupData}
use Rattle.text_streams.specs.Files.{IsFile}
use Rattle.setup_files.specs.Setups.{GivesSetup, ReadsBytes, ReadsConfig}
use Rattle.setup_files.specs.Brokers.{Serves, GivesBroker}
use Rattle.setup_files.specs.declared.broker.Broker.{Broker}
use Rattle.setup_files.specs.declared.setup_end.SetupEnd.{SetupEnd}
use Rattle.setup_files.specs.declared.setup_end.SetupEnd.TheVariants.{Refused, Absent, TooLong, Unserved, ReadFault, NoMemory}
use Rattle.setup_files.specs.declared.setup_end.TheConstants.{MAX_CONFIG}

-- a file's bytes give what the configuration of its name gives
pub config_read : (answer : Result SetupData SetupEnd) (name bytes : List ℕ) (old new : FilesState) → IsFile MAX_CONFIG old name bytes → new.faults ≡ old.faults
    → ReadsBytes answer bytes → ReadsConfig answer name old new
config_read (Ok setup) name bytes old new file same h = ((bytes, file, h), same)
config_read (Err (Refused f)) name bytes old new file same h = ((bytes, file, h), same)
config_read (Err NoMemory) name bytes old new file same h = same
config_read (Err Absent) name bytes old new file same h = absurd h
config_read (Err TooLong) name bytes old new file same h = absurd h
config_read (Err (Unserved f)) name bytes old new file same h = absurd h
config_read (Err ReadFault) name bytes old new file same h = absurd h

-- a setup is given, and this comes of it
pub setup_serves : (answer : Result Broker SetupEnd) (config : Option (List ℕ)) (setup : SetupData) (old between new : FilesState)
    → GivesSetup (Ok setup) config old between → between.files ≡ old.files → Serves answer setup between new → GivesBroker answer config old new
setup_serves (Ok broker) config setup old between new given kept h = record { setup = setup; between = between; given = given; kept = kept; serves = h }
setup_serves (Err (Unserved why)) config setup old between new given kept h = record { setup = setup; between = between; given = given; kept = kept; serves = h }
setup_serves (Err (Refused f)) config setup old between new given kept h = absurd h
setup_serves (Err Absent) config setup old between new given kept h = absurd h
setup_serves (Err TooLong) config setup old between new given kept h = absurd h
setup_serves (Err ReadFault) config setup old between new given kept h = absurd h
setup_serves (Err NoMemory) config setup old between new given kept h = absurd h

never_unserved : (why : _) (config : Option (List ℕ)) (old new : FilesState) → GivesSetup (Err (Unserved why)) config old new → ⊥
never_unserved why (Some name) old new h = h
never_unserved why None old new h = h

-- no setup is given
pub no_setup : (end : SetupEnd) (config : Option (List ℕ)) (old new : FilesState) → GivesSetup (Err end) config old new → GivesBroker (Err end) config old new
no_setup (Unserved why) config old new h = absurd (never_unserved why config old new h)
no_setup (Refused f) config old new h = h
no_setup Absent config old new h = h
no_setup TooLong config old new h = h
no_setup ReadFault config old new h = h
no_setup NoMemory config old new h = h
