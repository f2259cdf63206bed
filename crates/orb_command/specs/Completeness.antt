-- How a command that goes well may end: no file that its words or its configuration name is refused, and no count of faults rose.
use Rattle.std.specs.Prelude.{ℕ, ◌⊎◌, ◌==◌, Bool, List, [], ◌∷◌, Option, Some, None, Err}
use Rattle.std.specs.List.{list_any}
use Rattle.orb_base.specs.Filing.{FilesState}
use Rattle.orb_base.specs.Outside.{SourceState, SinkState, Rose}
use Rattle.orb_nets.specs.Nets.{NetState}
use Rattle.setup_servants.specs.declared.fault.ServingFault.{ServingFault}
use Rattle.setup_servants.specs.declared.fault.ServingFault.TheVariants as serving
use Rattle.setup_files.specs.Brokers.{GivesBroker}
use Rattle.setup_files.specs.declared.setup_end.SetupEnd.{SetupEnd}
use Rattle.setup_files.specs.declared.setup_end.SetupEnd.TheVariants as setup
use Rattle.idl_lines.specs.Ending.{Lists}
use Rattle.idl_lines.specs.declared.idl_end.IdlEnd.{IdlEnd}
use Rattle.idl_lines.specs.declared.idl_end.IdlEnd.TheVariants as listed
use Rattle.client_runs.specs.Interfaces.{Knows}
use Rattle.client_runs.specs.declared.call_end.CallEnd.TheVariants.{File}
use Rattle.client_runs.specs.declared.call_end.FileFault.{FileFault}
use Rattle.client_runs.specs.declared.call_end.FileFault.TheVariants as known
use Rattle.command_words.specs.declared.meaning.Meaning.{Meaning}
use Rattle.command_words.specs.declared.meaning.Meaning.TheVariants.{Pipe, Serve, Names, Dump, Audit, Refs, RefsAt, Idl, Call, SharedCall, Load, Unread}
use Rattle.orb_command.specs.Moment.{Moment}

-- this reason for which a setup has no servants blames a file: it is absent, too long, or has a fault. A failed read and memory that ran out
-- blame none
abbrev pub BlamesServing : ServingFault → Type 0
BlamesServing serving.ReadFault = ⊥
BlamesServing serving.NoMemory = ⊥
BlamesServing _ = Unit {0}

-- this reason for which there is no setup with servants blames the configuration, or a file that it names
abbrev pub BlamesSetup : SetupEnd → Type 0
BlamesSetup (setup.Unserved why) = BlamesServing why
BlamesSetup setup.ReadFault = ⊥
BlamesSetup setup.NoMemory = ⊥
BlamesSetup _ = Unit {0}

-- this end of a listing blames the file
abbrev pub BlamesListed : IdlEnd → Type 0
BlamesListed (listed.Refused f) = Unit {0}
BlamesListed listed.Absent = Unit {0}
BlamesListed listed.TooLong = Unit {0}
BlamesListed _ = ⊥

-- this reason for which a file gives a call no interfaces blames the file
abbrev pub BlamesKnown : FileFault → Type 0
BlamesKnown known.ReadFault = ⊥
BlamesKnown _ = Unit {0}

-- the configuration of this name is refused, or a file that it names
pub record RefusesSetup (config : Option (List ℕ)) (files files' : FilesState) : Type 0 where
  pub why : SetupEnd
  pub blames : BlamesSetup why
  pub gives : GivesBroker (Err why) config files files'

-- the file of this name isn't listed
pub record RefusesListed (name : List ℕ) (files files' : FilesState) : Type 0 where
  pub why : IdlEnd
  pub blames : BlamesListed why
  pub out : SinkState
  pub lists : Lists why name files files' out out

-- the interfaces of the file of this name aren't known
pub record RefusesKnown (name : Option (List ℕ)) (files files' : FilesState) : Type 0 where
  pub why : FileFault
  pub blames : BlamesKnown why
  pub knows : Knows (Err (File why)) name files files'

-- a file is refused that the words name, or a configuration that they name
abbrev pub RefusesFile : Meaning → FilesState → FilesState → Type 0
RefusesFile (Pipe words) files files' = RefusesSetup words.config files files'
RefusesFile (Serve words) files files' = RefusesSetup (Some words.config) files files'
RefusesFile (RefsAt place config) files files' = RefusesSetup config files files'
RefusesFile (Load words) files files' = RefusesSetup words.config files files'
RefusesFile (Idl name) files files' = RefusesListed name files files'
RefusesFile (Call words) files files' = RefusesKnown words.idl files files'
RefusesFile (SharedCall words callers) files files' = RefusesKnown words.idl files files'
RefusesFile _ files files' = ⊥

-- the statuses with which a command that goes well may end: 12 of out of memory, and those of its own causes
abbrev pub good_ends : Meaning → List ℕ
good_ends (Pipe words) = 0 ∷ 8 ∷ 13 ∷ 12 ∷ []
good_ends (Serve words) = 0 ∷ 12 ∷ []
good_ends (Names at) = 0 ∷ 12 ∷ []
good_ends Dump = 0 ∷ 8 ∷ 13 ∷ 12 ∷ []
good_ends Audit = 0 ∷ 8 ∷ 13 ∷ 15 ∷ 12 ∷ []
good_ends Refs = 0 ∷ 8 ∷ 12 ∷ []
good_ends (RefsAt place config) = 0 ∷ 12 ∷ []
good_ends (Idl name) = 0 ∷ 12 ∷ []
good_ends (Call words) = 0 ∷ 6 ∷ 7 ∷ 9 ∷ 11 ∷ 13 ∷ 12 ∷ []
good_ends (SharedCall words callers) = 0 ∷ 6 ∷ 7 ∷ 9 ∷ 11 ∷ 13 ∷ 12 ∷ []
good_ends (Load words) = 0 ∷ 13 ∷ 12 ∷ []
good_ends Unread = 1 ∷ 12 ∷ []

-- it ends with one of them
abbrev pub is_good : Meaning → ℕ → Bool
is_good command status = list_any (λ s. s == status) (good_ends command)

module _ {I O : Type 0} (source : I → SourceState) (sink : O → SinkState) where
  -- a read or a write of the connection of a call failed
  abbrev pub LinkFails : Option (I × O) → Type 0
  LinkFails (Some link) = Rose 0 (source link.0).faults ⊎ Rose 0 (sink link.1).faults
  LinkFails None = ⊥

  -- between two moments no file is refused, and no read, write, listen or connect failed
  pub record GoesWell (command : Meaning) (link : Option (I × O)) (before after : Moment) (net net' : NetState I O) : Type 0 where
    pub files : ¬ RefusesFile command before.files after.files
    pub store : ¬ Rose before.files.faults after.files.faults
    pub input : ¬ Rose before.input.faults after.input.faults
    pub output : ¬ Rose before.out.faults after.out.faults
    pub nets : ¬ Rose net.faults net'.faults
    pub links : ¬ LinkFails link
