-- The bytes of the texts that a setup may name files for: own profile.
use Rattle.std.specs.Prelude.{◌≡◌, ◌<◌, ℕ, List, [], length, Option, Some, None, Result, Ok, Err, IfSome, IsSome, MatchOption}
use Rattle.orb_base.specs.Filing.{FilesState, content}
use Rattle.orb_base.specs.Outside.{Rose}
use Rattle.orb_base.specs.Room.{Room}
use Rattle.text_streams.specs.Files.{IsFile}
use Rattle.idl_tokens.specs.declared.token.TheConstants.{MAX_TEXT}
use Rattle.setup_servants.specs.declared.fault.TextRole.{TextRole}
use Rattle.setup_servants.specs.declared.fault.ServingFault.{ServingFault}
use Rattle.setup_servants.specs.declared.fault.ServingFault.TheVariants as fault

-- these bytes are a text: those of the file of its name, and none where it has no name
abbrev pub IsText : FilesState → Option (List ℕ) → List ℕ → Type 0
IsText files (Some name) bytes = IsFile MAX_TEXT files name bytes
IsText files None bytes = bytes ≡ []

-- a text has a name, and the store, where it tells its files, has none of it
abbrev pub IsAbsent : FilesState → Option (List ℕ) → Type 0
IsAbsent files (Some name) = IfSome files.files (λ fs. content fs name ≡ None)
IsAbsent files None = ⊥

-- a text has a name, and the store, where it tells its files, has one of it that is longer than a text may be
abbrev pub IsTooLong : FilesState → Option (List ℕ) → Type 0
IsTooLong files (Some name) = IfSome files.files (λ fs. MatchOption (content fs name) ⊥ (λ bytes. MAX_TEXT < length bytes))
IsTooLong files None = ⊥

-- what reading the text of a name gives, which is of this role: its bytes, or why there are none
abbrev pub ReadsText : Result (Room ℕ) ServingFault → TextRole → Option (List ℕ) → FilesState → FilesState → Type 0
ReadsText (Ok bytes) role name old new = IsText old name bytes.items × (new.faults ≡ old.faults)
ReadsText (Err (fault.Absent r)) role name old new = (r ≡ role) × IsAbsent old name × (new.faults ≡ old.faults)
ReadsText (Err (fault.TooLong r)) role name old new = (r ≡ role) × IsTooLong old name × (new.faults ≡ old.faults)
ReadsText (Err fault.ReadFault) role name old new = IsSome name × Rose old.faults new.faults
ReadsText (Err fault.NoMemory) role name old new = new.faults ≡ old.faults
ReadsText (Err _) role name old new = ⊥
