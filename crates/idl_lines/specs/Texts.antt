-- What the text of IDL in a file declares, and what there is in place of it: own profile.
use Rattle.std.specs.Prelude.{◌≡◌, ◌≤◌, ◌<◌, ℕ, List, length, Some, None, Result, Ok, Err, IfSome, MatchOption}
use Rattle.orb_base.specs.Filing.{FilesState, content}
use Rattle.orb_base.specs.Outside.{Rose}
use Rattle.text_streams.specs.Files.{IsFile}
use Rattle.idl_tokens.specs.declared.token.TheConstants.{MAX_TEXT}
use Rattle.idl_grammar.specs.declared.fault.IdlFault.{IdlFault}
use Rattle.idl_types.specs.declared.repository.Repository.{Repository}
use Rattle.idl_types.specs.Contents.{things_of}
use Rattle.idl_types.specs.Things.{Thing}
use Rattle.idl_names.specs.Whole.{IsFirstFault}
use Rattle.idl_reader.specs.Whole.{Declares}
use Rattle.idl_lines.specs.declared.idl_end.IdlEnd.{IdlEnd}
use Rattle.idl_lines.specs.declared.idl_end.IdlEnd.TheVariants.{Refused, Absent, TooLong, ReadFault, NoMemory}

-- the file of this name declares these things
pub record FileDeclares (files : FilesState) (name : List ℕ) (things : List Thing) : Type 0 where
  pub bytes : List ℕ
  pub file : IsFile MAX_TEXT files name bytes
  pub declares : Declares bytes things

-- the file of this name has this first fault
pub record FileFails (files : FilesState) (name : List ℕ) (fault : IdlFault) : Type 0 where
  pub bytes : List ℕ
  pub file : IsFile MAX_TEXT files name bytes
  pub first : IsFirstFault bytes fault

-- a store that tells its files has one of this name with these bytes, which aren't too long
pub record IsTold (files : FilesState) (name bytes : List ℕ) : Type 0 where
  pub fits : length bytes ≤ MAX_TEXT
  pub told : MatchOption files.files ⊥ (λ fs. content fs name ≡ Some bytes)

-- it has one that declares these things
pub record FileTells (files : FilesState) (name : List ℕ) (things : List Thing) : Type 0 where
  pub bytes : List ℕ
  pub file : IsTold files name bytes
  pub declares : Declares bytes things

-- what the bytes of a text give: what they declare, or their first fault; out of memory says nothing
abbrev pub ReadsBytes : Result Repository IdlEnd → List ℕ → Type 0
ReadsBytes (Ok r) bytes = Declares bytes (things_of r)
ReadsBytes (Err (Refused f)) bytes = IsFirstFault bytes f
ReadsBytes (Err NoMemory) bytes = Unit {0}
ReadsBytes (Err _) bytes = ⊥

-- what the file of a name gives: what it declares, its first fault, or why there is neither
abbrev pub ReadsFile : Result Repository IdlEnd → List ℕ → FilesState → FilesState → Type 0
ReadsFile (Ok r) name old new = FileDeclares old name (things_of r) × (new.faults ≡ old.faults)
ReadsFile (Err (Refused f)) name old new = FileFails old name f × (new.faults ≡ old.faults)
ReadsFile (Err Absent) name old new = IfSome old.files (λ fs. content fs name ≡ None) × (new.faults ≡ old.faults)
ReadsFile (Err TooLong) name old new =
    IfSome old.files (λ fs. MatchOption (content fs name) ⊥ (λ bytes. MAX_TEXT < length bytes)) × (new.faults ≡ old.faults)
ReadsFile (Err ReadFault) name old new = Rose old.faults new.faults
ReadsFile (Err NoMemory) name old new = new.faults ≡ old.faults
ReadsFile (Err _) name old new = ⊥

-- where these things are declared, they are what is read, unless the store fails or memory is wanting
abbrev pub OnlyReads : Result Repository IdlEnd → List Thing → Type 0
OnlyReads (Ok r) things = things_of r ≡ things
OnlyReads (Err ReadFault) things = Unit {0}
OnlyReads (Err NoMemory) things = Unit {0}
OnlyReads (Err _) things = ⊥

-- what is read is what reading by the grammar gives, unless the store fails or memory is wanting
abbrev pub ReadsExactly : Result Repository IdlEnd → Result (List Thing) IdlFault → Type 0
ReadsExactly (Ok r) asked = asked ≡ Ok (things_of r)
ReadsExactly (Err (Refused f)) asked = asked ≡ Err f
ReadsExactly (Err ReadFault) asked = Unit {0}
ReadsExactly (Err NoMemory) asked = Unit {0}
ReadsExactly (Err _) asked = ⊥
