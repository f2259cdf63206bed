-- Which interfaces a call knows: own profile.
use Rattle.std.specs.Prelude.{◌≡◌, ◌<◌, ℕ, List, [], length, Option, Some, None, Result, Ok, Err, IfSome, MatchOption}
use Rattle.orb_base.specs.Filing.{FilesState, content}
use Rattle.orb_base.specs.Outside.{Rose}
use Rattle.text_streams.specs.Files.{IsFile}
use Rattle.idl_tokens.specs.declared.token.TheConstants.{MAX_TEXT}
use Rattle.idl_grammar.specs.declared.fault.IdlFault.{IdlFault}
use Rattle.idl_types.specs.declared.repository.Repository.{Repository}
use Rattle.idl_types.specs.BuiltIn.{with_ping, with_names}
use Rattle.idl_types.specs.Contents.{things_of}
use Rattle.idl_types.specs.Things.{Thing}
use Rattle.idl_reader.specs.Whole.{text_things}
use Rattle.client_runs.specs.declared.call_end.CallEnd.{CallEnd}
use Rattle.client_runs.specs.declared.call_end.CallEnd.TheVariants.{File, NoMemory}
use Rattle.client_runs.specs.declared.call_end.FileFault.TheVariants.{Refused, Absent, TooLong, ReadFault}

-- what bytes declare, or their first fault; out of memory, nothing is said
abbrev pub ReadsBytes : Result Repository CallEnd → List ℕ → Type 0
ReadsBytes (Ok r) bytes = text_things bytes ≡ Ok (things_of r)
ReadsBytes (Err (File (Refused f))) bytes = text_things bytes ≡ Err f
ReadsBytes (Err NoMemory) bytes = Unit {0}
ReadsBytes (Err _) bytes = ⊥

-- the bytes of the file of this name are there, and this is what they give: things, or the first fault
pub record FileGives (files : FilesState) (name : List ℕ) (answer : Result (List Thing) IdlFault) : Type 0 where
  pub bytes : List ℕ
  pub file : IsFile MAX_TEXT files name bytes
  pub gives : text_things bytes ≡ answer

-- what the file of a name gives, or why it gives nothing: it is refused, it is absent or too long where the store tells its files, or the
-- store failed
abbrev pub ReadsFile : Result Repository CallEnd → List ℕ → FilesState → FilesState → Type 0
ReadsFile (Ok r) name old new = FileGives old name (Ok (things_of r)) × (new.faults ≡ old.faults)
ReadsFile (Err (File (Refused f))) name old new = FileGives old name (Err f) × (new.faults ≡ old.faults)
ReadsFile (Err (File Absent)) name old new = IfSome old.files (λ fs. content fs name ≡ None) × (new.faults ≡ old.faults)
ReadsFile (Err (File TooLong)) name old new =
    IfSome old.files (λ fs. MatchOption (content fs name) ⊥ (λ bytes. MAX_TEXT < length bytes)) × (new.faults ≡ old.faults)
ReadsFile (Err (File ReadFault)) name old new = Rose old.faults new.faults
ReadsFile (Err NoMemory) name old new = new.faults ≡ old.faults
ReadsFile (Err _) name old new = ⊥

-- things with the built-in module: the interface of `ping`, and that of the name service with its exceptions
abbrev pub with_built_in : List Thing → List Thing
with_built_in declared = with_names (with_ping declared)

-- the things of a repository with the built-in module; out of memory, nothing is said
abbrev pub AddsBuiltIn : Result Repository CallEnd → Repository → Type 0
AddsBuiltIn (Ok r) before = things_of r ≡ with_built_in (things_of before)
AddsBuiltIn (Err NoMemory) before = Unit {0}
AddsBuiltIn (Err _) before = ⊥

-- the file of this name declares things, and these are known: they and the built-in module
pub record FileKnows (files : FilesState) (name : List ℕ) (things : List Thing) : Type 0 where
  pub declared : List Thing
  pub gives : FileGives files name (Ok declared)
  pub all : things ≡ with_built_in declared

-- what is known by the file of a name, or why nothing is
abbrev pub KnowsBy : Result Repository CallEnd → List ℕ → FilesState → FilesState → Type 0
KnowsBy (Ok r) name old new = FileKnows old name (things_of r) × (new.faults ≡ old.faults)
KnowsBy (Err end) name old new = ReadsFile (Err end) name old new

-- what is known: by the file of a name, or without a name the built-in module alone
abbrev pub Knows : Result Repository CallEnd → Option (List ℕ) → FilesState → FilesState → Type 0
Knows answer (Some name) old new = KnowsBy answer name old new
Knows (Ok r) None old new = (things_of r ≡ with_built_in []) × (new ≡ old)
Knows (Err NoMemory) None old new = new ≡ old
Knows (Err _) None old new = ⊥
