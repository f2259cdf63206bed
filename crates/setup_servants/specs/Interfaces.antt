-- What a setup's text of interfaces declares: own profile.
use Rattle.std.specs.Prelude.{◌≡◌, ℕ, List, Option, IsSome, Result, Ok, Err}
use Rattle.orb_base.specs.Filing.{FilesState}
use Rattle.orb_base.specs.Outside.{Rose}
use Rattle.idl_grammar.specs.declared.fault.IdlFault.{IdlFault}
use Rattle.idl_types.specs.declared.repository.Repository.{Repository}
use Rattle.idl_types.specs.Contents.{things_of}
use Rattle.idl_types.specs.Things.{Thing}
use Rattle.idl_reader.specs.Whole.{text_things}
use Rattle.setup_servants.specs.Texts.{IsText, IsAbsent, IsTooLong}
use Rattle.setup_servants.specs.declared.fault.TextRole.TheVariants as role
use Rattle.setup_servants.specs.declared.fault.ServingFault.{ServingFault}
use Rattle.setup_servants.specs.declared.fault.ServingFault.TheVariants as fault

-- the bytes of the text are there, and this is what they give: things, or the first fault
pub record InterfacesGive (files : FilesState) (name : Option (List ℕ)) (answer : Result (List Thing) IdlFault) : Type 0 where
  pub bytes : List ℕ
  pub text : IsText files name bytes
  pub gives : text_things bytes ≡ answer

-- what bytes declare, or their first fault; out of memory says nothing
abbrev pub Declares : Result Repository ServingFault → List ℕ → Type 0
Declares (Ok r) bytes = text_things bytes ≡ Ok (things_of r)
Declares (Err (fault.Idl f)) bytes = text_things bytes ≡ Err f
Declares (Err fault.NoMemory) bytes = Unit {0}
Declares (Err _) bytes = ⊥

-- what reading the text of a name gives: what it declares, or why there is nothing
abbrev pub ReadsInterfaces : Result Repository ServingFault → Option (List ℕ) → FilesState → FilesState → Type 0
ReadsInterfaces (Ok r) name old new = InterfacesGive old name (Ok (things_of r)) × (new.faults ≡ old.faults)
ReadsInterfaces (Err (fault.Idl f)) name old new = InterfacesGive old name (Err f) × (new.faults ≡ old.faults)
ReadsInterfaces (Err (fault.Absent role.Idl)) name old new = IsAbsent old name × (new.faults ≡ old.faults)
ReadsInterfaces (Err (fault.TooLong role.Idl)) name old new = IsTooLong old name × (new.faults ≡ old.faults)
ReadsInterfaces (Err fault.ReadFault) name old new = IsSome name × Rose old.faults new.faults
ReadsInterfaces (Err fault.NoMemory) name old new = new.faults ≡ old.faults
ReadsInterfaces (Err _) name old new = ⊥
