-- What a setup's text of scripts says: own profile.
use Rattle.std.specs.Prelude.{◌≡◌, ℕ, List, Option, IsSome, Result, Ok, Err}
use Rattle.orb_base.specs.Filing.{FilesState}
use Rattle.orb_base.specs.Outside.{Rose}
use Rattle.script_grammar.specs.declared.fault.ScriptFault.{ScriptFault}
use Rattle.servant_scripts.specs.declared.line.Script.{Script}
use Rattle.servant_scripts.specs.Scripts.{script_reading}
use Rattle.servant_scripts.specs.Trees.{ServantSaid}
use Rattle.servant_scripts.specs.Views.{script_of}
use Rattle.setup_servants.specs.Texts.{IsText, IsAbsent, IsTooLong}
use Rattle.setup_servants.specs.declared.fault.TextRole.TheVariants as role
use Rattle.setup_servants.specs.declared.fault.ServingFault.{ServingFault}
use Rattle.setup_servants.specs.declared.fault.ServingFault.TheVariants as fault

-- the bytes of the text are there, and this is what they give: servants as they are written, or the first token at fault
pub record ScriptsGive (files : FilesState) (name : Option (List ℕ)) (answer : Result (List ServantSaid) ScriptFault) : Type 0 where
  pub bytes : List ℕ
  pub text : IsText files name bytes
  pub gives : script_reading bytes ≡ answer

-- what bytes say, or their first token at fault; out of memory says nothing
abbrev pub Says : Result Script ServingFault → List ℕ → Type 0
Says (Ok s) bytes = script_reading bytes ≡ Ok (script_of s)
Says (Err (fault.Script f)) bytes = script_reading bytes ≡ Err f
Says (Err fault.NoMemory) bytes = Unit {0}
Says (Err _) bytes = ⊥

-- what reading the text of a name gives: what it says, or why there is nothing
abbrev pub ReadsScripts : Result Script ServingFault → Option (List ℕ) → FilesState → FilesState → Type 0
ReadsScripts (Ok s) name old new = ScriptsGive old name (Ok (script_of s)) × (new.faults ≡ old.faults)
ReadsScripts (Err (fault.Script f)) name old new = ScriptsGive old name (Err f) × (new.faults ≡ old.faults)
ReadsScripts (Err (fault.Absent role.Scripts)) name old new = IsAbsent old name × (new.faults ≡ old.faults)
ReadsScripts (Err (fault.TooLong role.Scripts)) name old new = IsTooLong old name × (new.faults ≡ old.faults)
ReadsScripts (Err fault.ReadFault) name old new = IsSome name × Rose old.faults new.faults
ReadsScripts (Err fault.NoMemory) name old new = new.faults ≡ old.faults
ReadsScripts (Err _) name old new = ⊥
