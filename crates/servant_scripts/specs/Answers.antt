-- What the calls of this crate answer.
use Rattle.std.specs.Prelude.{◌≡◌, List, Result, Ok, Err}
use Rattle.grammar.specs.declared.builder.ReadError.{ReadError}
use Rattle.grammar.specs.declared.builder.ReadError.TheVariants as read
use Rattle.script_grammar.specs.declared.fault.ScriptFault.{ScriptFault}
use Rattle.servant_scripts.specs.declared.error.ScriptError.{ScriptError}
use Rattle.servant_scripts.specs.declared.error.ScriptError.TheVariants.{Refused, NoMemory}
use Rattle.servant_scripts.specs.declared.line.Script.{Script}
use Rattle.servant_scripts.specs.Trees.{ServantSaid}
use Rattle.servant_scripts.specs.Drafts.{Draft}
use Rattle.servant_scripts.specs.Views.{script_of}

-- what is built went as this says, unless memory ran out
abbrev pub Does : Result (Unit {0}) ScriptError → Draft → Result Draft ScriptFault → Type 0
Does (Ok x) new act = act ≡ Ok new
Does (Err (Refused fault)) new act = act ≡ Err fault
Does (Err NoMemory) new act = Unit {0}

-- the same answer in the words of the reader of grammars
abbrev pub Same : Result (Unit {0}) ScriptError → Result (Unit {0}) (ReadError ScriptFault) → Type 0
Same (Ok x) answer = answer ≡ Ok tt
Same (Err (Refused fault)) answer = answer ≡ Err (read.Refused fault)
Same (Err NoMemory) answer = answer ≡ Err read.NoMemory

-- the script is this one, or the fault this one, unless memory ran out
abbrev pub Tells : Result Script ScriptError → Result (List ServantSaid) ScriptFault → Type 0
Tells (Ok s) reading = reading ≡ Ok (script_of s)
Tells (Err (Refused fault)) reading = reading ≡ Err fault
Tells (Err NoMemory) reading = Unit {0}
