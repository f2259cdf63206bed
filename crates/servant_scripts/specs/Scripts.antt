-- Which texts are scripts, and what they say.
use Rattle.std.specs.Prelude.{◌≡◌, ℕ, List, Result, Ok, Err}
use Rattle.grammar.specs.Language.{Language}
use Rattle.grammar.specs.Grammar.{Sentence}
use Rattle.grammar.specs.Reading.{State, Stream, read_whole}
use Rattle.grammar.specs.Refusal.{Whole, Refused, NoneHere}
use Rattle.idl_tokens.specs.Cutting.{text_tokens}
use Rattle.idl_tokens.specs.declared.dialect.Dialect.TheVariants.{Script}
use Rattle.idl_tokens.specs.declared.kind.Kind.{Kind}
use Rattle.idl_tokens.specs.declared.kind.Kind.TheVariants.{End}
use Rattle.script_grammar.specs.Plain.{script}
use Rattle.script_grammar.specs.ScriptRules.{file}
use Rattle.script_grammar.specs.declared.fault.ScriptFault.{ScriptFault}
use Rattle.servant_scripts.specs.declared.error.ScriptError.{ScriptError}
use Rattle.servant_scripts.specs.declared.error.ScriptError.TheVariants as answer
use Rattle.servant_scripts.specs.Trees.{ServantSaid}
use Rattle.servant_scripts.specs.Drafts.{Draft, empty}
use Rattle.servant_scripts.specs.Labels.{act, judge}

-- the language of scripts: its grammar, and what is built along it
abbrev pub scripts : Language
scripts = script act judge

-- the servants that were built
abbrev pub servants_in : Result (State scripts) ScriptFault → Result (List ServantSaid) ScriptFault
servants_in (Ok s) = Ok s.0.servants
servants_in (Err f) = Err f

-- the script of tokens, where 64 brackets may be open, or the first fault
unfoldable pub tokens_reading : Stream Kind → Result (List ServantSaid) ScriptFault
tokens_reading s = servants_in (read_whole scripts 64 End file (empty, s))

-- the script of a text, or the first fault
abbrev pub script_reading : List ℕ → Result (List ServantSaid) ScriptFault
script_reading text = tokens_reading (text_tokens Script text)

-- The text spells the script: its tokens are those of a sentence of the grammar, and the script is what is built along
-- that sentence. Nothing is said of how it is read.
abbrev pub Spells : List ℕ → List ServantSaid → Type 0
Spells text servants = (d : Draft) × Whole scripts (Sentence scripts 64 file) End (text_tokens Script text) empty d × (d.servants ≡ servants)

-- The text has its first token at fault here: no sentence begins with the tokens before it and that one, or it is a literal
-- that no script may have.
abbrev pub HasFault : List ℕ → ScriptFault → Type 0
HasFault text fault = Refused scripts (NoneHere scripts 64 End file) (empty, text_tokens Script text) fault

-- what is read is spelled
abbrev pub ReadsScripts : Type 0
ReadsScripts = (text : List ℕ) (servants : List ServantSaid) → script_reading text ≡ Ok servants → Spells text servants

-- what is spelled is read
abbrev pub ReadsEachScript : Type 0
ReadsEachScript = (text : List ℕ) (servants : List ServantSaid) → Spells text servants → script_reading text ≡ Ok servants

-- and any other text is refused at its first token at fault
abbrev pub StopsAtFirstFault : Type 0
StopsAtFirstFault = (text : List ℕ) (fault : ScriptFault) → script_reading text ≡ Err fault → HasFault text fault

-- the fault that is given is the text's first one
abbrev pub TellsFault : List ℕ → ScriptError → Type 0
TellsFault text (answer.Refused fault) = HasFault text fault
TellsFault text answer.NoMemory = Unit {0}
