-- That one token tells the rules of scripts apart.
use Rattle.std.specs.Prelude.{◌≡◌, true, false, Result}
use Rattle.grammar.specs.Language.{Language}
use Rattle.grammar.specs.Plain.{IsPlain, is_plain, goes_on}
use Rattle.grammar.specs.Views.{language}
use Rattle.idl_tokens.specs.Placed.{Placed}
use Rattle.idl_tokens.specs.declared.kind.Kind.{Kind}
use Rattle.idl_tokens.specs.declared.kind.Kind.TheVariants as token
use Rattle.script_grammar.specs.declared.fault.ScriptFault.{ScriptFault}
use Rattle.script_grammar.specs.declared.label.ScriptLabel.{ScriptLabel}
use Rattle.script_grammar.specs.ScriptRules.{file, inside}
use Rattle.script_grammar.specs.Stopping.{stop}

-- the grammar of scripts, with what is done at a token and without one
abbrev pub script : {B : Type 0} → (ScriptLabel → Placed Kind → B → Result B ScriptFault) → (ScriptLabel → B → Result B ScriptFault) → Language
script act judge = language inside act judge stop

-- one token tells all rules apart, and nothing that ends a file goes on with it, nor what begins no token
pub record IsPlainScript {B : Type 0} (act : ScriptLabel → Placed Kind → B → Result B ScriptFault) (judge : ScriptLabel → B → Result B ScriptFault) : Type 0 where
  pub rules : IsPlain (script act judge)
  pub whole : is_plain (script act judge) file ≡ true
  pub ends : goes_on (script act judge) file token.End ≡ false
  pub breaks : goes_on (script act judge) file token.Bad ≡ false
