-- That one token tells the rules of IDL apart.
use Rattle.std.specs.Prelude.{◌≡◌, true, false, Result}
use Rattle.grammar.specs.Language.{Language}
use Rattle.grammar.specs.Plain.{IsPlain, is_plain, goes_on}
use Rattle.grammar.specs.Views.{language}
use Rattle.idl_tokens.specs.Placed.{Placed}
use Rattle.idl_tokens.specs.declared.kind.Kind.{Kind}
use Rattle.idl_tokens.specs.declared.kind.Kind.TheVariants as token
use Rattle.idl_grammar.specs.declared.fault.IdlFault.{IdlFault}
use Rattle.idl_grammar.specs.declared.label.IdlLabel.{IdlLabel}
use Rattle.idl_grammar.specs.IdlRules.{file, inside}
use Rattle.idl_grammar.specs.Stopping.{stop}

-- the grammar of IDL, with what is done at a token and without one
abbrev pub idl : {B : Type 0} → (IdlLabel → Placed Kind → B → Result B IdlFault) → (IdlLabel → B → Result B IdlFault) → Language
idl act judge = language inside act judge stop

-- one token tells all rules apart, and nothing that ends a file goes on with it
pub record IsPlainIdl {B : Type 0} (act : IdlLabel → Placed Kind → B → Result B IdlFault) (judge : IdlLabel → B → Result B IdlFault) : Type 0 where
  pub rules : IsPlain (idl act judge)
  pub whole : is_plain (idl act judge) file ≡ true
  pub ends : goes_on (idl act judge) file token.End ≡ false
