-- What a whole text declares, or its first token at fault.
use Rattle.std.specs.Prelude.{ℕ, List, Result, Ok, Err}
use Rattle.grammar.specs.Language.{Language}
use Rattle.grammar.specs.Reading.{State, read_whole}
use Rattle.idl_tokens.specs.Cutting.{text_tokens}
use Rattle.idl_tokens.specs.declared.dialect.Dialect.TheVariants.{Idl}
use Rattle.idl_tokens.specs.declared.kind.Kind.TheVariants.{End}
use Rattle.idl_grammar.specs.declared.fault.IdlFault.{IdlFault}
use Rattle.idl_grammar.specs.IdlRules.{file}
use Rattle.idl_grammar.specs.Plain as grammar
use Rattle.idl_names.specs.State.{Built, nothing_built}
use Rattle.idl_names.specs.Labels.{act, judge}

-- the grammar of IDL, with what its labels do to the names
abbrev pub idl : Language
idl = grammar.idl act judge

-- what is left of a reading
abbrev pub built_in : Result (State idl) IdlFault → Result Built IdlFault
built_in (Ok s) = Ok s.0
built_in (Err f) = Err f

-- a text, of which at most 64 brackets may be open at once
abbrev pub text_names : List ℕ → Result Built IdlFault
text_names text = built_in (read_whole idl 64 End file (nothing_built, text_tokens Idl text))
