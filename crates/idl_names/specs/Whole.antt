-- What a text declares, and which token is at fault, said without reading.
use Rattle.std.specs.Prelude.{◌≡◌, List, ℕ, Result, Ok, Err}
use Rattle.grammar.specs.Grammar.{Sentence}
use Rattle.grammar.specs.Refusal.{NoneHere, Refused, Whole}
use Rattle.grammar.specs.declared.builder.ReadError.{ReadError}
use Rattle.grammar.specs.declared.builder.ReadError.TheVariants as answer
use Rattle.idl_tokens.specs.Cutting.{text_tokens}
use Rattle.idl_tokens.specs.declared.dialect.Dialect.TheVariants.{Idl}
use Rattle.idl_tokens.specs.declared.kind.Kind.TheVariants.{End}
use Rattle.idl_grammar.specs.declared.fault.IdlFault.{IdlFault}
use Rattle.idl_grammar.specs.IdlRules.{file}
use Rattle.idl_names.specs.State.{Built, nothing_built}
use Rattle.idl_names.specs.Declaring.{idl}
use Rattle.idl_names.specs.Views.{built_of}
use Rattle.idl_names.specs.declared.state.Names.{Names}

-- the text is one of the grammar, at most 64 brackets deep, and doing what its labels say, one after the other, makes these names
abbrev pub Declares : List ℕ → Built → Type 0
Declares text new = Whole idl (Sentence idl 64 file) End (text_tokens Idl text) nothing_built new

-- this is the fault of its first token at fault: what the labels of the tokens before it say was done, and at it no text of the
-- grammar goes on so, or what is to be done there is refused
abbrev pub IsFirstFault : List ℕ → IdlFault → Type 0
IsFirstFault text f = Refused idl (NoneHere idl 64 End file) (nothing_built, text_tokens Idl text) f

-- the names that a text declares, or its first token at fault; out of memory says nothing
abbrev pub TellsNames : Result Names (ReadError IdlFault) → List ℕ → Type 0
TellsNames (Ok names) text = Declares text (built_of names)
TellsNames (Err (answer.Refused f)) text = IsFirstFault text f
TellsNames (Err answer.NoMemory) text = Unit {0}

-- where a text declares names, they are what is given, unless memory runs out
abbrev pub TellsOnly : Result Names (ReadError IdlFault) → Built → Type 0
TellsOnly (Ok names) new = built_of names ≡ new
TellsOnly (Err (answer.Refused f)) new = ⊥
TellsOnly (Err answer.NoMemory) new = Unit {0}
