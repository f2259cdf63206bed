-- What a text declares, and which token is at fault, said without reading.
use Rattle.std.specs.Prelude.{◌≡◌, ℕ, List, Result, Ok, Err}
use Rattle.grammar.specs.declared.builder.ReadError.{ReadError}
use Rattle.grammar.specs.declared.builder.ReadError.TheVariants as answer
use Rattle.idl_grammar.specs.declared.fault.IdlFault.{IdlFault}
use Rattle.idl_types.specs.declared.repository.Repository.{Repository}
use Rattle.idl_types.specs.Things.{Thing}
use Rattle.idl_types.specs.Contents.{things_of}
use Rattle.idl_names.specs.State.{Built}
use Rattle.idl_names.specs.Declaring.{text_names}
use Rattle.idl_names.specs.Whole as names
use Rattle.idl_reader.specs.Declared.{declared}

-- what names declare, or the same fault
abbrev pub declared_in : Result Built IdlFault → Result (List Thing) IdlFault
declared_in (Ok new) = Ok (declared new)
declared_in (Err f) = Err f

-- what reading a text by the grammar, label by label, gives
abbrev pub text_things : List ℕ → Result (List Thing) IdlFault
text_things text = declared_in (text_names text)

-- the text declares names, and these are the things that they declare
pub record Declares (text : List ℕ) (things : List Thing) : Type 0 where
  pub new : Built
  pub names : names.Declares text new
  pub told : things ≡ declared new

-- the things that a text declares, or its first token at fault; out of memory says nothing
abbrev pub TellsThings : Result Repository (ReadError IdlFault) → List ℕ → Type 0
TellsThings (Ok r) text = Declares text (things_of r)
TellsThings (Err (answer.Refused f)) text = names.IsFirstFault text f
TellsThings (Err answer.NoMemory) text = Unit {0}

-- where a text declares things, they are what is given, unless memory runs out
abbrev pub TellsOnly : Result Repository (ReadError IdlFault) → List Thing → Type 0
TellsOnly (Ok r) things = things_of r ≡ things
TellsOnly (Err (answer.Refused f)) things = ⊥
TellsOnly (Err answer.NoMemory) things = Unit {0}
