-- What a call did to what is built and to the tokens.
use Rattle.std.specs.Prelude.{◌≡◌, Result, Ok, Err}
use Rattle.grammar.specs.Reading.{Stream}
use Rattle.idl_tokens.specs.declared.kind.Kind.{Kind}
use Rattle.grammar.specs.declared.builder.ReadError.{ReadError}
use Rattle.grammar.specs.declared.builder.ReadError.TheVariants.{Refused, NoMemory}

-- what is built went as this says, unless memory ran out
abbrev pub Acts : {B F : Type 0} → Result (Unit {0}) (ReadError F) → B → Result B F → Type 0
Acts (Ok x) new act = act ≡ Ok new
Acts (Err (Refused fault)) new act = act ≡ Err fault
Acts (Err NoMemory) new act = Unit {0}

-- the refusal is that of this reading; out of memory says nothing
abbrev pub Refuses : {S F : Type 0} → ReadError F → Result S F → Type 0
Refuses (Refused f) read = read ≡ Err f
Refuses NoMemory read = Unit {0}

-- what a call did is this reading, unless memory ran out
abbrev pub Gives : {X B F : Type 0} → Result X (ReadError F) → B → Stream Kind → Result (B × Stream Kind) F → Type 0
Gives (Ok x) built tokens read = read ≡ Ok (built, tokens)
Gives (Err e) built tokens read = Refuses e read
