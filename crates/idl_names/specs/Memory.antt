-- Out of memory, as the reader's.
use Rattle.std.specs.Prelude.{◌≡◌, Result, Ok, Err}
use Rattle.grammar.specs.declared.builder.ReadError.{ReadError}
use Rattle.grammar.specs.declared.builder.ReadError.TheVariants.{Refused, NoMemory}

-- the same answer, and out of memory when out of memory
abbrev pub HadMemory : {X M F : Type 0} → Result X M → Result X (ReadError F) → Type 0
HadMemory (Ok x) result = result ≡ Ok x
HadMemory (Err e) result = result ≡ Err NoMemory

-- the answer is what was asked, seen so, unless memory ran out
abbrev pub Yields : {X Y F : Type 0} → (X → Y) → Result X (ReadError F) → Result Y F → Type 0
Yields view (Ok x) asked = asked ≡ Ok (view x)
Yields view (Err (Refused f)) asked = asked ≡ Err f
Yields view (Err NoMemory) asked = Unit {0}
