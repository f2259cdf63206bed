-- What the calls of this crate answer.
use Rattle.std.specs.Prelude.{◌≡◌, Result, Ok, Err}
use Rattle.servant_scripts.specs.declared.phrase.At.{At}
use Rattle.script_names.specs.declared.error.FindError.{FindError}
use Rattle.script_names.specs.declared.error.FindError.TheVariants.{Unknown, NoMemory}
use Rattle.script_names.specs.declared.found.Found.{Found}
use Rattle.script_names.specs.declared.meaning.Meaning.{Meaning}
use Rattle.script_names.specs.Meanings.{Pair}
use Rattle.script_names.specs.Views.{found_of}

-- this is the meaning, or this the place of the first unknown part, unless memory ran out
abbrev pub Finds : Result Meaning FindError → Result Meaning At → Type 0
Finds (Ok meaning) meant = meant ≡ Ok meaning
Finds (Err (Unknown at)) meant = meant ≡ Err at
Finds (Err NoMemory) meant = Unit {0}

-- the same of what was found with its id
abbrev pub FindsPair : Result Found FindError → Result Pair At → Type 0
FindsPair (Ok found) parts = parts ≡ Ok (found_of found)
FindsPair (Err (Unknown at)) parts = parts ≡ Err at
FindsPair (Err NoMemory) parts = Unit {0}
