-- What a text's names declare is what the text declares.
use Rattle.std.proofs.Common.{◌≡◌, ℕ, List, Result, Ok, Err, ap}
use Rattle.grammar.specs.declared.builder.ReadError.{ReadError}
use Rattle.grammar.specs.declared.builder.ReadError.TheVariants as answer
use Rattle.idl_grammar.specs.declared.fault.IdlFault.{IdlFault}
use Rattle.idl_types.specs.declared.repository.Repository.{Repository}
use Rattle.idl_types.specs.Things.{Thing}
use Rattle.idl_types.specs.Contents.{things_of}
use Rattle.idl_names.specs.State.{Built}
use Rattle.idl_names.specs.Declaring.{text_names}
use Rattle.idl_names.specs.Memory.{Yields}
use Rattle.idl_names.proofs.WholeNames.{read_declares, declared_reads, refused_first}
use Rattle.idl_reader.specs.Declared.{declared}
use Rattle.idl_reader.specs.Whole.{declared_in, text_things, Declares, TellsThings, TellsOnly}

-- things that were read are those of names that were read
from_names : (r : Result Built IdlFault) (things : List Thing) → declared_in r ≡ Ok things → (new : Built) × (r ≡ Ok new) × (things ≡ declared new)
from_names (Ok new) things e = (new, cc, cc)
from_names (Err f) things e = absurd cc

-- and a fault is theirs
same_fault : (r : Result Built IdlFault) (f : IdlFault) → declared_in r ≡ Err f → r ≡ Err f
same_fault (Ok new) f e = absurd cc
same_fault (Err g) f e = cc

-- what is read is declared
read_declares_things : (text : List ℕ) (things : List Thing) → text_things text ≡ Ok things → Declares text things
read_declares_things text things e =
    let x = from_names (text_names text) things e in
    record { new = x.0; names = read_declares text x.0 x.1; told = x.2 }

-- what is declared is read
declared_things_read : (text : List ℕ) (things : List Thing) → Declares text things → text_things text ≡ Ok things
declared_things_read text things w =
    let e : text_things text ≡ Ok (declared w.new) = ap declared_in (declared_reads text w.new w.names) in
    let h = w.told in
    cc

-- what a reading tells is so
pub tells : (r : Result Repository (ReadError IdlFault)) (text : List ℕ) → Yields things_of r (text_things text) → TellsThings r text
tells (Ok r) text e = read_declares_things text (things_of r) e
tells (Err (answer.Refused f)) text e = refused_first text f (same_fault (text_names text) f e)
tells (Err answer.NoMemory) text e = tt

-- and nothing else is
pub tells_only : (r : Result Repository (ReadError IdlFault)) (text : List ℕ) → Yields things_of r (text_things text) → (new : List Thing) → Declares text new → TellsOnly r new
tells_only (Ok r) text e new w = let d = declared_things_read text new w in cc
tells_only (Err (answer.Refused f)) text e new w = let d = declared_things_read text new w in absurd cc
tells_only (Err answer.NoMemory) text e new w = tt
