-- What is known of the names of a repository.
use Rattle.std.specs.Prelude.{List, Option}
use Rattle.cdr_values.specs.Trees.{Name, Names}
use Rattle.idl_types.specs.Things.{Thing}
use Rattle.script_names.specs.declared.meaning.Meaning.{Meaning}
use Rattle.script_names.specs.Meanings.{meaning_of}
use Rattle.script_names.specs.Inherited.{bases_of}

-- what each id stands for, and for each interface's id those of all its bases, in the order of looking up
pub record Known : Type 0 where
  pub meaning : Name → Option Meaning
  pub bases : Name → Names

-- what these things make known
abbrev pub known : List Thing → Known
known ts = record { meaning = meaning_of ts; bases = bases_of ts }
