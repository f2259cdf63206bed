-- What the names of the program make known.
use Rattle.script_names.specs.declared.names.Names.{Names}
use Rattle.script_names.specs.Known.{Known}
use Rattle.script_names.specs.Meanings.{meaning_in}
use Rattle.script_names.specs.Views.{pairs_of, listed}

-- what is known of each id
abbrev pub known_of : Names → Known
known_of n = record { meaning = meaning_in (pairs_of n.meanings.entries); bases = listed n.bases.entries }
