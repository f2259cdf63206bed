use Rattle.std.proofs.Common.{◌≡◌, drop}
use Rattle.idl_types.specs.Names.{names_in}
use Rattle.script_names.specs.Finding.{among}
use Rattle.script_names.specs.Contents.{known_of}
use Rattle.script_names.proofs.names.Names.among.Given as goal

abbrev pub invariant-loop-id : goal.invariant-loop-id
invariant-loop-id l = among (known_of l.self) l.name (names_in (drop l.id-index l.ids)) ≡ among (known_of l.self) l.name (names_in l.ids)
