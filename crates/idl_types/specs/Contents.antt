-- A repository as contracts see it: its things, in order of declaration.
use Rattle.std.specs.Prelude.{List}
use Rattle.idl_types.specs.declared.repository.Repository.{Repository}
use Rattle.idl_types.specs.Things.{Thing}
use Rattle.idl_types.specs.Entries.{entry_things}

-- the things that a repository holds, in order of declaration
abbrev pub things_of : Repository → List Thing
things_of r = entry_things r.declared.entries
