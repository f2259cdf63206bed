-- What the declarations of the program stand for.
use Rattle.std.specs.Prelude.{map}
use Rattle.idl_scopes.specs.Table as t
use Rattle.idl_scopes.specs.Declarations.{declared_of, known_of}
use Rattle.idl_scopes.specs.declared.scopes.Scopes.{Scopes}

-- all declarations, with their keys
abbrev pub table_of : Scopes → t.Table
table_of s = record { keys = map known_of s.index.known.keys; declared = map declared_of s.rows.declared.items }
