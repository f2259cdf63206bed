-- The scopes that an interface inherits, in the program.
use Rattle.std.specs.Prelude.{ℕ, List}
use Rattle.idl_scopes.specs.Pieces.{whole_of}
use Rattle.idl_scopes.specs.declared.inherited.Inherited.{Inherited}

-- all of them
abbrev pub list_of : Inherited → List ℕ
list_of i = whole_of i.pieces
