use Rattle.std.proofs.Common.{◌≡◌, drop}
use Rattle.idl_scopes.specs.Finding.{among}
use Rattle.idl_scopes.specs.Pieces.{in_parts}
use Rattle.idl_scopes.specs.Views.{table_of}
use Rattle.idl_scopes.proofs.scopes.Scopes.among_parts.Given as goal

abbrev pub invariant-loop-part : goal.invariant-loop-part
invariant-loop-part l = among (table_of l.self) l.name (in_parts (drop l.part-index l.parts)) ≡ among (table_of l.self) l.name (in_parts l.parts)
