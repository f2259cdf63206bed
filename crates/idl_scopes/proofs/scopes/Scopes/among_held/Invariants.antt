use Rattle.std.proofs.Common.{◌≡◌, drop}
use Rattle.idl_scopes.specs.Finding.{among}
use Rattle.idl_scopes.specs.Views.{table_of}
use Rattle.idl_scopes.proofs.scopes.Scopes.among_held.Given as goal

abbrev pub invariant-loop-scope : goal.invariant-loop-scope
invariant-loop-scope l = among (table_of l.self) l.name (drop l.scope-index l.scopes) ≡ among (table_of l.self) l.name l.scopes
