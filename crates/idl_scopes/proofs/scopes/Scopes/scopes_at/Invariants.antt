use Rattle.std.proofs.Common.{◌≡◌, ◌++◌, drop}
use Rattle.idl_scopes.specs.Groups.{scopes_at}
use Rattle.idl_scopes.specs.Views.{table_of}
use Rattle.idl_scopes.proofs.scopes.Scopes.scopes_at.Given as goal

abbrev pub invariant-loop-at : goal.invariant-loop-at
invariant-loop-at l = l.scopes.items ++ scopes_at (table_of l.self) l.operations (drop l.at-index l.places) ≡ scopes_at (table_of l.self) l.operations l.places
