use Rattle.std.proofs.Common.{◌≡◌, drop}
use Rattle.std.specs.List.{list_any}
use Rattle.idl_scopes.specs.Taking.{is_operation_in}
use Rattle.idl_scopes.specs.Views.{table_of}
use Rattle.idl_scopes.proofs.scopes.Scopes.is_operation_held.Given as goal

abbrev pub invariant-loop-scope : goal.invariant-loop-scope
invariant-loop-scope l = list_any (is_operation_in (table_of l.self) l.name) (drop l.scope-index l.scopes) ≡ list_any (is_operation_in (table_of l.self) l.name) l.scopes
