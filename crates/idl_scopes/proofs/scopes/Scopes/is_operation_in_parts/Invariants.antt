use Rattle.std.proofs.Common.{◌≡◌, drop}
use Rattle.std.specs.List.{list_any}
use Rattle.idl_scopes.specs.Pieces.{in_parts}
use Rattle.idl_scopes.specs.Taking.{is_operation_in}
use Rattle.idl_scopes.specs.Views.{table_of}
use Rattle.idl_scopes.proofs.scopes.Scopes.is_operation_in_parts.Given as goal

abbrev pub invariant-loop-part : goal.invariant-loop-part
invariant-loop-part l = list_any (is_operation_in (table_of l.self) l.name) (in_parts (drop l.part-index l.parts)) ≡ list_any (is_operation_in (table_of l.self) l.name) (in_parts l.parts)
