use Rattle.std.proofs.Common.{◌≡◌, drop}
use Rattle.std.specs.List.{list_any}
use Rattle.idl_scopes.specs.Groups.{clashes_at}
use Rattle.idl_scopes.specs.Pieces.{whole_of}
use Rattle.idl_scopes.specs.Views.{table_of}
use Rattle.idl_scopes.proofs.scopes.Scopes.any_clashes_at.Given as goal

abbrev pub invariant-loop-at : goal.invariant-loop-at
invariant-loop-at l =
    list_any (clashes_at (table_of l.self) (whole_of l.earlier) l.later l.scope) (drop l.at-index l.places) ≡ list_any (clashes_at (table_of l.self) (whole_of l.earlier) l.later l.scope) l.places
