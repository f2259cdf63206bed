use Rattle.std.proofs.Common.{◌≡◌, drop}
use Rattle.std.specs.List.{list_any}
use Rattle.idl_scopes.specs.Groups.{clashes_in}
use Rattle.idl_scopes.specs.Pieces.{whole_of}
use Rattle.idl_scopes.specs.Views.{table_of}
use Rattle.idl_scopes.proofs.scopes.Scopes.bases_clash.Given as goal

abbrev pub invariant-loop-scope : goal.invariant-loop-scope
invariant-loop-scope l =
    list_any (λ scope. list_any (clashes_in (table_of l.self) (whole_of l.earlier) l.later scope) (table_of l.self).declared) (drop l.scope-index l.later)
    ≡ list_any (λ scope. list_any (clashes_in (table_of l.self) (whole_of l.earlier) l.later scope) (table_of l.self).declared) l.later
