use Rattle.std.proofs.Common.{sym, ◌∙◌}
use Rattle.std.specs.List.{list_any}
use Rattle.idl_scopes.specs.Groups.{clashes_in}
use Rattle.idl_scopes.specs.Pieces.{whole_of}
use Rattle.idl_scopes.specs.Views.{table_of}
use Rattle.idl_scopes.proofs.AnyOf.{any_found, any_end}
use Rattle.idl_scopes.proofs.ClashingScopes.{scope_by_scope}
use Rattle.idl_scopes.proofs.scopes.Scopes.bases_clash.Goals as goal

pub returns-then-branch : goal.returns-then-branch
returns-then-branch c =
    any_found (λ scope. list_any (clashes_in (table_of c.args.self.now) (whole_of c.args.earlier.now) c.args.later.now scope) (table_of c.args.self.now).declared) c.args.later.now c.loop-scope.scope-index 0 _
    c.loop-scope-test.true (sym c.in_ok-any_clashes_in.ensures ∙ c.if-branch.true) c.loop-scope.invariant
    ∙ scope_by_scope (table_of c.args.self.now) (whole_of c.args.earlier.now) c.args.later.now

pub returns : goal.returns
returns c =
    any_end (λ scope. list_any (clashes_in (table_of c.args.self.now) (whole_of c.args.earlier.now) c.args.later.now scope) (table_of c.args.self.now).declared) c.args.later.now c.loop-scope.scope-index _
    c.loop-scope-test.false c.loop-scope.invariant
    ∙ scope_by_scope (table_of c.args.self.now) (whole_of c.args.earlier.now) c.args.later.now
