use Rattle.std.proofs.Common.{◌∙◌, sym}
use Rattle.idl_scopes.specs.Views.{table_of}
use Rattle.idl_scopes.proofs.AmongScopes.{among_found, among_next}
use Rattle.idl_scopes.proofs.scopes.Scopes.among_held.Goals as goal

pub returns-in-Some : goal.returns-in-Some
returns-in-Some c =
    among_found (table_of c.args.self.now) c.args.name.now c.args.scopes.now c.loop-scope.scope-index c.in-Some.at _ c.loop-scope-test.true (sym c.in_ok-at.ensures ∙ c.in-Some.is) c.loop-scope.invariant

pub loop-scope-preserved : goal.loop-scope-preserved
loop-scope-preserved c =
    among_next (table_of c.args.self.now) c.args.name.now c.args.scopes.now c.loop-scope.scope-index _ c.loop-scope-test.true (sym c.in_ok-at.ensures ∙ c.in_default.is) c.loop-scope.invariant
