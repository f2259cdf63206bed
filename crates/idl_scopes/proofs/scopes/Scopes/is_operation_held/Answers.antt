use Rattle.std.proofs.Common.{◌∙◌, sym}
use Rattle.idl_scopes.specs.Taking.{is_operation_in}
use Rattle.idl_scopes.specs.Views.{table_of}
use Rattle.idl_scopes.proofs.AnyOf.{any_found, any_next}
use Rattle.idl_scopes.proofs.scopes.Scopes.is_operation_held.Goals as goal

pub returns-then-branch : goal.returns-then-branch
returns-then-branch c =
    any_found (is_operation_in (table_of c.args.self.now) c.args.name.now) c.args.scopes.now c.loop-scope.scope-index 0 _ c.loop-scope-test.true (sym c.in_ok-is_operation_of.ensures ∙ c.if-branch.true) c.loop-scope.invariant

pub loop-scope-preserved : goal.loop-scope-preserved
loop-scope-preserved c =
    any_next (is_operation_in (table_of c.args.self.now) c.args.name.now) c.args.scopes.now c.loop-scope.scope-index 0 _ c.loop-scope-test.true (sym c.in_ok-is_operation_of.ensures ∙ c.if-branch.false) c.loop-scope.invariant
