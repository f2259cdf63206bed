use Rattle.std.proofs.Common.{◌≡◌, IfOk, subst}
use Rattle.script_values.specs.Trees.{Term}
use Rattle.script_checks.specs.Done.{method_view}
use Rattle.dynamic_servants.specs.BuiltInServant.{returns_at_once}
use Rattle.dynamic_servants.proofs.Forms.{priority_form}
use Rattle.dynamic_servants.proofs.built_in.current.Goals as goal

pub returns : goal.returns
returns c = λ ts.
    subst (λ (t : Term). IfOk c.returns_at_once.result (λ m. method_view ts m ≡ returns_at_once ts c.args.place 0 t)) (priority_form ts) (c.returns_at_once.ensures ts)
