use Rattle.std.proofs.Common.{◌≡◌, drop, map, []}
use Rattle.idl_types.specs.Views.{param_of}
use Rattle.script_checks.specs.Methods.{params_behind}
use Rattle.script_checks.specs.Views.{vars_view}
use Rattle.script_checks.proofs.parameters.param_vars.Given as goal

abbrev pub invariant-loop-param : goal.invariant-loop-param
invariant-loop-param l =
    params_behind l.place l.operation (vars_view l.vars.items) (map param_of (drop l.param-index l.params))
    ≡ params_behind l.place l.operation [] (map param_of l.params)
