use Rattle.std.proofs.Common.{◌≡◌, drop, map}
use Rattle.idl_types.specs.Views.{param_of}
use Rattle.script_checks.specs.Methods.{same_names}
use Rattle.script_checks.proofs.parameters.same_names.Given as goal

abbrev pub invariant-loop-at : goal.invariant-loop-at
invariant-loop-at l =
    same_names (map param_of (drop l.at l.params)) (drop l.at l.names) l.close ≡ same_names (map param_of l.params) l.names l.close
