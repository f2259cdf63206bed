use Rattle.std.proofs.Common.{◌≡◌, drop}
use Rattle.script_checks.specs.Scene.{find_var}
use Rattle.script_checks.specs.Views.{vars_view}
use Rattle.script_checks.proofs.naming.place.Given as goal

abbrev pub invariant-loop-slot : goal.invariant-loop-slot
invariant-loop-slot l = find_var l.slot (vars_view (drop l.slot l.variables)) l.name ≡ find_var 0 (vars_view l.variables) l.name
