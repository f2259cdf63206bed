use Rattle.std.proofs.Common.{◌≡◌, drop, map, []}
use Rattle.idl_types.specs.Views.{interface_of}
use Rattle.servant_scripts.specs.Views.{method_of}
use Rattle.script_checks.specs.Methods.{methods}
use Rattle.script_checks.specs.Views.{ground_of, things_in}
use Rattle.script_checks.specs.Done.{method_view}
use Rattle.script_checks.proofs.methods.check_methods.Given as goal

abbrev pub invariant-loop-method : goal.invariant-loop-method
invariant-loop-method l =
    methods (ground_of l.ground) l.place (interface_of l.interface)
    (map (method_view (things_in l.ground)) l.done.items) (map method_of (drop l.method-index l.methods))
    ≡ methods (ground_of l.ground) l.place (interface_of l.interface) [] (map method_of l.methods)
