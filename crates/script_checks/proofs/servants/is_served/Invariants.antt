use Rattle.std.proofs.Common.{◌≡◌, List, drop, map}
use Rattle.idl_types.specs.Things.{Thing}
use Rattle.script_checks.specs.Servants.{is_served}
use Rattle.script_checks.specs.Done.{servant_view}
use Rattle.script_checks.proofs.servants.is_served.Given as goal

abbrev pub invariant-loop-servant : goal.invariant-loop-servant
invariant-loop-servant l =
    (ts : List Thing) → is_served (map (servant_view ts) (drop l.servant-index l.servants)) l.place
    ≡ is_served (map (servant_view ts) l.servants) l.place
