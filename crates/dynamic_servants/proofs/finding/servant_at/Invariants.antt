use Rattle.std.proofs.Common.{◌≡◌, List, drop, map}
use Rattle.idl_types.specs.Things.{Thing}
use Rattle.script_checks.specs.Done.{servant_view}
use Rattle.dynamic_servants.specs.Outcome.{servant_at}
use Rattle.dynamic_servants.proofs.finding.servant_at.Given as goal

abbrev pub invariant-loop-servant : goal.invariant-loop-servant
invariant-loop-servant l =
    (ts : List Thing) → servant_at (map (servant_view ts) (drop l.servant-index l.servants)) l.place ≡ servant_at (map (servant_view ts) l.servants) l.place
