use Rattle.std.proofs.Common.{◌≡◌, drop, map, []}
use Rattle.idl_types.specs.Contents.{things_of}
use Rattle.servant_scripts.specs.Views.{servant_of}
use Rattle.script_names.specs.Contents.{known_of}
use Rattle.script_checks.specs.Servants.{servants}
use Rattle.script_checks.specs.Done.{servant_view}
use Rattle.script_checks.proofs.servants.check_servants.Given as goal

abbrev pub invariant-loop-servant : goal.invariant-loop-servant
invariant-loop-servant l =
    servants (things_of l.repository) (known_of l.names) (map (servant_view (things_of l.repository)) l.done.items)
    (map servant_of (drop l.servant-index l.servants))
    ≡ servants (things_of l.repository) (known_of l.names) [] (map servant_of l.servants)
