use Rattle.std.proofs.Common.{◌≡◌, drop, map, []}
use Rattle.cdr_core.specs.Cursor.{Cursor, cursor}
use Rattle.cdr_values.specs.Values.{values_view}
use Rattle.idl_types.specs.Views.{param_of}
use Rattle.dynamic_servants.specs.Arguments.{arguments}
use Rattle.dynamic_servants.specs.Beginning.{StandsAt}
use Rattle.dynamic_servants.proofs.arguments.arguments.Given as goal

abbrev pub invariant-loop-param : goal.invariant-loop-param
invariant-loop-param l =
    (c : Cursor) × StandsAt l.rest c
    × (arguments (map param_of (drop l.param-index l.params)) (values_view l.values.items) c ≡ arguments (map param_of l.params) [] (cursor l.fn.order 24 l.body))
