use Rattle.std.proofs.Common.{◌≡◌, ◌++◌, replicate}
use Rattle.cdr_values.specs.Values.{values_view}
use Rattle.script_values.specs.Operations.{blank}
use Rattle.dynamic_servants.proofs.servants.extended.Given as goal

abbrev pub invariant-loop : goal.invariant-loop
invariant-loop l = values_view l.slots.items ≡ values_view l.initial.slots.items ++ replicate l.counter blank
