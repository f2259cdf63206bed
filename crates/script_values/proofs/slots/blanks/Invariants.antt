use Rattle.std.proofs.Common.{◌≡◌, replicate}
use Rattle.script_values.specs.Operations.{blank}
use Rattle.cdr_values.specs.Values.{values_view}
use Rattle.script_values.proofs.slots.blanks.Given as goal

abbrev pub invariant-loop : goal.invariant-loop
invariant-loop l = values_view l.values.items ≡ replicate l.counter blank
