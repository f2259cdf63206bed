use Rattle.std.proofs.Common.{◌≡◌, drop}
use Rattle.cdr_values.specs.Values.{values_view}
use Rattle.value_json.proofs.Answering.{asked}
use Rattle.value_json.proofs.Loops.{onto}
use Rattle.value_json.proofs.arguments.each_from.Given as goal

abbrev pub invariant-loop-param : goal.invariant-loop-param
invariant-loop-param l = onto (values_view l.values.items) (asked (drop l.param-index l.params) l.rest) ≡ asked l.params l.list
