use Rattle.std.proofs.Common.{◌≡◌, map, drop}
use Rattle.cdr_values.specs.Reading.{with_front}
use Rattle.cdr_values.specs.Values.{values_view}
use Rattle.idl_types.specs.Views.{param_of}
use Rattle.value_json.specs.Operations.{kinds_back}
use Rattle.client_calls.specs.Bodies.{cursor_of}
use Rattle.client_calls.specs.Replies.{values_at}
use Rattle.client_calls.proofs.results.take_backs.Given as goal

abbrev pub invariant-loop-param : goal.invariant-loop-param
invariant-loop-param l =
    with_front (values_view l.values.items) (values_at (kinds_back (map param_of (drop l.param-index l.params))) (cursor_of l.body))
    ≡ with_front (values_view l.fn.before.items) (values_at (kinds_back (map param_of l.params)) (cursor_of l.fn.body))
