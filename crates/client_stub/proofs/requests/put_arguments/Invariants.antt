use Rattle.std.proofs.Common.{drop}
use Rattle.client_stub.proofs.Lengths.{left_fields}
use Rattle.client_stub.proofs.Sendings.{Putting}
use Rattle.client_stub.proofs.requests.put_arguments.Given as goal

abbrev pub invariant-loop-param : goal.invariant-loop-param
invariant-loop-param l = Putting (drop l.param-index l.params) l.rest l.initial.into l.into (left_fields l.params l.arguments)
