use Rattle.std.proofs.Common.{drop}
use Rattle.client_stub.proofs.Lengths.{Passed, left_fields}
use Rattle.client_stub.proofs.length.body_len.Given as goal

abbrev pub invariant-loop-param : goal.invariant-loop-param
invariant-loop-param l = Passed (drop l.param-index l.params) l.rest l.place (left_fields l.params l.arguments)
