use Rattle.client_stub.proofs.Lengths.{with_priority, without_priority}
use Rattle.client_stub.proofs.length.call_len.Goals as goal

pub returns-in-Some : goal.returns-in-Some
returns-in-Some c = rw c.in-Some.is (with_priority c.args.key.now c.args.operation.now _ c.args.body c.request_len.result c.request_len.ensures)

pub returns-in-None : goal.returns-in-None
returns-in-None c = rw c.in-None.is (without_priority c.args.key.now c.args.operation.now c.args.body c.request_len-in-None.result c.request_len-in-None.ensures)
