use Rattle.client_stub.proofs.Lengths.{binding}
use Rattle.client_stub.proofs.length.bind_len.Goals as goal

pub returns : goal.returns
returns c = binding c.args.key.now c.request_len.result c.request_len.ensures
