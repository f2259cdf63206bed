use Rattle.client_stub.specs.Asking.{asked_of}
use Rattle.client_stub.proofs.Sendings.{call_short}
use Rattle.client_stub.proofs.requests.call_request.Goals as goal

pub bytes_of-requires : goal.bytes_of-requires
bytes_of-requires c = record { short = call_short (asked_of c.args.asked.now) c.args.id c.in_ok-request.request c.requires.short c.in_ok-request.ensures }
