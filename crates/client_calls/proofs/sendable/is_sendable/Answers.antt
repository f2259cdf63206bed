use Rattle.std.proofs.lemmas.Bool.{leb-true, le-leb}
use Rattle.client_stub.specs.Asking.{asked_of}
use Rattle.client_calls.proofs.ShortCalls.{is_short, is_long}
use Rattle.client_calls.proofs.sendable.is_sendable.Goals as goal

pub returns : goal.returns
returns c =
    let asked = asked_of c.args.asked.now in
    let n = c.request_len.result in (
      λ few. is_short asked n c.request_len.ensures (leb-true n 262144 few),
      λ short. le-leb n 262144 (is_long asked n c.request_len.ensures short),
    )
