use Rattle.std.proofs.Common.{refl}
use Rattle.std.proofs.lemmas.Bool.{leb-true}
use Rattle.load_runs.proofs.Requests.{both_short}
use Rattle.load_runs.proofs.request.are_short.Goals as goal

pub returns-then-request_len-le-MAX_REQUEST : goal.returns-then-request_len-le-MAX_REQUEST
returns-then-request_len-le-MAX_REQUEST c = λ more id level.
    both_short c.args.object.now _ c.request_len.result c.request_len-then-request_len-le-MAX_REQUEST.result refl
    c.request_len.ensures c.request_len-then-request_len-le-MAX_REQUEST.ensures c.if-request_len-le-MAX_REQUEST.true
    (leb-true c.request_len-then-request_len-le-MAX_REQUEST.result 160 more) id level
