use Rattle.std.proofs.Common.{inl, inr}
use Rattle.std.proofs.lemmas.Result.{err_from_is_err_and}
use Rattle.client_calls.proofs.waiting.await_reply.Goals as goal

pub returns-in_err-next : goal.returns-in_err-next
returns-in_err-next g c =
    let p = err_from_is_err_and c.from_residual.result c.from_residual.ensures.1 in
    rw p.1 (inl (p.2, c.in_err-next.ensures))

pub returns-in-Over : goal.returns-in-Over
returns-in-Over g c = inr (c.in-Over.end, c.came_by.ensures, rw c.in-Over.is at c.in_ok-next.ensures)
