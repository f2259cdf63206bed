-- As many requests as the queues have.
use Rattle.std.proofs.Common.{◌∙◌}
use Rattle.orb_base.specs.Conn.{same_conn}
use Rattle.request_buffer.proofs.Arriving.{counted_alike}
use Rattle.request_buffer.proofs.buffer.Buffer.count_for.Goals as goal

pub returns : goal.returns
returns c =
    rw (← c.self.view_is) (c.count_for.ensures ∙ counted_alike (λ job. same_conn job.conn c.args.conn) c.self.inside.max_requests c.self.inside.next c.self.inside.queues c.self.invariant.stamped)
