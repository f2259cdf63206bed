use Rattle.std.specs.Prelude.{◌≡◌, ◌≤◌, length}
use Rattle.std.specs.Vec.{vec_capacity}
use Rattle.link_slots.proofs.Serving.{GoesOn}
use Rattle.link_slots.proofs.slot.run_slot.Given as goal

abbrev pub invariant-loop-nth : goal.invariant-loop-nth
invariant-loop-nth g l = GoesOn g.A.In.Source.state g.A.Out.Sink.state g.A.Acceptor.state (goal.F-pre g l.host.serve) (goal.F-post g l.host.serve) l.host.most
    l.fn.job.place (g.A.Acceptor.state l.fn.job.acceptor) (g.A.Acceptor.state l.acceptor) l.logs.items l.place
    × (length l.logs.items ≡ l.nth) × (l.host.most ≤ vec_capacity l.logs)
