use Rattle.pipe_laws.specs.Lacking.{served}
use Rattle.conn_sides.proofs.Tasks.{WorkedSoFar}
use Rattle.conn_sides.proofs.working.work.Given as goal

abbrev pub invariant-loop : goal.invariant-loop
invariant-loop g l = WorkedSoFar l.pool.cell (served l.setup (g.S.Serving.outcome l.servants)) l.fn.pass l.pass
