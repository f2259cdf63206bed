use Rattle.std.proofs.Common.{subst}
use Rattle.orb_base.specs.declared.conn_id.ConnId.{ConnId}
use Rattle.conn_engine.specs.Hearers.{IsNew}
use Rattle.conn_sides.proofs.ReadRuns.{wants_first}
use Rattle.conn_sides.proofs.reading.hear_all.Goals as goal

pub hear_reads-requires-clause-new : goal.hear_reads-requires-clause-new
hear_reads-requires-clause-new g c = subst (λ (conn : ConnId). IsNew c.args.setup.now conn c.in-Ok.hearing) c.conn.ensures c.in-Ok.ensures

pub returns-in-Err-clause-hears : goal.returns-in-Err-clause-hears
returns-in-Err-clause-hears g c = wants_first c.args.pool.now.cell c.args.setup.now c.args.pass.now (g.I.Source.state c.args.source.now) c.requires.listens
