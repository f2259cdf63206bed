use Rattle.lane_pool.proofs.Staying.{home_linked}
use Rattle.machine_tests.proofs.lane_pool_tests.storm.serve.Goals as goal

pub returns-in-Ok-clause-home : goal.returns-in-Ok-clause-home
returns-in-Ok-clause-home g c = home_linked c.args.pool.now.cell c.args.slot c.in-Ok.reader c.in-Ok.writer c.both_sides-writer.result.1 c.both_sides-writer.result.0 c.unlink.result
    c.requires.home c.in-Ok.ensures.ok c.both_sides-writer.ensures.reader c.both_sides-writer.ensures.writer c.unlink.ensures.made
