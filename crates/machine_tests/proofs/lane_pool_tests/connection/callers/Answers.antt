use Rattle.std.proofs.Common.{rules}
use Rattle.lane_pool.proofs.Returned.{one_back}
use Rattle.machine_tests.proofs.lane_pool_tests.connection.callers.Goals as goal

pub close-history-requires-clause-whole : goal.close-history-requires-clause-whole
close-history-requires-clause-whole c = one_back c.args.pool.cell c.args.root c.args.slot c.args.worker c.from_vec.result.items c.from_vec-2.result.items c.requires.root c.requires.slot c.requires.worker (search rules) (search rules)
