use Rattle.std.proofs.Common.{◌+◌}
use Rattle.turn_cell.proofs.Team.{there}
use Rattle.orb_bench.proofs.cells.registers.next.Goals as goal

pub split-requires-clause-heir : goal.split-requires-clause-heir
split-requires-clause-heir c = (c.args.first.now.splits + 1, there c.args.first.now.number c.args.first.now.splits c.requires.first.0 c.requires.first.1)
