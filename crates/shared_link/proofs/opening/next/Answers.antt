use Rattle.std.proofs.Common.{◌+◌}
use Rattle.shared_link.proofs.Heirs.{heir_of_first}
use Rattle.shared_link.proofs.opening.next.Goals as goal

pub split-requires-clause-heir : goal.split-requires-clause-heir
split-requires-clause-heir c = (c.args.main.now.splits + 1, heir_of_first c.args.main.now.number c.args.main.now.splits c.requires.main.number_is c.requires.room)
