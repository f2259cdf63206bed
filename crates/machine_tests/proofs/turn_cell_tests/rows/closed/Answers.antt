use Rattle.std.proofs.Common.{sym, subst}
use Rattle.turn_cell.specs.Numbers.{IsWhole}
use Rattle.turn_cell.specs.Register.{heir}
use Rattle.turn_cell.proofs.Team.{two}
use Rattle.machine_tests.proofs.turn_cell_tests.rows.closed.Goals as goal

pub close-list-requires-clause-whole : goal.close-list-requires-clause-whole
close-list-requires-clause-whole c = subst (IsWhole heir) (sym c.requires.numbers) two
