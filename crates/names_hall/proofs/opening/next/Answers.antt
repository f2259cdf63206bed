use Rattle.std.proofs.Common.{refl}
use Rattle.names_hall.proofs.Growing.{heir_of_first, fresh}
use Rattle.names_hall.proofs.opening.next.Goals as goal

pub split-requires-clause-heir : goal.split-requires-clause-heir
split-requires-clause-heir c = heir_of_first c.args.cell.now c.args.slot c.args.main.now c.requires.main c.requires.room

pub returns-clause-hand : goal.returns-clause-hand
returns-clause-hand c = fresh c.args.cell.now c.args.slot c.args.main.now c.split.new.seat _ c.requires.main c.requires.room c.in_ok-seat.ensures.ok refl c.new.ensures refl
