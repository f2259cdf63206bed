use Rattle.link_callers.proofs.link_caller.call_by.Goals as goal
use Rattle.link_callers.proofs.Going.{later_call}

pub end_of-requires-clause-may : goal.end_of-requires-clause-may
end_of-requires-clause-may g c =
    (later_call c.args.shared.now.cell c.args.seat.now.number c.in-Id.id c.args.request c.args.seat.now c.start.new.seat c.requires.goes c.in-Id.ensures.made).0
