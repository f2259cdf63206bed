use Rattle.names_hall.proofs.Worn.{never_worn}
use Rattle.names_hall.proofs.map.NamesMap.call.Goals as goal

pub unreachable-requires : goal.unreachable-requires
unreachable-requires g c = never_worn c.self.inside.cell c.args.call c.args.seat.now c.call.new.seat c.self.invariant c.requires.fit (c.in-Err.ensures.worn).1
