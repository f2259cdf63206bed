use Rattle.giop_frames.proofs.Opening.{own_sound, own_takes, joins_sound, joins_takes, breaks_refused}
use Rattle.giop_frames.proofs.opened.close.Goals as goal

pub take_own-requires-clause-sound : goal.take_own-requires-clause-sound
take_own-requires-clause-sound c =
    own_sound c.args.here c.args.opened c.in-Own.bytes c.args.tail.now.items c.args.partials.now.items c.in-Own.is c.requires.opened c.requires.full c.requires.filled

pub end_joined-requires-clause-sound : goal.end_joined-requires-clause-sound
end_joined-requires-clause-sound c =
    joins_sound c.args.here c.args.opened c.in-Joins.joining c.args.tail.now.items c.args.partials.now.items c.in-Joins.is c.requires.opened c.requires.full c.requires.filled

pub returns-in-Own : goal.returns-in-Own
returns-in-Own c =
    own_takes c.take_own.result c.lift.result c.args.here c.args.opened c.in-Own.bytes c.args.tail.now.items c.args.partials.now.items c.take_own.new.partials.items c.args.whole.now.items c.take_own.new.whole.items
    c.in-Own.is c.requires.opened c.requires.full c.take_own.ensures.ok c.take_own.ensures.err c.lift.ensures

pub returns-in-Joins : goal.returns-in-Joins
returns-in-Joins c =
    joins_takes c.end_joined.result c.lift-in-Joins.result c.args.here c.args.opened c.in-Joins.joining c.args.tail.now.items c.args.partials.now.items c.end_joined.new.partials.items c.args.whole.now.items
    c.end_joined.new.whole.items c.in-Joins.is c.requires.opened c.requires.full c.end_joined.ensures.ok c.end_joined.ensures.err c.lift-in-Joins.ensures

pub returns-in-Breaks : goal.returns-in-Breaks
returns-in-Breaks c =
    breaks_refused c.fault_at.result c.args.here c.args.opened c.in-Breaks.cause c.args.tail.now.items c.args.partials.now.items c.args.whole.now.items c.in-Breaks.is c.requires.opened c.requires.full c.fault_at.ensures
