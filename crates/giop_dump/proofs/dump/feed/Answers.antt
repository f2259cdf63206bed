use Rattle.giop_dump.proofs.Pieces.{fed_on, fed_to_fault}
use Rattle.giop_dump.proofs.dump.feed.Goals as goal

pub returns-in-Ok-clause-ok : goal.returns-in-Ok-clause-ok
returns-in-Ok-clause-ok c =
    fed_on c.args.framer.now c.feed.new.self c.args.messages.now.items c.feed.new.whole.items c.requires.going c.in-Ok.ensures.fed.0 c.requires.none c.in-Ok.ensures.tells

pub returns-in-Err-Frame-clause-ok : goal.returns-in-Err-Frame-clause-ok
returns-in-Err-Frame-clause-ok c =
    let told = rw c.in-Err-Frame.field-0-is at c.in-Err-Frame.ensures.tells in
    fed_to_fault c.args.framer.now c.feed.new.self c.args.messages.now.items c.feed.new.whole.items c.in-Err-Frame.broken c.requires.going c.in-Err-Frame.ensures.fed.0 c.requires.none told
