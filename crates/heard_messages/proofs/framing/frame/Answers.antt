use Rattle.heard_messages.proofs.Framings.{frames_on}
use Rattle.heard_messages.proofs.framing.frame.Goals as goal

pub returns-clause-ok : goal.returns-clause-ok
returns-clause-ok c =
    frames_on c.feed.result c.in_ok-bad.bad c.args.framer.now c.feed.new.self c.new-messages.result.items c.feed.new.whole.items c.in_ok-bad.ensures c.requires.going
    c.feed.ensures.fed.0 c.new-messages.ensures c.feed.ensures.tells
