use Rattle.conn_engine.proofs.Feeds.{frames_if}
use Rattle.conn_engine.proofs.hearing.frame.Goals as goal

pub returns-clause-ok : goal.returns-clause-ok
returns-clause-ok c =
    frames_if c.fault_of.result c.feed.result c.args.framer.now c.feed.new.self c.args.messages.now.items c.feed.new.whole.items c.fault_of.ensures c.requires.going c.feed.ensures.fed.0 c.requires.none c.feed.ensures.tells
