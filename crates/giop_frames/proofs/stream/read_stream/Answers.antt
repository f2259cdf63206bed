use Rattle.giop_frames.proofs.Feedings.{fed_start, fed_room, fed_err}
use Rattle.giop_frames.proofs.stream.read_stream.Goals as goal

pub loop-piece-init : goal.loop-piece-init
loop-piece-init c = fed_start c.args.limit c.args.feeds.now c.args.whole.now.items c.in-Ok.framer c.in-Ok.ensures

pub feed-requires : goal.feed-requires
feed-requires c =
    fed_room c.args.limit c.loop-piece.piece-index c.args.feeds.now c.piece-item.result c.as_slice.result.now c.args.whole.now.items c.loop-piece.whole.items
    c.loop-piece.framer c.loop-piece.invariant c.loop-piece-test.true c.piece-item.is c.as_slice.ensures c.requires.short

pub returns-in-Err-feed : goal.returns-in-Err-feed
returns-in-Err-feed c =
    fed_err c.in-Err-feed.fault c.args.limit c.loop-piece.piece-index c.args.feeds.now c.piece-item.result c.as_slice.result.now c.args.whole.now.items c.loop-piece.whole.items c.feed.new.whole.items
    c.loop-piece.framer c.feed.new.self c.loop-piece.invariant c.loop-piece-test.true c.piece-item.is c.as_slice.ensures c.in-Err-feed.ensures.fed.0 c.in-Err-feed.ensures.fed.1 c.in-Err-feed.ensures.tells
