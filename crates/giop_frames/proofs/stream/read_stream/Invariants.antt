use Rattle.std.proofs.Common.{take}
use Rattle.giop_frames.specs.Feeds.{FedSoFar, joined_feeds}
use Rattle.giop_frames.proofs.stream.read_stream.Given as goal

abbrev pub invariant-loop-piece : goal.invariant-loop-piece
invariant-loop-piece l = FedSoFar l.limit (joined_feeds (take l.piece-index l.feeds)) l.initial.whole.items l.framer l.whole.items
