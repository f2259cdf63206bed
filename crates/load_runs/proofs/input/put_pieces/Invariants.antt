use Rattle.std.proofs.Common.{◌≡◌, ◌++◌, take}
use Rattle.giop_frames.specs.Feeds.{joined_feeds}
use Rattle.load_runs.proofs.input.put_pieces.Given as goal

abbrev pub invariant-loop-piece : goal.invariant-loop-piece
invariant-loop-piece l = l.into.items ≡ l.fn.into.items ++ joined_feeds (take l.piece-index l.pieces)
