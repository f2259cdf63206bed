use Rattle.conn_engine.proofs.PieceRuns.{piece_heard}
use Rattle.conn_engine.proofs.pieces.run_piece.Goals as goal

pub feed-requires-2-clause-heard : goal.feed-requires-2-clause-heard
feed-requires-2-clause-heard g c =
    piece_heard c.args.setup.now c.args.lanes.now.pool c.args.hearing.now c.feed.new.self c.args.piece.now c.in_ok-heard.heard.calls.items c.as_slice-calls.result.now c.in_ok-heard.heard.ending
    c.requires.well_formed c.requires.setup c.requires.conn c.requires.pool c.in_ok-heard.ensures c.as_slice-calls.ensures
