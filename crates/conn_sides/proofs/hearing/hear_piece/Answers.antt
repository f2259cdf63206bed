use Rattle.conn_sides.proofs.Pieces.{piece_heard, piece_counts, piece_went}
use Rattle.conn_sides.proofs.hearing.hear_piece.Goals as goal

pub make_all-called-requires-clause-heard : goal.make_all-called-requires-clause-heard
make_all-called-requires-clause-heard g c =
    piece_heard _ _ _ _ _ c.in-Ok.ensures c.args.pool.now.cell c.args.pass.now c.into_vec.result.items c.requires.well_formed c.requires.pool c.requires.conn c.into_vec.ensures

pub make_all-called-requires-clause-numbers : goal.make_all-called-requires-clause-numbers
make_all-called-requires-clause-numbers g c =
    piece_counts _ _ _ _ _ c.in-Ok.ensures c.args.pass.now c.into_vec.result.items c.requires.going c.requires.well_formed c.requires.heard c.into_vec.ensures

pub returns-in-Ok : goal.returns-in-Ok
returns-in-Ok g c =
    rw c.out_of.ensures (piece_went _ _ _ _ _ c.in-Ok.ensures c.make_all-called.result c.args.pool.now.cell c.args.pass.now c.make_all-called.new.pass c.into_vec.result.items
    c.requires.going c.requires.heard c.into_vec.ensures c.make_all-called.ensures)
