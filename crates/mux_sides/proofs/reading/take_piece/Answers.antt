use Rattle.mux_sides.proofs.Arriving.{piece_taken}
use Rattle.mux_sides.proofs.reading.take_piece.Goals as goal

pub returns-in-Ok : goal.returns-in-Ok
returns-in-Ok g c = piece_taken _ c.out_of.result _ _ _ _ _ _ _ _ c.in-Ok.ensures c.into_vec.ensures c.put_all.ensures c.out_of.ensures
