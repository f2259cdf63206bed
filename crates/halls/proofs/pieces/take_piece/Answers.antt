use Rattle.halls.proofs.Feeding.{piece_there, piece_taken}
use Rattle.halls.proofs.pieces.take_piece.Goals as goal

pub take_all-took-requires-clause-there : goal.take_all-took-requires-clause-there
take_all-took-requires-clause-there g c = piece_there _ _ _ _ _ _ _ c.in-Ok.ensures c.requires.setup c.into_vec.ensures

pub returns-in-Ok-clause-takes : goal.returns-in-Ok-clause-takes
returns-in-Ok-clause-takes g c = rw c.out_of.ensures (piece_taken c.take_all-took.result _ _ _ _ _ _ _ _ c.in-Ok.ensures c.into_vec.ensures c.take_all-took.ensures.takes)
