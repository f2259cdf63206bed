use Rattle.giop_frames.proofs.LawProofs as Law
use Rattle.giop_frames.proofs.laws.cuts_exactly.Goals as goal

pub returns : goal.returns
returns c = Law.cuts_exactly
