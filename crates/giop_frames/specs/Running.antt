-- The same stream, said by the unfinished messages in the place of the earlier pieces.
use Rattle.std.specs.Prelude.{ℕ, not, List, [], ◌∷◌, ◌++◌, length, map, filter, if◌then◌else◌}
use Rattle.giop_frames.specs.Pieces.{Piece, Cut, cut}
use Rattle.giop_frames.specs.Messages.{Partial, opens, continues, ends, added, begun}
use Rattle.giop_frames.specs.Stream.{Said, at_end, or_stopped, tail_cause, cause_of}

-- an unfinished message after a piece that doesn't end it
abbrev pub grown : Piece → Partial → Partial
grown p u = if continues u.id p.bytes then record u { bytes = u.bytes ++ added p } else u

-- the message that a piece opens, if it opens one
abbrev pub opened : Piece → List Partial
opened p = if opens p.bytes then begun p [] ∷ [] else []

-- the unfinished messages after one more piece
unfoldable pub stepped : Piece → List Partial → List Partial
stepped p us = map (grown p) (filter (λ u. not (ends u.id p.bytes)) us) ++ opened p

-- the unfinished messages after some more pieces
abbrev pub stepped_by : List Piece → List Partial → List Partial
stepped_by [] us = us
stepped_by (p ∷ later) us = stepped_by later (stepped p us)

-- what pieces and a tail say after the unfinished messages of the earlier ones
unfoldable pub run : ℕ → List Partial → List Piece → Piece → Said
run limit us [] tail = at_end us tail (tail_cause limit tail.bytes)
run limit us (p ∷ later) tail = or_stopped us p (cause_of limit us p) (run limit (stepped p us) later tail)

-- the same of a cut
abbrev pub run_cut : ℕ → List Partial → Cut → Said
run_cut limit us c = run limit us c.whole c.tail

-- what bytes from an offset on say after these unfinished messages
unfoldable pub ahead : ℕ → List Partial → ℕ → List ℕ → Said
ahead limit us at bytes = run_cut limit us (cut (length bytes) at bytes)

-- a framer between two reads: its limit, the offset of what has come of the next piece, that, the unfinished messages, and how many bytes
-- it keeps of both
pub record State : Type 0 where
  pub limit : ℕ
  pub at : ℕ
  pub tail : List ℕ
  pub partials : List Partial
  pub kept : ℕ

-- what it says of further bytes
abbrev pub says : State → List ℕ → Said
says s more = ahead s.limit s.partials s.at (s.tail ++ more)

-- a cut with more whole pieces before it
abbrev pub with_pieces : List Piece → Cut → Cut
with_pieces pieces c = record { whole = pieces ++ c.whole; tail = c.tail }

-- how further bytes are cut
abbrev pub cut_from : State → List ℕ → Cut
cut_from s more = cut (length (s.tail ++ more)) s.at (s.tail ++ more)
