use Rattle.std.proofs.Common.{◌≡◌, ◌++◌, map, length}
use Rattle.std.specs.List.{slice_split}
use Rattle.trace_reading.specs.Words.{is_byte}
use Rattle.trace_reading.proofs.words.parts_of.Given as goal

abbrev pub invariant-loop-n : goal.invariant-loop-n
invariant-loop-n l = slice_split (is_byte l.by) l.text ≡ map (λ part. part.now) l.parts.items ++ slice_split (is_byte l.by) l.rest

abbrev pub decreases-loop-n : goal.decreases-loop-n
decreases-loop-n l = length l.rest
