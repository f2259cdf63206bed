-- How the calls of a device in memory are cut.
use Rattle.std.specs.Prelude.{ℕ, List, Option, Some, None, min, max, slice_get}

-- of the bytes that fit, those that one call moves: as many as its cut says, but at least one, and all where it has none
abbrev pub part : Option ℕ → ℕ → ℕ
part (Some cut) most = min (max cut 1) most
part None most = most

-- the cuts are in the order of the calls, which are numbered from 0
abbrev pub part_of : List ℕ → ℕ → ℕ → ℕ
part_of cuts call most = part (slice_get cuts call) most
