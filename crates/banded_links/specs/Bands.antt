-- The bands of a reference, and which of them holds a priority: Real-time CORBA 1.2, Priority banded connections.
use Rattle.std.specs.Prelude.{ℕ, Bool, ◌&&◌, nat_le, List, Option, position}
use Rattle.orb_base.specs.Span.{Span}

-- whether the priority lies in the band
abbrev pub holds : ℕ → Span → Bool
holds level band = nat_le band.low level && nat_le level band.high

-- the place from 0 of the first band that holds the priority; None where no band does
abbrev pub place_of : ℕ → List Span → Option ℕ
place_of level bands = position (holds level) bands
