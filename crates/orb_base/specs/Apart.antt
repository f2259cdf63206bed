-- Bands that share no priority: Real-time CORBA 1.2, Priority banded connections.
use Rattle.std.specs.Prelude.{◌≤◌, ◌&&◌, Bool, true, not, nat_le, nat_lt, List, [], ◌∷◌}
use Rattle.std.specs.List.{list_any}
use Rattle.orb_base.specs.Span.{Span}

-- the low end isn't above the high one
abbrev pub IsOrdered : Span → Type 0
IsOrdered band = band.low ≤ band.high

-- a priority lies in both bands
abbrev pub overlap : Span → Span → Bool
overlap a b = nat_le a.low b.high && nat_le b.low a.high

-- no two of the bands overlap
unfoldable pub are_apart : List Span → Bool
are_apart [] = true
are_apart (band ∷ bands) = not (list_any (overlap band) bands) && are_apart bands

-- each band ends below the next one
unfoldable pub climb : List Span → Bool
climb [] = true
climb (band ∷ []) = true
climb (band ∷ next ∷ bands) = nat_lt band.high next.low && climb (next ∷ bands)
