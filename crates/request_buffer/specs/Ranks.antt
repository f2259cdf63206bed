-- Which of two requests goes first.
use Rattle.std.specs.Prelude.{Bool, ◌==◌, ◌&&◌, ◌||◌, nat_lt, nat_le, if◌then◌else◌, Option, Some, None}
use Rattle.request_buffer.specs.declared.found.Found.{Found}

-- of greater weight, or of equal weight and no later
abbrev pub is_ahead : Found → Found → Bool
is_ahead first other = nat_lt other.weight first.weight || ((other.weight == first.weight) && nat_le first.stamp other.stamp)

-- the better of two, where there are two
abbrev pub better : Option Found → Found → Found
better None found = found
better (Some best) found = if is_ahead best found then best else found
