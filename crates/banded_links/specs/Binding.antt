-- How the serving side of a connection binds a band: Real-time CORBA 1.2, Priority banded connections. That a second bind
-- replaces the first is own profile.
use Rattle.std.specs.Prelude.{Bool, not, ◌&&◌, ◌||◌, nat_le, Option, Some, None, if◌then◌else◌}
use Rattle.std.specs.List.{list_any}
use Rattle.orb_base.specs.Pool.{Pool}
use Rattle.orb_base.specs.Span.{Span}
use Rattle.banded_links.specs.declared.bind_answer.BindAnswer.{BindAnswer}
use Rattle.banded_links.specs.declared.bind_answer.BindAnswer.TheVariants.{Bound, Malformed, NoLane}

-- a lane has a priority of the band; a pool without lanes takes every priority
abbrev pub serves : Pool → Span → Bool
serves pool band = not pool.laned || list_any (λ lane. nat_le band.low lane.priority && nat_le lane.priority band.high) pool.lanes

-- what becomes of a request to bind this band
abbrev pub answer : Pool → Option Span → BindAnswer
answer pool None = Malformed
answer pool (Some band) = if serves pool band then Bound else NoLane

-- the band that is bound after a request to bind `asked`, where `before` was bound before it
abbrev pub band_behind : BindAnswer → Option Span → Option Span → Option Span
band_behind Bound asked before = asked
band_behind Malformed asked before = before
band_behind NoLane asked before = before
