-- The text of a picture, and what a run has.
use Rattle.std.proofs.Common.{◌≡◌, ℕ, ◌<◌, ◌^◌, List, [], ◌++◌, length, ap, ◌∙◌}
use Rattle.orb_base.specs.Pool.{HasLanes}
use Rattle.trace_reading.specs.Traces.{Trace, IsTrace}

pub from_nothing : (t0 t a : List ℕ) → t0 ≡ [] → t ≡ t0 ++ a → t ≡ a
from_nothing t0 t a none is = is ∙ ap (λ (z : List ℕ). z ++ a) none

pub has_lanes : (t : Trace) → IsTrace t → HasLanes t.pool.lanes
has_lanes t is = is.can.well_formed.lanes

pub few_lines : (t : Trace) → IsTrace t → length t.lines < 2 ^ 32
few_lines t is = is.few
