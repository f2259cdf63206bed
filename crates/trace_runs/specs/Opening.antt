-- What the first line of a run has to say, whatever its lanes are. Own profile.
use Rattle.std.specs.Prelude.{◌≡◌, false}
use Rattle.trace_reading.specs.declared.row.Head.{Head}

-- no thread is lent where there are no lanes
abbrev pub LendsAmongLanes : Head → Type 0
LendsAmongLanes head = head.flags.laned ≡ false → head.flags.borrowing ≡ false

-- the limits of what may wait are 0 where nothing may
abbrev pub HasBareLimits : Head → Type 0
HasBareLimits head = head.flags.buffering ≡ false → (head.limits.max_requests ≡ 0) × (head.limits.max_bytes ≡ 0)
