-- The requests of the lines so far.
use Rattle.std.proofs.Common.{◌≡◌, take}
use Rattle.trace_lines.specs.ReadBack.{jobs_of}
use Rattle.lane_audit.proofs.offers.all_offered.Given as goal

abbrev pub invariant-loop-line : goal.invariant-loop-line
invariant-loop-line l = l.asked.items ≡ jobs_of (take l.line-index l.lines)
