-- The stamps below the count are given, and the order of arrival is as before.
use Rattle.std.proofs.Common.{◌-◌}
use Rattle.request_buffer.proofs.Renumbering.{SoFar}
use Rattle.request_buffer.proofs.queues.renumber.Given as goal

abbrev pub invariant-loop-spot : goal.invariant-loop-spot
invariant-loop-spot l = SoFar l.room l.next l.fn.queues l.queues l.count

abbrev pub decreases-loop-spot : goal.decreases-loop-spot
decreases-loop-spot l = l.next - l.count
