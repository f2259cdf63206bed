use Rattle.std.specs.Prelude.{length}
use Rattle.orb_server.proofs.staff.+leave_unserved.Given as goal

abbrev pub decreases-leave_unserved : goal.decreases-leave_unserved
decreases-leave_unserved g l = length l.jobs.items
