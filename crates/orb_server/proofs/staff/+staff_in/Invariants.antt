use Rattle.std.specs.Prelude.{length}
use Rattle.orb_server.proofs.staff.+staff_in.Given as goal

abbrev pub decreases-staff_in : goal.decreases-staff_in
decreases-staff_in g l = length l.crew.workers.items
