-- What a thread does, as the lane machine has it.
use Rattle.thread_borrowing.specs.declared.doing.Doing.{Doing}
use Rattle.thread_borrowing.specs.declared.doing.Doing.TheVariants.{Free, Given, Busy}
use Rattle.lane_audit.specs.declared.worker.Work.{Work}
use Rattle.lane_audit.specs.declared.worker.Work.TheVariants as work

-- what a thread with this work does
abbrev pub doing_of : Work → Doing
doing_of work.Free = Free
doing_of (work.Given job) = Given job
doing_of (work.Busy job) = Busy job
