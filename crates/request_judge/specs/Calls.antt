-- The call of the lane machine that a request means: own profile.
use Rattle.std.specs.Prelude.{ℕ, Option, Some, None, Result, Ok, Err}
use Rattle.orb_base.specs.JobRecord.{JobRecord}
use Rattle.orb_base.specs.declared.conn_id.ConnId.{ConnId}
use Rattle.orb_base.specs.declared.due.Due.{Due}
use Rattle.orb_base.specs.declared.due.Due.TheVariants as due
use Rattle.orb_base.specs.declared.notice.Notice.{Notice}
use Rattle.orb_base.specs.declared.notice.What.{What}
use Rattle.orb_base.specs.declared.notice.What.TheVariants as what
use Rattle.orb_base.specs.declared.order.Order.{Order}
use Rattle.giop_messages.specs.Flags.{due_of}
use Rattle.giop_messages.specs.Message.{Request}
use Rattle.lane_machine.specs.declared.call.LaneCall.{LaneCall}
use Rattle.lane_machine.specs.declared.call.LaneCall.TheVariants.{Offer, Post}
use Rattle.request_judge.specs.Answers.{answer_of}
use Rattle.request_judge.specs.declared.refusal.Refusal.{Refusal}
use Rattle.request_judge.specs.declared.verdict.Place.{Place}
use Rattle.request_judge.specs.declared.verdict.Verdict.{Verdict}
use Rattle.request_judge.specs.declared.verdict.Verdict.TheVariants.{Runs, Binds}

-- the job of a request that runs here, as the call of this number of its connection; `size` is the length of its message
abbrev pub job_of : ConnId → ℕ → Order → ℕ → Request → Place → JobRecord
job_of conn serial order size r place = record {
  conn = conn;
  serial = serial;
  id = r.id;
  order = order;
  due = due_of r.flags;
  priority = place.priority;
  lane = place.lane;
  size = size;
  target = place.target;
  operation = r.operation;
  body = r.body;
}

-- an answer without a run where a reply is due, and none where it isn't
abbrev pub notice_when : Due → ConnId → Order → ℕ → What → Option Notice
notice_when due.Nothing conn order id what = None
notice_when due.Early conn order id what = Some (record { conn = conn; order = order; id = id; what = what })
notice_when due.Late conn order id what = Some (record { conn = conn; order = order; id = id; what = what })

-- the same for a request
abbrev pub notice_of : ConnId → Order → Request → What → Option Notice
notice_of conn order r what = notice_when (due_of r.flags) conn order r.id what

-- an answer of the reading side where a reply is due, and none where it isn't
abbrev pub told_when : Due → ConnId → Order → ℕ → What → Option LaneCall
told_when due.Nothing conn order id what = None
told_when due.Early conn order id what = Some (Post (record { conn = conn; order = order; id = id; what = what }))
told_when due.Late conn order id what = Some (Post (record { conn = conn; order = order; id = id; what = what }))

-- the same for a request
abbrev pub posted : ConnId → Order → Request → What → Option LaneCall
posted conn order r what = told_when (due_of r.flags) conn order r.id what

-- the call that a request means by its verdict
abbrev pub call_of : ConnId → ℕ → Order → ℕ → Request → Result Verdict Refusal → Option LaneCall
call_of conn serial order size r (Ok (Runs place)) = Some (Offer (job_of conn serial order size r place))
call_of conn serial order size r (Ok (Binds band)) = posted conn order r what.Bound
call_of conn serial order size r (Err refusal) = posted conn order r (answer_of refusal)
