-- What one message of a connection means in a hall: CORBA 3.0.3, section 15.4. That a CancelRequest means nothing, that a request is
-- judged without a band and without lanes, and what ends the reading are own profile.
use Rattle.std.specs.Prelude.{◌≡◌, ℕ, Option, Some, None, Result, Ok, Err}
use Rattle.std.specs.Option.{option_map}
use Rattle.orb_base.specs.declared.conn_id.ConnId.{ConnId}
use Rattle.orb_base.specs.declared.order.Order.{Order}
use Rattle.orb_base.specs.declared.notice.What.TheVariants as what
use Rattle.giop_messages.specs.Message.{Request, Locate, Message, request, reply, cancel, locate, located, close, error}
use Rattle.giop_messages.specs.declared.refused.Fault.TheVariants.{WrongWay}
use Rattle.heard_messages.specs.declared.means.Means.{Means}
use Rattle.heard_messages.specs.declared.means.Means.TheVariants.{Goes, Ends, Breaks}
use Rattle.adapter_policies.specs.SetupData.{SetupData}
use Rattle.request_judge.specs.Answers.{answer_of}
use Rattle.request_judge.specs.Calls.{job_of, notice_of}
use Rattle.request_judge.specs.InHall.{JudgesInHall}
use Rattle.request_judge.specs.Served.{is_here}
use Rattle.request_judge.specs.declared.refusal.Refusal.{Refusal}
use Rattle.request_judge.specs.declared.verdict.Place.{Place}
use Rattle.halls.specs.declared.call.HallCall.{HallCall}
use Rattle.halls.specs.declared.call.HallCall.TheVariants.{Post, Invoke}

-- who hears: a connection of a hall of this setup
pub record Hearer : Type 0 where
  pub setup : SetupData
  pub conn : ConnId

-- the answer to a question where an object is
abbrev pub where_is : SetupData → ConnId → Order → Locate → HallCall
where_is setup conn order l = Post (record { conn = conn; order = order; id = l.id; what = what.Located (is_here setup l.target) })

-- the invocation of a request that runs, as the call of this number of its connection; `size` is the length of its message
abbrev pub invocation : ConnId → ℕ → Order → ℕ → Request → Place → HallCall
invocation conn serial order size r place = Invoke (job_of conn serial order size r place)

-- the answer to a request that is refused, where a reply is due
abbrev pub refused : ConnId → Order → Request → Refusal → Option HallCall
refused conn order r refusal = option_map Post (notice_of conn order r (answer_of refusal))

-- what a request calls for by its verdict
abbrev pub call_of : ConnId → ℕ → Order → ℕ → Request → Result Place Refusal → Option HallCall
call_of conn serial order size r (Ok place) = Some (invocation conn serial order size r place)
call_of conn serial order size r (Err refusal) = refused conn order r refusal

-- a request means what its verdict says
abbrev pub MeansRequest : SetupData → ConnId → ℕ → Order → ℕ → Request → Means (Unit {0}) HallCall → Type 0
MeansRequest setup conn serial order size r x =
    (verdict : Result Place Refusal) × JudgesInHall setup r verdict × (x ≡ Goes tt (call_of conn serial order size r verdict))

-- a message means this: a request by its verdict, a LocateRequest its answer, a CancelRequest nothing; CloseConnection and MessageError
-- end the reading, and a message that a server alone sends breaks the connection
abbrev pub means : SetupData → ConnId → Unit {0} → ℕ → Order → ℕ → Message → Means (Unit {0}) HallCall → Type 0
means setup conn settled serial order size (request r) x = MeansRequest setup conn serial order size r x
means setup conn settled serial order size (cancel id) x = x ≡ Goes tt None
means setup conn settled serial order size (locate l) x = x ≡ Goes tt (Some (where_is setup conn order l))
means setup conn settled serial order size (reply r) x = x ≡ Breaks WrongWay
means setup conn settled serial order size (located l) x = x ≡ Breaks WrongWay
means setup conn settled serial order size close x = x ≡ Ends
means setup conn settled serial order size error x = x ≡ Ends
