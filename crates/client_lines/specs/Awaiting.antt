-- What a message is to a client that awaits a reply: CORBA 3.0.3, section 15.4; which messages are passed over is own profile.
use Rattle.std.specs.Prelude.{◌≡◌, ℕ, ◌==◌, Bool, Some, None, if◌then◌else◌}
use Rattle.orb_base.specs.declared.order.Order.{Order}
use Rattle.banded_links.specs.declared.bind_client.TheConstants.{NO_EXCEPTION}
use Rattle.giop_messages.specs.Message.{Reply, Message, request, reply, cancel, locate, located, close, error}
use Rattle.giop_messages.specs.declared.refused.Fault.TheVariants.{WrongWay}
use Rattle.heard_messages.specs.declared.means.Means.{Means}
use Rattle.heard_messages.specs.declared.means.Means.TheVariants.{Goes, Ends, Breaks}
use Rattle.client_lines.specs.Answer.{Answer}
use Rattle.client_lines.specs.declared.awaited.Awaited.{Awaited}
use Rattle.client_lines.specs.declared.awaited.Awaited.TheVariants.{Bind, Call, Nothing}
use Rattle.client_lines.specs.declared.awaited.TheConstants.{BIND_ID, FIRST_ID, NEXT_ID}

-- the id of the call: the one after that of the bind, where one comes before it
abbrev pub call_id : Bool → ℕ
call_id binds = if binds then NEXT_ID else FIRST_ID

-- what is awaited first
abbrev pub first : Bool → Awaited
first binds = if binds then Bind else Call

-- what is awaited after a reply of this status: the one to the call, where a band was bound by it
abbrev pub after : Awaited → ℕ → Awaited
after Bind status = if status == NO_EXCEPTION then Call else Nothing
after Call status = Nothing
after Nothing status = Nothing

-- the answer that a reply is
abbrev pub answer_of : Order → Reply → Answer
answer_of order r = record { order = order; status = r.status; body = r.body }

-- a message where the reply to this id is awaited: that reply is the answer, other replies are passed over, and requests come the wrong
-- way
abbrev pub seen : Awaited → ℕ → Order → Message → Means Awaited Answer
seen awaited id order (reply r) = if r.id == id then Goes (after awaited r.status) (Some (answer_of order r)) else Goes awaited None
seen awaited id order (located l) = Goes awaited None
seen awaited id order (request r) = Breaks WrongWay
seen awaited id order (cancel other) = Breaks WrongWay
seen awaited id order (locate l) = Breaks WrongWay
seen awaited id order close = Ends
seen awaited id order error = Ends

-- a message, by what is awaited; where nothing is any more it is passed over
abbrev pub meaning : Bool → Awaited → Order → Message → Means Awaited Answer
meaning binds Bind order message = seen Bind BIND_ID order message
meaning binds Call order message = seen Call (call_id binds) order message
meaning binds Nothing order message = Goes Nothing None

-- the same as a judge says it
abbrev pub means : Bool → Awaited → ℕ → Order → ℕ → Message → Means Awaited Answer → Type 0
means binds awaited serial order size message x = x ≡ meaning binds awaited order message
