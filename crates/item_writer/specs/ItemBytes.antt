-- The bytes of what a connection is owed. A reply is in the byte order of its request, without contexts. CORBA 3.0.3, section 15.4.
use Rattle.std.specs.Prelude.{ℕ, List, [], if◌then◌else◌}
use Rattle.std.specs.Int.{w16}
use Rattle.cdr_core.specs.Field.{number_bytes}
use Rattle.orb_base.specs.declared.order.Order.{Order}
use Rattle.orb_base.specs.declared.system.Sys.{Sys}
use Rattle.orb_base.specs.declared.system.SysName.TheVariants as name
use Rattle.orb_base.specs.declared.system.Completed.TheVariants.{No}
use Rattle.orb_base.specs.declared.outcome.Outcome.{Outcome}
use Rattle.orb_base.specs.declared.outcome.Outcome.TheVariants.{Returned, User, System}
use Rattle.orb_base.specs.declared.notice.What.{What}
use Rattle.orb_base.specs.declared.notice.What.TheVariants as what
use Rattle.orb_base.specs.declared.item.Item.{Item}
use Rattle.orb_base.specs.declared.item.Item.TheVariants.{Answered, Early, Transient, Noticed}
use Rattle.giop_messages.specs.Message.{Message, Reply, reply, located}
use Rattle.giop_messages.specs.Spelling.{spelled}
use Rattle.giop_messages.specs.Exceptions.{exception_body}

-- the status of a reply: NO_EXCEPTION, USER_EXCEPTION or SYSTEM_EXCEPTION
abbrev pub reply_status : Outcome → ℕ
reply_status (Returned _) = 0
reply_status (User _) = 1
reply_status (System _) = 2

-- the body of a reply
abbrev pub reply_body : Order → Outcome → List ℕ
reply_body order (Returned body) = body
reply_body order (User body) = body
reply_body order (System system) = exception_body order system

-- TRANSIENT, minor 1, completed NO
abbrev pub transient : Sys
transient = record { name = name.Transient; minor = 1; completed = No }

-- a reply without contexts
abbrev pub bare : ℕ → ℕ → List ℕ → Reply
bare id status body = record { id = id; status = status; contexts = []; body = body }

-- what a notice tells: a band that is bound, a refusal, NEEDS_ADDRESSING_MODE for a key (the short 0), or whether an object
-- is here
abbrev pub notice_message : Order → ℕ → What → Message
notice_message order id what.Bound = reply (bare id 0 [])
notice_message order id (what.System system) = reply (bare id 2 (exception_body order system))
notice_message order id what.Addressing = reply (bare id 5 (number_bytes order w16 0))
notice_message order id (what.Located here) = located (record { id = id; status = if here then 1 else 0 })

-- the reply of a finished request, that of one that asked for a reply at once, the refusal of one without a place, and a notice
abbrev pub item_bytes : Item → List ℕ
item_bytes (Answered a) = spelled a.job.order (reply (bare a.job.id (reply_status a.outcome) (reply_body a.job.order a.outcome)))
item_bytes (Early job) = spelled job.order (reply (bare job.id 0 []))
item_bytes (Transient job) = spelled job.order (reply (bare job.id 2 (exception_body job.order transient)))
item_bytes (Noticed notice) = spelled notice.order (notice_message notice.order notice.id notice.what)
