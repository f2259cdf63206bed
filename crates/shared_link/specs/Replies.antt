-- The replies of the link machine by the calls that get them.
use Rattle.std.specs.Prelude.{◌≡◌, ℕ, Bool, true, false, Some, None}
use Rattle.client_mux.specs.declared.call.MuxCall.{MuxCall}
use Rattle.client_mux.specs.declared.call.MuxReply.{MuxReply}
use Rattle.client_mux.specs.declared.call.MuxReply.TheVariants as reply
use Rattle.client_mux.specs.Machine.{Mux, History, step, is_ready, IsSound}
use Rattle.client_mux.specs.Exchange.{begun, first_loss, reply_after_start}
use Rattle.shared_link.specs.declared.answers.Started.{Started}
use Rattle.shared_link.specs.declared.answers.Started.TheVariants as started
use Rattle.shared_link.specs.declared.answers.Stopped.{Stopped}
use Rattle.shared_link.specs.declared.answers.Stopped.TheVariants as stopped
use Rattle.shared_link.specs.declared.answers.Waited.{Waited}
use Rattle.shared_link.specs.declared.answers.Waited.TheVariants as waited
use Rattle.shared_link.specs.declared.answers.Upcoming.{Upcoming}
use Rattle.shared_link.specs.declared.answers.Upcoming.TheVariants as upcoming
use Rattle.shared_link.specs.declared.answers.Placed.{Placed}
use Rattle.shared_link.specs.declared.answers.Placed.TheVariants as placed

-- the machine's reply to a Start that is answered so
abbrev pub started_reply : Started → MuxReply
started_reply (started.Id id) = reply.Id id
started_reply (started.Gone why) = reply.Gone why

-- to a Cancel
abbrev pub stopped_reply : Stopped → MuxReply
stopped_reply stopped.Cancelled = reply.Cancelled
stopped_reply stopped.TooLate = reply.TooLate

-- to an Await
abbrev pub waited_reply : Waited → MuxReply
waited_reply (waited.Reply r) = reply.Reply r
waited_reply (waited.Gone why) = reply.Gone why

-- to a Next
abbrev pub upcoming_reply : Upcoming → MuxReply
upcoming_reply (upcoming.Send id r) = reply.Send id r
upcoming_reply (upcoming.Stop id) = reply.Stop id
upcoming_reply upcoming.Finish = reply.Finish

-- to an Arrived
abbrev pub placed_reply : Placed → MuxReply
placed_reply placed.Matched = reply.Matched
placed_reply placed.Stray = reply.Stray

-- the replies that a Start can get
abbrev pub is_started : MuxReply → Bool
is_started (reply.Id _) = true
is_started (reply.Gone _) = true
is_started _ = false

-- a Cancel
abbrev pub is_stopped : MuxReply → Bool
is_stopped reply.Cancelled = true
is_stopped reply.TooLate = true
is_stopped _ = false

-- an Await
abbrev pub is_waited : MuxReply → Bool
is_waited (reply.Reply _) = true
is_waited (reply.Gone _) = true
is_waited _ = false

-- a Next
abbrev pub is_upcoming : MuxReply → Bool
is_upcoming (reply.Send _ _) = true
is_upcoming (reply.Stop _) = true
is_upcoming reply.Finish = true
is_upcoming _ = false

-- an Arrived
abbrev pub is_placed : MuxReply → Bool
is_placed reply.Matched = true
is_placed reply.Stray = true
is_placed _ = false

-- the call gets this reply at some state at which it is ready and sound
abbrev pub IsAnswer : MuxCall → MuxReply → Type 0
IsAnswer call r = (m : Mux) × (is_ready m call ≡ true) × IsSound m call × (r ≡ (step m call).1)

-- what was seen says that a Start was answered this id, or that the link was lost first for this cause
abbrev pub IsBegun : History → Started → Type 0
IsBegun seen (started.Id id) = begun id seen ≡ true
IsBegun seen (started.Gone why) = first_loss seen ≡ Some why

-- what was seen says that this is the first reply of the id after its Start, or that there is none and the link was lost first
-- for this cause
abbrev pub IsOutcome : ℕ → History → Waited → Type 0
IsOutcome id seen (waited.Reply r) = reply_after_start id seen ≡ Some r
IsOutcome id seen (waited.Gone why) = (first_loss seen ≡ Some why) × (reply_after_start id seen ≡ None)
