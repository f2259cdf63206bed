-- The lines of a history: a line for each entry, which names a request by its number. Own profile.
use Rattle.std.specs.Prelude.{ℕ, Bool, true, false, List, map, Option, Some, None}
use Rattle.orb_base.specs.Outcomes.{body_len}
use Rattle.orb_base.specs.declared.item.Item.{Item}
use Rattle.orb_base.specs.declared.item.Item.TheVariants as item
use Rattle.orb_base.specs.declared.job.Job.{Job}
use Rattle.lane_machine.specs.Entries.{One}
use Rattle.lane_machine.specs.Histories.{History}
use Rattle.lane_machine.specs.declared.call.LaneCall.{LaneCall}
use Rattle.lane_machine.specs.declared.call.LaneCall.TheVariants.{Offer, Post, Cancel, Take, Finish, Collect, End, Leave}
use Rattle.lane_machine.specs.declared.call.LaneReply.{LaneReply}
use Rattle.lane_machine.specs.declared.call.LaneReply.TheVariants as reply
use Rattle.trace_lines.specs.Offers.{offers, number}
use Rattle.trace_lines.specs.declared.trace_line.OfferedRequest.{OfferedRequest}
use Rattle.trace_lines.specs.declared.trace_line.OfferReply.{OfferReply}
use Rattle.trace_lines.specs.declared.trace_line.OfferReply.TheVariants as offer_reply
use Rattle.trace_lines.specs.declared.trace_line.PostReply.{PostReply}
use Rattle.trace_lines.specs.declared.trace_line.PostReply.TheVariants as post_reply
use Rattle.trace_lines.specs.declared.trace_line.CancelReply.{CancelReply}
use Rattle.trace_lines.specs.declared.trace_line.CancelReply.TheVariants as cancel_reply
use Rattle.trace_lines.specs.declared.trace_line.CollectReply.{CollectReply}
use Rattle.trace_lines.specs.declared.trace_line.CollectReply.TheVariants as collect_reply
use Rattle.trace_lines.specs.declared.trace_line.Action.{Action}
use Rattle.trace_lines.specs.declared.trace_line.Action.TheVariants as action
use Rattle.trace_lines.specs.declared.trace_line.TraceLine.{TraceLine}

-- a request without its byte order, target, operation and body
abbrev pub request_of : Job → OfferedRequest
request_of job = record {
  conn = job.conn;
  serial = job.serial;
  id = job.id;
  due = job.due;
  priority = job.priority;
  lane = job.lane;
  size = job.size;
}

-- a thread that is lent, or one of the request's lane
abbrev pub run_as : ℕ → Bool → OfferReply
run_as t true = offer_reply.Lent t
run_as t false = offer_reply.Run t

-- the reply to an offered request; a reply that an Offer never has counts as Closing, here and below, so that each entry has a line
abbrev pub offer_reply_of : LaneReply → OfferReply
offer_reply_of (reply.Run t lent) = run_as t lent
offer_reply_of reply.Kept = offer_reply.Kept
offer_reply_of reply.Full = offer_reply.Full
offer_reply_of r = offer_reply.Closing

-- the reply to an answer of the reading side
abbrev pub post_reply_of : LaneReply → PostReply
post_reply_of reply.Posted = post_reply.Posted
post_reply_of r = post_reply.Closing

-- the reply to a withdrawal
abbrev pub cancel_reply_of : LaneReply → CancelReply
cancel_reply_of reply.Removed = cancel_reply.Removed
cancel_reply_of reply.Nothing = cancel_reply.Nothing
cancel_reply_of r = cancel_reply.Closing

-- the number of the request that a thread was given
abbrev pub task_of : (Job → ℕ) → LaneReply → Option ℕ
task_of number (reply.Given job) = Some (number job)
task_of number r = None

-- what a writing side was handed: by the number of its request, or of an answer of the reading side by the id
abbrev pub handed_of : (Job → ℕ) → Item → CollectReply
handed_of number (item.Answered answer) = collect_reply.Answered (number answer.job)
handed_of number (item.Early job) = collect_reply.Early (number job)
handed_of number (item.Transient job) = collect_reply.Transient (number job)
handed_of number (item.Noticed notice) = collect_reply.Posted notice.id

-- the reply to a writing side
abbrev pub collect_reply_of : (Job → ℕ) → LaneReply → CollectReply
collect_reply_of number (reply.Handed i) = handed_of number i
collect_reply_of number reply.Close = collect_reply.Close
collect_reply_of number reply.Error = collect_reply.Error
collect_reply_of number r = collect_reply.Done

-- a call with its reply
abbrev pub action_of : (Job → ℕ) → LaneCall → LaneReply → Action
action_of number (Offer job) r = action.Offer (request_of job) (offer_reply_of r)
action_of number (Post notice) r = action.Post notice.conn notice.id (post_reply_of r)
action_of number (Cancel conn id) r = action.Cancel conn id (cancel_reply_of r)
action_of number (Take t) r = action.Take t (task_of number r)
action_of number (Finish t answer) r = action.Finish t (number answer.job) (body_len answer.outcome)
action_of number (Collect conn) r = action.Collect conn (collect_reply_of number r)
action_of number (End conn how) r = action.End conn how
action_of number (Leave slot) r = action.Leave slot

-- the line of an entry, by the numbers of the requests
abbrev pub line_of : (Job → ℕ) → One → TraceLine
line_of number e = record { caller = e.caller; action = action_of number e.call e.reply }

-- the lines of a history, in its order
abbrev pub lines_of : History → List TraceLine
lines_of h = map (line_of (number (offers h))) h
