-- The text of a trace: the pool of the run, a line for each lane and for each entry, and how many entries there are. Each line ends
-- with a line feed; numbers are decimal, without a zero before. Own profile.
use Rattle.std.specs.Prelude.{ℕ, Bool, if◌then◌else◌, List, ◌++◌, length, map, codes, Option, Some, None}
use Rattle.std.specs.List.{flat_map}
use Rattle.std.specs.Fmt.{decimal}
use Rattle.orb_base.specs.Pool.{Pool}
use Rattle.orb_base.specs.declared.conn_id.ConnId.{ConnId}
use Rattle.orb_base.specs.declared.due.Due.{Due}
use Rattle.orb_base.specs.declared.due.Due.TheVariants as due
use Rattle.orb_base.specs.declared.job.Job.{Job}
use Rattle.orb_base.specs.declared.lane_spec.LaneSpec.{LaneSpec}
use Rattle.lane_machine.specs.Histories.{History}
use Rattle.lane_machine.specs.declared.call.How.{How}
use Rattle.lane_machine.specs.declared.call.How.TheVariants as how
use Rattle.trace_lines.specs.Offers.{offers, number}
use Rattle.trace_lines.specs.Lines.{line_of}
use Rattle.trace_lines.specs.declared.trace_line.OfferedRequest.{OfferedRequest}
use Rattle.trace_lines.specs.declared.trace_line.OfferReply.{OfferReply}
use Rattle.trace_lines.specs.declared.trace_line.OfferReply.TheVariants as offer_reply
use Rattle.trace_lines.specs.declared.trace_line.PostReply.{PostReply}
use Rattle.trace_lines.specs.declared.trace_line.PostReply.TheVariants as post_reply
use Rattle.trace_lines.specs.declared.trace_line.CancelReply.{CancelReply}
use Rattle.trace_lines.specs.declared.trace_line.CancelReply.TheVariants as cancel_reply
use Rattle.trace_lines.specs.declared.trace_line.CollectReply.{CollectReply}
use Rattle.trace_lines.specs.declared.trace_line.CollectReply.TheVariants as collect_reply
use Rattle.trace_lines.specs.declared.trace_line.Action.{Action}
use Rattle.trace_lines.specs.declared.trace_line.Action.TheVariants as action
use Rattle.trace_lines.specs.declared.trace_line.TraceLine.{TraceLine}

-- 1 for true, 0 for false
abbrev pub flag : Bool → ℕ
flag b = if b then 1 else 0

-- a limit of what may wait, which is 0 where nothing may
abbrev pub limit : Bool → ℕ → ℕ
limit buffering most = if buffering then most else 0

-- what a pool allows: lanes, lending, and that requests wait
abbrev pub flags_text : Pool → List ℕ
flags_text pool = decimal (flag pool.laned) ++ codes " " ++ decimal (flag pool.borrowing) ++ codes " " ++ decimal (flag pool.buffering)

-- the limits of what may wait, and of a run
abbrev pub limits_text : Pool → List ℕ
limits_text pool =
    decimal (limit pool.buffering pool.max_requests) ++ codes " " ++ decimal (limit pool.buffering pool.max_bytes)
    ++ codes " " ++ decimal pool.run_calls ++ codes " " ++ decimal pool.run_bytes

-- the pool of a run, its slots and the connections of each
abbrev pub pool_text : Pool → ℕ → ℕ → List ℕ
pool_text pool slots per_slot =
    codes "pool " ++ flags_text pool ++ codes " " ++ limits_text pool ++ codes " " ++ decimal slots ++ codes " " ++ decimal per_slot
    ++ codes "\n"

-- a lane: its priority, its static and its dynamic threads
abbrev pub lane_text : LaneSpec → List ℕ
lane_text lane =
    codes "lane " ++ decimal lane.priority ++ codes " " ++ decimal lane.statics ++ codes " " ++ decimal lane.dynamics ++ codes "\n"

-- the pool and its lanes
abbrev pub head_text : Pool → ℕ → ℕ → List ℕ
head_text pool slots per_slot = pool_text pool slots per_slot ++ flat_map lane_text pool.lanes

-- a connection: its slot, and its number there
abbrev pub conn_text : ConnId → List ℕ
conn_text conn = decimal conn.slot ++ codes "." ++ decimal conn.nth

-- when a reply is due
abbrev pub due_number : Due → ℕ
due_number due.Nothing = 0
due_number due.Early = 1
due_number due.Late = 2

-- what a request asks for: when its reply is due, its priority, lane and size
abbrev pub demand_text : OfferedRequest → List ℕ
demand_text r = decimal (due_number r.due) ++ codes " " ++ decimal r.priority ++ codes " " ++ decimal r.lane ++ codes " " ++ decimal r.size

-- a request that is offered
abbrev pub request_text : OfferedRequest → List ℕ
request_text r = conn_text r.conn ++ codes " " ++ decimal r.serial ++ codes " " ++ decimal r.id ++ codes " " ++ demand_text r

-- the reply to an offered request
abbrev pub offer_reply_text : OfferReply → List ℕ
offer_reply_text (offer_reply.Run t) = codes "run " ++ decimal t
offer_reply_text (offer_reply.Lent t) = codes "lent " ++ decimal t
offer_reply_text offer_reply.Kept = codes "kept"
offer_reply_text offer_reply.Full = codes "full"
offer_reply_text offer_reply.Closing = codes "closing"

-- the reply to an answer of the reading side
abbrev pub post_reply_text : PostReply → List ℕ
post_reply_text post_reply.Posted = codes "posted"
post_reply_text post_reply.Closing = codes "closing"

-- the reply to a withdrawal
abbrev pub cancel_reply_text : CancelReply → List ℕ
cancel_reply_text cancel_reply.Removed = codes "removed"
cancel_reply_text cancel_reply.Nothing = codes "nothing"
cancel_reply_text cancel_reply.Closing = codes "closing"

-- the number of the request that a thread was given, or that none comes any more
abbrev pub task_text : Option ℕ → List ℕ
task_text (Some k) = decimal k
task_text None = codes "ended"

-- the reply to a writing side
abbrev pub collect_reply_text : CollectReply → List ℕ
collect_reply_text (collect_reply.Answered k) = codes "answered " ++ decimal k
collect_reply_text (collect_reply.Early k) = codes "early " ++ decimal k
collect_reply_text (collect_reply.Transient k) = codes "transient " ++ decimal k
collect_reply_text (collect_reply.Posted id) = codes "posted " ++ decimal id
collect_reply_text collect_reply.Close = codes "close"
collect_reply_text collect_reply.Error = codes "error"
collect_reply_text collect_reply.Done = codes "done"

-- how the reading of a connection ended
abbrev pub how_text : How → List ℕ
how_text how.Quiet = codes "quiet"
how_text how.Bad = codes "bad"
how_text how.Shut = codes "shut"

-- a call with its reply
abbrev pub action_text : Action → List ℕ
action_text (action.Offer request r) = codes "offer " ++ request_text request ++ codes " " ++ offer_reply_text r
action_text (action.Post conn id r) = codes "post " ++ conn_text conn ++ codes " " ++ decimal id ++ codes " " ++ post_reply_text r
action_text (action.Cancel conn id r) = codes "cancel " ++ conn_text conn ++ codes " " ++ decimal id ++ codes " " ++ cancel_reply_text r
action_text (action.Take t task) = codes "take " ++ decimal t ++ codes " " ++ task_text task
action_text (action.Finish t k len) = codes "finish " ++ decimal t ++ codes " " ++ decimal k ++ codes " " ++ decimal len
action_text (action.Collect conn r) = codes "collect " ++ conn_text conn ++ codes " " ++ collect_reply_text r
action_text (action.End conn h) = codes "end " ++ conn_text conn ++ codes " " ++ how_text h
action_text (action.Leave slot) = codes "leave " ++ decimal slot

-- a line: who called, and the call with its reply
abbrev pub line_text : TraceLine → List ℕ
line_text line = decimal line.caller ++ codes " " ++ action_text line.action ++ codes "\n"

-- the lines of entries, by the numbers of the requests
abbrev pub lines_text : (Job → ℕ) → History → List ℕ
lines_text number h = flat_map line_text (map (line_of number) h)

-- how many entries there are
abbrev pub count_text : ℕ → List ℕ
count_text n = codes "entries " ++ decimal n ++ codes "\n"

-- the trace of a run: what it opened with, its history, and how long that is
abbrev pub trace_text : Pool → ℕ → ℕ → History → List ℕ
trace_text pool slots per_slot h = head_text pool slots per_slot ++ lines_text (number (offers h)) h ++ count_text (length h)
