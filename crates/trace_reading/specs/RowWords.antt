-- The words of a line of a trace, and how great its numbers may be, each by its field. Own profile.
use Rattle.std.specs.Prelude.{ℕ, ◌<◌, ◌^◌, List, [], ◌∷◌, ◌++◌, codes, Option, Some, None}
use Rattle.std.specs.Fmt.{decimal}
use Rattle.std.specs.List.{join_with_byte}
use Rattle.orb_base.specs.declared.conn_id.ConnId.{ConnId}
use Rattle.orb_base.specs.declared.lane_spec.LaneSpec.{LaneSpec}
use Rattle.trace_lines.specs.Texts.{flag, conn_text, due_number, post_reply_text, cancel_reply_text, task_text, how_text}
use Rattle.trace_lines.specs.declared.trace_line.OfferedRequest.{OfferedRequest}
use Rattle.trace_lines.specs.declared.trace_line.OfferReply.{OfferReply}
use Rattle.trace_lines.specs.declared.trace_line.OfferReply.TheVariants as offer_reply
use Rattle.trace_lines.specs.declared.trace_line.CollectReply.{CollectReply}
use Rattle.trace_lines.specs.declared.trace_line.CollectReply.TheVariants as collect_reply
use Rattle.trace_lines.specs.declared.trace_line.Action.{Action}
use Rattle.trace_lines.specs.declared.trace_line.Action.TheVariants as action
use Rattle.trace_lines.specs.declared.trace_line.TraceLine.{TraceLine}
use Rattle.trace_reading.specs.declared.row.Head.{Head}
use Rattle.trace_reading.specs.declared.row.Limits.{Limits}
use Rattle.trace_reading.specs.declared.row.Row.{Row}
use Rattle.trace_reading.specs.declared.row.Row.TheVariants.{Pool, Lane, Entry, Count}

-- a request
abbrev pub request_words : OfferedRequest → List (List ℕ)
request_words r =
    conn_text r.conn ∷ decimal r.serial ∷ decimal r.id ∷ decimal (due_number r.due) ∷ decimal r.priority
    ∷ decimal r.lane ∷ decimal r.size ∷ []

-- the reply to an offered request
abbrev pub offer_reply_words : OfferReply → List (List ℕ)
offer_reply_words (offer_reply.Run t) = codes "run" ∷ decimal t ∷ []
offer_reply_words (offer_reply.Lent t) = codes "lent" ∷ decimal t ∷ []
offer_reply_words offer_reply.Kept = codes "kept" ∷ []
offer_reply_words offer_reply.Full = codes "full" ∷ []
offer_reply_words offer_reply.Closing = codes "closing" ∷ []

-- the reply to a writing side
abbrev pub collect_reply_words : CollectReply → List (List ℕ)
collect_reply_words (collect_reply.Answered k) = codes "answered" ∷ decimal k ∷ []
collect_reply_words (collect_reply.Early k) = codes "early" ∷ decimal k ∷ []
collect_reply_words (collect_reply.Transient k) = codes "transient" ∷ decimal k ∷ []
collect_reply_words (collect_reply.Posted id) = codes "posted" ∷ decimal id ∷ []
collect_reply_words collect_reply.Close = codes "close" ∷ []
collect_reply_words collect_reply.Error = codes "error" ∷ []
collect_reply_words collect_reply.Done = codes "done" ∷ []

-- a call with its reply
abbrev pub action_words : Action → List (List ℕ)
action_words (action.Offer request r) = codes "offer" ∷ (request_words request ++ offer_reply_words r)
action_words (action.Post conn id r) = codes "post" ∷ conn_text conn ∷ decimal id ∷ post_reply_text r ∷ []
action_words (action.Cancel conn id r) = codes "cancel" ∷ conn_text conn ∷ decimal id ∷ cancel_reply_text r ∷ []
action_words (action.Take t task) = codes "take" ∷ decimal t ∷ task_text task ∷ []
action_words (action.Finish t k len) = codes "finish" ∷ decimal t ∷ decimal k ∷ decimal len ∷ []
action_words (action.Collect conn r) = codes "collect" ∷ conn_text conn ∷ collect_reply_words r
action_words (action.End conn h) = codes "end" ∷ conn_text conn ∷ how_text h ∷ []
action_words (action.Leave slot) = codes "leave" ∷ decimal slot ∷ []

-- what a run opened with, but for its lanes
abbrev pub head_words : Head → List (List ℕ)
head_words h =
    codes "pool" ∷ decimal (flag h.flags.laned) ∷ decimal (flag h.flags.borrowing) ∷ decimal (flag h.flags.buffering)
    ∷ decimal h.limits.max_requests ∷ decimal h.limits.max_bytes ∷ decimal h.limits.run_calls ∷ decimal h.limits.run_bytes
    ∷ decimal h.slots ∷ decimal h.per_slot ∷ []

-- a line
abbrev pub row_words : Row → List (List ℕ)
row_words (Pool head) = head_words head
row_words (Lane lane) = codes "lane" ∷ decimal lane.priority ∷ decimal lane.statics ∷ decimal lane.dynamics ∷ []
row_words (Entry line) = decimal line.caller ∷ action_words line.action
row_words (Count n) = codes "entries" ∷ decimal n ∷ []

-- its text, without the line feed
abbrev pub row_line : Row → List ℕ
row_line r = join_with_byte 32 (row_words r)

-- the numbers of a connection fit
abbrev pub FitsConn : ConnId → Type 0
FitsConn conn = (conn.slot < 2 ^ 8) × (conn.nth < 2 ^ 8)

-- so do those of a request
abbrev pub FitsRequest : OfferedRequest → Type 0
FitsRequest r =
    FitsConn r.conn × (r.serial < 2 ^ 32) × (r.id < 2 ^ 32) × (r.priority < 2 ^ 15) × (r.lane < 2 ^ 8) × (r.size < 2 ^ 32)

-- of the reply to it
abbrev pub FitsOfferReply : OfferReply → Type 0
FitsOfferReply (offer_reply.Run t) = t < 2 ^ 8
FitsOfferReply (offer_reply.Lent t) = t < 2 ^ 8
FitsOfferReply r = Unit {0}

-- of a thread's task
abbrev pub FitsTask : Option ℕ → Type 0
FitsTask (Some k) = k < 2 ^ 32
FitsTask None = Unit {0}

-- of the reply to a writing side
abbrev pub FitsCollectReply : CollectReply → Type 0
FitsCollectReply (collect_reply.Answered k) = k < 2 ^ 32
FitsCollectReply (collect_reply.Early k) = k < 2 ^ 32
FitsCollectReply (collect_reply.Transient k) = k < 2 ^ 32
FitsCollectReply (collect_reply.Posted id) = id < 2 ^ 32
FitsCollectReply r = Unit {0}

-- of a call with its reply
abbrev pub FitsAction : Action → Type 0
FitsAction (action.Offer request r) = FitsRequest request × FitsOfferReply r
FitsAction (action.Post conn id r) = FitsConn conn × (id < 2 ^ 32)
FitsAction (action.Cancel conn id r) = FitsConn conn × (id < 2 ^ 32)
FitsAction (action.Take t task) = (t < 2 ^ 8) × FitsTask task
FitsAction (action.Finish t k len) = (t < 2 ^ 8) × (k < 2 ^ 32) × (len < 2 ^ 32)
FitsAction (action.Collect conn r) = FitsConn conn × FitsCollectReply r
FitsAction (action.End conn h) = FitsConn conn
FitsAction (action.Leave slot) = slot < 2 ^ 8

-- of an entry
abbrev pub FitsLine : TraceLine → Type 0
FitsLine line = (line.caller < 2 ^ 32) × FitsAction line.action

-- of a lane
abbrev pub FitsLane : LaneSpec → Type 0
FitsLane lane = (lane.priority < 2 ^ 15) × (lane.statics < 2 ^ 8) × (lane.dynamics < 2 ^ 8)

-- of limits
abbrev pub FitsLimits : Limits → Type 0
FitsLimits l = (l.max_requests < 2 ^ 32) × (l.max_bytes < 2 ^ 32) × (l.run_calls < 2 ^ 32) × (l.run_bytes < 2 ^ 32)

-- of a line
abbrev pub FitsRow : Row → Type 0
FitsRow (Pool head) = FitsLimits head.limits × (head.slots < 2 ^ 8) × (head.per_slot < 2 ^ 8)
FitsRow (Lane lane) = FitsLane lane
FitsRow (Entry line) = FitsLine line
FitsRow (Count n) = n < 2 ^ 32
