-- The history that the lines of a trace say. A trace doesn't say the byte order, target, operation and body of a request, nor what an
-- answer's body is: requests read back are big endian, of target 0, without operation and body; an answer returned as many zeros as its
-- body has bytes; an answer of the reading side says that a band is bound. Own profile.
use Rattle.std.specs.Prelude.{◌≡◌, ℕ, ◌==◌, true, false, if◌then◌else◌, List, [], ◌∷◌, ◌++◌, replicate, Option, Some, None, slice_get}
use Rattle.orb_base.specs.declared.answer.Answer.{Answer}
use Rattle.orb_base.specs.declared.conn_id.ConnId.{ConnId}
use Rattle.orb_base.specs.declared.item.Item.TheVariants as item
use Rattle.orb_base.specs.declared.job.Job.{Job}
use Rattle.orb_base.specs.declared.notice.Notice.{Notice}
use Rattle.orb_base.specs.declared.notice.What.TheVariants as what
use Rattle.orb_base.specs.declared.order.Order.TheVariants as order
use Rattle.orb_base.specs.declared.outcome.Outcome.{Outcome}
use Rattle.orb_base.specs.declared.outcome.Outcome.TheVariants as outcome
use Rattle.lane_machine.specs.Entries.{One}
use Rattle.lane_machine.specs.Histories.{History}
use Rattle.lane_machine.specs.declared.call.LaneCall.{LaneCall}
use Rattle.lane_machine.specs.declared.call.LaneCall.TheVariants.{Offer, Post, Cancel, Take, Finish, Collect, End, Leave}
use Rattle.lane_machine.specs.declared.call.LaneReply.{LaneReply}
use Rattle.lane_machine.specs.declared.call.LaneReply.TheVariants as reply
use Rattle.trace_lines.specs.declared.trace_line.OfferedRequest.{OfferedRequest}
use Rattle.trace_lines.specs.declared.trace_line.OfferReply.{OfferReply}
use Rattle.trace_lines.specs.declared.trace_line.OfferReply.TheVariants as offer_reply
use Rattle.trace_lines.specs.declared.trace_line.PostReply.{PostReply}
use Rattle.trace_lines.specs.declared.trace_line.PostReply.TheVariants as post_reply
use Rattle.trace_lines.specs.declared.trace_line.CancelReply.{CancelReply}
use Rattle.trace_lines.specs.declared.trace_line.CancelReply.TheVariants as cancel_reply
use Rattle.trace_lines.specs.declared.trace_line.CollectReply.{CollectReply}
use Rattle.trace_lines.specs.declared.trace_line.CollectReply.TheVariants as collect_reply
use Rattle.trace_lines.specs.declared.trace_line.Action.{Action}
use Rattle.trace_lines.specs.declared.trace_line.Action.TheVariants as action
use Rattle.trace_lines.specs.declared.trace_line.TraceLine.{TraceLine}

-- the request that a line offers
abbrev pub job_of : OfferedRequest → Job
job_of r = record {
  conn = r.conn;
  serial = r.serial;
  id = r.id;
  order = order.Big;
  due = r.due;
  priority = r.priority;
  lane = r.lane;
  size = r.size;
  target = 0;
  operation = [];
  body = [];
}

-- an answer of the reading side, by its connection and id
abbrev pub notice_of : ConnId → ℕ → Notice
notice_of conn id = record { conn = conn; order = order.Big; id = id; what = what.Bound }

-- so many zeros were returned
abbrev pub returned : ℕ → Outcome
returned len = outcome.Returned (replicate len 0)

-- an answer with a body of this length
abbrev pub answer_of : Job → ℕ → Answer
answer_of job len = record { job = job; outcome = returned len }

-- the request of a line that offers one
abbrev pub offered_by : Action → List Job
offered_by (action.Offer request r) = job_of request ∷ []
offered_by a = []

-- the requests that lines offer, in order
abbrev pub jobs_of : List TraceLine → List Job
jobs_of [] = []
jobs_of (l ∷ ls) = offered_by l.action ++ jobs_of ls

-- the length of the last body of the answers to the request of this number, after this line, where it was known before it
abbrev pub len_after : ℕ → ℕ → Action → ℕ
len_after k len (action.Finish t j n) = if j == k then n else len
len_after k len a = len

-- the length of the last body that these lines say of the answers to the request of this number, or else this one
abbrev pub last_len : ℕ → ℕ → List TraceLine → ℕ
last_len k len [] = len
last_len k len (l ∷ ls) = last_len k (len_after k len l.action) ls

-- the reply to an offered request
abbrev pub reply_of_offer : OfferReply → LaneReply
reply_of_offer (offer_reply.Run t) = reply.Run t false
reply_of_offer (offer_reply.Lent t) = reply.Run t true
reply_of_offer offer_reply.Kept = reply.Kept
reply_of_offer offer_reply.Full = reply.Full
reply_of_offer offer_reply.Closing = reply.Closing

-- the reply to an answer of the reading side
abbrev pub reply_of_post : PostReply → LaneReply
reply_of_post post_reply.Posted = reply.Posted
reply_of_post post_reply.Closing = reply.Closing

-- the reply to a withdrawal
abbrev pub reply_of_cancel : CancelReply → LaneReply
reply_of_cancel cancel_reply.Removed = reply.Removed
reply_of_cancel cancel_reply.Nothing = reply.Nothing
reply_of_cancel cancel_reply.Closing = reply.Closing

-- a reply with a request, where a line offers it; else a reply that such a call never has, so that the entry isn't legal
abbrev pub with_job : (Job → LaneReply) → Option Job → LaneReply
with_job make (Some job) = make job
with_job make None = reply.Noted

-- the task of a thread, by its number
abbrev pub given_by : List Job → Option ℕ → LaneReply
given_by jobs (Some k) = with_job reply.Given (slice_get jobs k)
given_by jobs None = reply.Ended

-- the end of a request that a line offers; else a call that never has the reply
abbrev pub finish_by : ℕ → ℕ → Option Job → LaneCall
finish_by t len (Some job) = Finish t (answer_of job len)
finish_by t len None = Take t

-- what a writing side was handed, by the requests of the run and the lines before
abbrev pub handed_by : List Job → List TraceLine → ConnId → CollectReply → LaneReply
handed_by jobs before conn (collect_reply.Answered k) =
    with_job (λ job. reply.Handed (item.Answered (answer_of job (last_len k 0 before)))) (slice_get jobs k)
handed_by jobs before conn (collect_reply.Early k) = with_job (λ job. reply.Handed (item.Early job)) (slice_get jobs k)
handed_by jobs before conn (collect_reply.Transient k) = with_job (λ job. reply.Handed (item.Transient job)) (slice_get jobs k)
handed_by jobs before conn (collect_reply.Posted id) = reply.Handed (item.Noticed (notice_of conn id))
handed_by jobs before conn collect_reply.Close = reply.Close
handed_by jobs before conn collect_reply.Error = reply.Error
handed_by jobs before conn collect_reply.Done = reply.Done

-- the call of a line
abbrev pub call_by : List Job → Action → LaneCall
call_by jobs (action.Offer request r) = Offer (job_of request)
call_by jobs (action.Post conn id r) = Post (notice_of conn id)
call_by jobs (action.Cancel conn id r) = Cancel conn id
call_by jobs (action.Take t task) = Take t
call_by jobs (action.Finish t k len) = finish_by t len (slice_get jobs k)
call_by jobs (action.Collect conn r) = Collect conn
call_by jobs (action.End conn how) = End conn how
call_by jobs (action.Leave slot) = Leave slot

-- its reply
abbrev pub reply_by : List Job → List TraceLine → Action → LaneReply
reply_by jobs before (action.Offer request r) = reply_of_offer r
reply_by jobs before (action.Post conn id r) = reply_of_post r
reply_by jobs before (action.Cancel conn id r) = reply_of_cancel r
reply_by jobs before (action.Take t task) = given_by jobs task
reply_by jobs before (action.Finish t k len) = with_job (λ job. reply.Finished) (slice_get jobs k)
reply_by jobs before (action.Collect conn r) = handed_by jobs before conn r
reply_by jobs before (action.End conn how) = reply.Noted
reply_by jobs before (action.Leave slot) = reply.Noted

-- the entry of a line, by the requests of its run and the lines before it
abbrev pub entry_by : List Job → List TraceLine → TraceLine → One
entry_by jobs before l = record { caller = l.caller; call = call_by jobs l.action; reply = reply_by jobs before l.action }

-- the entries of lines that come after others
abbrev pub entries_after : List Job → List TraceLine → List TraceLine → History
entries_after jobs before [] = []
entries_after jobs before (l ∷ ls) = entry_by jobs before l ∷ entries_after jobs (before ++ l ∷ []) ls

-- the history that lines say
abbrev pub history_of : List TraceLine → History
history_of lines = entries_after (jobs_of lines) [] lines

-- a line offers the request of this number
abbrev pub Has : List Job → ℕ → Type 0
Has jobs k = (job : Job) × (slice_get jobs k ≡ Some job)

-- the request that a line names by its number is offered
abbrev pub HasTask : List Job → Option ℕ → Type 0
HasTask jobs (Some k) = Has jobs k
HasTask jobs None = Unit {0}

-- the request of what a writing side was handed is offered
abbrev pub HasHanded : List Job → CollectReply → Type 0
HasHanded jobs (collect_reply.Answered k) = Has jobs k
HasHanded jobs (collect_reply.Early k) = Has jobs k
HasHanded jobs (collect_reply.Transient k) = Has jobs k
HasHanded jobs r = Unit {0}

-- the requests that a call and its reply name by their numbers are offered
abbrev pub HasJob : List Job → Action → Type 0
HasJob jobs (action.Take t task) = HasTask jobs task
HasJob jobs (action.Finish t k len) = Has jobs k
HasJob jobs (action.Collect conn r) = HasHanded jobs r
HasJob jobs a = Unit {0}

-- so is that of each of these lines
abbrev pub HasJobs : List Job → List TraceLine → Type 0
HasJobs jobs [] = Unit {0}
HasJobs jobs (l ∷ ls) = HasJob jobs l.action × HasJobs jobs ls
