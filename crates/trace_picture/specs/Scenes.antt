-- What goes on between two entries of a run, and what an entry draws. Own profile.
use Rattle.std.specs.Prelude.{◌≡◌, ℕ, ◌==◌, ◌&&◌, Bool, List, [], ◌∷◌, ◌++◌, length, remove, position, slice_get, slice_index, Option, Some, None, Result, Ok, Err}
use Rattle.orb_base.specs.Conn.{same_conn}
use Rattle.orb_base.specs.declared.conn_id.ConnId.{ConnId}
use Rattle.orb_base.specs.declared.no_memory.NoMemory.{NoMemory}
use Rattle.request_buffer.specs.Kept.{is_late}
use Rattle.trace_lines.specs.declared.trace_line.OfferedRequest.{OfferedRequest}
use Rattle.trace_lines.specs.declared.trace_line.OfferReply.{OfferReply}
use Rattle.trace_lines.specs.declared.trace_line.OfferReply.TheVariants as offer_reply
use Rattle.trace_lines.specs.declared.trace_line.PostReply.{PostReply}
use Rattle.trace_lines.specs.declared.trace_line.PostReply.TheVariants as post_reply
use Rattle.trace_lines.specs.declared.trace_line.CancelReply.{CancelReply}
use Rattle.trace_lines.specs.declared.trace_line.CancelReply.TheVariants as cancel_reply
use Rattle.trace_lines.specs.declared.trace_line.CollectReply.{CollectReply}
use Rattle.trace_lines.specs.declared.trace_line.CollectReply.TheVariants as collect_reply
use Rattle.trace_lines.specs.declared.trace_line.Action.{Action}
use Rattle.trace_lines.specs.declared.trace_line.Action.TheVariants as action
use Rattle.trace_picture.specs.declared.going.Waiting.{Waiting}
use Rattle.trace_picture.specs.declared.going.Running.{Running}
use Rattle.trace_picture.specs.declared.shape.Shape.{Shape}
use Rattle.trace_picture.specs.declared.shape.Shape.TheVariants.{Bar, Wait, Full, Rule, Dot}
use Rattle.trace_picture.specs.declared.shape.WaitEnd.{WaitEnd}
use Rattle.trace_picture.specs.declared.shape.WaitEnd.TheVariants as how

-- what goes on between two entries: the lane of each request that was offered, by its number; what waits, in order of arrival; and what
-- threads carry out
pub record ScenePlain : Type 0 where
  pub lanes : List ℕ
  pub waiting : List Waiting
  pub running : List Running

-- before the first entry
abbrev pub no_scene : ScenePlain
no_scene = record { lanes = []; waiting = []; running = [] }

-- the waiting request has this number
abbrev pub has_number : ℕ → Waiting → Bool
has_number k w = w.number == k

-- the waiting request is one of the connection with this id, whose reply is still due
abbrev pub may_withdraw : ConnId → ℕ → Waiting → Bool
may_withdraw conn id w = is_late w.request.due && same_conn w.request.conn conn && (w.request.id == id)

-- the thread carries it out
abbrev pub is_on : ℕ → Running → Bool
is_on t r = r.thread == t

-- the line of a request that waited up to this entry
abbrev pub wait_to : ℕ → WaitEnd → Waiting → Shape
wait_to n how w = Wait w.request.lane w.number w.since n how

-- the bar of a request that a thread carried out up to this entry
abbrev pub bar_to : ℕ → Running → Shape
bar_to n r = Bar r.thread r.lane r.number r.since n

-- the same, where there is such a request
abbrev pub waited : ℕ → WaitEnd → Option Waiting → Option Shape
waited n how (Some w) = Some (wait_to n how w)
waited n how None = None

-- the bar of a request that a thread carries out, where there is such a request
abbrev pub carried : ℕ → Option Running → Option Shape
carried n (Some r) = Some (bar_to n r)
carried n None = None

-- a request is offered
abbrev pub with_request : ScenePlain → OfferedRequest → ScenePlain
with_request s r = record s { lanes = s.lanes ++ r.lane ∷ [] }

-- and waits from this entry on
abbrev pub with_waiting : ScenePlain → ℕ → OfferedRequest → ScenePlain
with_waiting s n r = record {
  lanes = s.lanes ++ r.lane ∷ [];
  waiting = s.waiting ++ (record { number = length s.lanes; request = r; since = n }) ∷ [];
  running = s.running;
}

-- an Offer of this number among the entries
abbrev pub offered : ScenePlain → ℕ → OfferedRequest → OfferReply → ScenePlain × Option Shape
offered s n r (offer_reply.Run t) = (with_request s r, None)
offered s n r (offer_reply.Lent t) = (with_request s r, None)
offered s n r offer_reply.Kept = (with_waiting s n r, None)
offered s n r offer_reply.Full = (with_request s r, Some (Full r.lane n))
offered s n r offer_reply.Closing = (with_request s r, Some (Rule n))

-- a thread carries out the request of this number from this entry on
abbrev pub with_running : ScenePlain → ℕ → ℕ → ℕ → ScenePlain
with_running s n t k =
    record s { running = s.running ++ (record { thread = t; number = k; lane = slice_index s.lanes k; since = n }) ∷ [] }

-- what waited at this place waits no more
abbrev pub without_waiting : ScenePlain → ℕ → ScenePlain
without_waiting s at = record s { waiting = remove s.waiting at }

-- a thread takes a request, which waited at this place or not at all
abbrev pub taken : ScenePlain → ℕ → ℕ → ℕ → Option ℕ → ScenePlain × Option Shape
taken s n t k (Some at) = (with_running (without_waiting s at) n t k, waited n how.Taken (slice_get s.waiting at))
taken s n t k None = (with_running s n t k, None)

-- a thread takes the request of this number, or none any more
abbrev pub took : ScenePlain → ℕ → ℕ → Option ℕ → ScenePlain × Option Shape
took s n t (Some k) = taken s n t k (position (has_number k) s.waiting)
took s n t None = (s, None)

-- the request that waits at this place is withdrawn
abbrev pub withdrawn : ScenePlain → ℕ → Option ℕ → ScenePlain × Option Shape
withdrawn s n (Some at) = (without_waiting s at, waited n how.Removed (slice_get s.waiting at))
withdrawn s n None = (s, None)

-- a withdrawal: of the earliest waiting request of the connection and id whose reply is still due
abbrev pub cancelled : ScenePlain → ℕ → ConnId → ℕ → CancelReply → ScenePlain × Option Shape
cancelled s n conn id cancel_reply.Removed = withdrawn s n (position (may_withdraw conn id) s.waiting)
cancelled s n conn id cancel_reply.Nothing = (s, None)
cancelled s n conn id cancel_reply.Closing = (s, Some (Rule n))

-- what was carried out at this place is so no more
abbrev pub without_running : ScenePlain → ℕ → ScenePlain
without_running s at = record s { running = remove s.running at }

-- the request that a thread carries out at this place is finished
abbrev pub finished : ScenePlain → ℕ → Option ℕ → ScenePlain × Option Shape
finished s n (Some at) = (without_running s at, carried n (slice_get s.running at))
finished s n None = (s, None)

-- an answer of the reading side
abbrev pub posted : ℕ → PostReply → Option Shape
posted n post_reply.Posted = None
posted n post_reply.Closing = Some (Rule n)

-- the reply to the request of this number is handed over
abbrev pub reply_dot : ScenePlain → ℕ → ℕ → Option Shape
reply_dot s n k = Some (Dot (Some (slice_index s.lanes k)) n)

-- what a writing side was handed
abbrev pub handed : ScenePlain → ℕ → CollectReply → Option Shape
handed s n (collect_reply.Answered k) = reply_dot s n k
handed s n (collect_reply.Early k) = reply_dot s n k
handed s n (collect_reply.Transient k) = reply_dot s n k
handed s n (collect_reply.Posted id) = Some (Dot None n)
handed s n collect_reply.Close = None
handed s n collect_reply.Error = None
handed s n collect_reply.Done = None

-- what goes on after the entry of this number, and what the entry draws
abbrev pub draw : ScenePlain → ℕ → Action → ScenePlain × Option Shape
draw s n (action.Offer r reply) = offered s n r reply
draw s n (action.Post conn id reply) = (s, posted n reply)
draw s n (action.Cancel conn id reply) = cancelled s n conn id reply
draw s n (action.Take t task) = took s n t task
draw s n (action.Finish t k len) = finished s n (position (is_on t) s.running)
draw s n (action.Collect conn reply) = (s, handed s n reply)
draw s n (action.End conn h) = (s, None)
draw s n (action.Leave slot) = (s, None)

-- an entry was drawn so; nothing is said where memory ran out
abbrev pub Draws : ScenePlain × Option Shape → ScenePlain → Result (Option Shape) NoMemory → Type 0
Draws next new (Ok shape) = (new ≡ next.0) × (shape ≡ next.1)
Draws next new (Err _) = Unit {0}
