-- A call with its reply, by the words of its line. Own profile.
use Rattle.std.specs.Prelude.{ℕ, ◌==◌, if◌then◌else◌, List, [], ◌∷◌, codes, Option, Some, None, option_map}
use Rattle.std.specs.Option.{option_and_then}
use Rattle.std.specs.Str.{bytes_eq}
use Rattle.orb_base.specs.declared.conn_id.ConnId.{ConnId}
use Rattle.orb_base.specs.declared.due.Due.{Due}
use Rattle.orb_base.specs.declared.due.Due.TheVariants as due
use Rattle.lane_machine.specs.declared.call.How.{How}
use Rattle.lane_machine.specs.declared.call.How.TheVariants as how
use Rattle.trace_lines.specs.declared.trace_line.OfferedRequest.{OfferedRequest}
use Rattle.trace_lines.specs.declared.trace_line.OfferReply.{OfferReply}
use Rattle.trace_lines.specs.declared.trace_line.OfferReply.TheVariants as offer_reply
use Rattle.trace_lines.specs.declared.trace_line.PostReply.{PostReply}
use Rattle.trace_lines.specs.declared.trace_line.PostReply.TheVariants as post_reply
use Rattle.trace_lines.specs.declared.trace_line.CancelReply.{CancelReply}
use Rattle.trace_lines.specs.declared.trace_line.CancelReply.TheVariants as cancel_reply
use Rattle.trace_lines.specs.declared.trace_line.CollectReply.{CollectReply}
use Rattle.trace_lines.specs.declared.trace_line.CollectReply.TheVariants as collect_reply
use Rattle.trace_lines.specs.declared.trace_line.Action.{Action}
use Rattle.trace_lines.specs.declared.trace_line.Action.TheVariants as action
use Rattle.trace_reading.specs.declared.actions.Demand.{Demand}
use Rattle.trace_reading.specs.Choices.{option_ap, choice}
use Rattle.trace_reading.specs.Words.{number_in, parts_in}

-- the number of a byte
abbrev pub small_in : List ℕ → Option ℕ
small_in word = number_in 256 word

-- the number of an unsigned long
abbrev pub long_in : List ℕ → Option ℕ
long_in word = number_in 4294967296 word

-- a connection, of two numbers
abbrev pub conn_from : ℕ → ℕ → ConnId
conn_from slot nth = record { slot = slot; nth = nth }

-- a connection, by the two parts of its word
abbrev pub conn_of : List (List ℕ) → Option ConnId
conn_of (slot ∷ nth ∷ []) = option_ap (option_map conn_from (small_in slot)) (small_in nth)
conn_of _ = None

-- a connection, by a word with a full stop
abbrev pub conn_in : List ℕ → Option ConnId
conn_in word = option_and_then conn_of (parts_in 46 word)

-- when a reply is due, by its number
abbrev pub due_by : ℕ → Due
due_by n = if n == 0 then due.Nothing else if n == 1 then due.Early else due.Late

-- when a reply is due, by a word
abbrev pub due_in : List ℕ → Option Due
due_in word = option_map due_by (number_in 3 word)

-- what a request asks for
abbrev pub demand_from : Due → ℕ → ℕ → ℕ → Demand
demand_from due priority lane size = record { due = due; priority = priority; lane = lane; size = size }

-- what a request asks for, by its words
abbrev pub demand_in : List ℕ → List ℕ → List ℕ → List ℕ → Option Demand
demand_in due priority lane size =
    option_ap (option_ap (option_ap (option_map demand_from (due_in due)) (number_in 32768 priority)) (small_in lane)) (long_in size)

-- a request, of its connection, serial number and id
abbrev pub request_from : ConnId → ℕ → ℕ → Demand → OfferedRequest
request_from conn serial id demand = record {
  conn = conn;
  serial = serial;
  id = id;
  due = demand.due;
  priority = demand.priority;
  lane = demand.lane;
  size = demand.size;
}

-- a request, by its words and what it asks for
abbrev pub request_in : List ℕ → List ℕ → List ℕ → Option Demand → Option OfferedRequest
request_in conn serial id demand =
    option_ap (option_ap (option_ap (option_map request_from (conn_in conn)) (long_in serial)) (long_in id)) demand

-- the replies to an offered request that name no thread
abbrev pub offer_words : List (List ℕ × OfferReply)
offer_words = (codes "kept", offer_reply.Kept) ∷ (codes "full", offer_reply.Full) ∷ (codes "closing", offer_reply.Closing) ∷ []

-- the replies to an offered request that name a thread
abbrev pub thread_words : List (List ℕ × (ℕ → OfferReply))
thread_words = (codes "run", offer_reply.Run) ∷ (codes "lent", offer_reply.Lent) ∷ []

-- the reply to an offered request, by its words
abbrev pub offer_reply_in : List (List ℕ) → Option OfferReply
offer_reply_in (word ∷ []) = choice offer_words word
offer_reply_in (word ∷ thread ∷ []) = option_ap (choice thread_words word) (small_in thread)
offer_reply_in _ = None

-- the replies to an answer of the reading side
abbrev pub post_words : List (List ℕ × PostReply)
post_words = (codes "posted", post_reply.Posted) ∷ (codes "closing", post_reply.Closing) ∷ []

-- the replies to a withdrawal
abbrev pub cancel_words : List (List ℕ × CancelReply)
cancel_words =
    (codes "removed", cancel_reply.Removed) ∷ (codes "nothing", cancel_reply.Nothing) ∷ (codes "closing", cancel_reply.Closing) ∷ []

-- the task of a thread, or that none comes any more
abbrev pub task_in : List ℕ → Option (Option ℕ)
task_in word = if bytes_eq word (codes "ended") then Some None else option_map (λ k. Some k) (long_in word)

-- the replies to a writing side that nothing comes any more
abbrev pub last_words : List (List ℕ × CollectReply)
last_words = (codes "close", collect_reply.Close) ∷ (codes "error", collect_reply.Error) ∷ (codes "done", collect_reply.Done) ∷ []

-- what a writing side was handed
abbrev pub handed_words : List (List ℕ × (ℕ → CollectReply))
handed_words =
    (codes "answered", collect_reply.Answered) ∷ (codes "early", collect_reply.Early) ∷ (codes "transient", collect_reply.Transient)
    ∷ (codes "posted", collect_reply.Posted) ∷ []

-- the reply to a writing side, by its words
abbrev pub collect_reply_in : List (List ℕ) → Option CollectReply
collect_reply_in (word ∷ []) = choice last_words word
collect_reply_in (word ∷ request ∷ []) = option_ap (choice handed_words word) (long_in request)
collect_reply_in _ = None

-- how the reading of a connection ended
abbrev pub how_words : List (List ℕ × How)
how_words = (codes "quiet", how.Quiet) ∷ (codes "bad", how.Bad) ∷ (codes "shut", how.Shut) ∷ []

-- an offer, of its request and the reply
abbrev pub offer_from : OfferedRequest → OfferReply → Action
offer_from request r = action.Offer request r

-- an answer of the reading side, of its connection, its request's id and the reply
abbrev pub post_from : ConnId → ℕ → PostReply → Action
post_from conn id r = action.Post conn id r

-- a withdrawal, of its connection, its request's id and the reply
abbrev pub cancel_from : ConnId → ℕ → CancelReply → Action
cancel_from conn id r = action.Cancel conn id r

-- a thread that takes its task, if one comes
abbrev pub take_from : ℕ → Option ℕ → Action
take_from thread task = action.Take thread task

-- a thread that has carried out its task, with the length of the answer's body
abbrev pub finish_from : ℕ → ℕ → ℕ → Action
finish_from thread request len = action.Finish thread request len

-- a writing side that asks, and the reply
abbrev pub collect_from : ConnId → CollectReply → Action
collect_from conn r = action.Collect conn r

-- a reading side that has ended, and how
abbrev pub end_from : ConnId → How → Action
end_from conn h = action.End conn h

-- an offer, by the words after its verb
abbrev pub offer_in : List (List ℕ) → Option Action
offer_in (conn ∷ serial ∷ id ∷ due ∷ priority ∷ lane ∷ size ∷ reply) =
    option_ap (option_map offer_from (request_in conn serial id (demand_in due priority lane size))) (offer_reply_in reply)
offer_in _ = None

-- an answer of the reading side, by the words after its verb
abbrev pub post_in : List (List ℕ) → Option Action
post_in (conn ∷ id ∷ reply ∷ []) =
    option_ap (option_ap (option_map post_from (conn_in conn)) (long_in id)) (choice post_words reply)
post_in _ = None

-- a withdrawal
abbrev pub cancel_in : List (List ℕ) → Option Action
cancel_in (conn ∷ id ∷ reply ∷ []) =
    option_ap (option_ap (option_map cancel_from (conn_in conn)) (long_in id)) (choice cancel_words reply)
cancel_in _ = None

-- a thread that takes its task
abbrev pub take_in : List (List ℕ) → Option Action
take_in (thread ∷ task ∷ []) = option_ap (option_map take_from (small_in thread)) (task_in task)
take_in _ = None

-- a thread that has carried out its task
abbrev pub finish_in : List (List ℕ) → Option Action
finish_in (thread ∷ request ∷ len ∷ []) =
    option_ap (option_ap (option_map finish_from (small_in thread)) (long_in request)) (long_in len)
finish_in _ = None

-- a writing side that asks
abbrev pub collect_in : List (List ℕ) → Option Action
collect_in (conn ∷ reply) = option_ap (option_map collect_from (conn_in conn)) (collect_reply_in reply)
collect_in [] = None

-- a reading side that has ended
abbrev pub end_in : List (List ℕ) → Option Action
end_in (conn ∷ how ∷ []) = option_ap (option_map end_from (conn_in conn)) (choice how_words how)
end_in _ = None

-- a slot that leaves
abbrev pub leave_in : List (List ℕ) → Option Action
leave_in (slot ∷ []) = option_map action.Leave (small_in slot)
leave_in _ = None

-- how a call is read, by its verb
abbrev pub verbs : List (List ℕ × (List (List ℕ) → Option Action))
verbs =
    (codes "offer", offer_in) ∷ (codes "post", post_in)
    ∷ (codes "cancel", cancel_in) ∷ (codes "take", take_in) ∷ (codes "finish", finish_in)
    ∷ (codes "collect", collect_in) ∷ (codes "end", end_in) ∷ (codes "leave", leave_in) ∷ []

-- what is read of words, where it is known how
abbrev pub read_by : Option (List (List ℕ) → Option Action) → List (List ℕ) → Option Action
read_by (Some read) words = read words
read_by None words = None

-- a call with its reply, by its verb and the words after that
abbrev pub action_in : List ℕ → List (List ℕ) → Option Action
action_in verb words = read_by (choice verbs verb) words
