-- Who may make which call, by the opening state and the caller's own entries.
use Rattle.std.specs.Prelude.{◌≡◌, ◌≤◌, ◌<◌, ◌+◌, ◌⊎◌, ℕ, ◌==◌, ◌&&◌, Bool, true, false, count_by, length, Option}
use Rattle.std.specs.List.{list_any}
use Rattle.orb_base.specs.declared.limits.TheConstants.{MAX_MESSAGE}
use Rattle.client_mux.specs.declared.limits.TheConstants.{MAX_SEATS, MAX_STARTS, MAX_ARRIVALS}
use Rattle.orb_base.specs.declared.order.Order.TheVariants.{Big}
use Rattle.giop_messages.specs.Message.{Request, request}
use Rattle.giop_messages.specs.Spelling.{spelled}
use Rattle.flat_seats.specs.Flat.{flat}
use Rattle.turn_cell.specs.History as history
use Rattle.client_mux.specs.declared.call.MuxCall.{MuxCall}
use Rattle.client_mux.specs.declared.call.MuxCall.TheVariants.{Start, Cancel, Next, Arrived, Await, Lost, Left}
use Rattle.client_mux.specs.declared.call.MuxReply.{MuxReply}
use Rattle.client_mux.specs.declared.call.MuxReply.TheVariants as reply
use Rattle.client_mux.specs.Machine.{Mux, One, History}

-- the first seat has heirs alone: at most sixteen callers, a writer and a reader
abbrev pub heir : ℕ → ℕ → Option ℕ
heir = flat MAX_SEATS

-- the seat of the writer: callers have the seats from 1 on, and the writer the next one
abbrev pub writer : Mux → ℕ
writer x = x.callers + 1

-- the seat of the reader, the last one
abbrev pub reader : Mux → ℕ
reader x = x.callers + 2

-- the seat is one of a caller
abbrev pub IsCaller : Mux → ℕ → Type 0
IsCaller x n = (1 ≤ n) × (n ≤ x.callers)

-- the request is short enough for a message, whatever its id is
abbrev pub IsShort : Request → Type 0
IsShort r = length (spelled Big (request r)) ≤ MAX_MESSAGE

-- who makes the call, where it says so
abbrev pub by_of : MuxCall → ℕ → ℕ
by_of (Start by _) n = by
by_of (Cancel by _) n = by
by_of Next n = n
by_of (Arrived _ _) n = n
by_of (Await by _) n = by
by_of (Lost _) n = n
by_of (Left by) n = by

-- the call is a Start
abbrev pub is_start : MuxCall → Bool
is_start (Start _ _) = true
is_start call = false

-- it is a Cancel
abbrev pub is_cancel : MuxCall → Bool
is_cancel (Cancel _ _) = true
is_cancel call = false

-- it is an Await
abbrev pub is_await : MuxCall → Bool
is_await (Await _ _) = true
is_await call = false

-- it is an Arrived
abbrev pub is_arrived : MuxCall → Bool
is_arrived (Arrived _ _) = true
is_arrived call = false

-- it is a Lost
abbrev pub is_lost : MuxCall → Bool
is_lost (Lost _) = true
is_lost call = false

-- it is a Left
abbrev pub is_left : MuxCall → Bool
is_left (Left _) = true
is_left call = false

-- a Start that was answered this id
abbrev pub starts_as : ℕ → MuxCall → MuxReply → Bool
starts_as id (Start _ _) (reply.Id i) = i == id
starts_as id call r = false

-- a Cancel of this id
abbrev pub cancels : ℕ → MuxCall → Bool
cancels id (Cancel _ i) = i == id
cancels id call = false

-- an Await of this id
abbrev pub awaits : ℕ → MuxCall → Bool
awaits id (Await _ i) = i == id
awaits id call = false

-- a call was cancelled in time
abbrev pub is_cancelled : MuxReply → Bool
is_cancelled reply.Cancelled = true
is_cancelled r = false

-- a Next that was answered Finish
abbrev pub finishes : MuxCall → MuxReply → Bool
finishes Next reply.Finish = true
finishes call r = false

-- the id is one of a Start of its own
abbrev pub owns : ℕ → History → Bool
owns id mine = list_any (λ (e : One). starts_as id e.call e.reply) mine

-- the call of this id was cancelled
abbrev pub has_cancel : ℕ → History → Bool
has_cancel id mine = list_any (λ (e : One). cancels id e.call) mine

-- it was cancelled in time
abbrev pub was_dropped : ℕ → History → Bool
was_dropped id mine = list_any (λ (e : One). cancels id e.call && is_cancelled e.reply) mine

-- it was awaited
abbrev pub has_await : ℕ → History → Bool
has_await id mine = list_any (λ (e : One). awaits id e.call) mine

-- how many Starts there were
abbrev pub starts : History → ℕ
starts mine = count_by (λ (e : One). is_start e.call) mine

-- how many Arriveds
abbrev pub arrivals : History → ℕ
arrivals mine = count_by (λ (e : One). is_arrived e.call) mine

-- how many Losts
abbrev pub losses : History → ℕ
losses mine = count_by (λ (e : One). is_lost e.call) mine

-- how many Lefts
abbrev pub lefts : History → ℕ
lefts mine = count_by (λ (e : One). is_left e.call) mine

-- how many Nexts that were answered Finish
abbrev pub finished : History → ℕ
finished mine = count_by (λ (e : One). finishes e.call e.reply) mine

-- a caller starts at most 64 calls, each of a request that is short enough, cancels and awaits calls of its own, and leaves
-- last. The writer alone asks what to send, and not after Finish; the reader alone says what arrived, at most 4,096 times;
-- each of the two says once at most that the link was lost
abbrev pub MayCall : Mux → ℕ → History → MuxCall → Type 0
MayCall x n mine (Start _ r) = IsCaller x n × (lefts mine ≡ 0) × (starts mine < MAX_STARTS) × IsShort r
MayCall x n mine (Cancel _ id) =
    IsCaller x n × (lefts mine ≡ 0) × (owns id mine ≡ true) × (has_cancel id mine ≡ false) × (has_await id mine ≡ false)
MayCall x n mine Next = (n ≡ writer x) × (finished mine ≡ 0)
MayCall x n mine (Arrived _ _) = (n ≡ reader x) × (arrivals mine < MAX_ARRIVALS)
MayCall x n mine (Await _ id) =
    IsCaller x n × (lefts mine ≡ 0) × (owns id mine ≡ true) × (has_await id mine ≡ false) × (was_dropped id mine ≡ false)
MayCall x n mine (Lost _) = ((n ≡ writer x) ⊎ (n ≡ reader x)) × (losses mine ≡ 0)
MayCall x n mine (Left _) = IsCaller x n × (lefts mine ≡ 0)

-- a caller makes calls in its own name, and those alone that it may make
abbrev pub IsFit : Mux → ℕ → History → MuxCall → Type 0
IsFit x n mine call = (by_of call n ≡ n) × MayCall x n mine call

-- the entries of one caller
abbrev pub of : ℕ → History → History
of n h = history.of n h
