-- The machine of a link that several callers share: own profile.
use Rattle.std.specs.Prelude.{◌≡◌, ◌≢◌, ◌≤◌, ◌+◌, ℕ, zero, suc, ◌==◌, ◌||◌, nat_lt, not, Bool, true, false, List, [], ◌∷◌, ◌++◌, length, Option, Some, None, is_some, slice_get, slice_set, Result, Ok, Err}
use Rattle.std.specs.List.{list_any}
use Rattle.giop_messages.specs.Message.{Request}
use Rattle.client_mux.specs.declared.heard_reply.HeardReply.{HeardReply}
use Rattle.turn_cell.specs.declared.entry.Entry.{Entry}
use Rattle.client_mux.specs.declared.why.Why.{Why}
use Rattle.client_mux.specs.declared.call.MuxCall.{MuxCall}
use Rattle.client_mux.specs.declared.call.MuxCall.TheVariants.{Start, Cancel, Next, Arrived, Await, Lost, Left}
use Rattle.client_mux.specs.declared.call.MuxReply.{MuxReply}
use Rattle.client_mux.specs.declared.call.MuxReply.TheVariants as reply
use Rattle.client_mux.specs.declared.called.Called.{Called}
use Rattle.client_mux.specs.declared.called.Doing.{Doing}
use Rattle.client_mux.specs.declared.called.Doing.TheVariants.{Waiting, Answered, Dropped}
use Rattle.client_mux.specs.declared.called.Sending.{Sending}
use Rattle.client_mux.specs.declared.called.Sending.TheVariants.{Send, Stop}

-- the link: how many callers share it, all that was ever to be sent, how much of that was handed out, the calls in the order
-- of their ids, why the link was lost first, and who left
pub record Mux : Type 0 where
  pub callers : ℕ
  pub sends : List Sending
  pub sent : ℕ
  pub calls : List Called
  pub lost : Option Why
  pub left : List ℕ

-- calls of the link with their replies
abbrev pub One : Type 0
One = Entry Mux MuxCall MuxReply

-- the calls of the link, in the order in which they were answered
abbrev pub History : Type 0
History = List One

-- the call of an id: ids count from 1
abbrev pub call_at : List Called → ℕ → Option Called
call_at calls zero = None
call_at calls (suc k) = slice_get calls k

-- the calls where the one of this id is another
abbrev pub set_call : List Called → ℕ → Called → List Called
set_call calls zero c = calls
set_call calls (suc k) c = slice_set calls k c

-- a call that was just started
abbrev pub new_call : ℕ → Called
new_call by = record { by = by; doing = Waiting; cancelled = false; awaited = false }

-- the link where the call of this id is another
abbrev pub put : Mux → ℕ → Called → Mux
put m id c = record m { calls = set_call m.calls id c }

-- whether a call has no reply yet and wasn't cancelled
abbrev pub waits : Doing → Bool
waits Waiting = true
waits (Answered _) = false
waits Dropped = false

-- the same of a call that may not be there
abbrev pub is_waiting : Option Called → Bool
is_waiting (Some c) = waits c.doing
is_waiting None = false

-- Start: the call gets the next id, and its request is to be sent; unless the link is lost
abbrev pub started : Mux → ℕ → Request → Option Why → Mux × MuxReply
started m by r None =
    (record m { calls = m.calls ++ new_call by ∷ []; sends = m.sends ++ Send (length m.calls + 1) r ∷ [] }, reply.Id (length m.calls + 1))
started m by r (Some why) = (m, reply.Gone why)

-- Cancel: a call that waits is dropped, and that is to be said to the peer; one that was answered stays as it is
abbrev pub stopped : Mux → ℕ → Called → Doing → Mux × MuxReply
stopped m id c Waiting =
    (record (put m id (record c { doing = Dropped; cancelled = true })) { sends = m.sends ++ Stop id ∷ [] }, reply.Cancelled)
stopped m id c (Answered _) = (put m id (record c { cancelled = true }), reply.TooLate)
stopped m id c Dropped = (put m id (record c { cancelled = true }), reply.TooLate)

-- the same of a call that may not be there
abbrev pub cancelled : Mux → ℕ → Option Called → Mux × MuxReply
cancelled m id (Some c) = stopped m id c c.doing
cancelled m id None = (m, reply.TooLate)

-- the reply that hands out what is to be sent
abbrev pub sending : Sending → MuxReply
sending (Send id r) = reply.Send id r
sending (Stop id) = reply.Stop id

-- Next: the first that is to be sent and was not handed out yet, unless the link is lost
abbrev pub given : Mux → Option Why → Option Sending → Mux × MuxReply
given m None (Some s) = (record m { sent = m.sent + 1 }, sending s)
given m None None = (m, reply.Finish)
given m (Some why) o = (m, reply.Finish)

-- Arrived: a call of this id that waits has this reply
abbrev pub matched : Mux → ℕ → HeardReply → Called → Doing → Mux × MuxReply
matched m id r c Waiting = (put m id (record c { doing = Answered r }), reply.Matched)
matched m id r c (Answered _) = (m, reply.Stray)
matched m id r c Dropped = (m, reply.Stray)

-- the same of a call that may not be there
abbrev pub arrived : Mux → ℕ → HeardReply → Option Called → Mux × MuxReply
arrived m id r (Some c) = matched m id r c c.doing
arrived m id r None = (m, reply.Stray)

-- what an Await is answered that has no reply: why the link was lost
abbrev pub gone : Option Why → MuxReply
gone (Some why) = reply.Gone why
gone None = reply.Noted

-- Await: the call's reply, or else why the link was lost
abbrev pub outcome : Option Why → Doing → MuxReply
outcome lost (Answered r) = reply.Reply r
outcome lost Waiting = gone lost
outcome lost Dropped = gone lost

-- the same of a call that may not be there
abbrev pub awaited : Mux → ℕ → Option Called → Mux × MuxReply
awaited m id (Some c) = (put m id (record c { awaited = true }), outcome m.lost c.doing)
awaited m id None = (m, gone m.lost)

-- Lost: the first cause is kept
abbrev pub first : Option Why → Why → Option Why
first (Some was) why = Some was
first None why = Some why

-- whether a call can be answered now. A Next waits for something to send, for a loss, or until all left; an Await for its
-- reply or a loss
abbrev pub is_ready : Mux → MuxCall → Bool
is_ready m (Start _ _) = true
is_ready m (Cancel _ _) = true
is_ready m Next = nat_lt m.sent (length m.sends) || (is_some m.lost || (length m.left == m.callers))
is_ready m (Arrived _ _) = true
is_ready m (Await _ id) = is_some m.lost || not (is_waiting (call_at m.calls id))
is_ready m (Lost _) = true
is_ready m (Left _) = true

-- what a call needs: a caller cancels and awaits a call of its own, once each, cancels before it awaits, doesn't await a
-- dropped one, and leaves once
abbrev pub IsSound : Mux → MuxCall → Type 0
IsSound m (Start _ _) = Unit {0}
IsSound m (Cancel by id) = (c : Called) × (call_at m.calls id ≡ Some c) × (c.by ≡ by) × (c.awaited ≡ false) × (c.cancelled ≡ false)
IsSound m Next = Unit {0}
IsSound m (Arrived _ _) = Unit {0}
IsSound m (Await by id) = (c : Called) × (call_at m.calls id ≡ Some c) × (c.by ≡ by) × (c.awaited ≡ false) × (c.doing ≢ Dropped)
IsSound m (Lost _) = Unit {0}
IsSound m (Left by) = list_any (λ n. n == by) m.left ≡ false

-- the link after a call, and the reply
abbrev pub step : Mux → MuxCall → Mux × MuxReply
step m (Start by r) = started m by r m.lost
step m (Cancel by id) = cancelled m id (call_at m.calls id)
step m Next = given m m.lost (slice_get m.sends m.sent)
step m (Arrived id r) = arrived m id r (call_at m.calls id)
step m (Await by id) = awaited m id (call_at m.calls id)
step m (Lost why) = (record m { lost = first m.lost why }, reply.Noted)
step m (Left by) = (record m { left = m.left ++ by ∷ [] }, reply.Noted)

-- a call was answered by its step, with the reply twice, or nothing changed
abbrev pub Steps : {E : Type 0} → Mux → Mux × MuxReply → Mux → Result (MuxReply × MuxReply) E → Type 0
Steps old next new (Ok r) = (new ≡ next.0) × (r.0 ≡ next.1) × (r.1 ≡ next.1)
Steps old next new (Err _) = new ≡ old

-- a link of so many callers by which nothing was called
abbrev pub opening : ℕ → Mux
opening callers = record { callers = callers; sends = []; sent = 0; calls = []; lost = None; left = [] }

-- a link opens for 1 to 16 callers, with nothing to send, no call, not lost, and nobody left
pub record Opens (m : Mux) : Type 0 where
  pub some : 1 ≤ m.callers
  pub few : m.callers ≤ 16
  pub unsent : m.sends ≡ []
  pub none_sent : m.sent ≡ 0
  pub uncalled : m.calls ≡ []
  pub works : m.lost ≡ None
  pub stay : m.left ≡ []
