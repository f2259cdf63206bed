-- Which replies each call can get.
use Rattle.std.proofs.Common.{◌≡◌, ℕ, true, not, ◌||◌, [], ◌∷◌, ◌++◌, Option, Some, None, refl, sym, ap, ◌∙◌, subst}
use Rattle.std.specs.Prelude.{is_some, slice_get}
use Rattle.giop_messages.specs.Message.{Request}
use Rattle.client_mux.specs.declared.heard_reply.HeardReply.{HeardReply}
use Rattle.turn_cell.specs.Seats.{CellView}
use Rattle.turn_cell.specs.Good.{entry}
use Rattle.flat_seats.proofs.Along.{ready_at, sound_at, answered_at}
use Rattle.client_mux.specs.declared.why.Why.{Why}
use Rattle.client_mux.specs.declared.call.MuxCall.{MuxCall}
use Rattle.client_mux.specs.declared.call.MuxCall.TheVariants.{Start, Cancel, Next, Arrived, Await, Lost, Left}
use Rattle.client_mux.specs.declared.call.MuxReply.{MuxReply}
use Rattle.client_mux.specs.declared.call.MuxReply.TheVariants as reply
use Rattle.client_mux.specs.declared.called.Called.{Called}
use Rattle.client_mux.specs.declared.called.Doing.{Doing}
use Rattle.client_mux.specs.declared.called.Doing.TheVariants.{Waiting, Answered, Dropped}
use Rattle.client_mux.specs.declared.called.Sending.{Sending}
use Rattle.client_mux.specs.declared.called.Sending.TheVariants.{Send, Stop}
use Rattle.client_mux.specs.Machine.{Mux, One, step, is_ready, IsSound, call_at, is_waiting, waits, started, cancelled, stopped, given, sending, arrived, matched, awaited, outcome}
use Rattle.client_mux.specs.Exchange.{IsLegal, replay}
use Rattle.shared_link.specs.Link.{Sitting}
use Rattle.shared_link.specs.Turns.{Makes}
use Rattle.shared_link.specs.Replies.{IsAnswer, is_started, is_stopped, is_waited, is_upcoming, is_placed}

pub answers : (cell : CellView Mux) (call : MuxCall) (r : MuxReply) (old new : Sitting) → Makes cell call r old new → IsAnswer call r
answers cell call r old new c =
    let x = cell.terms.opening in let before = old.seen ++ c.3.0 in let e : One = entry old.number call r in
    let legal : IsLegal x (before ++ e ∷ []) = subst (IsLegal x) c.3.1 c.1.0.1 in
    (replay x before, ready_at is_ready IsSound step x before [] e legal, sound_at is_ready IsSound step x before [] e legal, answered_at is_ready IsSound step x before [] e legal)

start_kinds : (m : Mux) (by : ℕ) (q : Request) (lost : Option Why) → is_started (started m by q lost).1 ≡ true
start_kinds m by q None = refl
start_kinds m by q (Some why) = refl

stop_kinds : (m : Mux) (id : ℕ) (c : Called) (d : Doing) → is_stopped (stopped m id c d).1 ≡ true
stop_kinds m id c Waiting = refl
stop_kinds m id c (Answered r) = refl
stop_kinds m id c Dropped = refl

cancel_kinds : (m : Mux) (id : ℕ) (o : Option Called) → is_stopped (cancelled m id o).1 ≡ true
cancel_kinds m id (Some c) = stop_kinds m id c c.doing
cancel_kinds m id None = refl

send_kinds : (s : Sending) → is_upcoming (sending s) ≡ true
send_kinds (Send id r) = refl
send_kinds (Stop id) = refl

next_kinds : (m : Mux) (lost : Option Why) (o : Option Sending) → is_upcoming (given m lost o).1 ≡ true
next_kinds m None (Some s) = send_kinds s
next_kinds m None None = refl
next_kinds m (Some why) o = refl

match_kinds : (m : Mux) (id : ℕ) (r : HeardReply) (c : Called) (d : Doing) → is_placed (matched m id r c d).1 ≡ true
match_kinds m id r c Waiting = refl
match_kinds m id r c (Answered v) = refl
match_kinds m id r c Dropped = refl

arrive_kinds : (m : Mux) (id : ℕ) (r : HeardReply) (o : Option Called) → is_placed (arrived m id r o).1 ≡ true
arrive_kinds m id r (Some c) = match_kinds m id r c c.doing
arrive_kinds m id r None = refl

outcome_kinds : (lost : Option Why) (d : Doing) → (is_some lost || not (waits d)) ≡ true → (d ≡ Dropped → ⊥) → is_waited (outcome lost d) ≡ true
outcome_kinds lost (Answered r) q n = refl
outcome_kinds (Some why) Waiting q n = refl
outcome_kinds None Waiting q n = absurd (cc)
outcome_kinds lost Dropped q n = absurd (n refl)

pub start_is : (by : ℕ) (q : Request) (r : MuxReply) → IsAnswer (Start by q) r → is_started r ≡ true
start_is by q r a = ap is_started a.3 ∙ start_kinds a.0 by q a.0.lost

pub cancel_is : (by id : ℕ) (r : MuxReply) → IsAnswer (Cancel by id) r → is_stopped r ≡ true
cancel_is by id r a = let m = a.0 in ap is_stopped a.3 ∙ cancel_kinds m id (call_at m.calls id)

pub next_is : (r : MuxReply) → IsAnswer Next r → is_upcoming r ≡ true
next_is r a = let m = a.0 in ap is_upcoming a.3 ∙ next_kinds m m.lost (slice_get m.sends m.sent)

pub arrived_is : (id : ℕ) (v : HeardReply) (r : MuxReply) → IsAnswer (Arrived id v) r → is_placed r ≡ true
arrived_is id v r a = let m = a.0 in ap is_placed a.3 ∙ arrive_kinds m id v (call_at m.calls id)

pub await_is : (by id : ℕ) (r : MuxReply) → IsAnswer (Await by id) r → is_waited r ≡ true
await_is by id r a = let m = a.0 in let s = a.2 in
    ap is_waited (a.3 ∙ ap (λ (z : Option Called). (awaited m id z).1) s.1)
    ∙ outcome_kinds m.lost s.0.doing (ap (λ (z : Option Called). is_some m.lost || not (is_waiting z)) (sym s.1) ∙ a.1) s.4

-- a loss and a caller that leaves are noted
pub lost_is : (cell : CellView Mux) (why : Why) (r : MuxReply) (old new : Sitting) → IsAnswer (Lost why) r → Makes cell (Lost why) r old new → Makes cell (Lost why) reply.Noted old new
lost_is cell why r old new a m = subst (λ (z : MuxReply). Makes cell (Lost why) z old new) a.3 m

pub left_is : (cell : CellView Mux) (by : ℕ) (r : MuxReply) (old new : Sitting) → IsAnswer (Left by) r → Makes cell (Left by) r old new → Makes cell (Left by) reply.Noted old new
left_is cell by r old new a m = subst (λ (z : MuxReply). Makes cell (Left by) z old new) a.3 m
