-- Each request that is to be sent is short enough.
use Rattle.std.proofs.Common.{◌≡◌, ℕ, List, [], ◌∷◌, ◌++◌, Option, Some, None, inl, inr, refl, sym, ap, ◌∙◌, subst}
use Rattle.std.specs.Prelude.{slice_get}
use Rattle.std.proofs.lemmas.Option.{none-some}
use Rattle.giop_messages.specs.Message.{Request}
use Rattle.client_mux.specs.declared.heard_reply.HeardReply.{HeardReply}
use Rattle.turn_cell.specs.History as history
use Rattle.turn_cell.specs.Seats.{CellView}
use Rattle.turn_cell.specs.Good.{entry}
use Rattle.client_mux.specs.declared.why.Why.{Why}
use Rattle.client_mux.specs.declared.call.MuxCall.{MuxCall}
use Rattle.client_mux.specs.declared.call.MuxCall.TheVariants.{Start, Cancel, Next, Arrived, Await, Lost, Left}
use Rattle.client_mux.specs.declared.call.MuxReply.TheVariants as reply
use Rattle.client_mux.specs.declared.called.Called.{Called}
use Rattle.client_mux.specs.declared.called.Doing.{Doing}
use Rattle.client_mux.specs.declared.called.Doing.TheVariants.{Waiting, Answered, Dropped}
use Rattle.client_mux.specs.declared.called.Sending.{Sending}
use Rattle.client_mux.specs.declared.called.Sending.TheVariants.{Send, Stop}
use Rattle.client_mux.specs.Machine.{Mux, One, History, call_at, started, stopped, cancelled, sending, given, matched, arrived, awaited, is_ready, IsSound, step, Opens}
use Rattle.client_mux.specs.Callers.{IsFit, IsShort, of}
use Rattle.client_mux.specs.Exchange.{IsLegal, AreFit, replay}
use Rattle.client_mux.specs.CallPlaces.{push_cases}
use Rattle.flat_seats.proofs.Along.{along, legal_prefix, answered_at}
use Rattle.shared_link.specs.declared.answers.Upcoming.{Upcoming}
use Rattle.shared_link.specs.declared.answers.Upcoming.TheVariants as upcoming
use Rattle.shared_link.specs.Link.{Sitting}
use Rattle.shared_link.specs.Turns.{Makes}
use Rattle.shared_link.specs.Replies.{upcoming_reply}
use Rattle.mux_sides.specs.Sending.{IsShortReply}

abbrev IsShortSending : Sending → Type 0
IsShortSending (Send id q) = IsShort q
IsShortSending (Stop id) = Unit {0}

abbrev AreShort : List Sending → Type 0
AreShort sends = (k : ℕ) (s : Sending) → slice_get sends k ≡ Some s → IsShortSending s

short_push : (sends : List Sending) (s : Sending) → IsShortSending s → AreShort sends → AreShort (sends ++ s ∷ [])
short_push sends s i a k z g = elim (push_cases sends k s z g) [ inl old ↦ a k z old | inr new ↦ subst IsShortSending new.1 i ]

start_short : (m : Mux) (by : ℕ) (q : Request) (lost : Option Why) → IsShort q → AreShort m.sends → AreShort (started m by q lost).0.sends
start_short m by q None i a = short_push m.sends (Send _ q) i a
start_short m by q (Some why) i a = a

stop_short : (m : Mux) (id : ℕ) (c : Called) (d : Doing) → AreShort m.sends → AreShort (stopped m id c d).0.sends
stop_short m id c Waiting a = short_push m.sends (Stop id) tt a
stop_short m id c (Answered r) a = a
stop_short m id c Dropped a = a

cancel_short : (m : Mux) (id : ℕ) (o : Option Called) → AreShort m.sends → AreShort (cancelled m id o).0.sends
cancel_short m id (Some c) a = stop_short m id c c.doing a
cancel_short m id None a = a

give_short : (m : Mux) (lost : Option Why) (o : Option Sending) → AreShort m.sends → AreShort (given m lost o).0.sends
give_short m None (Some s) a = a
give_short m None None a = a
give_short m (Some why) o a = a

match_short : (m : Mux) (id : ℕ) (r : HeardReply) (c : Called) (d : Doing) → AreShort m.sends → AreShort (matched m id r c d).0.sends
match_short m id r c Waiting a = a
match_short m id r c (Answered v) a = a
match_short m id r c Dropped a = a

arrive_short : (m : Mux) (id : ℕ) (r : HeardReply) (o : Option Called) → AreShort m.sends → AreShort (arrived m id r o).0.sends
arrive_short m id r (Some c) a = match_short m id r c c.doing a
arrive_short m id r None a = a

await_short : (m : Mux) (id : ℕ) (o : Option Called) → AreShort m.sends → AreShort (awaited m id o).0.sends
await_short m id (Some c) a = a
await_short m id None a = a

short_step : (x m : Mux) (n : ℕ) (mine : History) (call : MuxCall) → IsFit x n mine call → AreShort m.sends → AreShort (step m call).0.sends
short_step x m n mine (Start by q) f a = start_short m by q m.lost f.1.3 a
short_step x m n mine (Cancel by id) f a = cancel_short m id (call_at m.calls id) a
short_step x m n mine Next f a = give_short m m.lost (slice_get m.sends m.sent) a
short_step x m n mine (Arrived id r) f a = arrive_short m id r (call_at m.calls id) a
short_step x m n mine (Await by id) f a = await_short m id (call_at m.calls id) a
short_step x m n mine (Lost why) f a = a
short_step x m n mine (Left by) f a = a

abbrev SendsShort : History → Mux → Type 0
SendsShort h m = AreShort m.sends

all_short : (x : Mux) (h : History) → Opens x → IsLegal x h → AreFit x h → AreShort (replay x h).sends
all_short x h o l f =
    along is_ready IsSound step IsFit x SendsShort (λ h m e k r s w g. short_step x m e.caller (of e.caller h) e.call g k) [] h x
    (subst AreShort (sym o.unsent) (λ k s g. absurd (none-some s g))) l f

-- the entries before a place are fit
fit_first : (x : Mux) (before first after : History) → history.FitFrom IsFit x before (first ++ after) → history.FitFrom IsFit x before first
fit_first x before [] after f = tt
fit_first x before (e ∷ es) after f = (f.0, fit_first x (before ++ e ∷ []) es after f.1)

same_request : (i id : ℕ) (p q : Request) → reply.Send i p ≡ reply.Send id q → p ≡ q
same_request i id p q e = cc

sending_short : (s : Sending) (id : ℕ) (q : Request) → sending s ≡ reply.Send id q → IsShortSending s → IsShort q
sending_short (Send i p) id q e short = subst IsShort (same_request i id p q e) short
sending_short (Stop i) id q e short = absurd (cc)

gave_short : (m : Mux) (lost : Option Why) (o : Option Sending) (id : ℕ) (q : Request) → slice_get m.sends m.sent ≡ o → AreShort m.sends
    → (given m lost o).1 ≡ reply.Send id q → IsShort q
gave_short m None (Some s) id q g a e = sending_short s id q e (a m.sent s g)
gave_short m None None id q g a e = absurd (cc)
gave_short m (Some why) o id q g a e = absurd (cc)

pub given_short : (x : Mux) (before after : History) (e : One) (id : ℕ) (q : Request) → Opens x → IsLegal x (before ++ e ∷ after) → AreFit x (before ++ e ∷ after)
    → e.call ≡ Next → e.reply ≡ reply.Send id q → IsShort q
given_short x before after e id q o l f c r =
    let m = replay x before in
    let legal = legal_prefix is_ready IsSound step x before (e ∷ after) l in
    let answer : (step m e.call).1 ≡ reply.Send id q = sym (answered_at is_ready IsSound step x before after e l) ∙ r in
    let next : (step m Next).1 ≡ reply.Send id q = ap (λ (z : MuxCall). (step m z).1) (sym c) ∙ answer in
    gave_short m m.lost (slice_get m.sends m.sent) id q refl (all_short x before o legal (fit_first x [] before (e ∷ after) f)) next

-- what a seat's Next gave
pub next_short : (cell : CellView Mux) (u : Upcoming) (old new : Sitting) → Makes cell Next (upcoming_reply u) old new → IsShortReply (upcoming_reply u)
next_short cell (upcoming.Send id q) old new m =
    let before : History = old.seen ++ m.3.0 in
    let e : One = entry old.number Next (reply.Send id q) in
    given_short cell.terms.opening before [] e id q m.1.0.0 (subst (IsLegal cell.terms.opening) m.3.1 m.1.0.1) (subst (AreFit cell.terms.opening) m.3.1 m.1.0.2) refl refl
next_short cell (upcoming.Stop id) old new m = tt
next_short cell upcoming.Finish old new m = tt
