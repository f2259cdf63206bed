-- Who finds the link lost gets the cause of the first loss.
use Rattle.std.proofs.Common.{◌≡◌, ℕ, [], ◌∷◌, ◌++◌, Option, Some, None, sym, refl, ap, ◌∙◌}
use Rattle.std.specs.Prelude.{slice_get}
use Rattle.giop_messages.specs.Message.{Request}
use Rattle.client_mux.specs.declared.heard_reply.HeardReply.{HeardReply}
use Rattle.client_mux.specs.declared.why.Why.{Why}
use Rattle.client_mux.specs.declared.call.MuxReply.TheVariants as reply
use Rattle.client_mux.specs.declared.call.MuxCall.{MuxCall}
use Rattle.client_mux.specs.declared.call.MuxCall.TheVariants.{Start, Cancel, Next, Arrived, Await, Lost, Left}
use Rattle.client_mux.specs.declared.called.Called.{Called}
use Rattle.client_mux.specs.declared.called.Doing.{Doing}
use Rattle.client_mux.specs.declared.called.Doing.TheVariants.{Waiting, Answered, Dropped}
use Rattle.client_mux.specs.declared.called.Sending.{Sending}
use Rattle.client_mux.specs.declared.called.Sending.TheVariants.{Send, Stop}
use Rattle.client_mux.specs.Machine.{Mux, One, History, call_at, started, stopped, cancelled, sending, given, matched, arrived, gone, outcome, awaited, first, is_ready, IsSound, step, Opens}
use Rattle.client_mux.specs.Exchange.{IsLegal, replay, loss_or, first_loss}
use Rattle.client_mux.proofs.Either.{or_else, or_none}
use Rattle.flat_seats.proofs.Along.{along_legal, legal_prefix, answered_at}

loss_else : (call : MuxCall) (o b : Option Why) → loss_or call (or_else o b) ≡ or_else (loss_or call o) b
loss_else (Lost why) o b = refl
loss_else (Start by r) o b = refl
loss_else (Cancel by id) o b = refl
loss_else Next o b = refl
loss_else (Arrived id r) o b = refl
loss_else (Await by id) o b = refl
loss_else (Left by) o b = refl

pub loss_push : (h : History) (e : One) → first_loss (h ++ e ∷ []) ≡ or_else (first_loss h) (loss_or e.call None)
loss_push [] e = refl
loss_push (d ∷ ds) e = ap (loss_or d.call) (loss_push ds e) ∙ loss_else d.call (first_loss ds) (loss_or e.call None)

start_lost : (m : Mux) (by : ℕ) (r : Request) (lost : Option Why) → (started m by r lost).0.lost ≡ m.lost
start_lost m by r None = refl
start_lost m by r (Some why) = refl

stop_lost : (m : Mux) (id : ℕ) (c : Called) (d : Doing) → (stopped m id c d).0.lost ≡ m.lost
stop_lost m id c Waiting = refl
stop_lost m id c (Answered r) = refl
stop_lost m id c Dropped = refl

cancel_lost : (m : Mux) (id : ℕ) (o : Option Called) → (cancelled m id o).0.lost ≡ m.lost
cancel_lost m id (Some c) = stop_lost m id c c.doing
cancel_lost m id None = refl

next_lost : (m : Mux) (lost : Option Why) (o : Option Sending) → (given m lost o).0.lost ≡ m.lost
next_lost m None (Some s) = refl
next_lost m None None = refl
next_lost m (Some why) o = refl

match_lost : (m : Mux) (id : ℕ) (r : HeardReply) (c : Called) (d : Doing) → (matched m id r c d).0.lost ≡ m.lost
match_lost m id r c Waiting = refl
match_lost m id r c (Answered v) = refl
match_lost m id r c Dropped = refl

arrive_lost : (m : Mux) (id : ℕ) (r : HeardReply) (o : Option Called) → (arrived m id r o).0.lost ≡ m.lost
arrive_lost m id r (Some c) = match_lost m id r c c.doing
arrive_lost m id r None = refl

await_lost : (m : Mux) (id : ℕ) (o : Option Called) → (awaited m id o).0.lost ≡ m.lost
await_lost m id (Some c) = refl
await_lost m id None = refl

first_else : (o : Option Why) (why : Why) → first o why ≡ or_else o (Some why)
first_else (Some a) why = refl
first_else None why = refl

-- the loss after a call
lost_by : (m : Mux) (call : MuxCall) → (step m call).0.lost ≡ or_else m.lost (loss_or call None)
lost_by m (Start by r) = start_lost m by r m.lost ∙ sym (or_none m.lost)
lost_by m (Cancel by id) = cancel_lost m id (call_at m.calls id) ∙ sym (or_none m.lost)
lost_by m Next = next_lost m m.lost (slice_get m.sends m.sent) ∙ sym (or_none m.lost)
lost_by m (Arrived id r) = arrive_lost m id r (call_at m.calls id) ∙ sym (or_none m.lost)
lost_by m (Await by id) = await_lost m id (call_at m.calls id) ∙ sym (or_none m.lost)
lost_by m (Lost why) = first_else m.lost why
lost_by m (Left by) = sym (or_none m.lost)

abbrev IsFirst : History → Mux → Type 0
IsFirst h m = m.lost ≡ first_loss h

pub lost_is : (x : Mux) (h : History) → Opens x → IsLegal x h → (replay x h).lost ≡ first_loss h
lost_is x h o l = along_legal is_ready IsSound step IsFirst (λ h m e k r s w. lost_by m e.call ∙ (ap (λ (z : Option Why). or_else z (loss_or e.call None)) k ∙ sym (loss_push h e))) [] h x o.works l

-- who is outcome Gone is outcome the loss
gone_is : (a b : Why) → reply.Gone a ≡ reply.Gone b → a ≡ b
gone_is a b e = cc

gone_by : (lost : Option Why) (why : Why) → gone lost ≡ reply.Gone why → lost ≡ Some why
gone_by (Some w) why e = ap Some (gone_is w why e)
gone_by None why e = absurd (cc)

outcome_gone : (lost : Option Why) (d : Doing) (why : Why) → outcome lost d ≡ reply.Gone why → lost ≡ Some why
outcome_gone lost (Answered r) why e = absurd (cc)
outcome_gone lost Waiting why e = gone_by lost why e
outcome_gone lost Dropped why e = gone_by lost why e

start_gone : (m : Mux) (by : ℕ) (r : Request) (lost : Option Why) (why : Why) → (started m by r lost).1 ≡ reply.Gone why → lost ≡ Some why
start_gone m by r None why e = absurd (cc)
start_gone m by r (Some w) why e = ap Some (gone_is w why e)

stop_gone : (m : Mux) (id : ℕ) (c : Called) (d : Doing) (why : Why) → (stopped m id c d).1 ≡ reply.Gone why → ⊥
stop_gone m id c Waiting why e = cc
stop_gone m id c (Answered r) why e = cc
stop_gone m id c Dropped why e = cc

cancel_gone : (m : Mux) (id : ℕ) (o : Option Called) (why : Why) → (cancelled m id o).1 ≡ reply.Gone why → ⊥
cancel_gone m id (Some c) why e = stop_gone m id c c.doing why e
cancel_gone m id None why e = cc

send_gone : (s : Sending) (why : Why) → sending s ≡ reply.Gone why → ⊥
send_gone (Send id r) why e = cc
send_gone (Stop id) why e = cc

next_gone : (m : Mux) (lost : Option Why) (o : Option Sending) (why : Why) → (given m lost o).1 ≡ reply.Gone why → ⊥
next_gone m None (Some s) why e = send_gone s why e
next_gone m None None why e = cc
next_gone m (Some w) o why e = cc

match_gone : (m : Mux) (id : ℕ) (r : HeardReply) (c : Called) (d : Doing) (why : Why) → (matched m id r c d).1 ≡ reply.Gone why → ⊥
match_gone m id r c Waiting why e = cc
match_gone m id r c (Answered v) why e = cc
match_gone m id r c Dropped why e = cc

arrive_gone : (m : Mux) (id : ℕ) (r : HeardReply) (o : Option Called) (why : Why) → (arrived m id r o).1 ≡ reply.Gone why → ⊥
arrive_gone m id r (Some c) why e = match_gone m id r c c.doing why e
arrive_gone m id r None why e = cc

await_gone : (m : Mux) (id : ℕ) (o : Option Called) (why : Why) → (awaited m id o).1 ≡ reply.Gone why → m.lost ≡ Some why
await_gone m id (Some c) why e = outcome_gone m.lost c.doing why e
await_gone m id None why e = gone_by m.lost why e

gone_is_lost : (m : Mux) (call : MuxCall) (why : Why) → (step m call).1 ≡ reply.Gone why → m.lost ≡ Some why
gone_is_lost m (Start by r) why e = start_gone m by r m.lost why e
gone_is_lost m (Cancel by id) why e = absurd (cancel_gone m id (call_at m.calls id) why e)
gone_is_lost m Next why e = absurd (next_gone m m.lost (slice_get m.sends m.sent) why e)
gone_is_lost m (Arrived id r) why e = absurd (arrive_gone m id r (call_at m.calls id) why e)
gone_is_lost m (Await by id) why e = await_gone m id (call_at m.calls id) why e
gone_is_lost m (Lost w) why e = absurd (cc)
gone_is_lost m (Left by) why e = absurd (cc)

pub gone_is_first : (x : Mux) (before after : History) (e : One) (why : Why) → Opens x → IsLegal x (before ++ e ∷ after) → e.reply ≡ reply.Gone why → first_loss before ≡ Some why
gone_is_first x before after e why o l r =
    sym (lost_is x before o (legal_prefix is_ready IsSound step x before (e ∷ after) l)) ∙ gone_is_lost (replay x before) e.call why (sym (answered_at is_ready IsSound step x before after e l) ∙ r)
