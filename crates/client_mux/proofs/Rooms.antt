-- How long the lists of the link grow.
use Rattle.std.proofs.Common.{◌≡◌, ℕ, ◌+◌, ◌*◌, ◌<◌, ◌≤◌, Bool, true, false, cond, List, [], ◌∷◌, ◌++◌, length, Option, Some, None, refl, ap, ◌∙◌, arith}
use Rattle.std.specs.Prelude.{slice_get}
use Rattle.std.specs.List.{sum_by}
use Rattle.std.proofs.lemmas.List.{length-append}
use Rattle.std.proofs.lemmas.List.Sums.{sum_by_push}
use Rattle.giop_messages.specs.Message.{Request}
use Rattle.client_mux.specs.declared.heard_reply.HeardReply.{HeardReply}
use Rattle.client_mux.specs.declared.why.Why.{Why}
use Rattle.client_mux.specs.declared.call.MuxReply.TheVariants as reply
use Rattle.client_mux.specs.declared.call.MuxCall.{MuxCall}
use Rattle.client_mux.specs.declared.call.MuxCall.TheVariants.{Start, Cancel, Next, Arrived, Await, Lost, Left}
use Rattle.client_mux.specs.declared.called.Called.{Called}
use Rattle.client_mux.specs.declared.called.Doing.{Doing}
use Rattle.client_mux.specs.declared.called.Doing.TheVariants.{Waiting, Answered, Dropped}
use Rattle.client_mux.specs.Machine.{Mux, One, History, call_at, new_call, started, stopped, cancelled, matched, arrived, awaited, is_ready, IsSound, step, Opens}
use Rattle.client_mux.specs.Callers.{IsFit, MayCall, IsCaller, of, writer, reader, is_start, is_left, starts, lefts}
use Rattle.client_mux.specs.Exchange.{IsLegal, AreFit, replay}
use Rattle.client_mux.specs.Counting.{queues, queued}
use Rattle.client_mux.specs.CallPlaces.{length_set}
use Rattle.client_mux.specs.SeatLaws.{next_calls, start_left, cancel_left, next_left, arrive_left, await_left}
use Rattle.client_mux.proofs.Sums.{in_all, all_most}
use Rattle.client_mux.proofs.Length.{CallerHas, callers_have, within_by, counted, sent}
use Rattle.flat_seats.proofs.Along.{along_legal, fit_along, fit_push}

start_calls : (m : Mux) (by : ℕ) (r : Request) (lost : Option Why) → length (started m by r lost).0.calls ≤ length m.calls + 1
start_calls m by r None = let a = length-append m.calls (new_call by ∷ []) in let b : length (new_call by ∷ []) ≡ 1 = refl in omega arith
start_calls m by r (Some why) = omega arith

stop_calls : (m : Mux) (id : ℕ) (c : Called) (d : Doing) → length (stopped m id c d).0.calls ≡ length m.calls
stop_calls m id c Waiting = length_set m.calls id (record c { doing = Dropped; cancelled = true })
stop_calls m id c (Answered v) = length_set m.calls id (record c { cancelled = true })
stop_calls m id c Dropped = length_set m.calls id (record c { cancelled = true })

cancel_calls : (m : Mux) (id : ℕ) (o : Option Called) → length (cancelled m id o).0.calls ≡ length m.calls
cancel_calls m id (Some c) = stop_calls m id c c.doing
cancel_calls m id None = refl

match_calls : (m : Mux) (id : ℕ) (r : HeardReply) (c : Called) (d : Doing) → length (matched m id r c d).0.calls ≡ length m.calls
match_calls m id r c Waiting = length_set m.calls id (record c { doing = Answered r })
match_calls m id r c (Answered v) = refl
match_calls m id r c Dropped = refl

arrive_calls : (m : Mux) (id : ℕ) (r : HeardReply) (o : Option Called) → length (arrived m id r o).0.calls ≡ length m.calls
arrive_calls m id r (Some c) = match_calls m id r c c.doing
arrive_calls m id r None = refl

await_calls : (m : Mux) (id : ℕ) (o : Option Called) → length (awaited m id o).0.calls ≡ length m.calls
await_calls m id (Some c) = length_set m.calls id (record c { awaited = true })
await_calls m id None = refl

abbrev one_if : Bool → ℕ
one_if b = cond {A = ℕ} b 1 0

calls_most : (m : Mux) (call : MuxCall) → length (step m call).0.calls ≤ length m.calls + one_if (is_start call)
calls_most m (Start by r) = start_calls m by r m.lost
calls_most m (Cancel by id) = let a = cancel_calls m id (call_at m.calls id) in omega arith
calls_most m Next = let a : length (step m Next).0.calls ≡ length m.calls = ap length (next_calls m m.lost (slice_get m.sends m.sent)) in omega arith
calls_most m (Arrived id r) = let a = arrive_calls m id r (call_at m.calls id) in omega arith
calls_most m (Await by id) = let a = await_calls m id (call_at m.calls id) in omega arith
calls_most m (Lost why) = omega arith
calls_most m (Left by) = omega arith

same_length : (xs ys : List ℕ) → xs ≡ ys → length xs ≤ length ys + 0
same_length xs ys p = let a : length xs ≡ length ys = ap length p in omega arith

left_most : (m : Mux) (call : MuxCall) → length (step m call).0.left ≤ length m.left + one_if (is_left call)
left_most m (Start by r) = same_length (step m (Start by r)).0.left m.left (start_left m by r m.lost)
left_most m (Cancel by id) = same_length (step m (Cancel by id)).0.left m.left (cancel_left m id (call_at m.calls id))
left_most m Next = same_length (step m Next).0.left m.left (next_left m m.lost (slice_get m.sends m.sent))
left_most m (Arrived id r) = same_length (step m (Arrived id r)).0.left m.left (arrive_left m id r (call_at m.calls id))
left_most m (Await by id) = same_length (step m (Await by id)).0.left m.left (await_left m id (call_at m.calls id))
left_most m (Lost why) = same_length m.left m.left refl
left_most m (Left by) = let a = length-append m.left (by ∷ []) in let b : length (by ∷ []) ≡ 1 = refl in omega arith

record Grown (h : History) (m : Mux) : Type 0 where
  calls : length m.calls ≤ starts h
  left : length m.left ≤ lefts h

grown_step : (h : History) (m : Mux) (e : One) → Grown h m → Grown (h ++ e ∷ []) (step m e.call).0
grown_step h m e k = let a = k.calls in let b = k.left in let c = calls_most m e.call in let d = left_most m e.call in
    let s = counted is_start h e e.call refl in let t = counted is_left h e e.call refl in record { calls = omega arith; left = omega arith }

grown : (x : Mux) (h : History) → Opens x → IsLegal x h → Grown h (replay x h)
grown x h o l = along_legal is_ready IsSound step Grown (λ h m e k r s w. grown_step h m e k) [] h x
    (let a : length x.calls ≡ 0 = ap length o.uncalled in let b : length x.left ≡ 0 = ap length o.stay in record { calls = omega arith; left = omega arith }) l

-- writer and reader start nothing
record NoneHas (mine : History) : Type 0 where
  no_starts : starts mine ≡ 0
  no_lefts : lefts mine ≡ 0
  no_sends : queued mine ≡ 0

no_caller : {A : Type 0} (x : Mux) (n : ℕ) → x.callers < n → IsCaller x n → A
no_caller x n l c = let a = c.1 in absurd (omega arith)

none_more : (mine : History) (e : One) (call : MuxCall) → e.call ≡ call → is_start call ≡ false → is_left call ≡ false → queues e.call e.reply ≡ 0 → NoneHas mine → NoneHas (mine ++ e ∷ [])
none_more mine e call p s l q k =
    let a : starts (mine ++ e ∷ []) ≡ starts mine + 0 = counted is_start mine e call p ∙ ap (λ (z : Bool). starts mine + one_if z) s in
    let b : lefts (mine ++ e ∷ []) ≡ lefts mine + 0 = counted is_left mine e call p ∙ ap (λ (z : Bool). lefts mine + one_if z) l in
    let c = sum_by_push (λ (y : One). queues y.call y.reply) mine e in
    let u = k.no_starts in let v = k.no_lefts in let w = k.no_sends in record { no_starts = omega arith; no_lefts = omega arith; no_sends = omega arith }

none_step : (x : Mux) (n : ℕ) (mine : History) (e : One) (call : MuxCall) → e.call ≡ call → x.callers < n → MayCall x n mine call → NoneHas mine → NoneHas (mine ++ e ∷ [])
none_step x n mine e (Start by r) p c f k = no_caller x n c f.0
none_step x n mine e (Cancel by id) p c f k = no_caller x n c f.0
none_step x n mine e (Await by id) p c f k = no_caller x n c f.0
none_step x n mine e (Left by) p c f k = no_caller x n c f.0
none_step x n mine e Next p c f k = none_more mine e Next p refl refl (ap (λ (z : MuxCall). queues z e.reply) p) k
none_step x n mine e (Arrived id r) p c f k = none_more mine e (Arrived id r) p refl refl (ap (λ (z : MuxCall). queues z e.reply) p) k
none_step x n mine e (Lost why) p c f k = none_more mine e (Lost why) p refl refl (ap (λ (z : MuxCall). queues z e.reply) p) k

none_has : (x : Mux) (h : History) → AreFit x h → (n : ℕ) → x.callers < n → NoneHas (of n h)
none_has x h f n = fit_along IsFit x (λ (n : ℕ) (mine : History). x.callers < n → NoneHas mine) (λ n mine e g k c. none_step x n mine e e.call refl c g.1 (k c)) [] h
    (λ n c. record { no_starts = refl; no_lefts = refl; no_sends = refl }) f n

-- a sum that each caller bounds, and writer and reader have none of
summed : (weight : One → ℕ) (x : Mux) (h : History) (most : ℕ) → AreFit x h → ((mine : History) → CallerHas mine → sum_by weight mine ≤ most) → ((mine : History) → NoneHas mine → sum_by weight mine ≡ 0) → sum_by weight h ≤ x.callers * most
summed weight x h most f c n =
    let a = in_all weight 1 x.callers h (within_by weight x [] h f) in
    let w = n (of (writer x) h) (none_has x h f (writer x) (omega arith)) in let r = n (of (reader x) h) (none_has x h f (reader x) (omega arith)) in
    let b = all_most weight 1 x.callers most 0 (writer x) (reader x) h (omega arith) (omega arith) (λ k l u. c (of k h) (callers_have x h f k (l, omega arith))) (omega arith) in omega arith

caller_sends : (mine : History) → CallerHas mine → queued mine ≤ 128
caller_sends mine k = let a = k.sends in let b = k.few_starts in let c = k.cancel_room.1 in omega arith

starts_most : (x : Mux) (h : History) → x.callers ≤ 16 → AreFit x h → starts h ≤ 1024
starts_most x h few f = let a : starts h ≤ x.callers * 64 = summed (λ (e : One). one_if (is_start e.call)) x h 64 f (λ mine k. k.few_starts) (λ mine k. k.no_starts) in omega arith

lefts_most : (x : Mux) (h : History) → x.callers ≤ 16 → AreFit x h → lefts h ≤ 16
lefts_most x h few f = let a : lefts h ≤ x.callers * 1 = summed (λ (e : One). one_if (is_left e.call)) x h 1 f (λ mine k. k.few_lefts) (λ mine k. k.no_lefts) in omega arith

queued_most : (x : Mux) (h : History) → x.callers ≤ 16 → AreFit x h → queued h ≤ 2048
queued_most x h few f = let a : queued h ≤ x.callers * 128 = summed (λ (e : One). queues e.call e.reply) x h 128 f caller_sends (λ mine k. k.no_sends) in omega arith

pub few_calls : (x : Mux) (h : History) → Opens x → IsLegal x h → AreFit x h → length (replay x h).calls ≤ 1024
few_calls x h o l f = let a = (grown x h o l).calls in let b = starts_most x h o.few f in omega arith

pub few_left : (x : Mux) (h : History) → Opens x → IsLegal x h → AreFit x h → length (replay x h).left ≤ 16
few_left x h o l f = let a = (grown x h o l).left in let b = lefts_most x h o.few f in omega arith

pub few_sends : (x : Mux) (h : History) → Opens x → IsLegal x h → AreFit x h → length (replay x h).sends ≤ 2048
few_sends x h o l f = let a = (sent x h o l).sends in let b = queued_most x h o.few f in omega arith

-- and a Start has room
start_both : (x : Mux) (h : History) (n by : ℕ) (r : Request) → Opens x → IsLegal x h → AreFit x h → IsFit x n (of n h) (Start by r) → (length (replay x h).calls < 1024) × (length (replay x h).sends < 2048)
start_both x h n by r o l f g =
    let e : One = record { caller = n; call = Start by r; reply = reply.Id 0 } in let a = (grown x h o l).calls in let b = (sent x h o l).sends in
    let s : starts (h ++ e ∷ []) ≡ starts h + 1 = counted is_start h e (Start by r) refl in
    let q : queued (h ++ e ∷ []) ≡ queued h + 1 = sum_by_push (λ (y : One). queues y.call y.reply) h e in
    let c = starts_most x (h ++ e ∷ []) o.few (fit_push IsFit x [] h e f g) in let d = queued_most x (h ++ e ∷ []) o.few (fit_push IsFit x [] h e f g) in (omega arith, omega arith)

pub start_has_call : (x : Mux) (h : History) (n by : ℕ) (r : Request) → Opens x → IsLegal x h → AreFit x h → IsFit x n (of n h) (Start by r) → length (replay x h).calls < 1024
start_has_call x h n by r o l f g = (start_both x h n by r o l f g).0

pub start_has_send : (x : Mux) (h : History) (n by : ℕ) (r : Request) → Opens x → IsLegal x h → AreFit x h → IsFit x n (of n h) (Start by r) → length (replay x h).sends < 2048
start_has_send x h n by r o l f g = (start_both x h n by r o l f g).1

pub cancel_has_room : (x : Mux) (h : History) (n by id : ℕ) → Opens x → IsLegal x h → AreFit x h → IsFit x n (of n h) (Cancel by id) → length (replay x h).sends < 2048
cancel_has_room x h n by id o l f g =
    let e : One = record { caller = n; call = Cancel by id; reply = reply.Cancelled } in let b = (sent x h o l).sends in
    let q : queued (h ++ e ∷ []) ≡ queued h + 1 = sum_by_push (λ (y : One). queues y.call y.reply) h e in
    let d = queued_most x (h ++ e ∷ []) o.few (fit_push IsFit x [] h e f g) in omega arith

pub left_has_room : (x : Mux) (h : History) (n by : ℕ) → Opens x → IsLegal x h → AreFit x h → IsFit x n (of n h) (Left by) → length (replay x h).left < 16
left_has_room x h n by o l f g =
    let e : One = record { caller = n; call = Left by; reply = reply.Noted } in let b = (grown x h o l).left in
    let q : lefts (h ++ e ∷ []) ≡ lefts h + 1 = counted is_left h e (Left by) refl in
    let d = lefts_most x (h ++ e ∷ []) o.few (fit_push IsFit x [] h e f g) in omega arith
