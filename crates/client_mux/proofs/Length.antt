-- The law of length.
use Rattle.std.proofs.Common.{◌≡◌, ℕ, ◌+◌, ◌<◌, ◌≤◌, Bool, true, false, cond, ◌==◌, ◌||◌, List, [], ◌∷◌, ◌++◌, length, Option, Some, None, inl, inr, sym, refl, ap, ◌∙◌, arith, eq-eqb}
use Rattle.std.specs.Prelude.{slice_get}
use Rattle.std.specs.List.{sum_by, count_by, list_any}
use Rattle.std.proofs.lemmas.Bool.{or_parts, or_left, or_right, both_ways}
use Rattle.std.proofs.lemmas.List.{length-append}
use Rattle.std.proofs.lemmas.List.Sums.{sum_by_push}
use Rattle.std.proofs.lemmas.Option.{slice_get_within}
use Rattle.turn_cell.specs.History as history
use Rattle.giop_messages.specs.Message.{Request}
use Rattle.client_mux.specs.declared.heard_reply.HeardReply.{HeardReply}
use Rattle.client_mux.specs.declared.why.Why.{Why}
use Rattle.client_mux.specs.declared.call.MuxReply.{MuxReply}
use Rattle.client_mux.specs.declared.call.MuxReply.TheVariants as reply
use Rattle.client_mux.specs.declared.call.MuxCall.{MuxCall}
use Rattle.client_mux.specs.declared.call.MuxCall.TheVariants.{Start, Cancel, Next, Arrived, Await, Lost, Left}
use Rattle.client_mux.specs.declared.called.Called.{Called}
use Rattle.client_mux.specs.declared.called.Doing.{Doing}
use Rattle.client_mux.specs.declared.called.Doing.TheVariants.{Waiting, Answered, Dropped}
use Rattle.client_mux.specs.declared.called.Sending.{Sending}
use Rattle.client_mux.specs.declared.called.Sending.TheVariants.{Send, Stop}
use Rattle.client_mux.specs.Machine.{Mux, One, History, call_at, started, stopped, cancelled, sending, matched, arrived, awaited, is_ready, IsSound, step, Opens}
use Rattle.client_mux.specs.Machine as machine
use Rattle.client_mux.specs.Callers.{IsFit, MayCall, IsCaller, of, writer, reader, is_start, is_cancel, is_await, is_arrived, is_lost, is_left, starts_as, cancels, awaits, finishes, owns, starts, arrivals, losses, lefts, finished}
use Rattle.client_mux.specs.Exchange.{IsLegal, AreFit, replay}
use Rattle.client_mux.specs.Counting.{queues, gives, queued, given}
use Rattle.client_mux.proofs.Sums.{Within, in_all, all_most, part, each_one, has, drop_one, drop_length, drop_has}
use Rattle.flat_seats.proofs.Own.{any_push, push_back, count_push}
use Rattle.flat_seats.proofs.Along.{along_legal, fit_along, fit_push}

pub counted : (p : MuxCall → Bool) (mine : History) (e : One) (call : MuxCall) → e.call ≡ call → count_by (λ (y : One). p y.call) (mine ++ e ∷ []) ≡ count_by (λ (y : One). p y.call) mine + cond {A = ℕ} (p call) 1 0
counted p mine e call c = count_push (λ (y : One). p y.call) mine e ∙ ap (λ (z : MuxCall). count_by (λ (y : One). p y.call) mine + cond {A = ℕ} (p z) 1 0) c

-- as many things are given out as were sent to the queue, at most
pub record Sent (h : History) (m : Mux) : Type 0 where
  pub sent : m.sent ≡ given h
  pub sends : length m.sends ≡ queued h
  pub room : m.sent ≤ length m.sends

moves : (h : History) (m m' : Mux) (e : One) (a b : ℕ) → gives e.call e.reply ≡ a → queues e.call e.reply ≡ b → m'.sent ≡ m.sent + a → length m'.sends ≡ length m.sends + b → m'.sent ≤ length m'.sends → Sent h m → Sent (h ++ e ∷ []) m'
moves h m m' e a b p q s t r k = let u = k.sent in let v = k.sends in
    let c = sum_by_push (λ (y : One). gives y.call y.reply) h e in let d = sum_by_push (λ (y : One). queues y.call y.reply) h e in record { sent = omega arith; sends = omega arith; room = r }

by_both : (f : MuxCall → MuxReply → ℕ) (e : One) (call : MuxCall) (r : MuxReply) → e.call ≡ call → e.reply ≡ r → f e.call e.reply ≡ f call r
by_both f e call r c p = λ i. f (c i) (p i)

-- nothing is queued or given
rests : (h : History) (m m' : Mux) (e : One) → gives e.call e.reply ≡ 0 → queues e.call e.reply ≡ 0 → m'.sent ≡ m.sent → m'.sends ≡ m.sends → Sent h m → Sent (h ++ e ∷ []) m'
rests h m m' e p q s t k = let l = k.room in let n : length m'.sends ≡ length m.sends = ap length t in moves h m m' e 0 0 p q (omega arith) (omega arith) (omega arith) k

-- one thing is queued
more : (h : History) (m m' : Mux) (e : One) (s : Sending) → gives e.call e.reply ≡ 0 → queues e.call e.reply ≡ 1 → m'.sent ≡ m.sent → m'.sends ≡ m.sends ++ s ∷ [] → Sent h m → Sent (h ++ e ∷ []) m'
more h m m' e s p q u t k = let l = k.room in let n : length m'.sends ≡ length (m.sends ++ s ∷ []) = ap length t in let o : length (m.sends ++ s ∷ []) ≡ length m.sends + 1 = length-append m.sends (s ∷ []) in
    moves h m m' e 0 1 p q (omega arith) (omega arith) (omega arith) k

start_sent : (h : History) (m : Mux) (e : One) (by : ℕ) (r : Request) (lost : Option Why) → e.call ≡ Start by r → e.reply ≡ (started m by r lost).1 → Sent h m → Sent (h ++ e ∷ []) (started m by r lost).0
start_sent h m e by r None c w k = more h m (started m by r None).0 e (Send (length m.calls + 1) r) (by_both gives e (Start by r) (reply.Id (length m.calls + 1)) c w) (by_both queues e (Start by r) (reply.Id (length m.calls + 1)) c w) refl refl k
start_sent h m e by r (Some why) c w k = rests h m m e (by_both gives e (Start by r) (reply.Gone why) c w) (by_both queues e (Start by r) (reply.Gone why) c w) refl refl k

stop_sent : (h : History) (m : Mux) (e : One) (by id : ℕ) (c : Called) (d : Doing) → e.call ≡ Cancel by id → e.reply ≡ (stopped m id c d).1 → Sent h m → Sent (h ++ e ∷ []) (stopped m id c d).0
stop_sent h m e by id c Waiting p w k = more h m (stopped m id c Waiting).0 e (Stop id) (by_both gives e (Cancel by id) reply.Cancelled p w) (by_both queues e (Cancel by id) reply.Cancelled p w) refl refl k
stop_sent h m e by id c (Answered v) p w k = rests h m (stopped m id c (Answered v)).0 e (by_both gives e (Cancel by id) reply.TooLate p w) (by_both queues e (Cancel by id) reply.TooLate p w) refl refl k
stop_sent h m e by id c Dropped p w k = rests h m (stopped m id c Dropped).0 e (by_both gives e (Cancel by id) reply.TooLate p w) (by_both queues e (Cancel by id) reply.TooLate p w) refl refl k

cancel_sent : (h : History) (m : Mux) (e : One) (by id : ℕ) (o : Option Called) → e.call ≡ Cancel by id → e.reply ≡ (cancelled m id o).1 → Sent h m → Sent (h ++ e ∷ []) (cancelled m id o).0
cancel_sent h m e by id (Some c) p w k = stop_sent h m e by id c c.doing p w k
cancel_sent h m e by id None p w k = rests h m m e (by_both gives e (Cancel by id) reply.TooLate p w) (by_both queues e (Cancel by id) reply.TooLate p w) refl refl k

gives_one : (s : Sending) → gives Next (sending s) ≡ 1
gives_one (Send id r) = refl
gives_one (Stop id) = refl

next_sent : (h : History) (m : Mux) (e : One) (lost : Option Why) (o : Option Sending) → slice_get m.sends m.sent ≡ o → e.call ≡ Next → e.reply ≡ (machine.given m lost o).1 → Sent h m → Sent (h ++ e ∷ []) (machine.given m lost o).0
next_sent h m e None (Some s) g p w k = let l = slice_get_within m.sends m.sent s g in
    moves h m (machine.given m None (Some s)).0 e 1 0 (by_both gives e Next (sending s) p w ∙ gives_one s) (by_both queues e Next (sending s) p w) refl (let z : length m.sends ≡ length m.sends + 0 = omega arith in z) (let z : m.sent + 1 ≤ length m.sends = omega arith in z) k
next_sent h m e None None g p w k = rests h m m e (by_both gives e Next reply.Finish p w) (by_both queues e Next reply.Finish p w) refl refl k
next_sent h m e (Some why) o g p w k = rests h m m e (by_both gives e Next reply.Finish p w) (by_both queues e Next reply.Finish p w) refl refl k

match_sends : (m : Mux) (id : ℕ) (r : HeardReply) (c : Called) (d : Doing) → ((matched m id r c d).0.sent ≡ m.sent) × ((matched m id r c d).0.sends ≡ m.sends)
match_sends m id r c Waiting = (refl, refl)
match_sends m id r c (Answered v) = (refl, refl)
match_sends m id r c Dropped = (refl, refl)

arrive_sends : (m : Mux) (id : ℕ) (r : HeardReply) (o : Option Called) → ((arrived m id r o).0.sent ≡ m.sent) × ((arrived m id r o).0.sends ≡ m.sends)
arrive_sends m id r (Some c) = match_sends m id r c c.doing
arrive_sends m id r None = (refl, refl)

await_sends : (m : Mux) (id : ℕ) (o : Option Called) → ((awaited m id o).0.sent ≡ m.sent) × ((awaited m id o).0.sends ≡ m.sends)
await_sends m id (Some c) = (refl, refl)
await_sends m id None = (refl, refl)

sent_step : (h : History) (m : Mux) (e : One) (call : MuxCall) → e.call ≡ call → e.reply ≡ (step m call).1 → Sent h m → Sent (h ++ e ∷ []) (step m call).0
sent_step h m e (Start by r) p w k = start_sent h m e by r m.lost p w k
sent_step h m e (Cancel by id) p w k = cancel_sent h m e by id (call_at m.calls id) p w k
sent_step h m e Next p w k = next_sent h m e m.lost (slice_get m.sends m.sent) refl p w k
sent_step h m e (Arrived id r) p w k = let s = arrive_sends m id r (call_at m.calls id) in rests h m (step m (Arrived id r)).0 e (ap (λ (z : MuxCall). gives z e.reply) p) (ap (λ (z : MuxCall). queues z e.reply) p) s.0 s.1 k
sent_step h m e (Await by id) p w k = let s = await_sends m id (call_at m.calls id) in rests h m (step m (Await by id)).0 e (ap (λ (z : MuxCall). gives z e.reply) p) (ap (λ (z : MuxCall). queues z e.reply) p) s.0 s.1 k
sent_step h m e (Lost why) p w k = rests h m (step m (Lost why)).0 e (ap (λ (z : MuxCall). gives z e.reply) p) (ap (λ (z : MuxCall). queues z e.reply) p) refl refl k
sent_step h m e (Left by) p w k = rests h m (step m (Left by)).0 e (ap (λ (z : MuxCall). gives z e.reply) p) (ap (λ (z : MuxCall). queues z e.reply) p) refl refl k

pub sent : (x : Mux) (h : History) → Opens x → IsLegal x h → Sent h (replay x h)
sent x h o l = along_legal is_ready IsSound step Sent (λ h m e k r s w. sent_step h m e e.call refl w k) [] h x
    (let a : length x.sends ≡ 0 = ap length o.unsent in let b = o.none_sent in record { sent = b; sends = a; room = omega arith }) l

-- each call that names an id names another: as many ids as these calls lack are free
abbrev pub Room : (ℕ → MuxCall → Bool) → (MuxCall → Bool) → History → Type 0
Room named is mine = (free : List ℕ) × (length free + count_by (λ (y : One). is y.call) mine ≤ starts mine)
    × ((z : ℕ) → owns z mine ≡ true → list_any (λ (y : One). named z y.call) mine ≡ false → has z free ≡ true)

abbrev added : MuxReply → List ℕ → List ℕ
added (reply.Id i) free = i ∷ free
added r free = free

added_length : (r : MuxReply) (free : List ℕ) → length (added r free) ≤ length free + 1
added_length (reply.Id i) free = omega arith
added_length r free = omega arith

added_old : (z : ℕ) (r : MuxReply) (free : List ℕ) → has z free ≡ true → has z (added r free) ≡ true
added_old z (reply.Id i) free q = or_right (i == z) (has z free) q
added_old z r free q = q

added_new : (z by : ℕ) (q : Request) (r : MuxReply) (free : List ℕ) → starts_as z (Start by q) r ≡ true → has z (added r free) ≡ true
added_new z by q (reply.Id i) free t = or_left (i == z) (has z free) t
added_new z by q r free t = absurd (cc)

not_named : (p : One → Bool) (mine : History) (e : One) → list_any p (mine ++ e ∷ []) ≡ false → (list_any p mine ≡ false) × (p e ≡ false)
not_named p mine e q = let a = or_parts (list_any p mine) (p e || false) (sym (any_push p mine e) ∙ q) in (a.0, (or_parts (p e) false a.1).0)

room_start : (named : ℕ → MuxCall → Bool) (is : MuxCall → Bool) (mine : History) (e : One) (by : ℕ) (r : Request) → e.call ≡ Start by r → is (Start by r) ≡ false → Room named is mine → Room named is (mine ++ e ∷ [])
room_start named is mine e by r p q k =
    let a : starts (mine ++ e ∷ []) ≡ starts mine + 1 = counted is_start mine e (Start by r) p in
    let b : count_by (λ (y : One). is y.call) (mine ++ e ∷ []) ≡ count_by (λ (y : One). is y.call) mine + 0 = counted is mine e (Start by r) p ∙ ap (λ (z : Bool). count_by (λ (y : One). is y.call) mine + cond {A = ℕ} z 1 0) q in
    let c = added_length e.reply k.0 in let d = k.1 in (
      added e.reply k.0,
      omega arith,
      λ z o n. elim (push_back (λ (y : One). starts_as z y.call y.reply) mine e o) [
        | inl u ↦ added_old z e.reply k.0 (k.2 z u (not_named (λ (y : One). named z y.call) mine e n).0)
        | inr u ↦ added_new z by r e.reply k.0 (sym (ap (λ (v : MuxCall). starts_as z v e.reply) p) ∙ u)
      ],
    )

-- the ids of its Starts stay where none is made
owned_before : (mine : History) (e : One) → ((z : ℕ) → starts_as z e.call e.reply ≡ false) → (z : ℕ) → owns z (mine ++ e ∷ []) ≡ true → owns z mine ≡ true
owned_before mine e s z o = elim (push_back (λ (y : One). starts_as z y.call y.reply) mine e o) [ inl u ↦ u | inr u ↦ absurd (both_ways (starts_as z e.call e.reply) (s z) u) ]

room_other : (named : ℕ → MuxCall → Bool) (is : MuxCall → Bool) (mine : History) (e : One) (call : MuxCall) → e.call ≡ call → is_start call ≡ false → is call ≡ false → ((z : ℕ) → starts_as z e.call e.reply ≡ false) → Room named is mine → Room named is (mine ++ e ∷ [])
room_other named is mine e call p t q s k =
    let a : starts (mine ++ e ∷ []) ≡ starts mine + 0 = counted is_start mine e call p ∙ ap (λ (z : Bool). starts mine + cond {A = ℕ} z 1 0) t in
    let b : count_by (λ (y : One). is y.call) (mine ++ e ∷ []) ≡ count_by (λ (y : One). is y.call) mine + 0 = counted is mine e call p ∙ ap (λ (z : Bool). count_by (λ (y : One). is y.call) mine + cond {A = ℕ} z 1 0) q in
    let d = k.1 in (
      k.0,
      omega arith,
      λ z o n. k.2 z (owned_before mine e s z o) (not_named (λ (y : One). named z y.call) mine e n).0,
    )

room_name : (named : ℕ → MuxCall → Bool) (is : MuxCall → Bool) (mine : History) (e : One) (call : MuxCall) (id : ℕ) → e.call ≡ call → is_start call ≡ false → is call ≡ true → ((z : ℕ) → starts_as z e.call e.reply ≡ false)
    → named id call ≡ true → owns id mine ≡ true → list_any (λ (y : One). named id y.call) mine ≡ false → Room named is mine → Room named is (mine ++ e ∷ [])
room_name named is mine e call id p t q s here owned unnamed k =
    let a : starts (mine ++ e ∷ []) ≡ starts mine + 0 = counted is_start mine e call p ∙ ap (λ (z : Bool). starts mine + cond {A = ℕ} z 1 0) t in
    let b : count_by (λ (y : One). is y.call) (mine ++ e ∷ []) ≡ count_by (λ (y : One). is y.call) mine + 1 = counted is mine e call p ∙ ap (λ (z : Bool). count_by (λ (y : One). is y.call) mine + cond {A = ℕ} z 1 0) q in
    let d = k.1 in let l = drop_length id k.0 (k.2 id owned unnamed) in (
      drop_one id k.0,
      omega arith,
      λ z o n. let w = not_named (λ (y : One). named z y.call) mine e n in drop_has id z k.0
          (λ same. both_ways (named z e.call) w.1 (ap (λ (i : ℕ). named i e.call) same ∙ (ap (named id) p ∙ here)))
          (k.2 z (owned_before mine e s z o) w.0),
    )

abbrev pub weight : One → ℕ
weight e = 1 + queues e.call e.reply

queues_most : (call : MuxCall) (r : MuxReply) → queues call r ≤ 1
queues_most (Start by q) (reply.Id i) = omega arith
queues_most (Cancel by id) reply.Cancelled = omega arith
queues_most call r = omega arith

weighed : (mine : History) (e : One) → sum_by weight (mine ++ e ∷ []) ≡ sum_by weight mine + (1 + queues e.call e.reply)
weighed mine e = sum_by_push weight mine e

abbrev pub cancelled_ids : History → ℕ
cancelled_ids mine = count_by (λ (y : One). is_cancel y.call) mine

abbrev pub awaited_ids : History → ℕ
awaited_ids mine = count_by (λ (y : One). is_await y.call) mine

-- a caller's entries
pub record CallerHas (mine : History) : Type 0 where
  pub few_starts : starts mine ≤ 64
  pub cancel_room : Room cancels is_cancel mine
  pub await_room : Room awaits is_await mine
  pub few_lefts : lefts mine ≤ 1
  pub sends : queued mine ≤ starts mine + cancelled_ids mine
  pub weighs : sum_by weight mine ≤ starts mine + starts mine + cancelled_ids mine + cancelled_ids mine + awaited_ids mine + lefts mine

caller_step : (x : Mux) (n : ℕ) (mine : History) (e : One) (call : MuxCall) → e.call ≡ call → IsCaller x n → MayCall x n mine call → CallerHas mine → CallerHas (mine ++ e ∷ [])
caller_step x n mine e (Start by r) p c f k =
    let a : starts (mine ++ e ∷ []) ≡ starts mine + 1 = counted is_start mine e (Start by r) p in let b : cancelled_ids (mine ++ e ∷ []) ≡ cancelled_ids mine + 0 = counted is_cancel mine e (Start by r) p in
    let d : awaited_ids (mine ++ e ∷ []) ≡ awaited_ids mine + 0 = counted is_await mine e (Start by r) p in let l : lefts (mine ++ e ∷ []) ≡ lefts mine + 0 = counted is_left mine e (Start by r) p in
    let v = sum_by_push (λ (y : One). queues y.call y.reply) mine e in let t = k.sends in let w = weighed mine e in let q = queues_most e.call e.reply in let few = f.2 in let old = k.weighs in let gone = k.few_lefts in record {
      few_starts = omega arith;
      cancel_room = room_start cancels is_cancel mine e by r p refl k.cancel_room;
      await_room = room_start awaits is_await mine e by r p refl k.await_room;
      few_lefts = omega arith;
      sends = omega arith;
      weighs = omega arith;
    }
caller_step x n mine e (Cancel by id) p c f k =
    let a : starts (mine ++ e ∷ []) ≡ starts mine + 0 = counted is_start mine e (Cancel by id) p in let b : cancelled_ids (mine ++ e ∷ []) ≡ cancelled_ids mine + 1 = counted is_cancel mine e (Cancel by id) p in
    let d : awaited_ids (mine ++ e ∷ []) ≡ awaited_ids mine + 0 = counted is_await mine e (Cancel by id) p in let l : lefts (mine ++ e ∷ []) ≡ lefts mine + 0 = counted is_left mine e (Cancel by id) p in
    let v = sum_by_push (λ (y : One). queues y.call y.reply) mine e in let t = k.sends in let w = weighed mine e in let q = queues_most e.call e.reply in let few = k.few_starts in let old = k.weighs in let gone = k.few_lefts in
    let s = λ (z : ℕ). ap (λ (y : MuxCall). starts_as z y e.reply) p in record {
      few_starts = omega arith;
      cancel_room = room_name cancels is_cancel mine e (Cancel by id) id p refl refl s (eq-eqb id id refl) f.2 f.3 k.cancel_room;
      await_room = room_other awaits is_await mine e (Cancel by id) p refl refl s k.await_room;
      few_lefts = omega arith;
      sends = omega arith;
      weighs = omega arith;
    }
caller_step x n mine e (Await by id) p c f k =
    let a : starts (mine ++ e ∷ []) ≡ starts mine + 0 = counted is_start mine e (Await by id) p in let b : cancelled_ids (mine ++ e ∷ []) ≡ cancelled_ids mine + 0 = counted is_cancel mine e (Await by id) p in
    let d : awaited_ids (mine ++ e ∷ []) ≡ awaited_ids mine + 1 = counted is_await mine e (Await by id) p in let l : lefts (mine ++ e ∷ []) ≡ lefts mine + 0 = counted is_left mine e (Await by id) p in
    let v = sum_by_push (λ (y : One). queues y.call y.reply) mine e in let t = k.sends in let w = weighed mine e in let q : queues e.call e.reply ≡ 0 = ap (λ (z : MuxCall). queues z e.reply) p in let few = k.few_starts in let old = k.weighs in let gone = k.few_lefts in
    let s = λ (z : ℕ). ap (λ (y : MuxCall). starts_as z y e.reply) p in record {
      few_starts = omega arith;
      cancel_room = room_other cancels is_cancel mine e (Await by id) p refl refl s k.cancel_room;
      await_room = room_name awaits is_await mine e (Await by id) id p refl refl s (eq-eqb id id refl) f.2 f.3 k.await_room;
      few_lefts = omega arith;
      sends = omega arith;
      weighs = omega arith;
    }
caller_step x n mine e (Left by) p c f k =
    let a : starts (mine ++ e ∷ []) ≡ starts mine + 0 = counted is_start mine e (Left by) p in let b : cancelled_ids (mine ++ e ∷ []) ≡ cancelled_ids mine + 0 = counted is_cancel mine e (Left by) p in
    let d : awaited_ids (mine ++ e ∷ []) ≡ awaited_ids mine + 0 = counted is_await mine e (Left by) p in let l : lefts (mine ++ e ∷ []) ≡ lefts mine + 1 = counted is_left mine e (Left by) p in
    let v = sum_by_push (λ (y : One). queues y.call y.reply) mine e in let t = k.sends in let w = weighed mine e in let q : queues e.call e.reply ≡ 0 = ap (λ (z : MuxCall). queues z e.reply) p in let few = k.few_starts in let old = k.weighs in let gone = f.1 in
    let s = λ (z : ℕ). ap (λ (y : MuxCall). starts_as z y e.reply) p in record {
      few_starts = omega arith;
      cancel_room = room_other cancels is_cancel mine e (Left by) p refl refl s k.cancel_room;
      await_room = room_other awaits is_await mine e (Left by) p refl refl s k.await_room;
      few_lefts = omega arith;
      sends = omega arith;
      weighs = omega arith;
    }
caller_step x n mine e Next p c f k = absurd (let a = f.0 in let b = c.1 in omega arith)
caller_step x n mine e (Arrived id r) p c f k = absurd (let a = f.0 in let b = c.1 in omega arith)
caller_step x n mine e (Lost why) p c f k = absurd (let b = c.1 in elim f.0 [ inl a ↦ omega arith | inr a ↦ omega arith ])

-- the writer's entries
record WriterHas (mine : History) : Type 0 where
  one_finish : finished mine ≤ 1
  one_loss : losses mine ≤ 1
  weighs : sum_by weight mine ≤ given mine + finished mine + losses mine

next_counts : (r : MuxReply) → gives Next r + cond {A = ℕ} (finishes Next r) 1 0 ≡ 1
next_counts reply.Finish = refl
next_counts r = refl

one_most : (b : Bool) → cond {A = ℕ} b 1 0 ≤ 1
one_most true = omega arith
one_most false = omega arith

ends : (mine : History) (e : One) (call : MuxCall) → e.call ≡ call → finished (mine ++ e ∷ []) ≡ finished mine + cond {A = ℕ} (finishes call e.reply) 1 0
ends mine e call p = count_push (λ (y : One). finishes y.call y.reply) mine e ∙ ap (λ (z : MuxCall). finished mine + cond {A = ℕ} (finishes z e.reply) 1 0) p

gives_more : (mine : History) (e : One) (call : MuxCall) → e.call ≡ call → given (mine ++ e ∷ []) ≡ given mine + gives call e.reply
gives_more mine e call p = sum_by_push (λ (y : One). gives y.call y.reply) mine e ∙ ap (λ (z : MuxCall). given mine + gives z e.reply) p

pub no_caller : {A : Type 0} (x : Mux) (n : ℕ) → x.callers < n → IsCaller x n → A
no_caller x n l c = let a = c.1 in absurd (omega arith)

writer_step : (x : Mux) (n : ℕ) (mine : History) (e : One) (call : MuxCall) → e.call ≡ call → n ≡ writer x → MayCall x n mine call → WriterHas mine → WriterHas (mine ++ e ∷ [])
writer_step x n mine e Next p c f k =
    let a = ends mine e Next p in let b = next_counts e.reply in let d = one_most (finishes Next e.reply) in let g = gives_more mine e Next p in
    let l : losses (mine ++ e ∷ []) ≡ losses mine + 0 = counted is_lost mine e Next p in
    let w = weighed mine e in let q : queues e.call e.reply ≡ 0 = ap (λ (z : MuxCall). queues z e.reply) p in let none = f.1 in let one = k.one_loss in let old = k.weighs in record {
      one_finish = omega arith;
      one_loss = omega arith;
      weighs = omega arith;
    }
writer_step x n mine e (Lost why) p c f k =
    let a : finished (mine ++ e ∷ []) ≡ finished mine + 0 = ends mine e (Lost why) p in let g : given (mine ++ e ∷ []) ≡ given mine + 0 = gives_more mine e (Lost why) p in
    let l : losses (mine ++ e ∷ []) ≡ losses mine + 1 = counted is_lost mine e (Lost why) p in
    let w = weighed mine e in let q : queues e.call e.reply ≡ 0 = ap (λ (z : MuxCall). queues z e.reply) p in let none = f.1 in let one = k.one_finish in let old = k.weighs in record {
      one_finish = omega arith;
      one_loss = omega arith;
      weighs = omega arith;
    }
writer_step x n mine e (Start by r) p c f k = no_caller x n (omega arith) f.0
writer_step x n mine e (Cancel by id) p c f k = no_caller x n (omega arith) f.0
writer_step x n mine e (Await by id) p c f k = no_caller x n (omega arith) f.0
writer_step x n mine e (Left by) p c f k = no_caller x n (omega arith) f.0
writer_step x n mine e (Arrived id r) p c f k = absurd (let a = f.0 in omega arith)

-- the reader's entries
record ReaderHas (mine : History) : Type 0 where
  few_arrivals : arrivals mine ≤ 4096
  one_loss : losses mine ≤ 1
  weighs : sum_by weight mine ≤ arrivals mine + losses mine

reader_step : (x : Mux) (n : ℕ) (mine : History) (e : One) (call : MuxCall) → e.call ≡ call → n ≡ reader x → MayCall x n mine call → ReaderHas mine → ReaderHas (mine ++ e ∷ [])
reader_step x n mine e (Arrived id r) p c f k =
    let a : arrivals (mine ++ e ∷ []) ≡ arrivals mine + 1 = counted is_arrived mine e (Arrived id r) p in let l : losses (mine ++ e ∷ []) ≡ losses mine + 0 = counted is_lost mine e (Arrived id r) p in
    let w = weighed mine e in let q : queues e.call e.reply ≡ 0 = ap (λ (z : MuxCall). queues z e.reply) p in let few = f.1 in let one = k.one_loss in let old = k.weighs in record {
      few_arrivals = omega arith;
      one_loss = omega arith;
      weighs = omega arith;
    }
reader_step x n mine e (Lost why) p c f k =
    let a : arrivals (mine ++ e ∷ []) ≡ arrivals mine + 0 = counted is_arrived mine e (Lost why) p in let l : losses (mine ++ e ∷ []) ≡ losses mine + 1 = counted is_lost mine e (Lost why) p in
    let w = weighed mine e in let q : queues e.call e.reply ≡ 0 = ap (λ (z : MuxCall). queues z e.reply) p in let none = f.1 in let few = k.few_arrivals in let old = k.weighs in record {
      few_arrivals = omega arith;
      one_loss = omega arith;
      weighs = omega arith;
    }
reader_step x n mine e Next p c f k = absurd (let a = f.0 in omega arith)
reader_step x n mine e (Start by r) p c f k = no_caller x n (omega arith) f.0
reader_step x n mine e (Cancel by id) p c f k = no_caller x n (omega arith) f.0
reader_step x n mine e (Await by id) p c f k = no_caller x n (omega arith) f.0
reader_step x n mine e (Left by) p c f k = no_caller x n (omega arith) f.0

pub empty_room : (named : ℕ → MuxCall → Bool) (is : MuxCall → Bool) → Room named is []
empty_room named is = ([], omega arith, λ z o n. absurd (cc))

pub callers_have : (x : Mux) (h : History) → AreFit x h → (n : ℕ) → IsCaller x n → CallerHas (of n h)
callers_have x h f n = fit_along IsFit x (λ (n : ℕ) (mine : History). IsCaller x n → CallerHas mine) (λ n mine e g k c. caller_step x n mine e e.call refl c g.1 (k c)) [] h
    (λ n c. record { few_starts = omega arith; cancel_room = empty_room cancels is_cancel; await_room = empty_room awaits is_await; few_lefts = omega arith; sends = omega arith; weighs = omega arith }) f n

writer_has : (x : Mux) (h : History) → AreFit x h → (n : ℕ) → n ≡ writer x → WriterHas (of n h)
writer_has x h f n = fit_along IsFit x (λ (n : ℕ) (mine : History). n ≡ writer x → WriterHas mine) (λ n mine e g k c. writer_step x n mine e e.call refl c g.1 (k c)) [] h
    (λ n c. record { one_finish = omega arith; one_loss = omega arith; weighs = omega arith }) f n

reader_has : (x : Mux) (h : History) → AreFit x h → (n : ℕ) → n ≡ reader x → ReaderHas (of n h)
reader_has x h f n = fit_along IsFit x (λ (n : ℕ) (mine : History). n ≡ reader x → ReaderHas mine) (λ n mine e g k c. reader_step x n mine e e.call refl c g.1 (k c)) [] h
    (λ n c. record { few_arrivals = omega arith; one_loss = omega arith; weighs = omega arith }) f n

-- nobody else calls
abbrev InRange : Mux → ℕ → Type 0
InRange x n = (1 ≤ n) × (n < 1 + x.callers + 2)

pub caller_in : (x : Mux) (n : ℕ) → IsCaller x n → InRange x n
caller_in x n c = let a = c.1 in (c.0, omega arith)

in_range : (x : Mux) (n : ℕ) (mine : History) (call : MuxCall) → MayCall x n mine call → InRange x n
in_range x n mine (Start by r) f = caller_in x n f.0
in_range x n mine (Cancel by id) f = caller_in x n f.0
in_range x n mine (Await by id) f = caller_in x n f.0
in_range x n mine (Left by) f = caller_in x n f.0
in_range x n mine Next f = let a = f.0 in (omega arith, omega arith)
in_range x n mine (Arrived id r) f = let a = f.0 in (omega arith, omega arith)
in_range x n mine (Lost why) f = elim f.0 [ inl a ↦ (omega arith, omega arith) | inr a ↦ (omega arith, omega arith) ]

pub within_by : (f : One → ℕ) (x : Mux) (before h : History) → history.FitFrom IsFit x before h → Within f 1 x.callers h
within_by f x before [] p = tt
within_by f x before (e ∷ es) p = let r = in_range x e.caller (of e.caller before) e.call p.0.1 in (r.0, r.1, within_by f x (before ++ e ∷ []) es p.1)

caller_most : (mine : History) → CallerHas mine → sum_by weight mine ≤ 321
caller_most mine k = let a = k.few_starts in let b = k.cancel_room.1 in let c = k.await_room.1 in let d = k.few_lefts in let e = k.weighs in omega arith

-- where no more was given out than queued
bound : (x : Mux) (h : History) → x.callers ≤ 16 → AreFit x h → given h ≤ queued h → length h ≤ 9235
bound x h few f g =
    let a = each_one (λ (e : One). queues e.call e.reply) h in
    let b = in_all weight 1 x.callers h (within_by weight x [] h f) in
    let w = writer_has x h f (writer x) refl in let w1 = w.one_finish in let w2 = w.one_loss in let w3 = w.weighs in
    let r = reader_has x h f (reader x) refl in let r1 = r.few_arrivals in let r2 = r.one_loss in let r3 = r.weighs in
    let p = part (λ (e : One). gives e.call e.reply) (writer x) h in
    let c = all_most weight 1 x.callers 321 (given h + 4099) (writer x) (reader x) h (omega arith) (omega arith)
    (λ n l u. caller_most (of n h) (callers_have x h f n (l, omega arith))) (omega arith) in
    let s : sum_by weight h ≡ length h + queued h = a in
    omega arith

-- a call that gives and queues nothing
abbrev idle : MuxCall → MuxReply
idle Next = reply.Finish
idle call = reply.Noted

idle_gives : (call : MuxCall) → gives call (idle call) ≡ 0
idle_gives Next = refl
idle_gives call = refl

idle_queues : (call : MuxCall) → queues call (idle call) ≡ 0
idle_queues Next = refl
idle_queues call = refl

pub is_long_enough : (x : Mux) (h : History) → Opens x → IsLegal x h → AreFit x h → length h ≤ 9235
is_long_enough x h o l f = let s = sent x h o l in let a = s.sent in let b = s.sends in let c = s.room in bound x h o.few f (omega arith)

-- and there is room for a fit call
pub has_room : (x : Mux) (h : History) (n : ℕ) (call : MuxCall) → Opens x → IsLegal x h → AreFit x h → IsFit x n (of n h) call → length h < 9235
has_room x h n call o l f g = let s = sent x h o l in let a = s.sent in let b = s.sends in let c = s.room in
    let e : One = record { caller = n; call = call; reply = idle call } in
    let d : given (h ++ e ∷ []) ≡ given h + gives call (idle call) = sum_by_push (λ (y : One). gives y.call y.reply) h e in
    let q : queued (h ++ e ∷ []) ≡ queued h + queues call (idle call) = sum_by_push (λ (y : One). queues y.call y.reply) h e in
    let i = idle_gives call in let j = idle_queues call in let long = length-append h (e ∷ []) in let one : length (e ∷ []) ≡ 1 = refl in
    let most = bound x (h ++ e ∷ []) o.few (fit_push IsFit x [] h e f g) (omega arith) in omega arith
