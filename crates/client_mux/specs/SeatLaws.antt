-- What the entries of a caller say of its calls.
use Rattle.std.proofs.Common.{◌≡◌, ℕ, ◌+◌, ◌<◌, ◌≤◌, suc, zero, Bool, true, false, cond, ◌==◌, ◌&&◌, ◌||◌, List, [], ◌∷◌, ◌++◌, length, Option, Some, None, ◌⊎◌, inl, inr, sym, refl, ap, ◌∙◌, subst, arith, eq-eqb, ne_eqb}
use Rattle.std.specs.Prelude.{slice_get}
use Rattle.std.specs.List.{list_any}
use Rattle.std.proofs.lemmas.Bool.{cases_eq, cases_Bool, both_ways, eqb-true, and_from}
use Rattle.std.proofs.lemmas.List.{length-append}
use Rattle.std.proofs.lemmas.Option.{none-some, same_Some}
use Rattle.turn_cell.specs.History as history
use Rattle.giop_messages.specs.Message.{Request}
use Rattle.client_mux.specs.declared.heard_reply.HeardReply.{HeardReply}
use Rattle.client_mux.specs.declared.why.Why.{Why}
use Rattle.client_mux.specs.declared.call.MuxReply.{MuxReply}
use Rattle.client_mux.specs.declared.call.MuxReply.TheVariants as reply
use Rattle.client_mux.specs.declared.call.MuxCall.{MuxCall}
use Rattle.client_mux.specs.declared.call.MuxCall.TheVariants.{Start, Cancel, Next, Arrived, Await, Lost, Left}
use Rattle.client_mux.specs.declared.called.Called.{Called}
use Rattle.client_mux.specs.declared.called.Doing.{Doing}
use Rattle.client_mux.specs.declared.called.Doing.TheVariants.{Waiting, Answered, Dropped}
use Rattle.client_mux.specs.declared.called.Sending.{Sending}
use Rattle.client_mux.specs.Machine.{Mux, One, History, call_at, set_call, new_call, started, stopped, cancelled, given, matched, arrived, awaited, is_ready, IsSound, step, Opens}
use Rattle.client_mux.specs.Callers.{IsFit, of, starts_as, cancels, awaits, is_cancelled, is_left, owns, has_cancel, was_dropped, has_await, lefts}
use Rattle.client_mux.specs.CallPlaces.{push_cases, call_set, call_other, call_within, length_set, call_cases, call_push, call_new, call_pushed}
use Rattle.flat_seats.proofs.Own.{quiet, grow, own, back, count_grow, count_push, of_mine}
use Rattle.flat_seats.proofs.Along.{along}

abbrev KnownCall : History → ℕ → Called → Type 0
KnownCall h id c = (c.cancelled ≡ has_cancel id (of c.by h)) × (c.awaited ≡ has_await id (of c.by h)) × (c.doing ≡ Dropped → was_dropped id (of c.by h) ≡ true)

abbrev IsOf : List Called → ℕ → ℕ → Type 0
IsOf calls id n = (c : Called) × (call_at calls id ≡ Some c) × (c.by ≡ n)

-- each call's marks are what its caller did; an id that a Start was answered is a call of this caller; no later id was named
record CallsKnown (h : History) (calls : List Called) : Type 0 where
  each : (id : ℕ) (c : Called) → call_at calls id ≡ Some c → KnownCall h id c
  owned : (n id : ℕ) → owns id (of n h) ≡ true → IsOf calls id n
  early : (n id : ℕ) → length calls < id → (has_cancel id (of n h) ≡ false) × (has_await id (of n h) ≡ false)

known_stays : (h : History) (e : One) (id : ℕ) (c z : Called) → z.by ≡ c.by → z.cancelled ≡ c.cancelled → z.awaited ≡ c.awaited → (z.doing ≡ Dropped → c.doing ≡ Dropped)
    → cancels id e.call ≡ false → awaits id e.call ≡ false → KnownCall h id c → KnownCall (h ++ e ∷ []) id z
known_stays h e id c z b x a d qc qa k = (
  x ∙ (k.0 ∙ (sym (quiet (λ (y : One). cancels id y.call) c.by h e qc) ∙ ap (λ (n : ℕ). has_cancel id (of n (h ++ e ∷ []))) (sym b))),
  a ∙ (k.1 ∙ (sym (quiet (λ (y : One). awaits id y.call) c.by h e qa) ∙ ap (λ (n : ℕ). has_await id (of n (h ++ e ∷ []))) (sym b))),
  λ q. ap (λ (n : ℕ). was_dropped id (of n (h ++ e ∷ []))) b ∙ grow (λ (y : One). cancels id y.call && is_cancelled y.reply) c.by h e (k.2 (d q)),
)

own_step : (h : History) (e : One) (calls calls' : List Called) → ((k : ℕ) (c : Called) → call_at calls k ≡ Some c → IsOf calls' k c.by) → ((k : ℕ) → starts_as k e.call e.reply ≡ true → IsOf calls' k e.caller)
    → CallsKnown h calls → (n id : ℕ) → owns id (of n (h ++ e ∷ [])) ≡ true → IsOf calls' id n
own_step h e calls calls' forth new known n id o = elim (back (λ (y : One). starts_as id y.call y.reply) n h e o) [
  | inl a ↦ (let w = known.owned n id a in let v = forth id w.0 w.1 in (v.0, v.1, v.2 ∙ w.2))
  | inr a ↦ (let v = new id a.1 in (v.0, v.1, v.2 ∙ a.0))
]

still_false : (p : One → Bool) (n : ℕ) (h : History) (e : One) → list_any p (of n h) ≡ false → (p e ≡ true → ⊥) → list_any p (of n (h ++ e ∷ [])) ≡ false
still_false p n h e was not_it = elim (cases_Bool (list_any p (of n (h ++ e ∷ [])))) [
  | inl t ↦ elim (back p n h e t) [ inl a ↦ absurd (both_ways (list_any p (of n h)) was a) | inr a ↦ absurd (not_it a.1) ]
  | inr f ↦ f
]

early_step : (h : History) (e : One) (calls calls' : List Called) → length calls ≤ length calls' → ((k : ℕ) → cancels k e.call ≡ true → k ≤ length calls) → ((k : ℕ) → awaits k e.call ≡ true → k ≤ length calls)
    → CallsKnown h calls → (n id : ℕ) → length calls' < id → (has_cancel id (of n (h ++ e ∷ [])) ≡ false) × (has_await id (of n (h ++ e ∷ [])) ≡ false)
early_step h e calls calls' l fc fa known n id beyond = let was = known.early n id (omega arith) in (
  still_false (λ (y : One). cancels id y.call) n h e was.0 (λ t. let b = fc id t in absurd (omega arith)),
  still_false (λ (y : One). awaits id y.call) n h e was.1 (λ t. let b = fa id t in absurd (omega arith)),
)

-- the calls stay
keeps : (h : History) (e : One) (calls : List Called) → ((k : ℕ) → cancels k e.call ≡ false) → ((k : ℕ) → awaits k e.call ≡ false) → ((k : ℕ) → starts_as k e.call e.reply ≡ false)
    → CallsKnown h calls → CallsKnown (h ++ e ∷ []) calls
keeps h e calls qc qa qs known = record {
  each = λ id c g. known_stays h e id c c refl refl refl (λ q. q) (qc id) (qa id) (known.each id c g);
  owned = own_step h e calls calls (λ k c g. (c, g, refl)) (λ k t. absurd (both_ways (starts_as k e.call e.reply) (qs k) t)) known;
  early = early_step h e calls calls (omega arith) (λ k t. absurd (both_ways (cancels k e.call) (qc k) t)) (λ k t. absurd (both_ways (awaits k e.call) (qa k) t)) known;
}

-- one more call
pushes : (h : History) (e : One) (calls : List Called) (by : ℕ) → by ≡ e.caller → ((k : ℕ) → cancels k e.call ≡ false) → ((k : ℕ) → awaits k e.call ≡ false) → ((k : ℕ) → starts_as k e.call e.reply ≡ true → length calls + 1 ≡ k)
    → CallsKnown h calls → CallsKnown (h ++ e ∷ []) (calls ++ new_call by ∷ [])
pushes h e calls by b qc qa qs known = let fresh = known.early by (length calls + 1) (omega arith) in let long = length-append calls (new_call by ∷ []) in record {
  each = λ id c g. elim (call_pushed calls id (new_call by) c g) [
    | inl a ↦ known_stays h e id c c refl refl refl (λ q. q) (qc id) (qa id) (known.each id c a)
    | inr a ↦ subst (KnownCall (h ++ e ∷ []) id) a.1 (subst (λ (k : ℕ). KnownCall (h ++ e ∷ []) k (new_call by)) (sym a.0) (
      sym (quiet (λ (y : One). cancels (length calls + 1) y.call) by h e (qc (length calls + 1)) ∙ fresh.0),
      sym (quiet (λ (y : One). awaits (length calls + 1) y.call) by h e (qa (length calls + 1)) ∙ fresh.1),
      λ q. absurd (cc),
    ))
  ];
  owned = own_step h e calls (calls ++ new_call by ∷ []) (λ k c g. (c, call_push calls k (new_call by) c g, refl)) (λ k t. (new_call by, ap (call_at (calls ++ new_call by ∷ [])) (sym (qs k t)) ∙ call_new calls (new_call by), b)) known;
  early = early_step h e calls (calls ++ new_call by ∷ []) (omega arith) (λ k t. absurd (both_ways (cancels k e.call) (qc k) t)) (λ k t. absurd (both_ways (awaits k e.call) (qa k) t)) known;
}

-- one call changes
sets : (h : History) (e : One) (calls : List Called) (id : ℕ) (c z : Called) → call_at calls id ≡ Some c → z.by ≡ c.by
    → ((k : ℕ) → (k ≡ id → ⊥) → (cancels k e.call ≡ false) × (awaits k e.call ≡ false)) → ((k : ℕ) → starts_as k e.call e.reply ≡ false)
    → KnownCall (h ++ e ∷ []) id z → CallsKnown h calls → CallsKnown (h ++ e ∷ []) (set_call calls id z)
sets h e calls id c z g b q qs new known = let long = length_set calls id z in let within = call_within calls id c g in record {
  each = λ k y f. elim (call_cases calls id k c z y g f) [
    | inl a ↦ subst (KnownCall (h ++ e ∷ []) k) a.1 (subst (λ (i : ℕ). KnownCall (h ++ e ∷ []) i z) (sym a.0) new)
    | inr a ↦ known_stays h e k y y refl refl refl (λ p. p) (q k a.0).0 (q k a.0).1 (known.each k y a.1)
  ];
  owned = own_step h e calls (set_call calls id z) (λ k y f. elim (cases_eq k id) [
    | inl same ↦ (z, ap (call_at (set_call calls id z)) same ∙ call_set calls id c z g, b ∙ ap (λ (x : Called). x.by) (same_Some c y (sym g ∙ (ap (call_at calls) (sym same) ∙ f))))
    | inr differs ↦ (y, call_other calls id k z differs ∙ f, refl)
  ]) (λ k t. absurd (both_ways (starts_as k e.call e.reply) (qs k) t)) known;
  early = early_step h e calls (set_call calls id z) (omega arith)
      (λ k t. elim (cases_eq k id) [ inl same ↦ omega arith | inr differs ↦ absurd (both_ways (cancels k e.call) (q k differs).0 t) ])
      (λ k t. elim (cases_eq k id) [ inl same ↦ omega arith | inr differs ↦ absurd (both_ways (awaits k e.call) (q k differs).1 t) ]) known;
}

no_cancel : (e : One) (call : MuxCall) → e.call ≡ call → ((k : ℕ) → cancels k call ≡ false) → (k : ℕ) → cancels k e.call ≡ false
no_cancel e call c q k = ap (cancels k) c ∙ q k

no_await : (e : One) (call : MuxCall) → e.call ≡ call → ((k : ℕ) → awaits k call ≡ false) → (k : ℕ) → awaits k e.call ≡ false
no_await e call c q k = ap (awaits k) c ∙ q k

pub starts_by : (k : ℕ) (e : One) (call : MuxCall) (r : MuxReply) → e.call ≡ call → e.reply ≡ r → starts_as k e.call e.reply ≡ starts_as k call r
starts_by k e call r c p = λ i. starts_as k (c i) (p i)

start_step : (h : History) (m : Mux) (e : One) (by : ℕ) (r : Request) (lost : Option Why) → e.call ≡ Start by r → by ≡ e.caller → e.reply ≡ (started m by r lost).1
    → CallsKnown h m.calls → CallsKnown (h ++ e ∷ []) (started m by r lost).0.calls
start_step h m e by r None c b p known = pushes h e m.calls by b (no_cancel e (Start by r) c (λ k. refl)) (no_await e (Start by r) c (λ k. refl))
    (λ k t. eqb-true (length m.calls + 1) k (sym (starts_by k e (Start by r) (reply.Id (length m.calls + 1)) c p) ∙ t)) known
start_step h m e by r (Some why) c b p known = keeps h e m.calls (no_cancel e (Start by r) c (λ k. refl)) (no_await e (Start by r) c (λ k. refl)) (λ k. starts_by k e (Start by r) (reply.Gone why) c p) known

-- a call that is cancelled
abbrev marked : Called → Called
marked c = record c { cancelled = true }

cancel_known : (h : History) (e : One) (by id : ℕ) (c z : Called) → e.call ≡ Cancel by id → e.caller ≡ c.by → z.by ≡ c.by → z.cancelled ≡ true → z.awaited ≡ c.awaited → (z.doing ≡ Dropped → (c.doing ≡ Dropped) ⊎ (e.reply ≡ reply.Cancelled))
    → KnownCall h id c → KnownCall (h ++ e ∷ []) id z
cancel_known h e by id c z p q b x a d k = let here : cancels id e.call ≡ true = ap (cancels id) p ∙ eq-eqb id id refl in (
  x ∙ (sym (own (λ (y : One). cancels id y.call) c.by h e q here) ∙ ap (λ (n : ℕ). has_cancel id (of n (h ++ e ∷ []))) (sym b)),
  a ∙ (k.1 ∙ (sym (quiet (λ (y : One). awaits id y.call) c.by h e (ap (awaits id) p)) ∙ ap (λ (n : ℕ). has_await id (of n (h ++ e ∷ []))) (sym b))),
  λ w. ap (λ (n : ℕ). was_dropped id (of n (h ++ e ∷ []))) b ∙ elim (d w) [
    | inl o ↦ grow (λ (y : One). cancels id y.call && is_cancelled y.reply) c.by h e (k.2 o)
    | inr o ↦ own (λ (y : One). cancels id y.call && is_cancelled y.reply) c.by h e q (and_from (cancels id e.call) (is_cancelled e.reply) here (ap is_cancelled o))
  ],
)

cancel_quiet : (e : One) (by id : ℕ) → e.call ≡ Cancel by id → (k : ℕ) → (k ≡ id → ⊥) → (cancels k e.call ≡ false) × (awaits k e.call ≡ false)
cancel_quiet e by id p k d = (ap (cancels k) p ∙ ne_eqb id k (λ q. d (sym q)), ap (awaits k) p)

cancel_step : (h : History) (m : Mux) (e : One) (by id : ℕ) (c : Called) (d : Doing) → c.doing ≡ d → call_at m.calls id ≡ Some c → e.call ≡ Cancel by id → e.caller ≡ c.by → e.reply ≡ (stopped m id c d).1
    → CallsKnown h m.calls → CallsKnown (h ++ e ∷ []) (stopped m id c d).0.calls
cancel_step h m e by id c Waiting w g p q r known = sets h e m.calls id c (record c { doing = Dropped; cancelled = true }) g refl (cancel_quiet e by id p) (λ k. starts_by k e (Cancel by id) reply.Cancelled p r)
    (cancel_known h e by id c (record c { doing = Dropped; cancelled = true }) p q refl refl refl (λ z. inr r) (known.each id c g)) known
cancel_step h m e by id c (Answered v) w g p q r known = sets h e m.calls id c (marked c) g refl (cancel_quiet e by id p) (λ k. starts_by k e (Cancel by id) reply.TooLate p r)
    (cancel_known h e by id c (marked c) p q refl refl refl (λ z. inl z) (known.each id c g)) known
cancel_step h m e by id c Dropped w g p q r known = sets h e m.calls id c (marked c) g refl (cancel_quiet e by id p) (λ k. starts_by k e (Cancel by id) reply.TooLate p r)
    (cancel_known h e by id c (marked c) p q refl refl refl (λ z. inl z) (known.each id c g)) known

-- the call of an id that is its caller's
cancel_own : (h : History) (m : Mux) (e : One) (by id : ℕ) (o : Option Called) → call_at m.calls id ≡ o → e.call ≡ Cancel by id → owns id (of e.caller h) ≡ true → e.reply ≡ (cancelled m id o).1
    → CallsKnown h m.calls → CallsKnown (h ++ e ∷ []) (cancelled m id o).0.calls
cancel_own h m e by id (Some c) g p f r known = let w = known.owned e.caller id f in
    cancel_step h m e by id c c.doing refl g p (sym w.2 ∙ ap (λ (z : Called). z.by) (same_Some w.0 c (sym w.1 ∙ g))) r known
cancel_own h m e by id None g p f r known = let w = known.owned e.caller id f in absurd (none-some w.0 (sym g ∙ w.1))

-- a call that is awaited
await_step : (h : History) (m : Mux) (e : One) (by id : ℕ) (c : Called) → call_at m.calls id ≡ Some c → e.call ≡ Await by id → e.caller ≡ c.by
    → CallsKnown h m.calls → CallsKnown (h ++ e ∷ []) (set_call m.calls id (record c { awaited = true }))
await_step h m e by id c g p q known = let k = known.each id c g in sets h e m.calls id c (record c { awaited = true }) g refl
    (λ i d. (ap (cancels i) p, ap (awaits i) p ∙ ne_eqb id i (λ z. d (sym z))))
    (λ i. ap (λ (z : MuxCall). starts_as i z e.reply) p) (
      k.0 ∙ sym (quiet (λ (y : One). cancels id y.call) c.by h e (ap (cancels id) p)),
      sym (own (λ (y : One). awaits id y.call) c.by h e q (ap (awaits id) p ∙ eq-eqb id id refl)),
      λ w. grow (λ (y : One). cancels id y.call && is_cancelled y.reply) c.by h e (k.2 w),
    ) known

await_own : (h : History) (m : Mux) (e : One) (by id : ℕ) (o : Option Called) → call_at m.calls id ≡ o → e.call ≡ Await by id → owns id (of e.caller h) ≡ true
    → CallsKnown h m.calls → CallsKnown (h ++ e ∷ []) (awaited m id o).0.calls
await_own h m e by id (Some c) g p f known = let w = known.owned e.caller id f in
    await_step h m e by id c g p (sym w.2 ∙ ap (λ (z : Called). z.by) (same_Some w.0 c (sym w.1 ∙ g))) known
await_own h m e by id None g p f known = let w = known.owned e.caller id f in absurd (none-some w.0 (sym g ∙ w.1))

-- a call that has its reply
arrive_keeps : (h : History) (m : Mux) (e : One) (id : ℕ) (r : HeardReply) → e.call ≡ Arrived id r → CallsKnown h m.calls → CallsKnown (h ++ e ∷ []) m.calls
arrive_keeps h m e id r p known = keeps h e m.calls (no_cancel e (Arrived id r) p (λ k. refl)) (no_await e (Arrived id r) p (λ k. refl)) (λ i. ap (λ (z : MuxCall). starts_as i z e.reply) p) known

match_step : (h : History) (m : Mux) (e : One) (id : ℕ) (r : HeardReply) (c : Called) (d : Doing) → call_at m.calls id ≡ Some c → e.call ≡ Arrived id r
    → CallsKnown h m.calls → CallsKnown (h ++ e ∷ []) (matched m id r c d).0.calls
match_step h m e id r c Waiting g p known = sets h e m.calls id c (record c { doing = Answered r }) g refl
    (λ i d. (ap (cancels i) p, ap (awaits i) p)) (λ i. ap (λ (z : MuxCall). starts_as i z e.reply) p)
    (known_stays h e id c (record c { doing = Answered r }) refl refl refl (λ q. absurd (cc)) (ap (cancels id) p) (ap (awaits id) p) (known.each id c g)) known
match_step h m e id r c (Answered v) g p known = arrive_keeps h m e id r p known
match_step h m e id r c Dropped g p known = arrive_keeps h m e id r p known

arrive_step : (h : History) (m : Mux) (e : One) (id : ℕ) (r : HeardReply) (o : Option Called) → call_at m.calls id ≡ o → e.call ≡ Arrived id r
    → CallsKnown h m.calls → CallsKnown (h ++ e ∷ []) (arrived m id r o).0.calls
arrive_step h m e id r (Some c) g p known = match_step h m e id r c c.doing g p known
arrive_step h m e id r None g p known = arrive_keeps h m e id r p known

pub next_calls : (m : Mux) (lost : Option Why) (o : Option Sending) → (given m lost o).0.calls ≡ m.calls
next_calls m None (Some s) = refl
next_calls m None None = refl
next_calls m (Some why) o = refl

calls_step : (x : Mux) (h : History) (m : Mux) (e : One) (call : MuxCall) → e.call ≡ call → e.reply ≡ (step m call).1 → IsFit x e.caller (of e.caller h) call
    → CallsKnown h m.calls → CallsKnown (h ++ e ∷ []) (step m call).0.calls
calls_step x h m e (Start by r) p w f known = start_step h m e by r m.lost p f.0 w known
calls_step x h m e (Cancel by id) p w f known = cancel_own h m e by id (call_at m.calls id) refl p f.1.2 w known
calls_step x h m e (Await by id) p w f known = await_own h m e by id (call_at m.calls id) refl p f.1.2 known
calls_step x h m e (Arrived id r) p w f known = arrive_step h m e id r (call_at m.calls id) refl p known
calls_step x h m e Next p w f known = subst (CallsKnown (h ++ e ∷ [])) (sym (next_calls m m.lost (slice_get m.sends m.sent)))
    (keeps h e m.calls (no_cancel e Next p (λ k. refl)) (no_await e Next p (λ k. refl)) (λ i. ap (λ (z : MuxCall). starts_as i z e.reply) p) known)
calls_step x h m e (Lost why) p w f known = keeps h e m.calls (no_cancel e (Lost why) p (λ k. refl)) (no_await e (Lost why) p (λ k. refl)) (λ i. ap (λ (z : MuxCall). starts_as i z e.reply) p) known
calls_step x h m e (Left by) p w f known = keeps h e m.calls (no_cancel e (Left by) p (λ k. refl)) (no_await e (Left by) p (λ k. refl)) (λ i. ap (λ (z : MuxCall). starts_as i z e.reply) p) known

-- who left made the call
abbrev LeftKnown : History → List ℕ → Type 0
LeftKnown h left = (k l : ℕ) → slice_get left k ≡ Some l → 1 ≤ lefts (of l h)

left_stays : (h : History) (e : One) (left left' : List ℕ) → left' ≡ left → LeftKnown h left → LeftKnown (h ++ e ∷ []) left'
left_stays h e left left' p known = subst (LeftKnown (h ++ e ∷ [])) (sym p) (λ k l g. let a = known k l g in let b = count_grow (λ (y : One). is_left y.call) l h e in omega arith)

pub start_left : (m : Mux) (by : ℕ) (r : Request) (lost : Option Why) → (started m by r lost).0.left ≡ m.left
start_left m by r None = refl
start_left m by r (Some why) = refl

pub stop_left : (m : Mux) (id : ℕ) (c : Called) (d : Doing) → (stopped m id c d).0.left ≡ m.left
stop_left m id c Waiting = refl
stop_left m id c (Answered r) = refl
stop_left m id c Dropped = refl

pub cancel_left : (m : Mux) (id : ℕ) (o : Option Called) → (cancelled m id o).0.left ≡ m.left
cancel_left m id (Some c) = stop_left m id c c.doing
cancel_left m id None = refl

pub next_left : (m : Mux) (lost : Option Why) (o : Option Sending) → (given m lost o).0.left ≡ m.left
next_left m None (Some s) = refl
next_left m None None = refl
next_left m (Some why) o = refl

pub match_left : (m : Mux) (id : ℕ) (r : HeardReply) (c : Called) (d : Doing) → (matched m id r c d).0.left ≡ m.left
match_left m id r c Waiting = refl
match_left m id r c (Answered v) = refl
match_left m id r c Dropped = refl

pub arrive_left : (m : Mux) (id : ℕ) (r : HeardReply) (o : Option Called) → (arrived m id r o).0.left ≡ m.left
arrive_left m id r (Some c) = match_left m id r c c.doing
arrive_left m id r None = refl

pub await_left : (m : Mux) (id : ℕ) (o : Option Called) → (awaited m id o).0.left ≡ m.left
await_left m id (Some c) = refl
await_left m id None = refl

left_step : (x : Mux) (h : History) (m : Mux) (e : One) (call : MuxCall) → e.call ≡ call → IsFit x e.caller (of e.caller h) call → LeftKnown h m.left → LeftKnown (h ++ e ∷ []) (step m call).0.left
left_step x h m e (Start by r) p f known = left_stays h e m.left (step m (Start by r)).0.left (start_left m by r m.lost) known
left_step x h m e (Cancel by id) p f known = left_stays h e m.left (step m (Cancel by id)).0.left (cancel_left m id (call_at m.calls id)) known
left_step x h m e (Await by id) p f known = left_stays h e m.left (step m (Await by id)).0.left (await_left m id (call_at m.calls id)) known
left_step x h m e (Arrived id r) p f known = left_stays h e m.left (step m (Arrived id r)).0.left (arrive_left m id r (call_at m.calls id)) known
left_step x h m e Next p f known = left_stays h e m.left (step m Next).0.left (next_left m m.lost (slice_get m.sends m.sent)) known
left_step x h m e (Lost why) p f known = left_stays h e m.left m.left refl known
left_step x h m e (Left by) p f known = λ k l g. elim (push_cases m.left k by l g) [
  | inl a ↦ left_stays h e m.left m.left refl known k l a
  | inr a ↦ subst (λ (z : ℕ). 1 ≤ lefts (of z (h ++ e ∷ []))) a.1 (
      let b : lefts (of by (h ++ e ∷ [])) ≡ lefts (of by h ++ e ∷ []) = ap lefts (of_mine by h e (sym f.0)) in
      let d : lefts (of by h ++ e ∷ []) ≡ lefts (of by h) + 1 = count_push (λ (y : One). is_left y.call) (of by h) e ∙ ap (λ (z : MuxCall). lefts (of by h) + cond {A = ℕ} (is_left z) 1 0) p in omega arith)
]

record Known (h : History) (m : Mux) : Type 0 where
  calls : CallsKnown h m.calls
  left : LeftKnown h m.left

known_step : (x : Mux) (h : History) (m : Mux) (e : One) → Known h m → is_ready m e.call ≡ true → IsSound m e.call → e.reply ≡ (step m e.call).1 → IsFit x e.caller (of e.caller h) e.call → Known (h ++ e ∷ []) (step m e.call).0
known_step x h m e k r s w f = record { calls = calls_step x h m e e.call refl w f k.calls; left = left_step x h m e e.call refl f k.left }

no_calls : CallsKnown [] []
no_calls = record {
  each = λ id c g. let w = call_within [] id c g in nothing_at id c g w;
  owned = λ n id o. absurd (cc);
  early = λ n id l. (refl, refl);
} where
  nothing_at : (id : ℕ) (c : Called) → call_at [] id ≡ Some c → id ≤ 0 → KnownCall [] id c
  nothing_at zero c g l = absurd (none-some c g)
  nothing_at (suc k) c g l = absurd (omega arith)

known_first : (x : Mux) → Opens x → Known [] x
known_first x o = record { calls = subst (CallsKnown []) (sym o.uncalled) no_calls; left = subst (LeftKnown []) (sym o.stay) (λ k l g. absurd (none-some l g)) }

none_left : (h : History) (by : ℕ) (left : List ℕ) → ((k l : ℕ) → slice_get left k ≡ Some l → 1 ≤ lefts (of l h)) → lefts (of by h) ≡ 0 → list_any (λ n. n == by) left ≡ false
none_left h by [] known z = refl
none_left h by (l ∷ ls) known z = elim (cases_Bool (l == by)) [
  | inl t ↦ (let a = known 0 l refl in let b : lefts (of l h) ≡ lefts (of by h) = ap (λ (n : ℕ). lefts (of n h)) (eqb-true l by t) in absurd (omega arith))
  | inr f ↦ ap (λ (b : Bool). b || list_any (λ n. n == by) ls) f ∙ none_left h by ls (λ k y g. known (suc k) y g) z
]

sound_if_fit : (x : Mux) (h : History) (m : Mux) (n : ℕ) (call : MuxCall) → Known h m → IsFit x n (of n h) call → IsSound m call
sound_if_fit x h m n (Start by r) k f = tt
sound_if_fit x h m n (Cancel by id) k f = let w = k.calls.owned n id f.1.2 in let c = k.calls.each id w.0 w.1 in (
  w.0,
  w.1,
  w.2 ∙ sym f.0,
  c.1 ∙ (ap (λ (z : ℕ). has_await id (of z h)) w.2 ∙ f.1.4),
  c.0 ∙ (ap (λ (z : ℕ). has_cancel id (of z h)) w.2 ∙ f.1.3),
)
sound_if_fit x h m n (Await by id) k f = let w = k.calls.owned n id f.1.2 in let c = k.calls.each id w.0 w.1 in (
  w.0,
  w.1,
  w.2 ∙ sym f.0,
  c.1 ∙ (ap (λ (z : ℕ). has_await id (of z h)) w.2 ∙ f.1.3),
  λ q. both_ways (was_dropped id (of n h)) f.1.4 (ap (λ (z : ℕ). was_dropped id (of z h)) (sym w.2) ∙ c.2 q),
)
sound_if_fit x h m n (Arrived id r) k f = tt
sound_if_fit x h m n Next k f = tt
sound_if_fit x h m n (Lost why) k f = tt
sound_if_fit x h m n (Left by) k f = none_left h by m.left k.left (ap (λ (z : ℕ). lefts (of z h)) f.0 ∙ f.1.1)

-- a fit call is sound
pub enough : history.IsEnough is_ready IsSound step Opens IsFit
enough x h n call opens legal fit f =
    sound_if_fit x h (history.replay step x h) n call (along is_ready IsSound step IsFit x Known (known_step x) [] h x (known_first x opens) legal fit) f

-- an id has one caller
pub one_owner : (x : Mux) (h : History) (n k id : ℕ) → Opens x → history.Legal is_ready IsSound step x h → history.FitFrom IsFit x [] h → owns id (of n h) ≡ true → owns id (of k h) ≡ true → n ≡ k
one_owner x h n k id o l f a b = let known = along is_ready IsSound step IsFit x Known (known_step x) [] h x (known_first x o) l f in let u = known.calls.owned n id a in let v = known.calls.owned k id b in
    sym u.2 ∙ (ap (λ (z : Called). z.by) (same_Some u.0 v.0 (sym u.1 ∙ v.1)) ∙ v.2)
