-- A call's reply is the first that arrived after its Start.
use Rattle.std.proofs.Common.{◌≡◌, ℕ, ◌+◌, ◌<◌, ◌≤◌, suc, zero, Bool, true, false, ◌==◌, ◌||◌, if◌then◌else◌, List, [], ◌∷◌, ◌++◌, length, Option, Some, None, inl, inr, sym, refl, ap, ◌∙◌, subst, arith, eq-eqb, ne_eqb}
use Rattle.std.specs.Prelude.{slice_get}
use Rattle.std.proofs.lemmas.Bool.{cases_eq, cases_Bool, both_ways, eqb-true}
use Rattle.std.proofs.lemmas.List.{length-append}
use Rattle.std.proofs.lemmas.Option.{none-some, same_Some}
use Rattle.giop_messages.specs.Message.{Request}
use Rattle.client_mux.specs.declared.heard_reply.HeardReply.{HeardReply}
use Rattle.client_mux.specs.declared.why.Why.{Why}
use Rattle.client_mux.specs.declared.call.MuxReply.TheVariants as reply
use Rattle.client_mux.specs.declared.call.MuxCall.{MuxCall}
use Rattle.client_mux.specs.declared.call.MuxCall.TheVariants.{Start, Cancel, Next, Arrived, Await, Lost, Left}
use Rattle.client_mux.specs.declared.called.Called.{Called}
use Rattle.client_mux.specs.declared.called.Doing.{Doing}
use Rattle.client_mux.specs.declared.called.Doing.TheVariants.{Waiting, Answered, Dropped}
use Rattle.client_mux.specs.Machine.{Mux, One, History, call_at, set_call, new_call, started, stopped, cancelled, matched, arrived, gone, outcome, awaited, is_ready, IsSound, step, Opens}
use Rattle.client_mux.specs.Callers.{starts_as}
use Rattle.client_mux.specs.Exchange.{IsLegal, replay, begun, came_or, first_arrived, reply_after_start}
use Rattle.client_mux.specs.CallPlaces.{call_within, length_set, call_cases, call_pushed}
use Rattle.client_mux.specs.SeatLaws.{starts_by, next_calls}
use Rattle.client_mux.proofs.Either.{or_else, or_none}
use Rattle.flat_seats.proofs.Own.{push_grow, push_own, push_back}
use Rattle.flat_seats.proofs.Along.{along_legal, legal_prefix, sound_at, answered_at}

came_here : (b : Bool) (r : HeardReply) (o c : Option HeardReply) → (if b then Some r else or_else o c) ≡ or_else (if b then Some r else o) c
came_here true r o c = refl
came_here false r o c = refl

came_else : (id : ℕ) (call : MuxCall) (o b : Option HeardReply) → came_or id call (or_else o b) ≡ or_else (came_or id call o) b
came_else id (Arrived i r) o b = came_here (i == id) r o b
came_else id (Start by r) o b = refl
came_else id (Cancel by i) o b = refl
came_else id Next o b = refl
came_else id (Await by i) o b = refl
came_else id (Lost why) o b = refl
came_else id (Left by) o b = refl

first_push : (id : ℕ) (h : History) (e : One) → first_arrived id (h ++ e ∷ []) ≡ or_else (first_arrived id h) (came_or id e.call None)
first_push id [] e = refl
first_push id (d ∷ ds) e = ap (came_or id d.call) (first_push id ds e) ∙ came_else id d.call (first_arrived id ds) (came_or id e.call None)

-- after the Start the first reply is the one that was first, or else the new one
pub after_push : (id : ℕ) (h : History) (e : One) → begun id h ≡ true → reply_after_start id (h ++ e ∷ []) ≡ or_else (reply_after_start id h) (came_or id e.call None)
after_push id [] e q = absurd (cc)
after_push id (d ∷ ds) e q = at (starts_as id d.call d.reply) q (after_push id ds e) where
  at : (b : Bool) → (b || begun id ds) ≡ true → (begun id ds ≡ true → reply_after_start id (ds ++ e ∷ []) ≡ or_else (reply_after_start id ds) (came_or id e.call None))
      → (if b then first_arrived id (ds ++ e ∷ []) else reply_after_start id (ds ++ e ∷ [])) ≡ or_else (if b then first_arrived id ds else reply_after_start id ds) (came_or id e.call None)
  at true q later = first_push id ds e
  at false q later = later q

pub after_new : (id : ℕ) (h : History) (e : One) → begun id h ≡ false → reply_after_start id (h ++ e ∷ []) ≡ None
after_new id [] e q = at (starts_as id e.call e.reply) where
  at : (b : Bool) → ◌≡◌ {A = Option HeardReply} (if b then None else None) None
  at true = refl
  at false = refl
after_new id (d ∷ ds) e q = at (starts_as id d.call d.reply) q (after_new id ds e) where
  at : (b : Bool) → (b || begun id ds) ≡ false → (begun id ds ≡ false → reply_after_start id (ds ++ e ∷ []) ≡ None) → (if b then first_arrived id (ds ++ e ∷ []) else reply_after_start id (ds ++ e ∷ [])) ≡ None
  at true q later = absurd (cc)
  at false q later = later q

-- and it stays
stays_if : (b : Bool) (v r : HeardReply) (a o : Option HeardReply) → (a ≡ Some r → o ≡ Some r) → (if b then Some v else a) ≡ Some r → (if b then Some v else o) ≡ Some r
stays_if true v r a o f q = q
stays_if false v r a o f q = f q

came_stays : (id : ℕ) (r : HeardReply) (call : MuxCall) (a o : Option HeardReply) → (a ≡ Some r → o ≡ Some r) → came_or id call a ≡ Some r → came_or id call o ≡ Some r
came_stays id r (Arrived i v) a o f q = stays_if (i == id) v r a o f q
came_stays id r (Start by v) a o f q = f q
came_stays id r (Cancel by i) a o f q = f q
came_stays id r Next a o f q = f q
came_stays id r (Await by i) a o f q = f q
came_stays id r (Lost why) a o f q = f q
came_stays id r (Left by) a o f q = f q

first_stays : (id : ℕ) (r : HeardReply) (h more : History) → first_arrived id h ≡ Some r → first_arrived id (h ++ more) ≡ Some r
first_stays id r [] more q = absurd (none-some r q)
first_stays id r (d ∷ ds) more q = came_stays id r d.call (first_arrived id ds) (first_arrived id (ds ++ more)) (first_stays id r ds more) q

pub after_stays : (id : ℕ) (r : HeardReply) (h more : History) → reply_after_start id h ≡ Some r → reply_after_start id (h ++ more) ≡ Some r
after_stays id r [] more q = absurd (none-some r q)
after_stays id r (d ∷ ds) more q = at (starts_as id d.call d.reply) q (after_stays id r ds more) where
  at : (b : Bool) → (if b then first_arrived id ds else reply_after_start id ds) ≡ Some r → (reply_after_start id ds ≡ Some r → reply_after_start id (ds ++ more) ≡ Some r)
      → (if b then first_arrived id (ds ++ more) else reply_after_start id (ds ++ more)) ≡ Some r
  at true q later = first_stays id r ds more q
  at false q later = later q

-- what a call does, by what arrived
abbrev FitsReply : Doing → Option HeardReply → Type 0
FitsReply Waiting o = o ≡ None
FitsReply (Answered r) o = o ≡ Some r
FitsReply Dropped o = Unit {0}

abbrev IsHeard : History → ℕ → Doing → Type 0
IsHeard h id d = (begun id h ≡ true) × FitsReply d (reply_after_start id h)

record Heard (h : History) (calls : List Called) : Type 0 where
  each : (id : ℕ) (c : Called) → call_at calls id ≡ Some c → IsHeard h id c.doing
  fresh : (id : ℕ) → length calls < id → begun id h ≡ false

fits_quiet : (d : Doing) (o : Option HeardReply) → FitsReply d o → FitsReply d (or_else o None)
fits_quiet d o f = subst (FitsReply d) (sym (or_none o)) f

-- no reply of this id arrives
heard_stays : (h : History) (e : One) (id : ℕ) (d : Doing) → came_or id e.call None ≡ None → IsHeard h id d → IsHeard (h ++ e ∷ []) id d
heard_stays h e id d q k = (
  push_grow (λ (y : One). starts_as id y.call y.reply) h e k.0,
  subst (FitsReply d) (sym (after_push id h e k.0 ∙ (ap (or_else (reply_after_start id h)) q ∙ or_none (reply_after_start id h)))) k.1,
)

fits_done : (d : Doing) (o b : Option HeardReply) (waits : d ≡ Waiting → ⊥) → FitsReply d o → FitsReply d (or_else o b)
fits_done Waiting o b w f = absurd (w refl)
fits_done (Answered r) o b w f = ap (λ (z : Option HeardReply). or_else z b) f
fits_done Dropped o b w f = tt

-- or the call waits no more
heard_done : (h : History) (e : One) (id : ℕ) (d : Doing) → (d ≡ Waiting → ⊥) → IsHeard h id d → IsHeard (h ++ e ∷ []) id d
heard_done h e id d w k = (
  push_grow (λ (y : One). starts_as id y.call y.reply) h e k.0,
  subst (FitsReply d) (sym (after_push id h e k.0)) (fits_done d (reply_after_start id h) (came_or id e.call None) w k.1),
)

-- or it is its first
heard_first : (h : History) (e : One) (id : ℕ) (r : HeardReply) → came_or id e.call None ≡ Some r → IsHeard h id Waiting → IsHeard (h ++ e ∷ []) id (Answered r)
heard_first h e id r q k = (
  push_grow (λ (y : One). starts_as id y.call y.reply) h e k.0,
  after_push id h e k.0 ∙ (ap (λ (z : Option HeardReply). or_else z (came_or id e.call None)) k.1 ∙ q),
)

fresh_step : (h : History) (e : One) (long long' : ℕ) → long ≤ long' → ((k : ℕ) → starts_as k e.call e.reply ≡ true → k ≤ long') → ((id : ℕ) → long < id → begun id h ≡ false)
    → (id : ℕ) → long' < id → begun id (h ++ e ∷ []) ≡ false
fresh_step h e long long' l new was id beyond = elim (cases_Bool (begun id (h ++ e ∷ []))) [
  | inl t ↦ elim (push_back (λ (y : One). starts_as id y.call y.reply) h e t) [
    | inl a ↦ absurd (both_ways (begun id h) (was id (omega arith)) a)
    | inr a ↦ (let b = new id a in absurd (omega arith))
  ]
  | inr f ↦ f
]

no_start : (e : One) → ((k : ℕ) → starts_as k e.call e.reply ≡ false) → (long k : ℕ) → starts_as k e.call e.reply ≡ true → k ≤ long
no_start e q long k t = absurd (both_ways (starts_as k e.call e.reply) (q k) t)

keeps : (h : History) (e : One) (calls : List Called) → ((k : ℕ) → came_or k e.call None ≡ None) → ((k : ℕ) → starts_as k e.call e.reply ≡ false) → Heard h calls → Heard (h ++ e ∷ []) calls
keeps h e calls q s known = record {
  each = λ id c g. heard_stays h e id c.doing (q id) (known.each id c g);
  fresh = fresh_step h e (length calls) (length calls) (omega arith) (no_start e s (length calls)) known.fresh;
}

sets : (h : History) (e : One) (calls : List Called) (id : ℕ) (c z : Called) → call_at calls id ≡ Some c → ((k : ℕ) → (k ≡ id → ⊥) → came_or k e.call None ≡ None) → ((k : ℕ) → starts_as k e.call e.reply ≡ false)
    → IsHeard (h ++ e ∷ []) id z.doing → Heard h calls → Heard (h ++ e ∷ []) (set_call calls id z)
sets h e calls id c z g q s new known = let long = length_set calls id z in record {
  each = λ k y f. elim (call_cases calls id k c z y g f) [
    | inl a ↦ subst (λ (w : Called). IsHeard (h ++ e ∷ []) k w.doing) a.1 (subst (λ (i : ℕ). IsHeard (h ++ e ∷ []) i z.doing) (sym a.0) new)
    | inr a ↦ heard_stays h e k y.doing (q k a.0) (known.each k y a.1)
  ];
  fresh = fresh_step h e (length calls) (length (set_call calls id z)) (omega arith) (no_start e s (length (set_call calls id z))) known.fresh;
}

-- the call of this id waits no more, and stays
hears : (h : History) (e : One) (calls : List Called) (id : ℕ) → ((c : Called) → call_at calls id ≡ Some c → c.doing ≡ Waiting → ⊥) → ((k : ℕ) → (k ≡ id → ⊥) → came_or k e.call None ≡ None) → ((k : ℕ) → starts_as k e.call e.reply ≡ false)
    → Heard h calls → Heard (h ++ e ∷ []) calls
hears h e calls id w q s known = record {
  each = λ k c g. elim (cases_eq k id) [
    | inl same ↦ heard_done h e k c.doing (w c (ap (call_at calls) (sym same) ∙ g)) (known.each k c g)
    | inr differs ↦ heard_stays h e k c.doing (q k differs) (known.each k c g)
  ];
  fresh = fresh_step h e (length calls) (length calls) (omega arith) (no_start e s (length calls)) known.fresh;
}

pushes : (h : History) (e : One) (calls : List Called) (by : ℕ) (r : Request) → e.call ≡ Start by r → e.reply ≡ reply.Id (length calls + 1) → Heard h calls → Heard (h ++ e ∷ []) (calls ++ new_call by ∷ [])
pushes h e calls by r p w known = let long = length-append calls (new_call by ∷ []) in record {
  each = λ id c g. elim (call_pushed calls id (new_call by) c g) [
    | inl a ↦ heard_stays h e id c.doing (ap (λ (z : MuxCall). came_or id z None) p) (known.each id c a)
    | inr a ↦ subst (λ (z : Called). IsHeard (h ++ e ∷ []) id z.doing) a.1 (subst (λ (k : ℕ). IsHeard (h ++ e ∷ []) k Waiting) (sym a.0) (
      push_own (λ (y : One). starts_as (length calls + 1) y.call y.reply) h e (starts_by (length calls + 1) e (Start by r) (reply.Id (length calls + 1)) p w ∙ eq-eqb (length calls + 1) (length calls + 1) refl),
      after_new (length calls + 1) h e (known.fresh (length calls + 1) (omega arith)),
    ))
  ];
  fresh = fresh_step h e (length calls) (length (calls ++ new_call by ∷ [])) (omega arith)
      (λ k t. let same : length calls + 1 ≡ k = eqb-true (length calls + 1) k (sym (starts_by k e (Start by r) (reply.Id (length calls + 1)) p w) ∙ t) in omega arith) known.fresh;
}

start_step : (h : History) (m : Mux) (e : One) (by : ℕ) (r : Request) (lost : Option Why) → e.call ≡ Start by r → e.reply ≡ (started m by r lost).1 → Heard h m.calls → Heard (h ++ e ∷ []) (started m by r lost).0.calls
start_step h m e by r None p w known = pushes h e m.calls by r p w known
start_step h m e by r (Some why) p w known = keeps h e m.calls (λ k. ap (λ (z : MuxCall). came_or k z None) p) (λ k. starts_by k e (Start by r) (reply.Gone why) p w) known

stop_step : (h : History) (m : Mux) (e : One) (by id : ℕ) (c : Called) (d : Doing) → call_at m.calls id ≡ Some c → e.call ≡ Cancel by id → Heard h m.calls → Heard (h ++ e ∷ []) (stopped m id c d).0.calls
stop_step h m e by id c Waiting g p known = sets h e m.calls id c (record c { doing = Dropped; cancelled = true }) g (λ k d. ap (λ (z : MuxCall). came_or k z None) p) (λ k. ap (λ (z : MuxCall). starts_as k z e.reply) p)
    (push_grow (λ (y : One). starts_as id y.call y.reply) h e (known.each id c g).0, tt) known
stop_step h m e by id c (Answered v) g p known = sets h e m.calls id c (record c { cancelled = true }) g (λ k d. ap (λ (z : MuxCall). came_or k z None) p) (λ k. ap (λ (z : MuxCall). starts_as k z e.reply) p)
    (heard_stays h e id c.doing (ap (λ (z : MuxCall). came_or id z None) p) (known.each id c g)) known
stop_step h m e by id c Dropped g p known = sets h e m.calls id c (record c { cancelled = true }) g (λ k d. ap (λ (z : MuxCall). came_or k z None) p) (λ k. ap (λ (z : MuxCall). starts_as k z e.reply) p)
    (heard_stays h e id c.doing (ap (λ (z : MuxCall). came_or id z None) p) (known.each id c g)) known

cancel_step : (h : History) (m : Mux) (e : One) (by id : ℕ) (o : Option Called) → call_at m.calls id ≡ o → e.call ≡ Cancel by id → Heard h m.calls → Heard (h ++ e ∷ []) (cancelled m id o).0.calls
cancel_step h m e by id (Some c) g p known = stop_step h m e by id c c.doing g p known
cancel_step h m e by id None g p known = keeps h e m.calls (λ k. ap (λ (z : MuxCall). came_or k z None) p) (λ k. ap (λ (z : MuxCall). starts_as k z e.reply) p) known

await_step : (h : History) (m : Mux) (e : One) (by id : ℕ) (o : Option Called) → call_at m.calls id ≡ o → e.call ≡ Await by id → Heard h m.calls → Heard (h ++ e ∷ []) (awaited m id o).0.calls
await_step h m e by id (Some c) g p known = sets h e m.calls id c (record c { awaited = true }) g (λ k d. ap (λ (z : MuxCall). came_or k z None) p) (λ k. ap (λ (z : MuxCall). starts_as k z e.reply) p)
    (heard_stays h e id c.doing (ap (λ (z : MuxCall). came_or id z None) p) (known.each id c g)) known
await_step h m e by id None g p known = keeps h e m.calls (λ k. ap (λ (z : MuxCall). came_or k z None) p) (λ k. ap (λ (z : MuxCall). starts_as k z e.reply) p) known

others : (e : One) (id : ℕ) (r : HeardReply) → e.call ≡ Arrived id r → (k : ℕ) → (k ≡ id → ⊥) → came_or k e.call None ≡ None
others e id r p k d = ap (λ (z : MuxCall). came_or k z None) p ∙ ap (λ (b : Bool). if b then Some r else None) (ne_eqb id k (λ q. d (sym q)))

match_step : (h : History) (m : Mux) (e : One) (id : ℕ) (r : HeardReply) (c : Called) (d : Doing) → c.doing ≡ d → call_at m.calls id ≡ Some c → e.call ≡ Arrived id r → Heard h m.calls → Heard (h ++ e ∷ []) (matched m id r c d).0.calls
match_step h m e id r c Waiting w g p known = sets h e m.calls id c (record c { doing = Answered r }) g (others e id r p) (λ k. ap (λ (z : MuxCall). starts_as k z e.reply) p)
    (heard_first h e id r (ap (λ (z : MuxCall). came_or id z None) p ∙ ap (λ (b : Bool). if b then Some r else None) (eq-eqb id id refl)) (subst (IsHeard h id) w (known.each id c g))) known
match_step h m e id r c (Answered v) w g p known = hears h e m.calls id (λ z f q. absurd (let s : z.doing ≡ c.doing = ap (λ (y : Called). y.doing) (same_Some z c (sym f ∙ g)) in answered v (sym w ∙ (sym s ∙ q)))) (others e id r p) (λ k. ap (λ (z : MuxCall). starts_as k z e.reply) p) known where
  answered : (v : HeardReply) → Answered v ≡ Waiting → ⊥
  answered v q = cc
match_step h m e id r c Dropped w g p known = hears h e m.calls id (λ z f q. absurd (let s : z.doing ≡ c.doing = ap (λ (y : Called). y.doing) (same_Some z c (sym f ∙ g)) in dropped (sym w ∙ (sym s ∙ q)))) (others e id r p) (λ k. ap (λ (z : MuxCall). starts_as k z e.reply) p) known where
  dropped : Dropped ≡ Waiting → ⊥
  dropped q = cc

arrive_step : (h : History) (m : Mux) (e : One) (id : ℕ) (r : HeardReply) (o : Option Called) → call_at m.calls id ≡ o → e.call ≡ Arrived id r → Heard h m.calls → Heard (h ++ e ∷ []) (arrived m id r o).0.calls
arrive_step h m e id r (Some c) g p known = match_step h m e id r c c.doing refl g p known
arrive_step h m e id r None g p known = hears h e m.calls id (λ z f q. none-some z (sym g ∙ f)) (others e id r p) (λ k. ap (λ (z : MuxCall). starts_as k z e.reply) p) known

heard_step : (h : History) (m : Mux) (e : One) (call : MuxCall) → e.call ≡ call → e.reply ≡ (step m call).1 → Heard h m.calls → Heard (h ++ e ∷ []) (step m call).0.calls
heard_step h m e (Start by r) p w known = start_step h m e by r m.lost p w known
heard_step h m e (Cancel by id) p w known = cancel_step h m e by id (call_at m.calls id) refl p known
heard_step h m e (Await by id) p w known = await_step h m e by id (call_at m.calls id) refl p known
heard_step h m e (Arrived id r) p w known = arrive_step h m e id r (call_at m.calls id) refl p known
heard_step h m e Next p w known = subst (Heard (h ++ e ∷ [])) (sym (next_calls m m.lost (slice_get m.sends m.sent))) (keeps h e m.calls (λ k. ap (λ (z : MuxCall). came_or k z None) p) (λ k. ap (λ (z : MuxCall). starts_as k z e.reply) p) known)
heard_step h m e (Lost why) p w known = keeps h e m.calls (λ k. ap (λ (z : MuxCall). came_or k z None) p) (λ k. ap (λ (z : MuxCall). starts_as k z e.reply) p) known
heard_step h m e (Left by) p w known = keeps h e m.calls (λ k. ap (λ (z : MuxCall). came_or k z None) p) (λ k. ap (λ (z : MuxCall). starts_as k z e.reply) p) known

no_calls : Heard [] []
no_calls = record {
  each = λ id c g. let w = call_within [] id c g in nothing_at id c g w;
  fresh = λ id l. refl;
} where
  nothing_at : (id : ℕ) (c : Called) → call_at [] id ≡ Some c → id ≤ 0 → IsHeard [] id c.doing
  nothing_at zero c g l = absurd (none-some c g)
  nothing_at (suc k) c g l = absurd (omega arith)

heard : (x : Mux) (h : History) → Opens x → IsLegal x h → Heard h (replay x h).calls
heard x h o l = along_legal is_ready IsSound step (λ (h : History) (m : Mux). Heard h m.calls) (λ h m e k r s w. heard_step h m e e.call refl w k) [] h x (subst (Heard []) (sym o.uncalled) no_calls) l

reply_is : (a b : HeardReply) → reply.Reply a ≡ reply.Reply b → a ≡ b
reply_is a b e = cc

gone_not : (lost : Option Why) (r : HeardReply) → gone lost ≡ reply.Reply r → ⊥
gone_not (Some w) r e = cc
gone_not None r e = cc

outcome_is : (lost : Option Why) (d : Doing) (r : HeardReply) → outcome lost d ≡ reply.Reply r → d ≡ Answered r
outcome_is lost (Answered v) r e = ap Answered (reply_is v r e)
outcome_is lost Waiting r e = absurd (gone_not lost r e)
outcome_is lost Dropped r e = absurd (gone_not lost r e)

await_gets : (h : History) (m : Mux) (id : ℕ) (r : HeardReply) (o : Option Called) → call_at m.calls id ≡ o → (awaited m id o).1 ≡ reply.Reply r → Heard h m.calls → reply_after_start id h ≡ Some r
await_gets h m id r (Some c) g e known = (subst (IsHeard h id) (outcome_is m.lost c.doing r e) (known.each id c g)).1
await_gets h m id r None g e known = absurd (gone_not m.lost r e)

-- who is outcome a reply is outcome the first that arrived after the Start
pub own_reply : (x : Mux) (before after : History) (e : One) (by id : ℕ) (r : HeardReply) → Opens x → IsLegal x (before ++ e ∷ after) → e.call ≡ Await by id → e.reply ≡ reply.Reply r → reply_after_start id before ≡ Some r
own_reply x before after e by id r o l c w = let m = replay x before in
    await_gets before m id r (call_at m.calls id) refl (ap (λ (z : MuxCall). (step m z).1) (sym c) ∙ (sym (answered_at is_ready IsSound step x before after e l) ∙ w)) (heard x before o (legal_prefix is_ready IsSound step x before (e ∷ after) l))

-- who is answered Gone has no reply
gone_waits : (lost : Option Why) (d : Doing) (why : Why) → (d ≡ Dropped → ⊥) → outcome lost d ≡ reply.Gone why → d ≡ Waiting
gone_waits lost (Answered r) why n e = absurd (cc)
gone_waits lost Waiting why n e = refl
gone_waits lost Dropped why n e = absurd (n refl)

pub gone_has_none : (x : Mux) (before after : History) (e : One) (by id : ℕ) (why : Why) → Opens x → IsLegal x (before ++ e ∷ after) → e.call ≡ Await by id → e.reply ≡ reply.Gone why → reply_after_start id before ≡ None
gone_has_none x before after e by id why o l c w = let m = replay x before in
    let s : IsSound m (Await by id) = subst (IsSound m) c (sound_at is_ready IsSound step x before after e l) in
    let q : outcome m.lost s.0.doing ≡ reply.Gone why =
    ap (λ (z : Option Called). (awaited m id z).1) (sym s.1) ∙ (ap (λ (z : MuxCall). (step m z).1) (sym c) ∙ (sym (answered_at is_ready IsSound step x before after e l) ∙ w)) in
    (subst (IsHeard before id) (gone_waits m.lost s.0.doing why s.4 q) ((heard x before o (legal_prefix is_ready IsSound step x before (e ∷ after) l)).each id s.0 s.1)).1

match_stray : (h : History) (m : Mux) (id : ℕ) (r : HeardReply) (o : Option Called) → call_at m.calls id ≡ o → begun id h ≡ false → Heard h m.calls → (arrived m id r o).1 ≡ reply.Stray
match_stray h m id r (Some c) g b known = absurd (both_ways (begun id h) b (known.each id c g).0)
match_stray h m id r None g b known = refl

-- what arrives before the Start is stray
pub early_is_stray : (x : Mux) (before after : History) (e : One) (id : ℕ) (r : HeardReply) → Opens x → IsLegal x (before ++ e ∷ after) → e.call ≡ Arrived id r → begun id before ≡ false → e.reply ≡ reply.Stray
early_is_stray x before after e id r o l c b = let m = replay x before in
    answered_at is_ready IsSound step x before after e l ∙ (ap (λ (z : MuxCall). (step m z).1) c ∙ match_stray before m id r (call_at m.calls id) refl b (heard x before o (legal_prefix is_ready IsSound step x before (e ∷ after) l)))

id_is : (a b : ℕ) → reply.Id a ≡ reply.Id b → a ≡ b
id_is a b e = cc

start_new : (h : History) (m : Mux) (by : ℕ) (q : Request) (id : ℕ) (lost : Option Why) → (started m by q lost).1 ≡ reply.Id id → Heard h m.calls → begun id h ≡ false
start_new h m by q id None e known = let same = id_is (length m.calls + 1) id e in known.fresh id (omega arith)
start_new h m by q id (Some why) e known = absurd (cc)

-- no id is given twice
pub new_id : (x : Mux) (before after : History) (e : One) (by : ℕ) (q : Request) (id : ℕ) → Opens x → IsLegal x (before ++ e ∷ after) → e.call ≡ Start by q → e.reply ≡ reply.Id id → begun id before ≡ false
new_id x before after e by q id o l c w = let m = replay x before in
    start_new before m by q id m.lost (ap (λ (z : MuxCall). (step m z).1) (sym c) ∙ (sym (answered_at is_ready IsSound step x before after e l) ∙ w)) (heard x before o (legal_prefix is_ready IsSound step x before (e ∷ after) l))
