-- Each lane keeps a thread, and each request that waits has one in its lane.
use Rattle.std.proofs.Common.{◌≡◌, ℕ, ◌+◌, ◌<◌, ◌≤◌, suc, zero, Bool, true, false, cond, eqb, ◌&&◌, All, List, [], ◌∷◌, ◌++◌, length, Option, Some, None, inl, inr, sym, refl, ap, ◌∙◌, subst, arith}
use Rattle.std.specs.Prelude.{slice_get, slice_set, nat_lt}
use Rattle.std.specs.List.{sum_by}
use Rattle.std.proofs.lemmas.Bool.{cases_eq, cases_Bool, both_ways, eq-eqb, or_left, lt-ltb, ltb-true}
use Rattle.std.proofs.lemmas.Option.{same_Some, slice_get_within, get_or_from_slice_get}
use Rattle.std.proofs.lemmas.List.Sums.{get_or-le-sum_by}
use Rattle.orb_base.specs.declared.job.Job.{Job}
use Rattle.orb_base.specs.declared.conn_id.ConnId.{ConnId}
use Rattle.orb_base.specs.Pool.{Pool, lane_threads}
use Rattle.orb_base.specs.declared.lane_spec.LaneSpec.{LaneSpec}
use Rattle.orb_base.specs.declared.item.Item.{Item}
use Rattle.orb_base.specs.declared.item.Item.TheVariants as item
use Rattle.thread_borrowing.specs.declared.doing.Doing.{Doing}
use Rattle.thread_borrowing.specs.declared.doing.Doing.TheVariants.{Free, Given, Busy}
use Rattle.thread_borrowing.specs.ThreadList.{Thread, is_free, some_threads, pool_threads, doing, given}
use Rattle.thread_borrowing.specs.Choice.{may_run}
use Rattle.thread_borrowing.proofs.Places.{set_other, set_same}
use Rattle.lane_machine.specs.declared.call.LaneCall.{LaneCall}
use Rattle.lane_machine.specs.declared.call.LaneCall.TheVariants.{Offer, Post, Cancel, Take, Finish, Collect, End, Leave}
use Rattle.lane_machine.specs.declared.call.LaneReply.{LaneReply}
use Rattle.lane_machine.specs.declared.call.LaneReply.TheVariants as reply
use Rattle.lane_machine.specs.State.{State, opening}
use Rattle.lane_machine.specs.Machine.{step, is_over, early_items, refusals, late_items}
use Rattle.lane_machine.specs.Readiness.{is_ready, IsSound, HasLane}
use Rattle.lane_machine.specs.Urgency.{NoneIdles}
use Rattle.lane_machine.specs.Changes.{Change, same, starts, keeps, drops, begins, frees, passes, changes}
use Rattle.lane_machine.proofs.Weighs.{Weight, weigh, OfferMoves, PostMoves, CancelMoves, TakeMoves, CollectMoves, offer_moves, post_moves, cancel_moves, take_moves, finish_moves, collect_moves}
use Rattle.lane_machine.proofs.Bounds.{opening_weighs}
use Rattle.lane_machine.proofs.Fates.{no_items}

-- a thread is at the place, of this lane
abbrev pub LaneAt : List Thread → ℕ → ℕ → Type 0
LaneAt threads t lane = (thread : Thread) × (slice_get threads t ≡ Some thread) × (thread.lane ≡ lane)

lane_set : (threads : List Thread) (i : ℕ) (old new : Thread) → slice_get threads i ≡ Some old → new.lane ≡ old.lane → (t lane : ℕ) → LaneAt threads t lane → LaneAt (slice_set threads i new) t lane
lane_set threads i old new g l t lane at = elim (cases_eq t i) [
  | inl e ↦ (new, ap (slice_get (slice_set threads i new)) e ∙ set_same threads i old new g, l ∙ (ap (λ (x : Thread). x.lane) (same_Some old at.0 (sym g ∙ (ap (slice_get threads) (sym e) ∙ at.1))) ∙ at.2))
  | inr d ↦ (at.0, set_other threads i t new d ∙ at.1, at.2)
]

lane_stays : (pool : Pool) (threads : List Thread) (waiting : List Job) (threads' : List Thread) (waiting' : List Job) → Change pool threads waiting threads' waiting' → (t lane : ℕ) → LaneAt threads t lane → LaneAt threads' t lane
lane_stays pool threads waiting threads' waiting' (same p w) t lane at = subst (λ (z : List Thread). LaneAt z t lane) (sym p) at
lane_stays pool threads waiting threads' waiting' (starts i old job g e p w) t lane at = subst (λ (z : List Thread). LaneAt z t lane) (sym p) (lane_set threads i old (given job old) g refl t lane at)
lane_stays pool threads waiting threads' waiting' (keeps job e r p w) t lane at = subst (λ (z : List Thread). LaneAt z t lane) (sym p) at
lane_stays pool threads waiting threads' waiting' (drops k job g p w) t lane at = subst (λ (z : List Thread). LaneAt z t lane) (sym p) at
lane_stays pool threads waiting threads' waiting' (begins i old job g e p w) t lane at = subst (λ (z : List Thread). LaneAt z t lane) (sym p) (lane_set threads i old (doing old (Busy job)) g refl t lane at)
lane_stays pool threads waiting threads' waiting' (frees i old g e p w) t lane at = subst (λ (z : List Thread). LaneAt z t lane) (sym p) (lane_set threads i old (doing old Free) g refl t lane at)
lane_stays pool threads waiting threads' waiting' (passes i old k job g x e p w) t lane at = subst (λ (z : List Thread). LaneAt z t lane) (sym p) (lane_set threads i old (given job old) g refl t lane at)

-- at the opening each lane of the pool has a thread
behind : (xs ys : List Thread) (t lane : ℕ) → LaneAt ys t lane → (k : ℕ) × LaneAt (xs ++ ys) k lane
behind [] ys t lane at = (t, at)
behind (x ∷ xs) ys t lane at = let h = behind xs ys t lane at in (suc h.0, h.1)

first_thread : (lane : ℕ) (l : LaneSpec) (rest : List Thread) → 0 < lane_threads l → (a b : ℕ) → l.statics ≡ a → l.dynamics ≡ b → (k : ℕ) × LaneAt (some_threads lane true a ++ some_threads lane false b ++ rest) k lane
first_thread lane l rest p zero zero e f = absurd (omega arith)
first_thread lane l rest p zero (suc b) e f = (0, (record { lane = lane; is_static = false; started = false; doing = Free }, refl, refl))
first_thread lane l rest p (suc a) b e f = (0, (record { lane = lane; is_static = true; started = true; doing = Free }, refl, refl))

pub lane_opens : (lane : ℕ) (lanes : List LaneSpec) → All (λ lane. 0 < lane_threads lane) lanes → (i : ℕ) → i < length lanes → (k : ℕ) × LaneAt (pool_threads lane lanes) k (lane + i)
lane_opens lane [] h i l = absurd (omega arith)
lane_opens lane (x ∷ xs) h zero l = let a = first_thread lane x (pool_threads (lane + 1) xs) (h 0 x (omega arith)) x.statics x.dynamics refl refl in (a.0, (a.1.0, a.1.1, a.1.2 ∙ omega arith))
lane_opens lane (x ∷ xs) h (suc i) l = let a = lane_opens (lane + 1) xs (λ k d m. h (suc k) d (omega arith)) i (omega arith) in let b = behind (some_threads lane true x.statics ++ some_threads lane false x.dynamics) (pool_threads (lane + 1) xs) a.0 (lane + 1 + i) a.1 in (b.0, (b.1.0, b.1.1, b.1.2 ∙ omega arith))

-- a request of no lane of the pool weighs one
abbrev strays : ℕ → Doing → ℕ
strays n Free = 0
strays n (Given job) = cond (nat_lt job.lane n) 0 1
strays n (Busy job) = cond (nat_lt job.lane n) 0 1

abbrev astray : ℕ → Weight
astray n = record { waits = λ job. cond (nat_lt job.lane n) 0 1; does = strays n; owes = λ i. 0; free = refl; given = λ job. refl }

offer_in_lane : (n : ℕ) (job : Job) (a b : ℕ) (r : LaneReply) → job.lane < n → OfferMoves (astray n) job a b r → b ≡ a
offer_in_lane n job a b (reply.Run t lent) l m = let x = no_items (early_items job.due job) in let y : ◌≡◌ {A = ℕ} (cond (nat_lt job.lane n) 0 1) 0 = ap (λ (z : Bool). cond {A = ℕ} z 0 1) (lt-ltb job.lane n l) in omega arith
offer_in_lane n job a b reply.Kept l m = let x = no_items (early_items job.due job) in let y : ◌≡◌ {A = ℕ} (cond (nat_lt job.lane n) 0 1) 0 = ap (λ (z : Bool). cond {A = ℕ} z 0 1) (lt-ltb job.lane n l) in omega arith
offer_in_lane n job a b reply.Full l m = let x = no_items (refusals job.due job) in omega arith
offer_in_lane n job a b reply.Closing l m = m
offer_in_lane n job a b r l m = absurd m

post_in_lane : (n : ℕ) (i : Item) (a b : ℕ) (r : LaneReply) → PostMoves (astray n) i a b r → b ≤ a
post_in_lane n i a b reply.Posted m = omega arith
post_in_lane n i a b reply.Closing m = omega arith
post_in_lane n i a b r m = absurd m

cancel_in_lane : (n : ℕ) (waiting : List Job) (c : ConnId) (id a b : ℕ) (r : LaneReply) → CancelMoves (astray n) waiting c id a b r → b ≤ a
cancel_in_lane n waiting c id a b reply.Removed m = let e = m.2 in omega arith
cancel_in_lane n waiting c id a b reply.Nothing m = omega arith
cancel_in_lane n waiting c id a b reply.Closing m = omega arith
cancel_in_lane n waiting c id a b r m = absurd m

take_in_lane : (n a b : ℕ) (r : LaneReply) → TakeMoves (astray n) a b r → b ≤ a
take_in_lane n a b (reply.Given job) m = omega arith
take_in_lane n a b reply.Ended m = omega arith
take_in_lane n a b r m = absurd m

collect_in_lane : (n a b : ℕ) (r : LaneReply) → CollectMoves (astray n) a b r → b ≤ a
collect_in_lane n a b (reply.Handed i) m = omega arith
collect_in_lane n a b reply.Close m = omega arith
collect_in_lane n a b reply.Error m = omega arith
collect_in_lane n a b reply.Done m = omega arith
collect_in_lane n a b r m = absurd m

lane_there : (laned : Bool) (job : Job) (lanes : List LaneSpec) (o : Option LaneSpec) → slice_get lanes job.lane ≡ o → HasLane laned job o → job.lane < length lanes
lane_there laned job lanes (Some lane) e h = slice_get_within lanes job.lane lane e
lane_there laned job lanes None e h = absurd h

has_lane : (laned : Bool) (job : Job) (lanes : List LaneSpec) → HasLane laned job (slice_get lanes job.lane) → job.lane < length lanes
has_lane laned job lanes h = lane_there laned job lanes (slice_get lanes job.lane) refl h

none_astray : (n : ℕ) (s : State) (call : LaneCall) → length s.pool.lanes ≡ n → IsSound s call → weigh (astray n) s ≡ 0 → weigh (astray n) (step s call).0 ≡ 0
none_astray n s (Offer job) p q h = offer_in_lane n job (weigh (astray n) s) (weigh (astray n) (step s (Offer job)).0) (step s (Offer job)).1 (let a = has_lane s.pool.laned job s.pool.lanes q in omega arith) (offer_moves (astray n) s job (is_over s job.size)) ∙ h
none_astray n s (Post notice) p q h = let m = post_in_lane n (item.Noticed notice) (weigh (astray n) s) (weigh (astray n) (step s (Post notice)).0) (step s (Post notice)).1 (post_moves (astray n) s (item.Noticed notice) (is_over s 0)) in omega arith
none_astray n s (Cancel c id) p q h = let m = cancel_in_lane n s.waiting c id (weigh (astray n) s) (weigh (astray n) (step s (Cancel c id)).0) (step s (Cancel c id)).1 (cancel_moves (astray n) s c id (is_over s 0)) in omega arith
none_astray n s (Take t) p q h = let m = take_in_lane n (weigh (astray n) s) (weigh (astray n) (step s (Take t)).0) (step s (Take t)).1 (take_moves (astray n) s t) in omega arith
none_astray n s (Finish t answer) p q h = let m = finish_moves (astray n) s t answer q in let k = no_items (late_items answer.job.due answer) in omega arith
none_astray n s (Collect c) p q h = let m = collect_in_lane n (weigh (astray n) s) (weigh (astray n) (step s (Collect c)).0) (step s (Collect c)).1 (collect_moves (astray n) s c) in omega arith
none_astray n s (End c how) p q h = h
none_astray n s (Leave slot) p q h = h

-- each lane has a thread, and each request that waits has a lane
pub record Served (s0 : State) (s : State) : Type 0 where
  pub pool : s.pool ≡ s0.pool
  pub lanes : (i : ℕ) → i < length s0.pool.lanes → (t : ℕ) × LaneAt s.threads t i
  pub in_lane : weigh (astray (length s0.pool.lanes)) s ≡ 0

pub served_step : (s0 : State) (s : State) (call : LaneCall) → is_ready s call ≡ true → IsSound s call → Served s0 s → Served s0 (step s call).0
served_step s0 s call r q d = let c = changes s call in record {
  pool = c.0 ∙ d.pool;
  lanes = λ i l. let h = d.lanes i l in (h.0, lane_stays s.pool s.threads s.waiting (step s call).0.threads (step s call).0.waiting c.3 h.0 i h.1);
  in_lane = none_astray (length s0.pool.lanes) s call (ap (λ (p : Pool). length p.lanes) d.pool) q d.in_lane;
}

pub served_first : (pool : Pool) (slots per_slot : ℕ) → All (λ lane. 0 < lane_threads lane) pool.lanes → Served (opening pool slots per_slot) (opening pool slots per_slot)
served_first pool slots per_slot h = record {
  pool = refl;
  lanes = λ i l. let a = lane_opens 0 pool.lanes h i l in (a.0, (a.1.0, a.1.1, a.1.2 ∙ omega arith));
  in_lane = opening_weighs (astray (length pool.lanes)) pool slots per_slot;
}

inside_lane : (lane n : ℕ) → cond {A = ℕ} (nat_lt lane n) 0 1 ≤ 0 → lane < n
inside_lane lane n h = elim (cases_Bool (nat_lt lane n)) [ inl t ↦ ltb-true lane n t | inr f ↦ absurd (let a : ◌≡◌ {A = ℕ} (cond (nat_lt lane n) 0 1) 1 = ap (λ (z : Bool). cond {A = ℕ} z 0 1) f in omega arith) ]

-- so where all threads are free, nothing waits
pub nothing_waits : (s0 s : State) → Served s0 s → NoneIdles s → ((t : ℕ) (thread : Thread) → slice_get s.threads t ≡ Some thread → is_free thread.doing ≡ true) → (k : ℕ) (job : Job) → slice_get s.waiting k ≡ Some job → ⊥
nothing_waits s0 s d idle free k job g = let n = length s0.pool.lanes in let a = get_or-le-sum_by (λ (j : Job). cond {A = ℕ} (nat_lt j.lane (length s0.pool.lanes)) 0 1) s.waiting k job (slice_get_within s.waiting k job g) in
    let b = subst (λ (j : Job). cond {A = ℕ} (nat_lt j.lane (length s0.pool.lanes)) 0 1 ≤ sum_by (λ (j : Job). cond {A = ℕ} (nat_lt j.lane (length s0.pool.lanes)) 0 1) s.waiting) (get_or_from_slice_get s.waiting k job job g) a in
    let c = d.in_lane in let l = inside_lane job.lane (length s0.pool.lanes) (omega arith) in let t = d.lanes job.lane l in let x = t.1.0 in
    both_ways (may_run s.pool.borrowing x.lane job.lane) (idle t.0 x k job t.1.1 (free t.0 x t.1.1) g) (or_left (eqb x.lane job.lane) (s.pool.borrowing && nat_lt x.lane job.lane) (eq-eqb x.lane job.lane t.1.2))
