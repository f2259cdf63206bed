-- Each sound call keeps the counts small.
use Rattle.std.proofs.Common.{◌≡◌, ℕ, ◌+◌, ◌*◌, ◌<◌, ◌≤◌, suc, zero, Bool, true, false, cond, ◌||◌, List, [], ◌∷◌, Option, Some, None, sym, refl, ap, ◌∙◌, subst, arith}
use Rattle.std.specs.Prelude.{slice_get, position, nat_le, nat_lt, Result, Ok, Err}
use Rattle.orb_base.specs.declared.no_memory.NoMemory.{NoMemory}
use Rattle.std.specs.List.{sum_by}
use Rattle.std.proofs.lemmas.Bool.{or_parts, ltb-false}
use Rattle.orb_base.specs.Outcomes.{body_len}
use Rattle.orb_base.specs.declared.answer.Answer.{Answer}
use Rattle.orb_base.specs.declared.item.Item.{Item}
use Rattle.lane_machine.specs.declared.call.LaneCall.{LaneCall}
use Rattle.lane_machine.specs.declared.call.LaneCall.TheVariants.{Offer, Post, Cancel, Take, Finish, Collect, End, Leave}
use Rattle.lane_machine.specs.declared.call.How.{How}
use Rattle.lane_machine.specs.declared.call.How.TheVariants as how
use Rattle.orb_base.specs.declared.conn_id.ConnId.{ConnId}
use Rattle.orb_base.specs.declared.item.Item.TheVariants as item
use Rattle.thread_borrowing.specs.declared.doing.Doing.{Doing}
use Rattle.thread_borrowing.specs.declared.doing.Doing.TheVariants.{Free, Given, Busy}
use Rattle.request_buffer.specs.Kept.{may_cancel}
use Rattle.lane_machine.proofs.Bounds.{opening_weighs}
use Rattle.lane_machine.specs.declared.call.LaneReply.{LaneReply}
use Rattle.lane_machine.specs.declared.call.LaneReply.TheVariants as reply
use Rattle.lane_machine.specs.Bounds.{load, in_hand, IsBounded}
use Rattle.lane_machine.proofs.Weighs.{Weight, weigh, OfferMoves, PostMoves, CancelMoves, TakeMoves, CollectMoves, offer_moves, post_moves, cancel_moves, take_moves, finish_moves, collect_moves}
use Rattle.lane_machine.specs.Changes.{changes}
use Rattle.lane_machine.proofs.Length.{HeardMoves, not_over, offer_heard, finished_calls}
use Rattle.lane_machine.proofs.Fates.{no_items}
use Rattle.orb_base.specs.declared.job.Job.{Job}
use Rattle.orb_base.specs.Pool.{Pool, IsWellFormed}
use Rattle.lane_machine.specs.State.{State, opening}
use Rattle.thread_borrowing.specs.ThreadList.{Thread}
use Rattle.thread_borrowing.specs.Choice.{chosen_thread}
use Rattle.request_buffer.specs.Next.{next_job}
use Rattle.lane_machine.specs.Machine.{step, is_over, heard, offered, placed, run_by, kept_or_full, may_wait, early_items, refusals, late_items, answered, handed_on, freed, finished, posted, cancelled, withdrawn, begun, taken, handed, collected, over, shut, end_of, was_told, item_place, closed}
use Rattle.lane_machine.specs.Readiness.{IsSound, IsBusyWith}
use Rattle.lane_machine.specs.Histories.{Steps}
use Rattle.lane_machine.specs.Moving.{given_next}
use Rattle.orb_base.specs.declared.limits.TheConstants.{MAX_BODY}

abbrev loads : Weight
loads = record { waits = λ job. 1; does = load; owes = λ i. 0; free = refl; given = λ job. refl }

weigh_is : (s : State) → weigh loads s ≡ in_hand s
weigh_is s = let a = no_items s.out in omega arith

offer_hands : (job : Job) (most a b c d : ℕ) (r : LaneReply) → OfferMoves loads job a b r → HeardMoves most c d r → a ≤ c → c ≤ most → (b ≤ d) × (d ≤ most)
offer_hands job most a b c d (reply.Run t lent) m h l k = let x = no_items (early_items job.due job) in let y = h.0 in let z = h.1 in (omega arith, omega arith)
offer_hands job most a b c d reply.Kept m h l k = let x = no_items (early_items job.due job) in let y = h.0 in let z = h.1 in (omega arith, omega arith)
offer_hands job most a b c d reply.Full m h l k = let x = no_items (refusals job.due job) in let y = h.0 in let z = h.1 in (omega arith, omega arith)
offer_hands job most a b c d reply.Closing m h l k = (omega arith, omega arith)
offer_hands job most a b c d r m h l k = absurd m

run_bytes : (s : State) (job : Job) (t : ℕ) (o : Option Thread) → (run_by s job t o).0.bytes ≡ s.bytes
run_bytes s job t (Some thread) = refl
run_bytes s job t None = refl

kept_bytes_are : (s : State) (job : Job) (b : Bool) → (kept_or_full s job b).0.bytes ≡ s.bytes
kept_bytes_are s job true = refl
kept_bytes_are s job false = refl

placed_bytes : (s : State) (job : Job) (o : Option ℕ) → (placed s job o).0.bytes ≡ s.bytes
placed_bytes s job (Some t) = run_bytes s job t (slice_get s.threads t)
placed_bytes s job None = kept_bytes_are s job (may_wait s.pool s.waiting job)

-- an Offer that is heard leaves the bytes within the run's
offer_bytes : (s : State) (job : Job) (over : Bool) → is_over s job.size ≡ over → (c d : ℕ) → (weigh loads (offered s job over).0 ≤ d) → IsBounded s → (offered s job over).0.calls ≡ d → (offered s job over).0.bytes + MAX_BODY * weigh loads (offered s job over).0 ≤ s.pool.run_bytes + MAX_BODY * d
offer_bytes s job true o c d w b e = let a = weigh_is s in let x = b.bytes in omega arith
offer_bytes s job false o c d w b e = let a = placed_bytes (heard s job.size) job (chosen_thread s.pool.borrowing job.lane s.threads) in
    let x = ltb-false s.pool.run_bytes (s.bytes + job.size) (or_parts (s.closing || nat_le s.pool.run_calls s.calls) (nat_lt s.pool.run_bytes (s.bytes + job.size)) o).1 in omega arith

pub offer_bounded : (s : State) (job : Job) → IsBounded s → IsBounded (step s (Offer job)).0
offer_bounded s job b = let p = (changes s (Offer job)).0 in let h = offer_heard s job (is_over s job.size) refl in let w = weigh_is s in let v = weigh_is (step s (Offer job)).0 in let l = b.hands in
    let k = offer_hands job s.pool.run_calls (weigh loads s) (weigh loads (step s (Offer job)).0) s.calls (step s (Offer job)).0.calls (step s (Offer job)).1 (offer_moves loads s job (is_over s job.size)) h (omega arith) b.calls in
    let m = k.0 in let y = offer_bytes s job (is_over s job.size) refl s.calls (step s (Offer job)).0.calls k.0 b refl in
    let r : (step s (Offer job)).0.pool.run_calls ≡ s.pool.run_calls = ap (λ (q : Pool). q.run_calls) p in let u : (step s (Offer job)).0.pool.run_bytes ≡ s.pool.run_bytes = ap (λ (q : Pool). q.run_bytes) p in
    let e = b.few_calls in let f = b.few_bytes in let g = k.1 in record { few_calls = omega arith; few_bytes = omega arith; calls = omega arith; hands = omega arith; bytes = omega arith }

handed_on_bytes : (s : State) (t : ℕ) (thread : Thread) (at : ℕ) (o : Option Job) → (handed_on s t thread at o).bytes ≡ s.bytes
handed_on_bytes s t thread at (Some job) = refl
handed_on_bytes s t thread at None = refl

freed_bytes : (s : State) (t : ℕ) (thread : Thread) (o : Option ℕ) → (freed s t thread o).bytes ≡ s.bytes
freed_bytes s t thread (Some at) = handed_on_bytes s t thread at (slice_get s.waiting at)
freed_bytes s t thread None = refl

finished_bytes : (s : State) (t : ℕ) (answer : Answer) (o : Option Thread) → IsBusyWith answer o → body_len answer.outcome ≤ MAX_BODY → (finished s t answer o).0.bytes ≤ s.bytes + MAX_BODY
finished_bytes s t answer (Some thread) q b = let a = freed_bytes (answered s answer) t thread (next_job s.pool.borrowing thread.lane s.waiting) in omega arith
finished_bytes s t answer None q b = absurd q

pub finish_bounded : (s : State) (t : ℕ) (answer : Answer) → IsSound s (Finish t answer) → IsBounded s → IsBounded (step s (Finish t answer)).0
finish_bounded s t answer q b = let p = (changes s (Finish t answer)).0 in let w = weigh_is s in let v = weigh_is (step s (Finish t answer)).0 in let l = b.hands in let x = b.bytes in let e = b.few_calls in let f = b.few_bytes in let g = b.calls in
    let m = finish_moves loads s t answer q in let n = no_items (late_items answer.job.due answer) in let c = finished_calls s t answer (slice_get s.threads t) in let d = finished_bytes s t answer (slice_get s.threads t) q.0 q.1 in
    let r : (step s (Finish t answer)).0.pool.run_calls ≡ s.pool.run_calls = ap (λ (z : Pool). z.run_calls) p in let u : (step s (Finish t answer)).0.pool.run_bytes ≡ s.pool.run_bytes = ap (λ (z : Pool). z.run_bytes) p in
    record { few_calls = omega arith; few_bytes = omega arith; calls = omega arith; hands = omega arith; bytes = omega arith }

-- what a call leaves is bounded, whether it changed anything or not
-- the heard calls and the bytes stay
abbrev SameCounts : State → State → Type 0
SameCounts s s' = (s'.calls ≡ s.calls) × (s'.bytes ≡ s.bytes)

withdrawn_counts : (s : State) (o : Option ℕ) → SameCounts s (withdrawn s o).0
withdrawn_counts s (Some at) = (refl, refl)
withdrawn_counts s None = (refl, refl)

begun_counts : (s : State) (t : ℕ) (thread : Thread) (d : Doing) → SameCounts s (begun s t thread d).0
begun_counts s t thread Free = (refl, refl)
begun_counts s t thread (Given job) = (refl, refl)
begun_counts s t thread (Busy job) = (refl, refl)

taken_counts : (s : State) (t : ℕ) (o : Option Thread) → SameCounts s (taken s t o).0
taken_counts s t (Some thread) = begun_counts s t thread thread.doing
taken_counts s t None = (refl, refl)

handed_counts : (s : State) (at : ℕ) (o : Option Item) → SameCounts s (handed s at o).0
handed_counts s at (Some i) = (refl, refl)
handed_counts s at None = (refl, refl)

shut_counts : (s : State) (conn : ConnId) (b : Bool) → SameCounts s (shut s conn b).0
shut_counts s conn true = (refl, refl)
shut_counts s conn false = (refl, refl)

over_counts : (s : State) (conn : ConnId) (o : Option How) → SameCounts s (over s conn o).0
over_counts s conn (Some how.Bad) = (refl, refl)
over_counts s conn (Some how.Shut) = (refl, refl)
over_counts s conn (Some how.Quiet) = (refl, refl)
over_counts s conn None = shut_counts s conn (was_told s conn)

collected_counts : (s : State) (conn : ConnId) (o : Option ℕ) → SameCounts s (collected s conn o).0
collected_counts s conn (Some at) = handed_counts s at (slice_get s.out at)
collected_counts s conn None = over_counts s conn (end_of s conn)

-- what no such call adds to what is in hand
cancel_less : (waiting : List Job) (conn : ConnId) (id a b : ℕ) (r : LaneReply) → CancelMoves loads waiting conn id a b r → b ≤ a
cancel_less waiting conn id a b reply.Removed m = let e = m.2 in omega arith
cancel_less waiting conn id a b reply.Nothing m = omega arith
cancel_less waiting conn id a b reply.Closing m = omega arith
cancel_less waiting conn id a b r m = absurd m

post_less : (i : Item) (a b : ℕ) (r : LaneReply) → PostMoves loads i a b r → b ≤ a
post_less i a b reply.Posted m = omega arith
post_less i a b reply.Closing m = omega arith
post_less i a b r m = absurd m

take_less : (a b : ℕ) (r : LaneReply) → TakeMoves loads a b r → b ≤ a
take_less a b (reply.Given job) m = omega arith
take_less a b reply.Ended m = omega arith
take_less a b r m = absurd m

collect_less : (a b : ℕ) (r : LaneReply) → CollectMoves loads a b r → b ≤ a
collect_less a b (reply.Handed i) m = omega arith
collect_less a b reply.Close m = omega arith
collect_less a b reply.Error m = omega arith
collect_less a b reply.Done m = omega arith
collect_less a b r m = absurd m

-- a call that is not heard keeps the bounds, where no more is in hand
quiet_bounded : (s s' : State) → s'.pool ≡ s.pool → SameCounts s s' → weigh loads s' ≤ weigh loads s → IsBounded s → IsBounded s'
quiet_bounded s s' p same less b =
    let w = weigh_is s in let v = weigh_is s' in let l = b.hands in let x = b.bytes in let e = b.few_calls in let f = b.few_bytes in let g = b.calls in let c = same.0 in let d = same.1 in
    let r : s'.pool.run_calls ≡ s.pool.run_calls = ap (λ (z : Pool). z.run_calls) p in let u : s'.pool.run_bytes ≡ s.pool.run_bytes = ap (λ (z : Pool). z.run_bytes) p in
    record { few_calls = omega arith; few_bytes = omega arith; calls = omega arith; hands = omega arith; bytes = omega arith }

-- and one that is heard without bytes
heard_bounded : (s s' : State) → s'.pool ≡ s.pool → s.calls < s.pool.run_calls → SameCounts (heard s 0) s' → weigh loads s' ≤ weigh loads s → IsBounded s → IsBounded s'
heard_bounded s s' p under same less b =
    let w = weigh_is s in let v = weigh_is s' in let l = b.hands in let x = b.bytes in let e = b.few_calls in let f = b.few_bytes in let g = b.calls in
    let c : s'.calls ≡ s.calls + 1 = same.0 in let d : s'.bytes ≡ s.bytes + 0 = same.1 in
    let r : s'.pool.run_calls ≡ s.pool.run_calls = ap (λ (z : Pool). z.run_calls) p in let u : s'.pool.run_bytes ≡ s.pool.run_bytes = ap (λ (z : Pool). z.run_bytes) p in
    record { few_calls = omega arith; few_bytes = omega arith; calls = omega arith; hands = omega arith; bytes = omega arith }

post_bounded : (s : State) (i : Item) (over : Bool) → is_over s 0 ≡ over → IsBounded s → IsBounded (posted s i over).0
post_bounded s i true o b = quiet_bounded s (closed s).0 refl (refl, refl) (omega arith) b
post_bounded s i false o b = heard_bounded s (posted s i false).0 refl (not_over s 0 o) (refl, refl)
    (post_less i (weigh loads s) (weigh loads (posted s i false).0) (posted s i false).1 (post_moves loads s i false)) b

cancel_bounded : (s : State) (conn : ConnId) (id : ℕ) (over : Bool) → is_over s 0 ≡ over → (cancelled s conn id over).0.pool ≡ s.pool → IsBounded s → IsBounded (cancelled s conn id over).0
cancel_bounded s conn id true o p b = quiet_bounded s (closed s).0 refl (refl, refl) (omega arith) b
cancel_bounded s conn id false o p b = heard_bounded s (cancelled s conn id false).0 p (not_over s 0 o)
    (withdrawn_counts (heard s 0) (position (may_cancel conn id) s.waiting))
    (cancel_less s.waiting conn id (weigh loads s) (weigh loads (cancelled s conn id false).0) (cancelled s conn id false).1 (cancel_moves loads s conn id false)) b

-- each sound call keeps the bounds
pub step_bounded : (s : State) (call : LaneCall) → IsSound s call → IsBounded s → IsBounded (step s call).0
step_bounded s (Offer job) q b = offer_bounded s job b
step_bounded s (Post notice) q b = post_bounded s (item.Noticed notice) (is_over s 0) refl b
step_bounded s (Cancel conn id) q b = cancel_bounded s conn id (is_over s 0) refl (changes s (Cancel conn id)).0 b
step_bounded s (Take t) q b = quiet_bounded s (step s (Take t)).0 (changes s (Take t)).0 (taken_counts s t (slice_get s.threads t))
    (take_less (weigh loads s) (weigh loads (step s (Take t)).0) (step s (Take t)).1 (take_moves loads s t)) b
step_bounded s (Finish t answer) q b = finish_bounded s t answer q b
step_bounded s (Collect conn) q b = quiet_bounded s (step s (Collect conn)).0 (changes s (Collect conn)).0 (collected_counts s conn (item_place s conn))
    (collect_less (weigh loads s) (weigh loads (step s (Collect conn)).0) (step s (Collect conn)).1 (collect_moves loads s conn)) b
step_bounded s (End conn how) q b = quiet_bounded s (step s (End conn how)).0 refl (refl, refl) (omega arith) b
step_bounded s (Leave slot) q b = quiet_bounded s (step s (Leave slot)).0 refl (refl, refl) (omega arith) b

-- at the opening nothing is in hand
pub opening_bounded : (pool : Pool) (slots per_slot : ℕ) → IsWellFormed pool → IsBounded (opening pool slots per_slot)
opening_bounded pool slots per_slot well_formed =
    let w = weigh_is (opening pool slots per_slot) in let v = opening_weighs loads pool slots per_slot in let l = well_formed.limits in
    record { few_calls = l.calls; few_bytes = l.run; calls = omega arith; hands = omega arith; bytes = omega arith }

-- what a call leaves is bounded, whether it changed anything or not
pub closes : (old : State) (next : State × LaneReply) (new : State) (r : Result (LaneReply × LaneReply) NoMemory) → Steps old next new r → IsBounded old → IsBounded next.0 → IsBounded new
closes old next new (Ok r) s b n = subst IsBounded (sym s.0) n
closes old next new (Err e) s b n = subst IsBounded (sym s) b
