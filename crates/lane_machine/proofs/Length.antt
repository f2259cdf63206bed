-- The law of length.
use Rattle.std.proofs.Common.{◌≡◌, ℕ, ◌+◌, ◌*◌, ◌<◌, ◌≤◌, suc, zero, Bool, true, false, cond, ltb, leb, eqb, ◌&&◌, ◌||◌, List, [], ◌∷◌, ◌++◌, length, Option, Some, None, inl, inr, sym, refl, ap, ◌∙◌, subst, arith}
use Rattle.std.specs.Prelude.{slice_get, slice_set, remove, position, nat_le, nat_lt}
use Rattle.std.specs.List.{sum_by, count_by}
use Rattle.std.proofs.lemmas.Bool.{and_parts, or_parts, cases_Bool, ltb-true, leb-false}
use Rattle.std.proofs.lemmas.List.{length-append}
use Rattle.std.proofs.lemmas.List.Sums.{sum_by_push, sum_by-append, sum_by-cons}
use Rattle.orb_base.specs.declared.conn_id.ConnId.{ConnId}
use Rattle.orb_base.specs.declared.due.Due.{Due}
use Rattle.orb_base.specs.declared.due.Due.TheVariants as due
use Rattle.orb_base.specs.declared.answer.Answer.{Answer}
use Rattle.orb_base.specs.declared.item.Item.{Item}
use Rattle.orb_base.specs.declared.item.Item.TheVariants as item
use Rattle.lane_machine.specs.declared.call.How.{How}
use Rattle.lane_machine.specs.declared.call.How.TheVariants as how
use Rattle.thread_borrowing.specs.declared.doing.Doing.{Doing}
use Rattle.thread_borrowing.specs.declared.doing.Doing.TheVariants.{Free, Given, Busy}
use Rattle.lane_machine.specs.declared.call.LaneCall.{LaneCall}
use Rattle.lane_machine.specs.declared.call.LaneCall.TheVariants.{Offer, Post, Cancel, Take, Finish, Collect, End, Leave}
use Rattle.lane_machine.specs.declared.call.LaneReply.{LaneReply}
use Rattle.lane_machine.specs.declared.call.LaneReply.TheVariants as reply
use Rattle.lane_machine.specs.Counting.{after_take, to_come, to_do, coming, is_mark, marks}
use Rattle.lane_machine.specs.Entries.{One}
use Rattle.lane_machine.proofs.Weighs.{Weight, weigh, OfferMoves, PostMoves, CancelMoves, TakeMoves, CollectMoves, offer_moves, post_moves, cancel_moves, take_moves, finish_moves, collect_moves}
use Rattle.orb_base.specs.declared.job.Job.{Job}
use Rattle.lane_machine.specs.State.{State}
use Rattle.thread_borrowing.specs.ThreadList.{Thread}
use Rattle.thread_borrowing.specs.Choice.{chosen_thread}
use Rattle.request_buffer.specs.Next.{next_job}
use Rattle.lane_machine.specs.Machine.{step, is_over, heard, offered, placed, run_by, kept_or_full, may_wait, posted, cancelled, withdrawn, early_items, refusals, late_items, finished, freed, handed_on, answered, taken, begun, collected, handed, over, shut, item_place, end_of, was_told}
use Rattle.lane_machine.specs.Readiness.{is_ready, IsSound}
use Rattle.request_buffer.specs.Kept.{may_cancel}
use Rattle.lane_machine.specs.Histories.{History}

abbrev pub entries : Weight
entries = record { waits = to_come; does = to_do; owes = λ i. 1; free = refl; given = λ job. refl }

-- the heard calls, and that they stay within the run
abbrev pub HeardMoves : ℕ → ℕ → ℕ → LaneReply → Type 0
HeardMoves most a b reply.Closing = b ≡ a
HeardMoves most a b r = (b ≡ a + 1) × (a < most)

pub not_over : (s : State) (size : ℕ) → is_over s size ≡ false → s.calls < s.pool.run_calls
not_over s size o = leb-false s.pool.run_calls s.calls (or_parts s.closing (nat_le s.pool.run_calls s.calls) (or_parts (s.closing || nat_le s.pool.run_calls s.calls) (nat_lt s.pool.run_bytes (s.bytes + size)) o).0).1

run_heard : (s : State) (job : Job) (t : ℕ) (o : Option Thread) (a most : ℕ) → s.calls ≡ a + 1 → a < most → HeardMoves most a (run_by s job t o).0.calls (run_by s job t o).1
run_heard s job t (Some thread) a most e l = (e, l)
run_heard s job t None a most e l = (e, l)

kept_heard : (s : State) (job : Job) (b : Bool) (a most : ℕ) → s.calls ≡ a + 1 → a < most → HeardMoves most a (kept_or_full s job b).0.calls (kept_or_full s job b).1
kept_heard s job true a most e l = (e, l)
kept_heard s job false a most e l = (e, l)

placed_heard : (s : State) (job : Job) (o : Option ℕ) (a most : ℕ) → s.calls ≡ a + 1 → a < most → HeardMoves most a (placed s job o).0.calls (placed s job o).1
placed_heard s job (Some t) a most e l = run_heard s job t (slice_get s.threads t) a most e l
placed_heard s job None a most e l = kept_heard s job (may_wait s.pool s.waiting job) a most e l

pub offer_heard : (s : State) (job : Job) (over : Bool) → is_over s job.size ≡ over → HeardMoves s.pool.run_calls s.calls (offered s job over).0.calls (offered s job over).1
offer_heard s job true o = refl
offer_heard s job false o = placed_heard (heard s job.size) job (chosen_thread s.pool.borrowing job.lane s.threads) s.calls s.pool.run_calls refl (not_over s job.size o)

post_heard : (s : State) (i : Item) (over : Bool) → is_over s 0 ≡ over → HeardMoves s.pool.run_calls s.calls (posted s i over).0.calls (posted s i over).1
post_heard s i true o = refl
post_heard s i false o = (refl, not_over s 0 o)

withdrawn_heard : (s : State) (o : Option ℕ) (a most : ℕ) → s.calls ≡ a + 1 → a < most → HeardMoves most a (withdrawn s o).0.calls (withdrawn s o).1
withdrawn_heard s (Some at) a most e l = (e, l)
withdrawn_heard s None a most e l = (e, l)

cancel_heard : (s : State) (conn : ConnId) (id : ℕ) (over : Bool) → is_over s 0 ≡ over → HeardMoves s.pool.run_calls s.calls (cancelled s conn id over).0.calls (cancelled s conn id over).1
cancel_heard s conn id true o = refl
cancel_heard s conn id false o = withdrawn_heard (heard s 0) (position (may_cancel conn id) s.waiting) s.calls s.pool.run_calls refl (not_over s 0 o)

-- the other calls
begun_calls : (s : State) (t : ℕ) (thread : Thread) (d : Doing) → (begun s t thread d).0.calls ≡ s.calls
begun_calls s t thread Free = refl
begun_calls s t thread (Given job) = refl
begun_calls s t thread (Busy job) = refl

taken_calls : (s : State) (t : ℕ) (o : Option Thread) → (taken s t o).0.calls ≡ s.calls
taken_calls s t (Some thread) = begun_calls s t thread thread.doing
taken_calls s t None = refl

handed_on_calls : (s : State) (t : ℕ) (thread : Thread) (at : ℕ) (o : Option Job) → (handed_on s t thread at o).calls ≡ s.calls
handed_on_calls s t thread at (Some job) = refl
handed_on_calls s t thread at None = refl

freed_calls : (s : State) (t : ℕ) (thread : Thread) (o : Option ℕ) → (freed s t thread o).calls ≡ s.calls
freed_calls s t thread (Some at) = handed_on_calls s t thread at (slice_get s.waiting at)
freed_calls s t thread None = refl

pub finished_calls : (s : State) (t : ℕ) (answer : Answer) (o : Option Thread) → (finished s t answer o).0.calls ≡ s.calls
finished_calls s t answer (Some thread) = freed_calls (answered s answer) t thread (next_job s.pool.borrowing thread.lane s.waiting)
finished_calls s t answer None = refl

handed_calls : (s : State) (at : ℕ) (o : Option Item) → (handed s at o).0.calls ≡ s.calls
handed_calls s at (Some i) = refl
handed_calls s at None = refl

tell_calls : (s : State) (conn : ConnId) (b : Bool) → (shut s conn b).0.calls ≡ s.calls
tell_calls s conn true = refl
tell_calls s conn false = refl

shut_calls : (s : State) (conn : ConnId) (o : Option How) → (over s conn o).0.calls ≡ s.calls
shut_calls s conn (Some how.Bad) = refl
shut_calls s conn (Some how.Shut) = refl
shut_calls s conn (Some how.Quiet) = refl
shut_calls s conn None = tell_calls s conn (was_told s conn)

collected_calls : (s : State) (conn : ConnId) (o : Option ℕ) → (collected s conn o).0.calls ≡ s.calls
collected_calls s conn (Some at) = handed_calls s at (slice_get s.out at)
collected_calls s conn None = shut_calls s conn (end_of s conn)

early_three : (d : Due) (job : Job) → after_take d + 1 + sum_by (λ (i : Item). 1) (early_items d job) ≤ 3
early_three due.Nothing job = omega arith
early_three due.Early job = omega arith
early_three due.Late job = omega arith

refused_one : (d : Due) (job : Job) → sum_by (λ (i : Item). 1) (refusals d job) ≤ 1
refused_one due.Nothing job = omega arith
refused_one due.Early job = omega arith
refused_one due.Late job = omega arith

late_all : (d : Due) (answer : Answer) → sum_by (λ (i : Item). 1) (late_items d answer) + 1 ≡ after_take d
late_all due.Nothing answer = refl
late_all due.Early answer = refl
late_all due.Late answer = refl

abbrev mark : LaneReply → ℕ
mark r = cond (is_mark r) 1 0

-- each call's entry is paid by what was to come, by four for a heard call, or by a mark
offer_pays : (job : Job) (most a b c d : ℕ) (r : LaneReply) → OfferMoves entries job a b r → HeardMoves most c d r → b + 1 + 4 * c ≤ a + 4 * d + mark r
offer_pays job most a b c d (reply.Run t lent) m h = let e = early_three job.due job in let x = h.0 in omega arith
offer_pays job most a b c d reply.Kept m h = let e = early_three job.due job in let x = h.0 in omega arith
offer_pays job most a b c d reply.Full m h = let e = refused_one job.due job in let x = h.0 in omega arith
offer_pays job most a b c d reply.Closing m h = omega arith
offer_pays job most a b c d r m h = absurd m

post_pays : (i : Item) (most a b c d : ℕ) (r : LaneReply) → PostMoves entries i a b r → HeardMoves most c d r → b + 1 + 4 * c ≤ a + 4 * d + mark r
post_pays i most a b c d reply.Posted m h = let x = h.0 in omega arith
post_pays i most a b c d reply.Closing m h = omega arith
post_pays i most a b c d r m h = absurd m

cancel_pays : (waiting : List Job) (conn : ConnId) (id most a b c d : ℕ) (r : LaneReply) → CancelMoves entries waiting conn id a b r → HeardMoves most c d r → b + 1 + 4 * c ≤ a + 4 * d + mark r
cancel_pays waiting conn id most a b c d reply.Removed m h = let x = h.0 in let y = m.2 in omega arith
cancel_pays waiting conn id most a b c d reply.Nothing m h = let x = h.0 in omega arith
cancel_pays waiting conn id most a b c d reply.Closing m h = omega arith
cancel_pays waiting conn id most a b c d r m h = absurd m

take_pays : (a b : ℕ) (r : LaneReply) → TakeMoves entries a b r → b + 1 ≤ a + mark r
take_pays a b (reply.Given job) m = omega arith
take_pays a b reply.Ended m = omega arith
take_pays a b r m = absurd m

collect_pays : (a b : ℕ) (r : LaneReply) → CollectMoves entries a b r → b + 1 ≤ a + mark r
collect_pays a b (reply.Handed i) m = omega arith
collect_pays a b reply.Close m = omega arith
collect_pays a b reply.Error m = omega arith
collect_pays a b reply.Done m = omega arith
collect_pays a b r m = absurd m

abbrev Pays : ℕ → State → State → LaneReply → Type 0
Pays most s s' r = (weigh entries s' + 1 + 4 * s.calls ≤ weigh entries s + 4 * s'.calls + mark r) × (s.calls ≤ most → s'.calls ≤ most)

heard_stays : (most a b : ℕ) (r : LaneReply) → HeardMoves most a b r → a ≤ most → b ≤ most
heard_stays most a b reply.Closing h l = omega arith
heard_stays most a b r h l = let x = h.0 in let y = h.1 in omega arith

finish_pays : (s : State) (t : ℕ) (answer : Answer) (o : Option Thread) → weigh entries (finished s t answer o).0 + to_do (Busy answer.job) ≡ weigh entries s + sum_by (λ (i : Item). 1) (late_items answer.job.due answer) → (finished s t answer o).0.calls ≡ s.calls
    → weigh entries (finished s t answer o).0 + 1 + 4 * s.calls ≤ weigh entries s + 4 * (finished s t answer o).0.calls + mark (finished s t answer o).1
finish_pays s t answer (Some thread) m c = let d = late_all answer.job.due answer in omega arith
finish_pays s t answer None m c = let d = late_all answer.job.due answer in omega arith

pays : (s : State) (call : LaneCall) → IsSound s call → Pays s.pool.run_calls s (step s call).0 (step s call).1
pays s (Offer job) q = let o = is_over s job.size in let h = offer_heard s job (is_over s job.size) refl in
    (offer_pays job s.pool.run_calls (weigh entries s) (weigh entries (step s (Offer job)).0) s.calls (step s (Offer job)).0.calls (step s (Offer job)).1 (offer_moves entries s job (is_over s job.size)) h, heard_stays s.pool.run_calls s.calls (step s (Offer job)).0.calls (step s (Offer job)).1 h)
pays s (Post notice) q = let h = post_heard s (item.Noticed notice) (is_over s 0) refl in
    (post_pays (item.Noticed notice) s.pool.run_calls (weigh entries s) (weigh entries (step s (Post notice)).0) s.calls (step s (Post notice)).0.calls (step s (Post notice)).1 (post_moves entries s (item.Noticed notice) (is_over s 0)) h, heard_stays s.pool.run_calls s.calls (step s (Post notice)).0.calls (step s (Post notice)).1 h)
pays s (Cancel conn id) q = let h = cancel_heard s conn id (is_over s 0) refl in
    (cancel_pays s.waiting conn id s.pool.run_calls (weigh entries s) (weigh entries (step s (Cancel conn id)).0) s.calls (step s (Cancel conn id)).0.calls (step s (Cancel conn id)).1 (cancel_moves entries s conn id (is_over s 0)) h, heard_stays s.pool.run_calls s.calls (step s (Cancel conn id)).0.calls (step s (Cancel conn id)).1 h)
pays s (Take t) q = let c = taken_calls s t (slice_get s.threads t) in let m = take_pays (weigh entries s) (weigh entries (step s (Take t)).0) (step s (Take t)).1 (take_moves entries s t) in (omega arith, λ l. omega arith)
pays s (Finish t answer) q = let c = finished_calls s t answer (slice_get s.threads t) in let m = finish_moves entries s t answer q in let d = late_all answer.job.due answer in (finish_pays s t answer (slice_get s.threads t) m c, λ l. omega arith)
pays s (Collect conn) q = let c = collected_calls s conn (item_place s conn) in let m = collect_pays (weigh entries s) (weigh entries (step s (Collect conn)).0) (step s (Collect conn)).1 (collect_moves entries s conn) in (omega arith, λ l. omega arith)
pays s (End conn how) q = (omega arith, λ l. l)
pays s (Leave slot) q = (omega arith, λ l. l)

-- the law of length, on a history and its state
pub record Counted (most : ℕ) (h : History) (s : State) : Type 0 where
  pub length : length h + coming s ≤ 4 * s.calls + marks h
  pub calls : s.calls ≤ most

pub counted_step : (most : ℕ) (h : History) (s : State) (e : One) → s.pool.run_calls ≡ most → Counted most h s → IsSound s e.call → e.reply ≡ (step s e.call).1 → Counted most (h ++ e ∷ []) (step s e.call).0
counted_step most h s e p c q w = let y = pays s e.call q in let x = y.0 in let k = c.length in let a = length-append h (e ∷ []) in let b = sum_by_push (λ (z : One). mark z.reply) h e in let d : mark e.reply ≡ mark (step s e.call).1 = ap mark w in record {
  length = omega arith;
  calls = subst (λ (m : ℕ). (step s e.call).0.calls ≤ m) p (y.1 (subst (λ (m : ℕ). s.calls ≤ m) (sym p) c.calls));
}
