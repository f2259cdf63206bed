-- How each call moves a weight that jobs, threads and items have.
use Rattle.std.proofs.Common.{◌≡◌, ℕ, ◌+◌, ◌<◌, ◌≤◌, suc, zero, Bool, true, false, cond, List, [], ◌∷◌, ◌++◌, length, Option, Some, None, ◌&&◌, sym, refl, ap, ◌∙◌, subst, arith, rules}
use Rattle.std.proofs.lemmas.Bool.{and_parts}
use Rattle.std.specs.Prelude.{slice_get, slice_set, remove, position, find}
use Rattle.std.specs.List.{sum_by}
use Rattle.std.proofs.lemmas.List.Sums.{sum_by-append, sum_by_push}
use Rattle.orb_base.specs.declared.conn_id.ConnId.{ConnId}
use Rattle.orb_base.specs.declared.due.Due.{Due}
use Rattle.orb_base.specs.declared.answer.Answer.{Answer}
use Rattle.orb_base.specs.declared.item.Item.{Item}
use Rattle.orb_base.specs.declared.item.Item.TheVariants as item
use Rattle.lane_machine.specs.declared.call.How.{How}
use Rattle.lane_machine.specs.declared.call.How.TheVariants as how
use Rattle.thread_borrowing.specs.declared.doing.Doing.{Doing}
use Rattle.thread_borrowing.specs.declared.doing.Doing.TheVariants.{Free, Given, Busy}
use Rattle.lane_machine.specs.declared.call.LaneCall.{LaneCall}
use Rattle.lane_machine.specs.declared.call.LaneCall.TheVariants.{Offer, Post, Cancel, Take, Finish, Collect, End, Leave}
use Rattle.lane_machine.specs.declared.call.LaneReply.{LaneReply}
use Rattle.lane_machine.specs.declared.call.LaneReply.TheVariants as reply
use Rattle.orb_base.specs.declared.job.Job.{Job}
use Rattle.lane_machine.specs.State.{State}
use Rattle.thread_borrowing.specs.ThreadList.{Thread, is_free, doing, given}
use Rattle.thread_borrowing.specs.Choice.{chosen_thread, may_run, can_start, rank}
use Rattle.request_buffer.specs.Next.{next_job}
use Rattle.lane_machine.specs.Machine.{step, is_over, heard, early_items, refusals, late_items, add_items, set_thread, placed, run_by, kept_or_full, may_wait, offered, posted, cancelled, withdrawn, begun, taken, answered, handed_on, freed, finished, handed, collected, over, shut, end_of, was_told, item_place}
use Rattle.request_buffer.specs.Kept.{may_cancel}
use Rattle.lane_machine.specs.Readiness.{IsBusyWith, IsSound}
use Rattle.thread_borrowing.proofs.Places.{at_place, found_at, sum_set, sum_remove}
use Rattle.thread_borrowing.proofs.Chosen.{chosen_is, none_chosen}
use Rattle.request_buffer.proofs.NextJobs.{next_is, none_next, next_first}

-- a weight of jobs that wait, of what threads do, and of items; a given job weighs what it weighed
pub record Weight : Type 0 where
  pub waits : Job → ℕ
  pub does : Doing → ℕ
  pub owes : Item → ℕ
  pub free : does Free ≡ 0
  pub given : (job : Job) → does (Given job) ≡ waits job

abbrev pub weigh : Weight → State → ℕ
weigh w s = sum_by w.waits s.waiting + sum_by (λ thread. w.does thread.doing) s.threads + sum_by w.owes s.out

-- how a call and its reply move the weight from a to b
abbrev pub OfferMoves : Weight → Job → ℕ → ℕ → LaneReply → Type 0
OfferMoves w job a b (reply.Run t lent) = b ≡ a + w.waits job + sum_by w.owes (early_items job.due job)
OfferMoves w job a b reply.Kept = b ≡ a + w.waits job + sum_by w.owes (early_items job.due job)
OfferMoves w job a b reply.Full = b ≡ a + sum_by w.owes (refusals job.due job)
OfferMoves w job a b reply.Closing = b ≡ a
OfferMoves w job a b r = ⊥

abbrev pub PostMoves : Weight → Item → ℕ → ℕ → LaneReply → Type 0
PostMoves w i a b reply.Posted = b ≡ a + w.owes i
PostMoves w i a b reply.Closing = b ≡ a
PostMoves w i a b r = ⊥

abbrev pub CancelMoves : Weight → List Job → ConnId → ℕ → ℕ → ℕ → LaneReply → Type 0
CancelMoves w waiting conn id a b reply.Removed = (job : Job) × (find (may_cancel conn id) waiting ≡ Some job) × (b + w.waits job ≡ a)
CancelMoves w waiting conn id a b reply.Nothing = b ≡ a
CancelMoves w waiting conn id a b reply.Closing = b ≡ a
CancelMoves w waiting conn id a b r = ⊥

abbrev pub TakeMoves : Weight → ℕ → ℕ → LaneReply → Type 0
TakeMoves w a b (reply.Given job) = b + w.waits job ≡ a + w.does (Busy job)
TakeMoves w a b reply.Ended = b ≡ a
TakeMoves w a b r = ⊥

abbrev pub CollectMoves : Weight → ℕ → ℕ → LaneReply → Type 0
CollectMoves w a b (reply.Handed i) = b + w.owes i ≡ a
CollectMoves w a b reply.Close = b ≡ a
CollectMoves w a b reply.Error = b ≡ a
CollectMoves w a b reply.Done = b ≡ a
CollectMoves w a b r = ⊥

-- one weight of a thread that is set
thread_set : (w : Weight) (s : State) (t : ℕ) (old new : Thread) → slice_get s.threads t ≡ Some old
    → sum_by (λ (thread : Thread). w.does thread.doing) (slice_set s.threads t new) + w.does old.doing ≡ sum_by (λ (thread : Thread). w.does thread.doing) s.threads + w.does new.doing
thread_set w s t old new g = sum_set (λ (thread : Thread). w.does thread.doing) s.threads t old new g

free_weighs : (w : Weight) (d : Doing) → is_free d ≡ true → w.does d ≡ 0
free_weighs w Free e = w.free
free_weighs w (Given job) e = absurd (cc)
free_weighs w (Busy job) e = absurd (cc)

run_moves : (w : Weight) (s : State) (job : Job) (t : ℕ) (o : Option Thread) → slice_get s.threads t ≡ o → (thread : Thread) → o ≡ Some thread → is_free thread.doing ≡ true
    → OfferMoves w job (weigh w s) (weigh w (run_by s job t o).0) (run_by s job t o).1
run_moves w s job t (Some x) g thread e free =
    let a = thread_set w s t x (given job x) g in let b = w.given job in let c : w.does x.doing ≡ 0 = free_weighs w x.doing (cc) in
    omega (arith, sum_by-append w.owes s.out (early_items job.due job))
run_moves w s job t None g thread e free = absurd (cc)

kept_moves : (w : Weight) (s : State) (job : Job) (room : Bool) → OfferMoves w job (weigh w s) (weigh w (kept_or_full s job room).0) (kept_or_full s job room).1
kept_moves w s job true = omega (arith, sum_by-append w.owes s.out (early_items job.due job), sum_by_push w.waits s.waiting job)
kept_moves w s job false = omega (arith, sum_by-append w.owes s.out (refusals job.due job))

placed_moves : (w : Weight) (s : State) (job : Job) (o : Option ℕ) → chosen_thread s.pool.borrowing job.lane s.threads ≡ o → OfferMoves w job (weigh w s) (weigh w (placed s job o).0) (placed s job o).1
placed_moves w s job (Some t) e = let h = chosen_is s.pool.borrowing job.lane s.threads t e in
    run_moves w s job t (slice_get s.threads t) refl h.0 h.1 (and_parts (is_free h.0.doing) (may_run s.pool.borrowing h.0.lane job.lane) h.2).0
placed_moves w s job None e = kept_moves w s job (may_wait s.pool s.waiting job)

pub offer_moves : (w : Weight) (s : State) (job : Job) (over : Bool) → OfferMoves w job (weigh w s) (weigh w (offered s job over).0) (offered s job over).1
offer_moves w s job true = refl
offer_moves w s job false = placed_moves w (heard s job.size) job (chosen_thread s.pool.borrowing job.lane s.threads) refl

pub post_moves : (w : Weight) (s : State) (i : Item) (over : Bool) → PostMoves w i (weigh w s) (weigh w (posted s i over).0) (posted s i over).1
post_moves w s i true = refl
post_moves w s i false = omega (arith, sum_by_push w.owes s.out i)

withdrawn_moves : (w : Weight) (s : State) (conn : ConnId) (id : ℕ) (o : Option ℕ) → position (may_cancel conn id) s.waiting ≡ o → CancelMoves w s.waiting conn id (weigh w s) (weigh w (withdrawn s o).0) (withdrawn s o).1
withdrawn_moves w s conn id (Some at) e = let h = at_place (may_cancel conn id) s.waiting at e in (h.0, found_at (may_cancel conn id) s.waiting at e ∙ h.1, (let c = sum_remove w.waits s.waiting at h.0 h.1 in omega arith))
withdrawn_moves w s conn id None e = refl

pub cancel_moves : (w : Weight) (s : State) (conn : ConnId) (id : ℕ) (over : Bool) → CancelMoves w s.waiting conn id (weigh w s) (weigh w (cancelled s conn id over).0) (cancelled s conn id over).1
cancel_moves w s conn id true = refl
cancel_moves w s conn id false = withdrawn_moves w (heard s 0) conn id (position (may_cancel conn id) s.waiting) refl

begun_moves : (w : Weight) (s : State) (t : ℕ) (thread : Thread) (d : Doing) → thread.doing ≡ d → slice_get s.threads t ≡ Some thread → TakeMoves w (weigh w s) (weigh w (begun s t thread d).0) (begun s t thread d).1
begun_moves w s t thread (Given job) e g = let a = thread_set w s t thread (doing thread (Busy job)) g in let b = w.given job in let c : w.does thread.doing ≡ w.does (Given job) = ap w.does e in omega arith
begun_moves w s t thread Free e g = refl
begun_moves w s t thread (Busy job) e g = refl

taken_moves : (w : Weight) (s : State) (t : ℕ) (o : Option Thread) → slice_get s.threads t ≡ o → TakeMoves w (weigh w s) (weigh w (taken s t o).0) (taken s t o).1
taken_moves w s t (Some thread) g = begun_moves w s t thread thread.doing refl g
taken_moves w s t None g = refl

pub take_moves : (w : Weight) (s : State) (t : ℕ) → TakeMoves w (weigh w s) (weigh w (step s (Take t)).0) (step s (Take t)).1
take_moves w s t = taken_moves w s t (slice_get s.threads t) refl

handed_on_moves : (w : Weight) (s : State) (t : ℕ) (thread : Thread) (at : ℕ) (o : Option Job) → slice_get s.threads t ≡ Some thread → slice_get s.waiting at ≡ o → (job : Job) → o ≡ Some job
    → weigh w (handed_on s t thread at o) + w.does thread.doing ≡ weigh w s
handed_on_moves w s t thread at (Some x) g h job e = let a = thread_set w s t thread (given x thread) g in let b = w.given x in let c = sum_remove w.waits s.waiting at x h in omega arith
handed_on_moves w s t thread at None g h job e = absurd (cc)

freed_moves : (w : Weight) (s : State) (t : ℕ) (thread : Thread) (o : Option ℕ) → slice_get s.threads t ≡ Some thread → next_job s.pool.borrowing thread.lane s.waiting ≡ o → weigh w (freed s t thread o) + w.does thread.doing ≡ weigh w s
freed_moves w s t thread (Some at) g e = let h = next_is s.pool.borrowing thread.lane s.waiting at e in handed_on_moves w s t thread at (slice_get s.waiting at) g refl h.0 h.1
freed_moves w s t thread None g e = let a = thread_set w s t thread (doing thread Free) g in let b = w.free in omega arith

finished_moves : (w : Weight) (s : State) (t : ℕ) (answer : Answer) (o : Option Thread) → slice_get s.threads t ≡ o → IsBusyWith answer o
    → weigh w (finished s t answer o).0 + w.does (Busy answer.job) ≡ weigh w s + sum_by w.owes (late_items answer.job.due answer)
finished_moves w s t answer (Some thread) g busy =
    let a = freed_moves w (answered s answer) t thread (next_job s.pool.borrowing thread.lane s.waiting) g refl in let b = sum_by-append w.owes s.out (late_items answer.job.due answer) in
    let c : w.does thread.doing ≡ w.does (Busy answer.job) = ap w.does busy in omega arith
finished_moves w s t answer None g busy = absurd busy

pub finish_moves : (w : Weight) (s : State) (t : ℕ) (answer : Answer) → IsSound s (Finish t answer)
    → weigh w (step s (Finish t answer)).0 + w.does (Busy answer.job) ≡ weigh w s + sum_by w.owes (late_items answer.job.due answer)
finish_moves w s t answer sound = finished_moves w s t answer (slice_get s.threads t) refl sound.0

handed_moves : (w : Weight) (s : State) (at : ℕ) (o : Option Item) → slice_get s.out at ≡ o → CollectMoves w (weigh w s) (weigh w (handed s at o).0) (handed s at o).1
handed_moves w s at (Some i) g = let a = sum_remove w.owes s.out at i g in omega arith
handed_moves w s at None g = refl

tell_moves : (w : Weight) (s : State) (conn : ConnId) (b : Bool) → CollectMoves w (weigh w s) (weigh w (shut s conn b).0) (shut s conn b).1
tell_moves w s conn true = refl
tell_moves w s conn false = refl

shut_moves : (w : Weight) (s : State) (conn : ConnId) (o : Option How) → CollectMoves w (weigh w s) (weigh w (over s conn o).0) (over s conn o).1
shut_moves w s conn (Some how.Bad) = refl
shut_moves w s conn (Some how.Shut) = refl
shut_moves w s conn (Some how.Quiet) = refl
shut_moves w s conn None = tell_moves w s conn (was_told s conn)

collected_moves : (w : Weight) (s : State) (conn : ConnId) (o : Option ℕ) → CollectMoves w (weigh w s) (weigh w (collected s conn o).0) (collected s conn o).1
collected_moves w s conn (Some at) = handed_moves w s at (slice_get s.out at) refl
collected_moves w s conn None = shut_moves w s conn (end_of s conn)

pub collect_moves : (w : Weight) (s : State) (conn : ConnId) → CollectMoves w (weigh w s) (weigh w (step s (Collect conn)).0) (step s (Collect conn)).1
collect_moves w s conn = collected_moves w s conn (item_place s conn)
