-- What each call may do to the threads and to what waits.
use Rattle.std.proofs.Common.{◌≡◌, ℕ, ◌+◌, ◌<◌, ◌≤◌, suc, zero, Bool, true, false, cond, ◌&&◌, List, [], ◌∷◌, ◌++◌, length, Option, Some, None, sym, refl, ap, ◌∙◌, subst, arith, rules}
use Rattle.std.specs.Prelude.{slice_get, slice_set, remove, position}
use Rattle.std.proofs.lemmas.Bool.{and_parts}
use Rattle.std.proofs.lemmas.List.{length-set}
use Rattle.orb_base.specs.declared.conn_id.ConnId.{ConnId}
use Rattle.orb_base.specs.declared.answer.Answer.{Answer}
use Rattle.orb_base.specs.declared.item.Item.{Item}
use Rattle.orb_base.specs.declared.item.Item.TheVariants as item
use Rattle.lane_machine.specs.declared.call.How.{How}
use Rattle.lane_machine.specs.declared.call.How.TheVariants as how
use Rattle.thread_borrowing.specs.declared.doing.Doing.{Doing}
use Rattle.thread_borrowing.specs.declared.doing.Doing.TheVariants.{Free, Given, Busy}
use Rattle.lane_machine.specs.declared.call.LaneCall.{LaneCall}
use Rattle.lane_machine.specs.declared.call.LaneCall.TheVariants.{Offer, Post, Cancel, Take, Finish, Collect, End, Leave}
use Rattle.orb_base.specs.declared.job.Job.{Job}
use Rattle.orb_base.specs.Pool.{Pool}
use Rattle.lane_machine.specs.State.{State}
use Rattle.thread_borrowing.specs.ThreadList.{Thread, is_free, doing, given}
use Rattle.thread_borrowing.specs.Choice.{chosen_thread, may_run, can_start, rank}
use Rattle.request_buffer.specs.Next.{next_job}
use Rattle.lane_machine.specs.Machine.{step, is_over, heard, placed, run_by, kept_or_full, may_wait, offered, posted, cancelled, withdrawn, begun, taken, answered, handed_on, freed, finished, handed, collected, over, shut, end_of, was_told, item_place}
use Rattle.request_buffer.specs.Kept.{may_cancel}
use Rattle.lane_machine.specs.Readiness.{IsBusyWith, IsSound}
use Rattle.thread_borrowing.proofs.Places.{at_place}
use Rattle.thread_borrowing.proofs.Chosen.{chosen_is, none_chosen}
use Rattle.request_buffer.proofs.NextJobs.{next_is, none_next, next_first}

-- the threads and what waits before and after
pub data Change (pool : Pool) (threads : List Thread) (waiting : List Job) (threads' : List Thread) (waiting' : List Job) : Type 0 where
  same : threads' ≡ threads → waiting' ≡ waiting → Change pool threads waiting threads' waiting'
  starts : (t : ℕ) (thread : Thread) (job : Job) → slice_get threads t ≡ Some thread → chosen_thread pool.borrowing job.lane threads ≡ Some t → threads' ≡ slice_set threads t (given job thread) → waiting' ≡ waiting → Change pool threads waiting threads' waiting'
  keeps : (job : Job) → chosen_thread pool.borrowing job.lane threads ≡ None → may_wait pool waiting job ≡ true → threads' ≡ threads → waiting' ≡ waiting ++ job ∷ [] → Change pool threads waiting threads' waiting'
  drops : (at : ℕ) (job : Job) → slice_get waiting at ≡ Some job → threads' ≡ threads → waiting' ≡ remove waiting at → Change pool threads waiting threads' waiting'
  begins : (t : ℕ) (thread : Thread) (job : Job) → slice_get threads t ≡ Some thread → thread.doing ≡ Given job → threads' ≡ slice_set threads t (doing thread (Busy job)) → waiting' ≡ waiting → Change pool threads waiting threads' waiting'
  frees : (t : ℕ) (thread : Thread) → slice_get threads t ≡ Some thread → next_job pool.borrowing thread.lane waiting ≡ None → threads' ≡ slice_set threads t (doing thread Free) → waiting' ≡ waiting → Change pool threads waiting threads' waiting'
  passes : (t : ℕ) (thread : Thread) (at : ℕ) (job : Job) → slice_get threads t ≡ Some thread → slice_get waiting at ≡ Some job → next_job pool.borrowing thread.lane waiting ≡ Some at
      → threads' ≡ slice_set threads t (given job thread) → waiting' ≡ remove waiting at → Change pool threads waiting threads' waiting'

-- pool, slots and connections per slot stay, and the threads and what waits change in one of these ways
abbrev pub Changes : State → State → Type 0
Changes s s' = (s'.pool ≡ s.pool) × (s'.slots ≡ s.slots) × (s'.per_slot ≡ s.per_slot) × Change s.pool s.threads s.waiting s'.threads s'.waiting

-- and no connection ends, and no slot leaves
abbrev Quietly : State → State → Type 0
Quietly s s' = (s'.pool ≡ s.pool) × (s'.slots ≡ s.slots) × (s'.per_slot ≡ s.per_slot) × Change s.pool s.threads s.waiting s'.threads s'.waiting × (s'.ended ≡ s.ended) × (s'.left ≡ s.left)

-- the connections that ended, and the slots that left
abbrev pub Marks : LaneCall → State → State → Type 0
Marks (End conn h) s s' = (s'.ended ≡ s.ended ++ (conn, h) ∷ []) × (s'.left ≡ s.left)
Marks (Leave slot) s s' = (s'.ended ≡ s.ended) × (s'.left ≡ s.left ++ slot ∷ [])
Marks call s s' = (s'.ended ≡ s.ended) × (s'.left ≡ s.left)

run_changes : (s : State) (job : Job) (t : ℕ) (o : Option Thread) → slice_get s.threads t ≡ o → chosen_thread s.pool.borrowing job.lane s.threads ≡ Some t → Quietly s (run_by s job t o).0
run_changes s job t (Some thread) g e = (refl, refl, refl, starts t thread job g e refl refl, refl, refl)
run_changes s job t None g e = (refl, refl, refl, same refl refl, refl, refl)

kept_changes : (s : State) (job : Job) (room : Bool) → may_wait s.pool s.waiting job ≡ room → chosen_thread s.pool.borrowing job.lane s.threads ≡ None → Quietly s (kept_or_full s job room).0
kept_changes s job true r e = (refl, refl, refl, keeps job e r refl refl, refl, refl)
kept_changes s job false r e = (refl, refl, refl, same refl refl, refl, refl)

placed_changes : (s : State) (job : Job) (o : Option ℕ) → chosen_thread s.pool.borrowing job.lane s.threads ≡ o → Quietly s (placed s job o).0
placed_changes s job (Some t) e = run_changes s job t (slice_get s.threads t) refl e
placed_changes s job None e = kept_changes s job (may_wait s.pool s.waiting job) refl e

offer_changes : (s : State) (job : Job) (over : Bool) → Quietly s (offered s job over).0
offer_changes s job true = (refl, refl, refl, same refl refl, refl, refl)
offer_changes s job false = placed_changes (heard s job.size) job (chosen_thread s.pool.borrowing job.lane s.threads) refl

post_changes : (s : State) (i : Item) (over : Bool) → Quietly s (posted s i over).0
post_changes s i true = (refl, refl, refl, same refl refl, refl, refl)
post_changes s i false = (refl, refl, refl, same refl refl, refl, refl)

withdrawn_changes : (s : State) (conn : ConnId) (id : ℕ) (o : Option ℕ) → position (may_cancel conn id) s.waiting ≡ o → Quietly s (withdrawn s o).0
withdrawn_changes s conn id (Some at) e = let h = at_place (may_cancel conn id) s.waiting at e in (refl, refl, refl, drops at h.0 h.1 refl refl, refl, refl)
withdrawn_changes s conn id None e = (refl, refl, refl, same refl refl, refl, refl)

cancel_changes : (s : State) (conn : ConnId) (id : ℕ) (over : Bool) → Quietly s (cancelled s conn id over).0
cancel_changes s conn id true = (refl, refl, refl, same refl refl, refl, refl)
cancel_changes s conn id false = withdrawn_changes (heard s 0) conn id (position (may_cancel conn id) s.waiting) refl

begun_changes : (s : State) (t : ℕ) (thread : Thread) (d : Doing) → thread.doing ≡ d → slice_get s.threads t ≡ Some thread → Quietly s (begun s t thread d).0
begun_changes s t thread (Given job) e g = (refl, refl, refl, begins t thread job g e refl refl, refl, refl)
begun_changes s t thread Free e g = (refl, refl, refl, same refl refl, refl, refl)
begun_changes s t thread (Busy job) e g = (refl, refl, refl, same refl refl, refl, refl)

taken_changes : (s : State) (t : ℕ) (o : Option Thread) → slice_get s.threads t ≡ o → Quietly s (taken s t o).0
taken_changes s t (Some thread) g = begun_changes s t thread thread.doing refl g
taken_changes s t None g = (refl, refl, refl, same refl refl, refl, refl)

handed_on_changes : (s : State) (t : ℕ) (thread : Thread) (at : ℕ) (o : Option Job) → slice_get s.threads t ≡ Some thread → slice_get s.waiting at ≡ o → next_job s.pool.borrowing thread.lane s.waiting ≡ Some at → Quietly s (handed_on s t thread at o)
handed_on_changes s t thread at (Some job) g h e = (refl, refl, refl, passes t thread at job g h e refl refl, refl, refl)
handed_on_changes s t thread at None g h e = (refl, refl, refl, same refl refl, refl, refl)

freed_changes : (s : State) (t : ℕ) (thread : Thread) (o : Option ℕ) → slice_get s.threads t ≡ Some thread → next_job s.pool.borrowing thread.lane s.waiting ≡ o → Quietly s (freed s t thread o)
freed_changes s t thread (Some at) g e = handed_on_changes s t thread at (slice_get s.waiting at) g refl e
freed_changes s t thread None g e = (refl, refl, refl, frees t thread g e refl refl, refl, refl)

finished_changes : (s : State) (t : ℕ) (answer : Answer) (o : Option Thread) → slice_get s.threads t ≡ o → Quietly s (finished s t answer o).0
finished_changes s t answer (Some thread) g = freed_changes (answered s answer) t thread (next_job s.pool.borrowing thread.lane s.waiting) g refl
finished_changes s t answer None g = (refl, refl, refl, same refl refl, refl, refl)

handed_changes : (s : State) (at : ℕ) (o : Option Item) → Quietly s (handed s at o).0
handed_changes s at (Some i) = (refl, refl, refl, same refl refl, refl, refl)
handed_changes s at None = (refl, refl, refl, same refl refl, refl, refl)

tell_changes : (s : State) (conn : ConnId) (b : Bool) → Quietly s (shut s conn b).0
tell_changes s conn true = (refl, refl, refl, same refl refl, refl, refl)
tell_changes s conn false = (refl, refl, refl, same refl refl, refl, refl)

shut_changes : (s : State) (conn : ConnId) (o : Option How) → Quietly s (over s conn o).0
shut_changes s conn (Some how.Bad) = (refl, refl, refl, same refl refl, refl, refl)
shut_changes s conn (Some how.Shut) = (refl, refl, refl, same refl refl, refl, refl)
shut_changes s conn (Some how.Quiet) = (refl, refl, refl, same refl refl, refl, refl)
shut_changes s conn None = tell_changes s conn (was_told s conn)

collected_changes : (s : State) (conn : ConnId) (o : Option ℕ) → Quietly s (collected s conn o).0
collected_changes s conn (Some at) = handed_changes s at (slice_get s.out at)
collected_changes s conn None = shut_changes s conn (end_of s conn)

four : (s s' : State) → Quietly s s' → Changes s s'
four s s' q = (q.0, q.1, q.2, q.3)

pub changes : (s : State) (call : LaneCall) → Changes s (step s call).0
changes s (Offer job) = four s (step s (Offer job)).0 (offer_changes s job (is_over s job.size))
changes s (Post notice) = four s (step s (Post notice)).0 (post_changes s (item.Noticed notice) (is_over s 0))
changes s (Cancel conn id) = four s (step s (Cancel conn id)).0 (cancel_changes s conn id (is_over s 0))
changes s (Take t) = four s (step s (Take t)).0 (taken_changes s t (slice_get s.threads t) refl)
changes s (Finish t answer) = four s (step s (Finish t answer)).0 (finished_changes s t answer (slice_get s.threads t) refl)
changes s (Collect conn) = four s (step s (Collect conn)).0 (collected_changes s conn (item_place s conn))
changes s (End conn h) = (refl, refl, refl, same refl refl)
changes s (Leave slot) = (refl, refl, refl, same refl refl)

pub marks : (s : State) (call : LaneCall) → Marks call s (step s call).0
marks s (Offer job) = let q = offer_changes s job (is_over s job.size) in (q.4, q.5)
marks s (Post notice) = let q = post_changes s (item.Noticed notice) (is_over s 0) in (q.4, q.5)
marks s (Cancel conn id) = let q = cancel_changes s conn id (is_over s 0) in (q.4, q.5)
marks s (Take t) = let q = taken_changes s t (slice_get s.threads t) refl in (q.4, q.5)
marks s (Finish t answer) = let q = finished_changes s t answer (slice_get s.threads t) refl in (q.4, q.5)
marks s (Collect conn) = let q = collected_changes s conn (item_place s conn) in (q.4, q.5)
marks s (End conn h) = (refl, refl)
marks s (Leave slot) = (refl, refl)

-- the number of threads stays
pub stay : (pool : Pool) (threads : List Thread) (waiting : List Job) (threads' : List Thread) (waiting' : List Job) → Change pool threads waiting threads' waiting' → length threads' ≡ length threads
stay pool threads waiting threads' waiting' (same t w) = ap length t
stay pool threads waiting threads' waiting' (starts t thread job g e p w) = ap length p ∙ length-set threads t (given job thread)
stay pool threads waiting threads' waiting' (keeps job e r p w) = ap length p
stay pool threads waiting threads' waiting' (drops at job g p w) = ap length p
stay pool threads waiting threads' waiting' (begins t thread job g e p w) = ap length p ∙ length-set threads t (doing thread (Busy job))
stay pool threads waiting threads' waiting' (frees t thread g e p w) = ap length p ∙ length-set threads t (doing thread Free)
stay pool threads waiting threads' waiting' (passes t thread at job g x e p w) = ap length p ∙ length-set threads t (given job thread)
