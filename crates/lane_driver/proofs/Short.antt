-- The items of a run are short.
use Rattle.std.proofs.Common.{◌≡◌, ℕ, suc, zero, Bool, true, false, List, [], ◌∷◌, ◌++◌, Option, Some, None, refl, sym, subst, ◌≤◌}
use Rattle.std.specs.Prelude.{slice_get, position}
use Rattle.std.proofs.lemmas.Option.{none-some, same_Some}
use Rattle.orb_base.specs.JobRecord.{JobRecord}
use Rattle.orb_base.specs.Outcomes.{body_len}
use Rattle.orb_base.specs.declared.conn_id.ConnId.{ConnId}
use Rattle.orb_base.specs.declared.due.Due.{Due}
use Rattle.orb_base.specs.declared.due.Due.TheVariants as due
use Rattle.orb_base.specs.declared.answer.Answer.{Answer}
use Rattle.orb_base.specs.declared.notice.Notice.{Notice}
use Rattle.orb_base.specs.declared.item.Item.{Item}
use Rattle.orb_base.specs.declared.item.Item.TheVariants.{Answered, Early, Transient, Noticed}
use Rattle.orb_base.specs.declared.limits.TheConstants.{MAX_BODY}
use Rattle.lane_machine.specs.declared.call.How.{How}
use Rattle.lane_machine.specs.declared.call.How.TheVariants.{Quiet, Bad, Shut}
use Rattle.lane_machine.specs.declared.call.LaneCall.{LaneCall}
use Rattle.lane_machine.specs.declared.call.LaneCall.TheVariants.{Offer, Post, Cancel, Take, Finish, Collect, End, Leave}
use Rattle.lane_machine.specs.declared.call.LaneReply.{LaneReply}
use Rattle.thread_borrowing.specs.declared.doing.Doing.{Doing}
use Rattle.thread_borrowing.specs.declared.doing.Doing.TheVariants.{Free, Given, Busy}
use Rattle.lane_machine.specs.State.{State}
use Rattle.thread_borrowing.specs.ThreadList.{Thread}
use Rattle.thread_borrowing.specs.Choice.{chosen_thread}
use Rattle.request_buffer.specs.Next.{next_job}
use Rattle.request_buffer.specs.Kept.{may_cancel}
use Rattle.lane_machine.specs.Machine.{step, item_place, end_of, was_told, is_over, heard, placed, run_by, kept_or_full, may_wait, offered, posted, cancelled, withdrawn, begun, taken, answered, handed_on, freed, finished, handed, over, shut, collected, early_items, late_items, refusals}
use Rattle.lane_machine.specs.Readiness.{is_ready, IsSound}
use Rattle.pipe_laws.specs.Reached.{IsReached}
use Rattle.item_writer.specs.Shortness.{IsShort, AreShort}
use Rattle.pipe_laws.specs.Said.{HandsShort}
use Rattle.thread_borrowing.proofs.Places.{remove_cases}
use Rattle.pipe_laws.proofs.Reached.{holds}

short_both : (xs ys : List Item) → AreShort xs → AreShort ys → AreShort (xs ++ ys)
short_both [] ys one other k i g = other k i g
short_both (x ∷ xs) ys one other zero i g = one 0 i g
short_both (x ∷ xs) ys one other (suc k) i g = short_both xs ys (λ k i g. one (suc k) i g) other k i g

short_none : AreShort []
short_none k i g = absurd (none-some i g)

short_one : (x : Item) → IsShort x → AreShort (x ∷ [])
short_one x is zero i g = subst IsShort (same_Some x i g) is
short_one x is (suc k) i g = absurd (none-some i g)

early_short : (d : Due) (job : JobRecord) → AreShort (early_items d job)
early_short due.Early job k i g = short_one (Early job) tt k i g
early_short due.Nothing job k i g = absurd (none-some i g)
early_short due.Late job k i g = absurd (none-some i g)

refusals_short : (d : Due) (job : JobRecord) → AreShort (refusals d job)
refusals_short due.Early job k i g = short_one (Transient job) tt k i g
refusals_short due.Nothing job k i g = absurd (none-some i g)
refusals_short due.Late job k i g = short_one (Transient job) tt k i g

late_short : (d : Due) (answer : Answer) → body_len answer.outcome ≤ MAX_BODY → AreShort (late_items d answer)
late_short due.Late answer short k i g = short_one (Answered answer) short k i g
late_short due.Nothing answer short k i g = absurd (none-some i g)
late_short due.Early answer short k i g = absurd (none-some i g)

run_short : (s : State) (job : JobRecord) (t : ℕ) (o : Option Thread) → AreShort s.out → AreShort (run_by s job t o).0.out
run_short s job t (Some thread) are = short_both s.out (early_items job.due job) are (early_short job.due job)
run_short s job t None are = are

kept_short : (s : State) (job : JobRecord) (room : Bool) → AreShort s.out → AreShort (kept_or_full s job room).0.out
kept_short s job true are = short_both s.out (early_items job.due job) are (early_short job.due job)
kept_short s job false are = short_both s.out (refusals job.due job) are (refusals_short job.due job)

placed_short : (s : State) (job : JobRecord) (o : Option ℕ) → AreShort s.out → AreShort (placed s job o).0.out
placed_short s job (Some t) are = run_short s job t (slice_get s.threads t) are
placed_short s job None are = kept_short s job (may_wait s.pool s.waiting job) are

offered_short : (s : State) (job : JobRecord) (full : Bool) → AreShort s.out → AreShort (offered s job full).0.out
offered_short s job true are = are
offered_short s job false are = placed_short (heard s job.size) job (chosen_thread s.pool.borrowing job.lane s.threads) are

posted_short : (s : State) (notice : Notice) (over : Bool) → AreShort s.out → AreShort (posted s (Noticed notice) over).0.out
posted_short s notice true are = are
posted_short s notice false are = short_both s.out (Noticed notice ∷ []) are (short_one (Noticed notice) tt)

withdrawn_short : (s : State) (o : Option ℕ) → AreShort s.out → AreShort (withdrawn s o).0.out
withdrawn_short s (Some at) are = are
withdrawn_short s None are = are

cancelled_short : (s : State) (conn : ConnId) (id : ℕ) (over : Bool) → AreShort s.out → AreShort (cancelled s conn id over).0.out
cancelled_short s conn id true are = are
cancelled_short s conn id false are = withdrawn_short (heard s 0) (position (may_cancel conn id) s.waiting) are

begun_short : (s : State) (t : ℕ) (thread : Thread) (d : Doing) → AreShort s.out → AreShort (begun s t thread d).0.out
begun_short s t thread (Given job) are = are
begun_short s t thread Free are = are
begun_short s t thread (Busy job) are = are

taken_short : (s : State) (t : ℕ) (o : Option Thread) → AreShort s.out → AreShort (taken s t o).0.out
taken_short s t (Some thread) are = begun_short s t thread thread.doing are
taken_short s t None are = are

handed_on_out : (s : State) (t : ℕ) (thread : Thread) (at : ℕ) (o : Option JobRecord) → AreShort s.out → AreShort (handed_on s t thread at o).out
handed_on_out s t thread at (Some job) are = are
handed_on_out s t thread at None are = are

freed_short : (s : State) (t : ℕ) (thread : Thread) (o : Option ℕ) → AreShort s.out → AreShort (freed s t thread o).out
freed_short s t thread (Some at) are = handed_on_out s t thread at (slice_get s.waiting at) are
freed_short s t thread None are = are

finished_short : (s : State) (t : ℕ) (answer : Answer) (o : Option Thread) → body_len answer.outcome ≤ MAX_BODY → AreShort s.out → AreShort (finished s t answer o).0.out
finished_short s t answer (Some thread) short are =
    freed_short (answered s answer) t thread (next_job s.pool.borrowing thread.lane s.waiting) (short_both s.out (late_items answer.job.due answer) are (late_short answer.job.due answer short))
finished_short s t answer None short are = are

handed_short : (s : State) (at : ℕ) (o : Option Item) → AreShort s.out → AreShort (handed s at o).0.out
handed_short s at (Some i) are = λ k j g. (let h = remove_cases s.out at k j g in are h.0 j h.1)
handed_short s at None are = are

shut_short : (s : State) (conn : ConnId) (b : Bool) → AreShort s.out → AreShort (shut s conn b).0.out
shut_short s conn true are = are
shut_short s conn false are = are

over_short : (s : State) (conn : ConnId) (o : Option How) → AreShort s.out → AreShort (over s conn o).0.out
over_short s conn (Some Quiet) are = are
over_short s conn (Some Bad) are = are
over_short s conn (Some Shut) are = are
over_short s conn None are = shut_short s conn (was_told s conn) are

collected_short : (s : State) (conn : ConnId) (o : Option ℕ) → AreShort s.out → AreShort (collected s conn o).0.out
collected_short s conn (Some at) are = handed_short s at (slice_get s.out at) are
collected_short s conn None are = over_short s conn (end_of s conn) are

short_step : (s : State) (call : LaneCall) → is_ready s call ≡ true → IsSound s call → AreShort s.out → AreShort (step s call).0.out
short_step s (Offer job) ready sound are = offered_short s job (is_over s job.size) are
short_step s (Take t) ready sound are = taken_short s t (slice_get s.threads t) are
short_step s (Finish t answer) ready sound are = finished_short s t answer (slice_get s.threads t) sound.1 are
short_step s (Collect conn) ready sound are = collected_short s conn (item_place s conn) are
short_step s (Post notice) ready sound are = posted_short s notice (is_over s 0) are
short_step s (Cancel conn id) ready sound are = cancelled_short s conn id (is_over s 0) are
short_step s (End conn how) ready sound are = are
short_step s (Leave slot) ready sound are = are

pub reached_short : (s : State) → IsReached s → AreShort s.out
reached_short s reached = holds (λ z. AreShort z.out) (λ z o. subst (λ (y : State). AreShort y.out) (sym o.fresh) short_none) short_step s reached

-- what a Collect hands over
handed_gives : (s : State) (at : ℕ) (o : Option Item) → slice_get s.out at ≡ o → AreShort s.out → HandsShort (handed s at o).1
handed_gives s at (Some i) there are = are at i there
handed_gives s at None there are = tt

shut_gives : (s : State) (conn : ConnId) (b : Bool) → HandsShort (shut s conn b).1
shut_gives s conn true = tt
shut_gives s conn false = tt

over_gives : (s : State) (conn : ConnId) (o : Option How) → HandsShort (over s conn o).1
over_gives s conn (Some Quiet) = tt
over_gives s conn (Some Bad) = tt
over_gives s conn (Some Shut) = tt
over_gives s conn None = shut_gives s conn (was_told s conn)

collected_gives : (s : State) (conn : ConnId) (o : Option ℕ) → AreShort s.out → HandsShort (collected s conn o).1
collected_gives s conn (Some at) are = handed_gives s at (slice_get s.out at) refl are
collected_gives s conn None are = over_gives s conn (end_of s conn)

pub collect_gives : (s : State) (conn : ConnId) (r : LaneReply) → IsReached s → r ≡ (step s (Collect conn)).1 → HandsShort r
collect_gives s conn r reached is = subst HandsShort (sym is) (collected_gives s conn (item_place s conn) (reached_short s reached))
