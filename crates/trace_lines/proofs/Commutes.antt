-- A step does the same to what a trace keeps.
use Rattle.std.proofs.Common.{◌≡◌, ℕ, ◌+◌, suc, zero, Bool, true, false, not, ◌&&◌, ◌||◌, ◌==◌, List, [], ◌∷◌, ◌++◌, length, Option, Some, None, refl, sym, ap, ◌∙◌}
use Rattle.std.specs.Prelude.{map, option_map, position, slice_get, replicate, is_some, nat_lt, nat_le}
use Rattle.std.proofs.lemmas.List.{map-append, length-map}
use Rattle.std.proofs.lemmas.List.Folds.{fold-map}
use Rattle.std.proofs.lemmas.Option.{slice_get-map}
use Rattle.orb_base.proofs.Places.{position_map}
use Rattle.orb_base.specs.Conn.{same_conn}
use Rattle.orb_base.specs.Outcomes.{body_len}
use Rattle.orb_base.specs.Pool.{Pool}
use Rattle.orb_base.specs.declared.answer.Answer.{Answer}
use Rattle.orb_base.specs.declared.conn_id.ConnId.{ConnId}
use Rattle.orb_base.specs.declared.limits.TheConstants.{MAX_OWED}
use Rattle.orb_base.specs.declared.due.Due.{Due}
use Rattle.orb_base.specs.declared.due.Due.TheVariants as due
use Rattle.orb_base.specs.declared.item.Item.{Item}
use Rattle.orb_base.specs.declared.item.Item.TheVariants as item
use Rattle.orb_base.specs.declared.job.Job.{Job}
use Rattle.thread_borrowing.specs.declared.doing.Doing.{Doing}
use Rattle.thread_borrowing.specs.declared.doing.Doing.TheVariants.{Free, Given, Busy}
use Rattle.thread_borrowing.specs.declared.task.Task.{Task}
use Rattle.thread_borrowing.specs.declared.task.Task.TheVariants as task
use Rattle.thread_borrowing.specs.ThreadList.{Thread, is_free, task_of, works_for, doing, given}
use Rattle.thread_borrowing.specs.Choice.{chosen_thread, can_start, may_run, rank}
use Rattle.request_buffer.specs.Kept.{kept_bytes, may_cancel}
use Rattle.request_buffer.specs.Next.{next_job}
use Rattle.lane_machine.specs.State.{State}
use Rattle.lane_machine.specs.Machine.{step, is_over, heard, early_items, refusals, late_items, placed, run_by, kept_or_full, may_wait, offered, posted, cancelled, withdrawn, begun, taken, answered, handed_on, freed, finished, handed, collected, over, shut, end_of, was_told, item_place, item_conn}
use Rattle.lane_machine.specs.Readiness.{owed, is_ready, can_take, goes_on}
use Rattle.lane_machine.specs.declared.call.How.{How}
use Rattle.lane_machine.specs.declared.call.How.TheVariants as how
use Rattle.lane_machine.specs.declared.call.LaneCall.{LaneCall}
use Rattle.lane_machine.specs.declared.call.LaneCall.TheVariants.{Offer, Post, Cancel, Take, Finish, Collect, End, Leave}
use Rattle.lane_machine.specs.declared.call.LaneReply.{LaneReply}
use Rattle.lane_machine.specs.declared.call.LaneReply.TheVariants as reply
use Rattle.trace_lines.specs.Plain.{plain, plain_answer, plain_item, plain_doing, plain_thread, plain_state, plain_call, plain_reply}
use Rattle.trace_lines.proofs.Maps.{remove_map, set_map, first_same, count_same}

-- what a trace keeps of a step
abbrev Said : State × LaneReply → State × LaneReply
Said r = (plain_state r.0, plain_reply r.1)

free_plain : (d : Doing) → is_free (plain_doing d) ≡ is_free d
free_plain Free = refl
free_plain (Given job) = refl
free_plain (Busy job) = refl

chosen_plain : (b : Bool) (lane : ℕ) (threads : List Thread) → chosen_thread b lane (map plain_thread threads) ≡ chosen_thread b lane threads
unfolding chosen_thread
chosen_plain b lane threads = first_same (can_start b lane) rank (can_start b lane) plain_thread (λ x. ap (λ (z : Bool). z && may_run b x.lane lane) (free_plain x.doing)) threads

next_plain : (b : Bool) (lane : ℕ) (waiting : List Job) → next_job b lane (map plain waiting) ≡ next_job b lane waiting
unfolding next_job
next_plain b lane waiting = first_same (λ (job : Job). may_run b lane job.lane) (λ job. job.priority) (λ job. may_run b lane job.lane) plain (λ x. refl) waiting

bytes_plain : (waiting : List Job) → kept_bytes (map plain waiting) ≡ kept_bytes waiting
bytes_plain waiting = fold-map _ plain 0 waiting

early_plain : (d : Due) (job : Job) → early_items d (plain job) ≡ map plain_item (early_items d job)
early_plain due.Early job = refl
early_plain due.Nothing job = refl
early_plain due.Late job = refl

refused_plain : (d : Due) (job : Job) → refusals d (plain job) ≡ map plain_item (refusals d job)
refused_plain due.Early job = refl
refused_plain due.Nothing job = refl
refused_plain due.Late job = refl

late_plain : (d : Due) (a : Answer) → late_items d (plain_answer a) ≡ map plain_item (late_items d a)
late_plain due.Early a = refl
late_plain due.Nothing a = refl
late_plain due.Late a = refl

more_out : (out more more' : List Item) → more' ≡ map plain_item more → map plain_item out ++ more' ≡ map plain_item (out ++ more)
more_out out more more' e = ap (λ (z : List Item). map plain_item out ++ z) e ∙ sym (map-append plain_item out more)

may_wait_plain : (pool : Pool) (waiting : List Job) (job : Job) → may_wait pool (map plain waiting) (plain job) ≡ may_wait pool waiting job
may_wait_plain pool waiting job = λ i. pool.buffering && nat_lt (length-map waiting plain i) pool.max_requests && nat_le (bytes_plain waiting i + job.size) pool.max_bytes

run_plain : (s : State) (job : Job) (t : ℕ) (o : Option Thread) → run_by (plain_state s) (plain job) t (option_map plain_thread o) ≡ Said (run_by s job t o)
run_plain s job t (Some thread) = λ i. (
  record s {
    threads = set_map plain_thread s.threads t (given job thread) i;
    waiting = map plain s.waiting;
    out = more_out s.out (early_items job.due job) (early_items job.due (plain job)) (early_plain job.due job) i;
  },
  reply.Run t (not (thread.lane == job.lane)),
)
run_plain s job t None = refl

kept_plain : (s : State) (job : Job) (room : Bool) → kept_or_full (plain_state s) (plain job) room ≡ Said (kept_or_full s job room)
kept_plain s job true = λ i. (
  record s {
    threads = map plain_thread s.threads;
    waiting = sym (map-append plain s.waiting (job ∷ [])) i;
    out = more_out s.out (early_items job.due job) (early_items job.due (plain job)) (early_plain job.due job) i;
  },
  reply.Kept,
)
kept_plain s job false = λ i. (
  record s {
    threads = map plain_thread s.threads;
    waiting = map plain s.waiting;
    out = more_out s.out (refusals job.due job) (refusals job.due (plain job)) (refused_plain job.due job) i;
  },
  reply.Full,
)

placed_plain : (s : State) (job : Job) (o : Option ℕ) → placed (plain_state s) (plain job) o ≡ Said (placed s job o)
placed_plain s job (Some t) = ap (run_by (plain_state s) (plain job) t) (slice_get-map plain_thread s.threads t) ∙ run_plain s job t (slice_get s.threads t)
placed_plain s job None = ap (kept_or_full (plain_state s) (plain job)) (may_wait_plain s.pool s.waiting job) ∙ kept_plain s job (may_wait s.pool s.waiting job)

offer_plain : (s : State) (job : Job) (b : Bool) → offered (plain_state s) (plain job) b ≡ Said (offered s job b)
offer_plain s job true = refl
offer_plain s job false =
    ap (placed (heard (plain_state s) job.size) (plain job)) (chosen_plain s.pool.borrowing job.lane s.threads)
    ∙ placed_plain (heard s job.size) job (chosen_thread s.pool.borrowing job.lane s.threads)

post_plain : (s : State) (i : Item) (b : Bool) → posted (plain_state s) (plain_item i) b ≡ Said (posted s i b)
post_plain s i true = refl
post_plain s i false = λ k. (
  record (heard s 0) {
    threads = map plain_thread s.threads;
    waiting = map plain s.waiting;
    out = more_out s.out (i ∷ []) (plain_item i ∷ []) refl k;
  },
  reply.Posted,
)

withdrawn_plain : (s : State) (o : Option ℕ) → withdrawn (plain_state s) o ≡ Said (withdrawn s o)
withdrawn_plain s (Some at) = λ i. (record (plain_state s) { waiting = remove_map plain s.waiting at i }, reply.Removed)
withdrawn_plain s None = refl

cancel_plain : (s : State) (conn : ConnId) (id : ℕ) (b : Bool) → cancelled (plain_state s) conn id b ≡ Said (cancelled s conn id b)
cancel_plain s conn id true = refl
cancel_plain s conn id false =
    ap (withdrawn (heard (plain_state s) 0)) (position_map (may_cancel conn id) (may_cancel conn id) plain (λ job. refl) s.waiting)
    ∙ withdrawn_plain (heard s 0) (position (may_cancel conn id) s.waiting)

begun_plain : (s : State) (t : ℕ) (thread : Thread) (d : Doing) → begun (plain_state s) t (plain_thread thread) (plain_doing d) ≡ Said (begun s t thread d)
begun_plain s t thread (Given job) = λ i. (record (plain_state s) { threads = set_map plain_thread s.threads t (doing thread (Busy job)) i }, reply.Given (plain job))
begun_plain s t thread Free = refl
begun_plain s t thread (Busy job) = refl

taken_plain : (s : State) (t : ℕ) (o : Option Thread) → taken (plain_state s) t (option_map plain_thread o) ≡ Said (taken s t o)
taken_plain s t (Some thread) = begun_plain s t thread thread.doing
taken_plain s t None = refl

pub length-replicate : (n : ℕ) → length {A = ℕ} (replicate n 0) ≡ n
length-replicate zero = refl
length-replicate (suc n) = ap suc (length-replicate n)

answered_plain : (s : State) (a : Answer) → answered (plain_state s) (plain_answer a) ≡ plain_state (answered s a)
answered_plain s a = λ i. record s {
  threads = map plain_thread s.threads;
  waiting = map plain s.waiting;
  out = more_out s.out (late_items a.job.due a) (late_items a.job.due (plain_answer a)) (late_plain a.job.due a) i;
  bytes = s.bytes + length-replicate (body_len a.outcome) i;
}

handed_on_plain : (s : State) (t : ℕ) (thread : Thread) (at : ℕ) (o : Option Job) → handed_on (plain_state s) t (plain_thread thread) at (option_map plain o) ≡ plain_state (handed_on s t thread at o)
handed_on_plain s t thread at (Some job) = λ i. record (plain_state s) { threads = set_map plain_thread s.threads t (given job thread) i; waiting = remove_map plain s.waiting at i }
handed_on_plain s t thread at None = refl

freed_plain : (s : State) (t : ℕ) (thread : Thread) (o : Option ℕ) → freed (plain_state s) t (plain_thread thread) o ≡ plain_state (freed s t thread o)
freed_plain s t thread (Some at) = ap (handed_on (plain_state s) t (plain_thread thread) at) (slice_get-map plain s.waiting at) ∙ handed_on_plain s t thread at (slice_get s.waiting at)
freed_plain s t thread None = λ i. record (plain_state s) { threads = set_map plain_thread s.threads t (doing thread Free) i }

finished_plain : (s : State) (t : ℕ) (a : Answer) (o : Option Thread) → finished (plain_state s) t (plain_answer a) (option_map plain_thread o) ≡ Said (finished s t a o)
finished_plain s t a (Some thread) =
    (λ i. (freed (answered_plain s a i) t (plain_thread thread) (next_plain s.pool.borrowing thread.lane s.waiting i), reply.Finished))
    ∙ ap (λ (z : State). (z, reply.Finished)) (freed_plain (answered s a) t thread (next_job s.pool.borrowing thread.lane s.waiting))
finished_plain s t a None = refl

handed_plain : (s : State) (at : ℕ) (o : Option Item) → handed (plain_state s) at (option_map plain_item o) ≡ Said (handed s at o)
handed_plain s at (Some x) = λ i. (record (plain_state s) { out = remove_map plain_item s.out at i }, reply.Handed (plain_item x))
handed_plain s at None = refl

shut_plain : (s : State) (conn : ConnId) (b : Bool) → shut (plain_state s) conn b ≡ Said (shut s conn b)
shut_plain s conn true = refl
shut_plain s conn false = refl

over_plain : (s : State) (conn : ConnId) (o : Option How) → over (plain_state s) conn o ≡ Said (over s conn o)
over_plain s conn (Some how.Bad) = refl
over_plain s conn (Some how.Shut) = refl
over_plain s conn (Some how.Quiet) = refl
over_plain s conn None = shut_plain s conn (was_told s conn)

conn_plain : (i : Item) → item_conn (plain_item i) ≡ item_conn i
conn_plain (item.Answered a) = refl
conn_plain (item.Early job) = refl
conn_plain (item.Transient job) = refl
conn_plain (item.Noticed n) = refl

collected_plain : (s : State) (conn : ConnId) (o : Option ℕ) → collected (plain_state s) conn o ≡ Said (collected s conn o)
collected_plain s conn (Some at) = ap (handed (plain_state s) at) (slice_get-map plain_item s.out at) ∙ handed_plain s at (slice_get s.out at)
collected_plain s conn None = over_plain s conn (end_of s conn)

place_plain : (s : State) (conn : ConnId) → item_place (plain_state s) conn ≡ item_place s conn
place_plain s conn = position_map (λ i. same_conn (item_conn i) conn) (λ i. same_conn (item_conn i) conn) plain_item (λ i. ap (λ (c : ConnId). same_conn c conn) (conn_plain i)) s.out

pub step_plain : (s : State) (c : LaneCall) → step (plain_state s) (plain_call c) ≡ Said (step s c)
step_plain s (Offer job) = offer_plain s job (is_over s job.size)
step_plain s (Post n) = post_plain s (item.Noticed n) (is_over s 0)
step_plain s (Cancel conn id) = cancel_plain s conn id (is_over s 0)
step_plain s (Take t) = ap (taken (plain_state s) t) (slice_get-map plain_thread s.threads t) ∙ taken_plain s t (slice_get s.threads t)
step_plain s (Finish t a) = ap (finished (plain_state s) t (plain_answer a)) (slice_get-map plain_thread s.threads t) ∙ finished_plain s t a (slice_get s.threads t)
step_plain s (Collect conn) = ap (collected (plain_state s) conn) (place_plain s conn) ∙ collected_plain s conn (item_place s conn)
step_plain s (End conn h) = refl
step_plain s (Leave slot) = refl

works_plain : (conn : ConnId) (d : Doing) → works_for conn (plain_doing d) ≡ works_for conn d
works_plain conn Free = refl
works_plain conn (Given job) = refl
works_plain conn (Busy job) = refl

owed_plain : (s : State) (conn : ConnId) → owed (plain_state s) conn ≡ owed s conn
unfolding owed
owed_plain s conn = λ i.
    count_same (λ (job : Job). same_conn job.conn conn) (λ (job : Job). same_conn job.conn conn) plain (λ x. refl) s.waiting i
    + count_same (λ (thread : Thread). works_for conn thread.doing) (λ (thread : Thread). works_for conn thread.doing) plain_thread (λ x. works_plain conn x.doing) s.threads i
    + count_same (λ (x : Item). same_conn (item_conn x) conn) (λ (x : Item). same_conn (item_conn x) conn) plain_item (λ x. ap (λ (c : ConnId). same_conn c conn) (conn_plain x)) s.out i

task_plain : (d : Doing) → task_of (plain_doing d) ≡ task_of d
task_plain Free = refl
task_plain (Given job) = refl
task_plain (Busy job) = refl

goes_plain : (s : State) (t : Task) → goes_on (plain_state s) t ≡ goes_on s t
goes_plain s task.Given = refl
goes_plain s task.Free = refl
goes_plain s task.Busy = refl

can_take_plain : (s : State) (o : Option Thread) → can_take (plain_state s) (option_map plain_thread o) ≡ can_take s o
can_take_plain s (Some thread) = ap (goes_on (plain_state s)) (task_plain thread.doing) ∙ goes_plain s (task_of thread.doing)
can_take_plain s None = refl

pub ready_plain : (s : State) (c : LaneCall) → is_ready (plain_state s) (plain_call c) ≡ is_ready s c
ready_plain s (Offer job) = ap (λ (n : ℕ). s.closing || nat_le n MAX_OWED) (owed_plain s job.conn)
ready_plain s (Post n) = ap (λ (m : ℕ). s.closing || nat_le m MAX_OWED) (owed_plain s n.conn)
ready_plain s (Cancel conn id) = refl
ready_plain s (Take t) = ap (can_take (plain_state s)) (slice_get-map plain_thread s.threads t) ∙ can_take_plain s (slice_get s.threads t)
ready_plain s (Finish t a) = refl
ready_plain s (Collect conn) = λ i. is_some (place_plain s conn i) || ((owed_plain s conn i == 0) && (is_some (end_of s conn) || s.closing))
ready_plain s (End conn h) = refl
ready_plain s (Leave slot) = refl
