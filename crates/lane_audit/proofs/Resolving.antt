-- What a line says of a request that no line offers, and the replies by lengths and by the lines before.
use Rattle.std.proofs.Common.{◌≡◌, ◌≢◌, ℕ, ◌<◌, Bool, true, false, List, length, Option, Some, None, refl, ap}
use Rattle.std.specs.Prelude.{slice_get, slice_index}
use Rattle.std.proofs.lemmas.Option.{slice_get_within}
use Rattle.orb_base.specs.declared.conn_id.ConnId.{ConnId}
use Rattle.orb_base.specs.declared.item.Item.{Item}
use Rattle.orb_base.specs.declared.item.Item.TheVariants as item
use Rattle.orb_base.specs.declared.job.Job.{Job}
use Rattle.thread_borrowing.specs.declared.doing.Doing.{Doing}
use Rattle.thread_borrowing.specs.declared.doing.Doing.TheVariants.{Free, Given, Busy}
use Rattle.thread_borrowing.specs.ThreadList.{Thread}
use Rattle.lane_machine.specs.State.{State}
use Rattle.lane_machine.specs.Machine.{step, taken, begun, collected, handed, over, shut, item_place, end_of, was_told}
use Rattle.lane_machine.specs.declared.call.How.{How}
use Rattle.lane_machine.specs.declared.call.How.TheVariants as how
use Rattle.lane_machine.specs.declared.call.LaneCall.TheVariants.{Take, Collect}
use Rattle.lane_machine.specs.declared.call.LaneReply.TheVariants as reply
use Rattle.trace_lines.specs.declared.trace_line.CollectReply.{CollectReply}
use Rattle.trace_lines.specs.declared.trace_line.CollectReply.TheVariants as collect_reply
use Rattle.trace_lines.specs.declared.trace_line.Action.{Action}
use Rattle.trace_lines.specs.declared.trace_line.Action.TheVariants as action
use Rattle.trace_lines.specs.declared.trace_line.TraceLine.{TraceLine}
use Rattle.trace_lines.specs.ReadBack.{answer_of, with_job, handed_by, reply_by, last_len}
use Rattle.lane_audit.specs.Resolved.{handed_with, reply_with, KnowsLens}
use Rattle.lane_audit.specs.Verdicts.{IsRight}

begun_notes_none : (s : State) (t : ℕ) (thread : Thread) (d : Doing) → reply.Noted ≢ (begun s t thread d).1
begun_notes_none s t thread Free is = absurd (cc)
begun_notes_none s t thread (Given job) is = absurd (cc)
begun_notes_none s t thread (Busy job) is = absurd (cc)

taken_notes_none : (s : State) (t : ℕ) (o : Option Thread) → reply.Noted ≢ (taken s t o).1
taken_notes_none s t (Some thread) is = begun_notes_none s t thread thread.doing is
taken_notes_none s t None is = absurd (cc)

-- no Take is answered so
pub take_notes_none : (s : State) (t : ℕ) → reply.Noted ≢ (step s (Take t)).1
take_notes_none s t = taken_notes_none s t (slice_get s.threads t)

handed_notes_none : (s : State) (at : ℕ) (o : Option Item) → reply.Noted ≢ (handed s at o).1
handed_notes_none s at (Some i) is = absurd (cc)
handed_notes_none s at None is = absurd (cc)

shut_notes_none : (s : State) (conn : ConnId) (b : Bool) → reply.Noted ≢ (shut s conn b).1
shut_notes_none s conn true is = absurd (cc)
shut_notes_none s conn false is = absurd (cc)

over_notes_none : (s : State) (conn : ConnId) (o : Option How) → reply.Noted ≢ (over s conn o).1
over_notes_none s conn (Some how.Bad) is = absurd (cc)
over_notes_none s conn (Some how.Shut) is = absurd (cc)
over_notes_none s conn (Some how.Quiet) is = absurd (cc)
over_notes_none s conn None is = shut_notes_none s conn (was_told s conn) is

collected_notes_none : (s : State) (conn : ConnId) (o : Option ℕ) → reply.Noted ≢ (collected s conn o).1
collected_notes_none s conn (Some at) is = handed_notes_none s at (slice_get s.out at) is
collected_notes_none s conn None is = over_notes_none s conn (end_of s conn) is

-- nor a Collect
pub collect_notes_none : (s : State) (conn : ConnId) → reply.Noted ≢ (step s (Collect conn)).1
collect_notes_none s conn = collected_notes_none s conn (item_place s conn)

answered_same : (jobs : List Job) (k m n : ℕ) (o : Option Job) → (k < length jobs → m ≡ n) → slice_get jobs k ≡ o
    → with_job (λ job. reply.Handed (item.Answered (answer_of job m))) o ≡ with_job (λ job. reply.Handed (item.Answered (answer_of job n))) o
answered_same jobs k m n (Some job) same g = ap (λ (x : ℕ). reply.Handed (item.Answered (answer_of job x))) (same (slice_get_within jobs k job g))
answered_same jobs k m n None same g = refl

handed_same : (jobs : List Job) (lens : List ℕ) (before : List TraceLine) (conn : ConnId) (r : CollectReply) → KnowsLens jobs lens before → handed_with jobs lens conn r ≡ handed_by jobs before conn r
handed_same jobs lens before conn (collect_reply.Answered k) knows = answered_same jobs k (slice_index lens k) (last_len k 0 before) (slice_get jobs k) (knows.each k) refl
handed_same jobs lens before conn (collect_reply.Early k) knows = refl
handed_same jobs lens before conn (collect_reply.Transient k) knows = refl
handed_same jobs lens before conn (collect_reply.Posted id) knows = refl
handed_same jobs lens before conn collect_reply.Close knows = refl
handed_same jobs lens before conn collect_reply.Error knows = refl
handed_same jobs lens before conn collect_reply.Done knows = refl

-- the reply by the lengths is that by the lines before
pub reply_same : (jobs : List Job) (lens : List ℕ) (before : List TraceLine) (a : Action) → KnowsLens jobs lens before → reply_with jobs lens a ≡ reply_by jobs before a
reply_same jobs lens before (action.Offer request r) knows = refl
reply_same jobs lens before (action.Post conn id r) knows = refl
reply_same jobs lens before (action.Cancel conn id r) knows = refl
reply_same jobs lens before (action.Take t task) knows = refl
reply_same jobs lens before (action.Finish t k len) knows = refl
reply_same jobs lens before (action.Collect conn r) knows = handed_same jobs lens before conn r knows
reply_same jobs lens before (action.End conn h) knows = refl
reply_same jobs lens before (action.Leave slot) knows = refl

-- a line of a Take that names a request which no line offers is not right
pub no_take : (s : State) (t : ℕ) → IsRight s (Take t) reply.Noted → ⊥
no_take s t right = take_notes_none s t right.answered

-- nor one of a Collect
pub no_collect : (s : State) (conn : ConnId) → IsRight s (Collect conn) reply.Noted → ⊥
no_collect s conn right = collect_notes_none s conn right.answered
