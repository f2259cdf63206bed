-- The reply of a line, by the requests of its run and the last lengths of their answers.
use Rattle.std.specs.Prelude.{◌≡◌, ℕ, ◌<◌, ◌==◌, List, [], length, slice_get, slice_index, if◌then◌else◌}
use Rattle.orb_base.specs.declared.conn_id.ConnId.{ConnId}
use Rattle.orb_base.specs.declared.item.Item.TheVariants as item
use Rattle.orb_base.specs.declared.job.Job.{Job}
use Rattle.lane_machine.specs.declared.call.LaneReply.{LaneReply}
use Rattle.lane_machine.specs.declared.call.LaneReply.TheVariants as reply
use Rattle.trace_lines.specs.declared.trace_line.CollectReply.{CollectReply}
use Rattle.trace_lines.specs.declared.trace_line.CollectReply.TheVariants as collect_reply
use Rattle.trace_lines.specs.declared.trace_line.Action.{Action}
use Rattle.trace_lines.specs.declared.trace_line.Action.TheVariants as action
use Rattle.trace_lines.specs.declared.trace_line.TraceLine.{TraceLine}
use Rattle.trace_lines.specs.ReadBack.{answer_of, notice_of, with_job, reply_by, last_len, len_after, jobs_of}
use Rattle.lane_audit.specs.Counting.{AreZeros}
use Rattle.lane_audit.specs.declared.offers.Offers.{Offers}

-- what a writing side was handed
abbrev pub handed_with : List Job → List ℕ → ConnId → CollectReply → LaneReply
handed_with jobs lens conn (collect_reply.Answered k) =
    with_job (λ job. reply.Handed (item.Answered (answer_of job (slice_index lens k)))) (slice_get jobs k)
handed_with jobs lens conn (collect_reply.Early k) = with_job (λ job. reply.Handed (item.Early job)) (slice_get jobs k)
handed_with jobs lens conn (collect_reply.Transient k) = with_job (λ job. reply.Handed (item.Transient job)) (slice_get jobs k)
handed_with jobs lens conn (collect_reply.Posted id) = reply.Handed (item.Noticed (notice_of conn id))
handed_with jobs lens conn collect_reply.Close = reply.Close
handed_with jobs lens conn collect_reply.Error = reply.Error
handed_with jobs lens conn collect_reply.Done = reply.Done

-- the reply of a line
abbrev pub reply_with : List Job → List ℕ → Action → LaneReply
reply_with jobs lens (action.Collect conn r) = handed_with jobs lens conn r
reply_with jobs lens a = reply_by jobs [] a

-- the lengths are those of the last answers to the requests, as these lines say them
pub record KnowsLens (jobs : List Job) (lens : List ℕ) (before : List TraceLine) : Type 0 where
  pub many : length lens ≡ length jobs
  pub each : (k : ℕ) → k < length jobs → slice_index lens k ≡ last_len k 0 before

-- the lengths after one more line
pub record LensAfter (old new : List ℕ) (a : Action) : Type 0 where
  pub many : length new ≡ length old
  pub each : (k : ℕ) → k < length old → slice_index new k ≡ len_after k (slice_index old k) a

-- the length of one request is set, and no other
pub record IsLenSet (old new : List ℕ) (request len : ℕ) : Type 0 where
  pub many : length new ≡ length old
  pub each : (k : ℕ) → k < length old → slice_index new k ≡ (if request == k then len else slice_index old k)

-- the requests that these lines offer, none of which is answered yet
pub record HasOffers (lines : List TraceLine) (offers : Offers) : Type 0 where
  pub asked : offers.asked.items ≡ jobs_of lines
  pub lens : AreZeros offers.lens.items (length (jobs_of lines))
