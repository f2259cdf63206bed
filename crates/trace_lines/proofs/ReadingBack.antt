-- What lines say is said by the same lines again.
use Rattle.std.proofs.Common.{◌≡◌, ℕ, List, [], ◌∷◌, ◌++◌, Option, Some, None, refl, ap, ◌∙◌}
use Rattle.std.specs.Prelude.{map}
use Rattle.orb_base.specs.declared.conn_id.ConnId.{ConnId}
use Rattle.orb_base.specs.declared.job.Job.{Job}
use Rattle.lane_machine.specs.declared.call.LaneReply.TheVariants as reply
use Rattle.trace_lines.specs.declared.trace_line.TraceLine.{TraceLine}
use Rattle.trace_lines.specs.declared.trace_line.Action.{Action}
use Rattle.trace_lines.specs.declared.trace_line.Action.TheVariants as action
use Rattle.trace_lines.specs.declared.trace_line.OfferReply.{OfferReply}
use Rattle.trace_lines.specs.declared.trace_line.OfferReply.TheVariants as offer_reply
use Rattle.trace_lines.specs.declared.trace_line.PostReply.{PostReply}
use Rattle.trace_lines.specs.declared.trace_line.PostReply.TheVariants as post_reply
use Rattle.trace_lines.specs.declared.trace_line.CancelReply.{CancelReply}
use Rattle.trace_lines.specs.declared.trace_line.CancelReply.TheVariants as cancel_reply
use Rattle.trace_lines.specs.declared.trace_line.CollectReply.{CollectReply}
use Rattle.trace_lines.specs.declared.trace_line.CollectReply.TheVariants as collect_reply
use Rattle.trace_lines.specs.Offers.{offered, offers, number, NoNameTwice}
use Rattle.trace_lines.specs.Lines.{line_of, lines_of, action_of, offer_reply_of, post_reply_of, cancel_reply_of, task_of, collect_reply_of}
use Rattle.trace_lines.specs.ReadBack.{offered_by, jobs_of, entries_after, history_of, call_by, reply_by, with_job, finish_by, answer_of, last_len, given_by, handed_by, reply_of_offer, reply_of_post, reply_of_cancel, HasJobs, HasJob}
use Rattle.orb_base.specs.declared.item.Item.TheVariants as item
use Rattle.trace_lines.proofs.Commutes.{length-replicate}
use Rattle.trace_lines.proofs.Offered.{number_is}

offer_reply_back : (b : OfferReply) → offer_reply_of (reply_of_offer b) ≡ b
offer_reply_back (offer_reply.Run t) = refl
offer_reply_back (offer_reply.Lent t) = refl
offer_reply_back offer_reply.Kept = refl
offer_reply_back offer_reply.Full = refl
offer_reply_back offer_reply.Closing = refl

post_reply_back : (b : PostReply) → post_reply_of (reply_of_post b) ≡ b
post_reply_back post_reply.Posted = refl
post_reply_back post_reply.Closing = refl

cancel_reply_back : (b : CancelReply) → cancel_reply_of (reply_of_cancel b) ≡ b
cancel_reply_back cancel_reply.Removed = refl
cancel_reply_back cancel_reply.Nothing = refl
cancel_reply_back cancel_reply.Closing = refl

offers_by : (jobs : List Job) (d : Action) → HasJob jobs d → offered (call_by jobs d) ≡ offered_by d
offers_by jobs (action.Offer r b) h = refl
offers_by jobs (action.Post conn id c) h = refl
offers_by jobs (action.Cancel conn id c) h = refl
offers_by jobs (action.Take t task) h = refl
offers_by jobs (action.Finish t k n) h = ap (λ (o : Option Job). offered (finish_by t n o)) h.1
offers_by jobs (action.Collect conn r) h = refl
offers_by jobs (action.End conn how) h = refl
offers_by jobs (action.Leave slot) h = refl

offers_are : (jobs : List Job) (before ls : List TraceLine) → HasJobs jobs ls → offers (entries_after jobs before ls) ≡ jobs_of ls
offers_are jobs before [] h = refl
offers_are jobs before (l ∷ ls) h = λ i. offers_by jobs l.action h.0 i ++ offers_are jobs (before ++ l ∷ []) ls h.1 i

module _ (jobs : List Job) (apart : NoNameTwice jobs) where
  task_back : (task : Option ℕ) → HasJob jobs (action.Take 0 task) → task_of (number jobs) (given_by jobs task) ≡ task
  task_back (Some k) h = ap (λ (o : Option Job). task_of (number jobs) (with_job reply.Given o)) h.1 ∙ ap (λ (n : ℕ). Some n) (number_is jobs k h.0 apart h.1)
  task_back None h = refl

  reply_back : (before : List TraceLine) (conn : ConnId) (c : CollectReply) → HasJob jobs (action.Collect conn c) → collect_reply_of (number jobs) (handed_by jobs before conn c) ≡ c
  reply_back before conn (collect_reply.Answered k) h = ap (λ (o : Option Job). collect_reply_of (number jobs) (with_job (λ job. reply.Handed (item.Answered (answer_of job (last_len k 0 before)))) o)) h.1 ∙ ap collect_reply.Answered (number_is jobs k h.0 apart h.1)
  reply_back before conn (collect_reply.Early k) h = ap (λ (o : Option Job). collect_reply_of (number jobs) (with_job (λ job. reply.Handed (item.Early job)) o)) h.1 ∙ ap collect_reply.Early (number_is jobs k h.0 apart h.1)
  reply_back before conn (collect_reply.Transient k) h = ap (λ (o : Option Job). collect_reply_of (number jobs) (with_job (λ job. reply.Handed (item.Transient job)) o)) h.1 ∙ ap collect_reply.Transient (number_is jobs k h.0 apart h.1)
  reply_back before conn (collect_reply.Posted id) h = refl
  reply_back before conn collect_reply.Close h = refl
  reply_back before conn collect_reply.Error h = refl
  reply_back before conn collect_reply.Done h = refl

  action_back : (before : List TraceLine) (d : Action) → HasJob jobs d → action_of (number jobs) (call_by jobs d) (reply_by jobs before d) ≡ d
  action_back before (action.Offer r b) h = ap (action.Offer r) (offer_reply_back b)
  action_back before (action.Post conn id c) h = ap (action.Post conn id) (post_reply_back c)
  action_back before (action.Cancel conn id c) h = ap (action.Cancel conn id) (cancel_reply_back c)
  action_back before (action.Take t task) h = ap (action.Take t) (task_back task h)
  action_back before (action.Finish t k n) h =
      ap (λ (o : Option Job). action_of (number jobs) (finish_by t n o) (with_job (λ job. reply.Finished) o)) h.1
      ∙ (λ i. action.Finish t (number_is jobs k h.0 apart h.1 i) (length-replicate n i))
  action_back before (action.Collect conn r) h = ap (action.Collect conn) (reply_back before conn r h)
  action_back before (action.End conn how) h = refl
  action_back before (action.Leave slot) h = refl

  lines_back : (before ls : List TraceLine) → HasJobs jobs ls → map (line_of (number jobs)) (entries_after jobs before ls) ≡ ls
  lines_back before [] h = refl
  lines_back before (l ∷ ls) h = λ i. record { caller = l.caller; action = action_back before l.action h.0 i } ∷ lines_back (before ++ l ∷ []) ls h.1 i

-- lines that have all their requests, and none twice, are those of the history that is read back from them
pub read_back_whole : (ls : List TraceLine) → HasJobs (jobs_of ls) ls → NoNameTwice (jobs_of ls) → lines_of (history_of ls) ≡ ls
read_back_whole ls h apart =
    ap (λ (jobs : List Job). map (line_of (number jobs)) (history_of ls)) (offers_are (jobs_of ls) [] ls h) ∙ lines_back (jobs_of ls) apart [] ls h
