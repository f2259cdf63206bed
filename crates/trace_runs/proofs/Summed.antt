-- The numbers of a history are those of the lines that say it.
use Rattle.std.proofs.Common.{◌≡◌, ℕ, ◌+◌, Bool, true, false, List, [], ◌∷◌, ◌++◌, length, take, drop, Option, Some, None, refl, sym, ap, ◌∙◌, cond}
use Rattle.std.specs.Prelude.{count_by, slice_get}
use Rattle.std.specs.Str.{bytes_eq}
use Rattle.std.proofs.lemmas.Bool.{both_ways}
use Rattle.std.proofs.lemmas.List.{take_at, take-append-drop}
use Rattle.std.proofs.lemmas.Slice.Eq.{bytes_eq-Decides}
use Rattle.std.proofs.lemmas.List.Sums.{sum_by-cons}
use Rattle.orb_base.specs.declared.conn_id.ConnId.{ConnId}
use Rattle.orb_base.specs.declared.item.Item.{Item}
use Rattle.orb_base.specs.declared.item.Item.TheVariants as item
use Rattle.orb_base.specs.declared.job.Job.{Job}
use Rattle.orb_base.specs.declared.notice.Notice.{Notice}
use Rattle.lane_machine.specs.Entries.{One}
use Rattle.lane_machine.specs.declared.call.LaneCall.{LaneCall}
use Rattle.lane_machine.specs.declared.call.LaneCall.TheVariants as call
use Rattle.lane_machine.specs.declared.call.LaneReply.{LaneReply}
use Rattle.lane_machine.specs.declared.call.LaneReply.TheVariants as reply
use Rattle.lane_machine.specs.declared.call.How.{How}
use Rattle.trace_lines.specs.ReadBack.{job_of, notice_of, answer_of, last_len, reply_of_offer, reply_of_post, reply_of_cancel, call_by, reply_by, finish_by, with_job, given_by, handed_by, entry_by, entries_after, history_of, jobs_of}
use Rattle.trace_lines.specs.declared.summary.Summary.{Summary}
use Rattle.trace_lines.specs.Summaries as sums
use Rattle.trace_lines.specs.declared.trace_line.OfferReply.{OfferReply}
use Rattle.trace_lines.specs.declared.trace_line.OfferReply.TheVariants as offer_reply
use Rattle.trace_lines.specs.declared.trace_line.PostReply.{PostReply}
use Rattle.trace_lines.specs.declared.trace_line.PostReply.TheVariants as post_reply
use Rattle.trace_lines.specs.declared.trace_line.CancelReply.{CancelReply}
use Rattle.trace_lines.specs.declared.trace_line.CancelReply.TheVariants as cancel_reply
use Rattle.trace_lines.specs.declared.trace_line.CollectReply.{CollectReply}
use Rattle.trace_lines.specs.declared.trace_line.CollectReply.TheVariants as collect_reply
use Rattle.trace_lines.specs.declared.trace_line.Action.{Action}
use Rattle.trace_lines.specs.declared.trace_line.Action.TheVariants as action
use Rattle.trace_lines.specs.declared.trace_line.TraceLine.{TraceLine}
use Rattle.trace_runs.specs.Reading.{begins_so, IsSummaryAt, summary_text}
use Rattle.trace_runs.specs.Counting.{counts_offer, counts_post, counts_cancel, counts_end, counts_action, counts_line}
use Rattle.trace_runs.specs.declared.summaries.Counted.{Counted}
use Rattle.trace_runs.specs.declared.summaries.Counted.TheVariants.{Heard, Own, Lent, Kept, Full, Removed, Ended}

-- an entry is counted so
abbrev pub counts_one : Counted → One → Bool
counts_one Heard e = sums.counts e
counts_one Own e = sums.gives false e
counts_one Lent e = sums.gives true e
counts_one Kept e = sums.keeps e
counts_one Full e = sums.refuses e
counts_one Removed e = sums.removes e
counts_one Ended e = sums.is_end e

-- an entry of this call and this reply, whoever called
abbrev entry_of : ℕ → LaneCall → LaneReply → One
entry_of caller call r = record { caller = caller; call = call; reply = r }

-- a call that nothing counts, with such a reply
abbrev CountsNone : LaneCall → LaneReply → Type 0
CountsNone call r = (what : Counted) (caller : ℕ) → counts_one what (entry_of caller call r) ≡ false

offer_counts : (what : Counted) (caller : ℕ) (job : Job) (r : OfferReply) → counts_one what (entry_of caller (call.Offer job) (reply_of_offer r)) ≡ counts_offer what r
offer_counts Heard caller job (offer_reply.Run t) = refl
offer_counts Heard caller job (offer_reply.Lent t) = refl
offer_counts Heard caller job offer_reply.Kept = refl
offer_counts Heard caller job offer_reply.Full = refl
offer_counts Heard caller job offer_reply.Closing = refl
offer_counts Own caller job (offer_reply.Run t) = refl
offer_counts Own caller job (offer_reply.Lent t) = refl
offer_counts Own caller job offer_reply.Kept = refl
offer_counts Own caller job offer_reply.Full = refl
offer_counts Own caller job offer_reply.Closing = refl
offer_counts Lent caller job (offer_reply.Run t) = refl
offer_counts Lent caller job (offer_reply.Lent t) = refl
offer_counts Lent caller job offer_reply.Kept = refl
offer_counts Lent caller job offer_reply.Full = refl
offer_counts Lent caller job offer_reply.Closing = refl
offer_counts Kept caller job (offer_reply.Run t) = refl
offer_counts Kept caller job (offer_reply.Lent t) = refl
offer_counts Kept caller job offer_reply.Kept = refl
offer_counts Kept caller job offer_reply.Full = refl
offer_counts Kept caller job offer_reply.Closing = refl
offer_counts Full caller job (offer_reply.Run t) = refl
offer_counts Full caller job (offer_reply.Lent t) = refl
offer_counts Full caller job offer_reply.Kept = refl
offer_counts Full caller job offer_reply.Full = refl
offer_counts Full caller job offer_reply.Closing = refl
offer_counts Removed caller job (offer_reply.Run t) = refl
offer_counts Removed caller job (offer_reply.Lent t) = refl
offer_counts Removed caller job offer_reply.Kept = refl
offer_counts Removed caller job offer_reply.Full = refl
offer_counts Removed caller job offer_reply.Closing = refl
offer_counts Ended caller job (offer_reply.Run t) = refl
offer_counts Ended caller job (offer_reply.Lent t) = refl
offer_counts Ended caller job offer_reply.Kept = refl
offer_counts Ended caller job offer_reply.Full = refl
offer_counts Ended caller job offer_reply.Closing = refl

post_counts : (what : Counted) (caller : ℕ) (notice : Notice) (r : PostReply) → counts_one what (entry_of caller (call.Post notice) (reply_of_post r)) ≡ counts_post what r
post_counts Heard caller notice post_reply.Posted = refl
post_counts Heard caller notice post_reply.Closing = refl
post_counts Own caller notice post_reply.Posted = refl
post_counts Own caller notice post_reply.Closing = refl
post_counts Lent caller notice post_reply.Posted = refl
post_counts Lent caller notice post_reply.Closing = refl
post_counts Kept caller notice post_reply.Posted = refl
post_counts Kept caller notice post_reply.Closing = refl
post_counts Full caller notice post_reply.Posted = refl
post_counts Full caller notice post_reply.Closing = refl
post_counts Removed caller notice post_reply.Posted = refl
post_counts Removed caller notice post_reply.Closing = refl
post_counts Ended caller notice post_reply.Posted = refl
post_counts Ended caller notice post_reply.Closing = refl

cancel_counts : (what : Counted) (caller : ℕ) (conn : ConnId) (id : ℕ) (r : CancelReply) → counts_one what (entry_of caller (call.Cancel conn id) (reply_of_cancel r)) ≡ counts_cancel what r
cancel_counts Heard caller conn id cancel_reply.Removed = refl
cancel_counts Heard caller conn id cancel_reply.Nothing = refl
cancel_counts Heard caller conn id cancel_reply.Closing = refl
cancel_counts Own caller conn id cancel_reply.Removed = refl
cancel_counts Own caller conn id cancel_reply.Nothing = refl
cancel_counts Own caller conn id cancel_reply.Closing = refl
cancel_counts Lent caller conn id cancel_reply.Removed = refl
cancel_counts Lent caller conn id cancel_reply.Nothing = refl
cancel_counts Lent caller conn id cancel_reply.Closing = refl
cancel_counts Kept caller conn id cancel_reply.Removed = refl
cancel_counts Kept caller conn id cancel_reply.Nothing = refl
cancel_counts Kept caller conn id cancel_reply.Closing = refl
cancel_counts Full caller conn id cancel_reply.Removed = refl
cancel_counts Full caller conn id cancel_reply.Nothing = refl
cancel_counts Full caller conn id cancel_reply.Closing = refl
cancel_counts Removed caller conn id cancel_reply.Removed = refl
cancel_counts Removed caller conn id cancel_reply.Nothing = refl
cancel_counts Removed caller conn id cancel_reply.Closing = refl
cancel_counts Ended caller conn id cancel_reply.Removed = refl
cancel_counts Ended caller conn id cancel_reply.Nothing = refl
cancel_counts Ended caller conn id cancel_reply.Closing = refl

end_counts : (what : Counted) (caller : ℕ) (conn : ConnId) (how : How) → counts_one what (entry_of caller (call.End conn how) reply.Noted) ≡ counts_end what
end_counts Heard caller conn how = refl
end_counts Own caller conn how = refl
end_counts Lent caller conn how = refl
end_counts Kept caller conn how = refl
end_counts Full caller conn how = refl
end_counts Removed caller conn how = refl
end_counts Ended caller conn how = refl

leave_counts : (slot : ℕ) → CountsNone (call.Leave slot) reply.Noted
leave_counts slot Heard caller = refl
leave_counts slot Own caller = refl
leave_counts slot Lent caller = refl
leave_counts slot Kept caller = refl
leave_counts slot Full caller = refl
leave_counts slot Removed caller = refl
leave_counts slot Ended caller = refl

given_counts : (t : ℕ) (o : Option Job) → CountsNone (call.Take t) (with_job reply.Given o)
given_counts t (Some job) Heard caller = refl
given_counts t (Some job) Own caller = refl
given_counts t (Some job) Lent caller = refl
given_counts t (Some job) Kept caller = refl
given_counts t (Some job) Full caller = refl
given_counts t (Some job) Removed caller = refl
given_counts t (Some job) Ended caller = refl
given_counts t None Heard caller = refl
given_counts t None Own caller = refl
given_counts t None Lent caller = refl
given_counts t None Kept caller = refl
given_counts t None Full caller = refl
given_counts t None Removed caller = refl
given_counts t None Ended caller = refl

take_counts : (t : ℕ) (jobs : List Job) (task : Option ℕ) → CountsNone (call.Take t) (given_by jobs task)
take_counts t jobs (Some k) what caller = given_counts t (slice_get jobs k) what caller
take_counts t jobs None Heard caller = refl
take_counts t jobs None Own caller = refl
take_counts t jobs None Lent caller = refl
take_counts t jobs None Kept caller = refl
take_counts t jobs None Full caller = refl
take_counts t jobs None Removed caller = refl
take_counts t jobs None Ended caller = refl

finish_counts : (t len : ℕ) (o : Option Job) → CountsNone (finish_by t len o) (with_job (λ job. reply.Finished) o)
finish_counts t len (Some job) Heard caller = refl
finish_counts t len (Some job) Own caller = refl
finish_counts t len (Some job) Lent caller = refl
finish_counts t len (Some job) Kept caller = refl
finish_counts t len (Some job) Full caller = refl
finish_counts t len (Some job) Removed caller = refl
finish_counts t len (Some job) Ended caller = refl
finish_counts t len None Heard caller = refl
finish_counts t len None Own caller = refl
finish_counts t len None Lent caller = refl
finish_counts t len None Kept caller = refl
finish_counts t len None Full caller = refl
finish_counts t len None Removed caller = refl
finish_counts t len None Ended caller = refl

handed_counts : (conn : ConnId) (make : Job → Item) (o : Option Job) → CountsNone (call.Collect conn) (with_job (λ job. reply.Handed (make job)) o)
handed_counts conn make (Some job) Heard caller = refl
handed_counts conn make (Some job) Own caller = refl
handed_counts conn make (Some job) Lent caller = refl
handed_counts conn make (Some job) Kept caller = refl
handed_counts conn make (Some job) Full caller = refl
handed_counts conn make (Some job) Removed caller = refl
handed_counts conn make (Some job) Ended caller = refl
handed_counts conn make None Heard caller = refl
handed_counts conn make None Own caller = refl
handed_counts conn make None Lent caller = refl
handed_counts conn make None Kept caller = refl
handed_counts conn make None Full caller = refl
handed_counts conn make None Removed caller = refl
handed_counts conn make None Ended caller = refl

collect_counts : (jobs : List Job) (before : List TraceLine) (conn : ConnId) (r : CollectReply) → CountsNone (call.Collect conn) (handed_by jobs before conn r)
collect_counts jobs before conn (collect_reply.Answered k) what caller = handed_counts conn (λ job. item.Answered (answer_of job (last_len k 0 before))) (slice_get jobs k) what caller
collect_counts jobs before conn (collect_reply.Early k) what caller = handed_counts conn item.Early (slice_get jobs k) what caller
collect_counts jobs before conn (collect_reply.Transient k) what caller = handed_counts conn item.Transient (slice_get jobs k) what caller
collect_counts jobs before conn (collect_reply.Posted id) Heard caller = refl
collect_counts jobs before conn (collect_reply.Posted id) Own caller = refl
collect_counts jobs before conn (collect_reply.Posted id) Lent caller = refl
collect_counts jobs before conn (collect_reply.Posted id) Kept caller = refl
collect_counts jobs before conn (collect_reply.Posted id) Full caller = refl
collect_counts jobs before conn (collect_reply.Posted id) Removed caller = refl
collect_counts jobs before conn (collect_reply.Posted id) Ended caller = refl
collect_counts jobs before conn collect_reply.Close Heard caller = refl
collect_counts jobs before conn collect_reply.Close Own caller = refl
collect_counts jobs before conn collect_reply.Close Lent caller = refl
collect_counts jobs before conn collect_reply.Close Kept caller = refl
collect_counts jobs before conn collect_reply.Close Full caller = refl
collect_counts jobs before conn collect_reply.Close Removed caller = refl
collect_counts jobs before conn collect_reply.Close Ended caller = refl
collect_counts jobs before conn collect_reply.Error Heard caller = refl
collect_counts jobs before conn collect_reply.Error Own caller = refl
collect_counts jobs before conn collect_reply.Error Lent caller = refl
collect_counts jobs before conn collect_reply.Error Kept caller = refl
collect_counts jobs before conn collect_reply.Error Full caller = refl
collect_counts jobs before conn collect_reply.Error Removed caller = refl
collect_counts jobs before conn collect_reply.Error Ended caller = refl
collect_counts jobs before conn collect_reply.Done Heard caller = refl
collect_counts jobs before conn collect_reply.Done Own caller = refl
collect_counts jobs before conn collect_reply.Done Lent caller = refl
collect_counts jobs before conn collect_reply.Done Kept caller = refl
collect_counts jobs before conn collect_reply.Done Full caller = refl
collect_counts jobs before conn collect_reply.Done Removed caller = refl
collect_counts jobs before conn collect_reply.Done Ended caller = refl

-- the entry of a line is counted as the line
one_counts : (what : Counted) (caller : ℕ) (jobs : List Job) (before : List TraceLine) (a : Action)
    → counts_one what (entry_of caller (call_by jobs a) (reply_by jobs before a)) ≡ counts_action what a
one_counts what caller jobs before (action.Offer request r) = offer_counts what caller (job_of request) r
one_counts what caller jobs before (action.Post conn id r) = post_counts what caller (notice_of conn id) r
one_counts what caller jobs before (action.Cancel conn id r) = cancel_counts what caller conn id r
one_counts what caller jobs before (action.Take t task) = take_counts t jobs task what caller
one_counts what caller jobs before (action.Finish t k len) = finish_counts t len (slice_get jobs k) what caller
one_counts what caller jobs before (action.Collect conn r) = collect_counts jobs before conn r what caller
one_counts what caller jobs before (action.End conn how) = end_counts what caller conn how
one_counts what caller jobs before (action.Leave slot) = leave_counts slot what caller

after_counts : (what : Counted) (jobs : List Job) (before lines : List TraceLine) → count_by (counts_one what) (entries_after jobs before lines) ≡ count_by (counts_line what) lines
after_counts what jobs before [] = refl
after_counts what jobs before (l ∷ ls) =
    sum_by-cons (λ (e : One). cond (counts_one what e) 1 0) (entry_by jobs before l) (entries_after jobs (before ++ l ∷ []) ls)
    ∙ (λ i. cond (one_counts what l.caller jobs before l.action i) 1 0 + after_counts what jobs (before ++ l ∷ []) ls i)
    ∙ sym (sum_by-cons (λ (x : TraceLine). cond (counts_line what x) 1 0) l ls)

pub counted : (what : Counted) (lines : List TraceLine) → count_by (counts_one what) (history_of lines) ≡ count_by (counts_line what) lines
counted what lines = after_counts what (jobs_of lines) [] lines

-- these numbers are the summary of the history
pub summed_up : (lines : List TraceLine) (s : Summary) → s.calls ≡ count_by (counts_line Heard) lines → s.run ≡ count_by (counts_line Own) lines
    → s.lent ≡ count_by (counts_line Lent) lines → s.kept ≡ count_by (counts_line Kept) lines → s.full ≡ count_by (counts_line Full) lines
    → s.removed ≡ count_by (counts_line Removed) lines → s.connections ≡ count_by (counts_line Ended) lines → s ≡ sums.summary_of (history_of lines)
summed_up lines s calls run lent kept full removed connections =
    let a = calls ∙ sym (counted Heard lines) in let b = run ∙ sym (counted Own lines) in
    let c = lent ∙ sym (counted Lent lines) in let d = kept ∙ sym (counted Kept lines) in
    let e = full ∙ sym (counted Full lines) in let f = removed ∙ sym (counted Removed lines) in
    let g = connections ∙ sym (counted Ended lines) in
    λ i. record { calls = a i; run = b i; lent = c i; kept = d i; full = e i; removed = f i; connections = g i }

-- where the summary of lines is

pub no_summary : (lines : List TraceLine) (text : List ℕ) → begins_so text ≡ false → IsSummaryAt lines text None
no_summary lines text e = record { none = λ more is. both_ways (begins_so text) e (ap begins_so is) }

pub other_summary : (lines : List TraceLine) (text s : List ℕ) → s ≡ summary_text lines → bytes_eq s (take (length s) text) ≡ false → IsSummaryAt lines text None
other_summary lines text s same e = record {
  none = λ more is.
      let cut : take (length s) text ≡ s = ap (take (length s)) is ∙ ap (λ (z : List ℕ). take (length s) (z ++ more)) (sym same) ∙ take_at s more (length s) refl in
      both_ways (bytes_eq s (take (length s) text)) e ((bytes_eq-Decides s (take (length s) text)).1 (sym cut));
}

pub is_summary : (lines : List TraceLine) (text s : List ℕ) → s ≡ summary_text lines → bytes_eq s (take (length s) text) ≡ true → IsSummaryAt lines text (Some (length s))
is_summary lines text s same e =
    let front : s ≡ take (length s) text = (bytes_eq-Decides s (take (length s) text)).0 e in (
      ap length same,
      (drop (length s) text, sym (take-append-drop (length s) text) ∙ ap (λ (z : List ℕ). z ++ drop (length s) text) (sym front ∙ same)),
    )
