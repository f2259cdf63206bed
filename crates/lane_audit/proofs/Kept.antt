-- What each call of the desk keeps.
use Rattle.std.proofs.Common.{◌≡◌, ◌≢◌, ℕ, Bool, true, false, List, Option, Some, None, sym, refl, subst, ◌∙◌, ◌≤◌, arith}
use Rattle.std.specs.Prelude.{is_some, slice_get, IsSome}
use Rattle.std.proofs.lemmas.List.{length-replicate}
use Rattle.orb_base.specs.Pool.{Pool}
use Rattle.orb_base.specs.declared.conn_id.ConnId.{ConnId}
use Rattle.orb_base.specs.declared.answer.Answer.{Answer}
use Rattle.orb_base.specs.declared.due.Due.TheVariants as due
use Rattle.orb_base.specs.declared.item.Item.{Item}
use Rattle.orb_base.specs.declared.job.Job.{Job}
use Rattle.orb_base.specs.declared.limits.TheConstants.{MAX_BODY}
use Rattle.lane_machine.specs.declared.call.How.{How}
use Rattle.lane_machine.specs.declared.call.LaneCall.TheVariants.{Offer, Post, Cancel, Take, Finish, Collect, End, Leave}
use Rattle.lane_machine.specs.declared.call.LaneReply.{LaneReply}
use Rattle.lane_machine.specs.declared.call.LaneReply.TheVariants as reply
use Rattle.thread_borrowing.specs.ThreadList.{Thread}
use Rattle.lane_machine.specs.State.{State, CanOpen, opening}
use Rattle.lane_machine.proofs.Bounds.{owing, owed_is, opening_weighs, bounded_first}
use Rattle.lane_machine.proofs.Counts.{opening_bounded}
use Rattle.lane_machine.specs.Machine.{step, finished}
use Rattle.lane_machine.specs.Readiness.{is_ready, IsSound, IsBusyWith, can_take}
use Rattle.trace_lines.specs.declared.trace_line.OfferReply.{OfferReply}
use Rattle.trace_lines.specs.declared.trace_line.PostReply.{PostReply}
use Rattle.trace_lines.specs.declared.trace_line.CancelReply.{CancelReply}
use Rattle.trace_lines.specs.declared.trace_line.CancelReply.TheVariants as cancel_reply
use Rattle.trace_lines.specs.ReadBack.{reply_of_offer, reply_of_post, reply_of_cancel, answer_of, notice_of}
use Rattle.lane_audit.specs.Counting.{Moves, IsCounted, IsClear, offer_brings, post_brings}
use Rattle.lane_audit.specs.Verdicts.{Answers, Judges}
use Rattle.lane_audit.proofs.Keeping.{moved, kept, still, offer_owes, post_owes, removed_owes, not_removed_owes, take_owes, late_owes, not_late_owes, handed_owes, ended_owes, end_owes, leave_owes}

-- Offer
pub offer_kept : (s s' : State) (job : Job) (r : OfferReply) (table table' : List ℕ) (n : ℕ) (conn : ConnId) → is_ready s (Offer job) ≡ true → IsSound s (Offer job)
    → Answers s (step s (Offer job)) (reply_of_offer r) s' true → conn ≡ job.conn → n ≡ offer_brings job.due r → Moves table table' conn n 0 → IsCounted s table → IsCounted s' table'
offer_kept s s' job r table table' n conn ready sound a of_job brings m k =
    moved s s' (Offer job) table table' job.conn (offer_brings job.due r) 0 ready sound a.1 (offer_owes s job r a.0)
    (subst (λ (x : ConnId). Moves table table' x (offer_brings job.due r) 0) of_job (subst (λ (x : ℕ). Moves table table' conn x 0) brings m)) k

-- Post
pub post_kept : (s s' : State) (conn : ConnId) (id : ℕ) (r : PostReply) (table table' : List ℕ) (n : ℕ) → is_ready s (Post (notice_of conn id)) ≡ true
    → Answers s (step s (Post (notice_of conn id))) (reply_of_post r) s' true → n ≡ post_brings r → Moves table table' conn n 0 → IsCounted s table → IsCounted s' table'
post_kept s s' conn id r table table' n ready a brings m k =
    moved s s' (Post (notice_of conn id)) table table' conn (post_brings r) 0 ready tt a.1 (post_owes s conn id r a.0) (subst (λ (x : ℕ). Moves table table' conn x 0) brings m) k

-- Cancel that took a request out
pub removed_kept : (s s' : State) (conn : ConnId) (id : ℕ) (table table' : List ℕ) → Answers s (step s (Cancel conn id)) reply.Removed s' true → Moves table table' conn 0 1 → IsCounted s table → IsCounted s' table'
removed_kept s s' conn id table table' a m k = moved s s' (Cancel conn id) table table' conn 0 1 refl tt a.1 (removed_owes s conn id a.0) m k

-- and one that didn't
pub not_removed_kept : (s s' : State) (conn : ConnId) (id : ℕ) (r : LaneReply) (table : List ℕ) → reply.Removed ≢ r → Answers s (step s (Cancel conn id)) r s' true → IsCounted s table → IsCounted s' table
not_removed_kept s s' conn id r table other a k =
    moved s s' (Cancel conn id) table table conn 0 0 refl tt a.1 (not_removed_owes s conn id (λ e. other (e ∙ sym a.0))) (still table conn) k

-- no other reply is that of one that did
pub not_removed : (r : CancelReply) → r ≢ cancel_reply.Removed → reply.Removed ≢ reply_of_cancel r
not_removed cancel_reply.Removed other is = other refl
not_removed cancel_reply.Nothing other is = absurd (cc)
not_removed cancel_reply.Closing other is = absurd (cc)

-- Take
pub take_kept : (s s' : State) (t : ℕ) (r : LaneReply) (table : List ℕ) → is_ready s (Take t) ≡ true → IsSound s (Take t) → Answers s (step s (Take t)) r s' true → IsCounted s table → IsCounted s' table
take_kept s s' t r table ready sound a k =
    let any : ConnId = record { slot = 0; nth = 0 } in moved s s' (Take t) table table any 0 0 ready sound a.1 (take_owes s t any) (still table any) k

-- a busy thread is there
pub busy_there : (answer : Answer) (o : Option Thread) → IsBusyWith answer o → IsSome o
busy_there answer (Some thread) busy = refl
busy_there answer None busy = absurd busy

finished_reply : (s : State) (t : ℕ) (answer : Answer) (o : Option Thread) → reply.Finished ≡ (finished s t answer o).1
finished_reply s t answer (Some thread) = refl
finished_reply s t answer None = refl

-- a Finish by a thread that is busy with the request, with a body within the limit
pub finish_sound : (s : State) (t : ℕ) (job : Job) (len : ℕ) → IsBusyWith (answer_of job len) (slice_get s.threads t) → len ≤ MAX_BODY → IsSound s (Finish t (answer_of job len))
finish_sound s t job len busy few = (busy, omega (arith, few, length-replicate {A = ℕ} len 0))

pub finish_right : (s s' : State) (t : ℕ) (job : Job) (len : ℕ) → IsBusyWith (answer_of job len) (slice_get s.threads t) → len ≤ MAX_BODY → s' ≡ (step s (Finish t (answer_of job len))).0
    → Judges s (Finish t (answer_of job len)) reply.Finished s' true
finish_right s s' t job len busy few is =
    (record { ready = refl; sound = finish_sound s t job len busy few; answered = finished_reply s t (answer_of job len) (slice_get s.threads t) }, is)

-- Finish of a request whose reply is due with its answer
pub late_kept : (s s' : State) (t : ℕ) (job : Job) (len : ℕ) (table : List ℕ) → job.due ≡ due.Late → IsSound s (Finish t (answer_of job len)) → s' ≡ (step s (Finish t (answer_of job len))).0 → IsCounted s table → IsCounted s' table
late_kept s s' t job len table late sound is k = moved s s' (Finish t (answer_of job len)) table table job.conn 0 0 refl sound is (late_owes s t job len late sound) (still table job.conn) k

-- and of another
pub not_late_kept : (s s' : State) (t : ℕ) (job : Job) (len : ℕ) (table table' : List ℕ) (conn : ConnId) → job.due ≢ due.Late → IsSound s (Finish t (answer_of job len)) → s' ≡ (step s (Finish t (answer_of job len))).0
    → conn ≡ job.conn → Moves table table' conn 0 1 → IsCounted s table → IsCounted s' table'
not_late_kept s s' t job len table table' conn late sound is of_job m k =
    moved s s' (Finish t (answer_of job len)) table table' job.conn 0 1 refl sound is (not_late_owes s t job len late sound) (subst (λ (x : ConnId). Moves table table' x 0 1) of_job m) k

-- Collect of a message
pub handed_kept : (s s' : State) (conn : ConnId) (i : Item) (table table' : List ℕ) → is_ready s (Collect conn) ≡ true → Answers s (step s (Collect conn)) (reply.Handed i) s' true → Moves table table' conn 0 1 → IsCounted s table → IsCounted s' table'
handed_kept s s' conn i table table' ready a m k = moved s s' (Collect conn) table table' conn 0 1 ready tt a.1 (handed_owes s conn i a.0) m k

-- and of an ending
pub ended_kept : (s s' : State) (conn : ConnId) (r : LaneReply) (table : List ℕ) → ((i : Item) → reply.Handed i ≢ r) → is_ready s (Collect conn) ≡ true → Answers s (step s (Collect conn)) r s' true → IsCounted s table → IsCounted s' table
ended_kept s s' conn r table other ready a k =
    moved s s' (Collect conn) table table conn 0 0 ready tt a.1 (ended_owes s conn (λ i e. other i (e ∙ sym a.0))) (still table conn) k

-- End and Leave
pub end_kept : (s s' : State) (conn : ConnId) (h : How) (table : List ℕ) → IsSound s (End conn h) → s' ≡ (step s (End conn h)).0 → IsCounted s table → IsCounted s' table
end_kept s s' conn h table sound is k = moved s s' (End conn h) table table conn 0 0 refl sound is (end_owes s conn h) (still table conn) k

pub leave_kept : (s s' : State) (slot : ℕ) (table : List ℕ) → IsSound s (Leave slot) → s' ≡ (step s (Leave slot)).0 → IsCounted s table → IsCounted s' table
leave_kept s s' slot table sound is k =
    let any : ConnId = record { slot = 0; nth = 0 } in moved s s' (Leave slot) table table any 0 0 refl sound is (leave_owes s slot any) (still table any) k

can_some : (s : State) (o : Option Thread) → can_take s o ≡ true → is_some o ≡ true
can_some s (Some thread) is = refl
can_some s None is = absurd (cc)

-- Take, whatever is said of its reply
pub take_any : (s s' : State) (t : ℕ) (r : LaneReply) (table : List ℕ) (b : Bool) → is_ready s (Take t) ≡ true → Answers s (step s (Take t)) r s' b → IsCounted s table → IsCounted s' table
take_any s s' t r table true ready a k = take_kept s s' t r table ready (can_some s (slice_get s.threads t) ready) a k
take_any s s' t r table false ready a k = kept s s' table a.1 k

-- the opening
pub opening_counted : (pool : Pool) (slots per_slot : ℕ) (s : State) (table : List ℕ) → CanOpen pool slots per_slot → s ≡ opening pool slots per_slot → IsClear table → IsCounted s table
opening_counted pool slots per_slot s table can is clear = subst (λ (x : State). IsCounted x table) (sym is) (record {
  few = bounded_first pool slots per_slot can.well_formed.lanes.few_threads;
  bounded = opening_bounded pool slots per_slot can.well_formed;
  counts = record { each = λ c i. clear.each c i ∙ sym (owed_is (opening pool slots per_slot) c ∙ opening_weighs (owing c) pool slots per_slot) };
})
