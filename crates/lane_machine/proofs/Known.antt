-- What waits and what a thread has in hand was admitted.
use Rattle.std.proofs.Common.{◌≡◌, ℕ, Bool, true, false, List, Option, Some, None, inl, inr, refl, ap, subst, ◌∙◌}
use Rattle.std.specs.Prelude.{slice_get, slice_set, remove, position}
use Rattle.std.proofs.lemmas.Option.{none-some, same_Some}
use Rattle.orb_base.specs.declared.answer.Answer.{Answer}
use Rattle.orb_base.specs.declared.conn_id.ConnId.{ConnId}
use Rattle.orb_base.specs.declared.item.Item.{Item}
use Rattle.orb_base.specs.declared.item.Item.TheVariants as item
use Rattle.orb_base.specs.declared.job.Job.{Job}
use Rattle.thread_borrowing.specs.declared.doing.Doing.{Doing}
use Rattle.thread_borrowing.specs.declared.doing.Doing.TheVariants.{Free, Given, Busy}
use Rattle.thread_borrowing.specs.ThreadList.{Thread, job_of, doing, given}
use Rattle.thread_borrowing.specs.Choice.{chosen_thread}
use Rattle.thread_borrowing.proofs.Places.{set_cases, push_cases, remove_cases}
use Rattle.request_buffer.specs.Kept.{may_cancel}
use Rattle.request_buffer.specs.Next.{next_job}
use Rattle.lane_machine.specs.State.{State}
use Rattle.lane_machine.specs.Machine.{step, is_over, heard, offered, placed, run_by, kept_or_full, may_wait, posted, cancelled, withdrawn, taken, begun, finished, answered, freed, handed_on, collected, handed, over, shut, item_place, end_of, was_told}
use Rattle.lane_machine.specs.declared.call.How.{How}
use Rattle.lane_machine.specs.declared.call.How.TheVariants as how
use Rattle.lane_machine.specs.declared.call.LaneCall.{LaneCall}
use Rattle.lane_machine.specs.declared.call.LaneCall.TheVariants.{Offer, Post, Cancel, Take, Finish, Collect, End, Leave}
use Rattle.lane_machine.specs.declared.call.LaneReply.{LaneReply}
use Rattle.lane_machine.specs.declared.call.LaneReply.TheVariants as reply

module _ (P : Job → Type 0) where
  -- all that waits is such a request, and all that a thread has in hand
  abbrev pub Waits : List Job → Type 0
  Waits waiting = (k : ℕ) (job : Job) → slice_get waiting k ≡ Some job → P job

  abbrev pub Hands : List Thread → Type 0
  Hands threads = (t : ℕ) (x : Thread) (job : Job) → slice_get threads t ≡ Some x → job_of x.doing ≡ Some job → P job

  abbrev pub AreKnown : State → Type 0
  AreKnown s = Waits s.waiting × Hands s.threads

  hands_set : (threads : List Thread) (t : ℕ) (new : Thread) → Hands threads → ((job : Job) → job_of new.doing ≡ Some job → P job) → Hands (slice_set threads t new)
  hands_set threads t new k n = λ i x job h d. elim (set_cases threads t i new x h) [
    | inl a ↦ n job (ap (λ (z : Thread). job_of z.doing) a.1 ∙ d)
    | inr a ↦ k i x job a d
  ]

  waits_without : (waiting : List Job) (at : ℕ) → Waits waiting → Waits (remove waiting at)
  waits_without waiting at k = λ i job g. let h = remove_cases waiting at i job g in k h.0 job h.1

  -- the request is one if the reply admits it
  abbrev pub If : Job → LaneReply → Type 0
  If job (reply.Run t lent) = P job
  If job reply.Kept = P job
  If job r = Unit {0}

  run_known : (s : State) (job : Job) (t : ℕ) (o : Option Thread) → AreKnown s → If job (run_by s job t o).1 → AreKnown (run_by s job t o).0
  run_known s job t (Some thread) k p = (k.0, hands_set s.threads t (given job thread) k.1 (λ j d. subst P (same_Some job j d) p))
  run_known s job t None k p = k

  kept_known : (s : State) (job : Job) (room : Bool) → AreKnown s → If job (kept_or_full s job room).1 → AreKnown (kept_or_full s job room).0
  kept_known s job true k p = ((λ i j g. elim (push_cases s.waiting i job j g) [ inl a ↦ k.0 i j a | inr a ↦ subst P a p ]), k.1)
  kept_known s job false k p = k

  placed_known : (s : State) (job : Job) (o : Option ℕ) → AreKnown s → If job (placed s job o).1 → AreKnown (placed s job o).0
  placed_known s job (Some t) k p = run_known s job t (slice_get s.threads t) k p
  placed_known s job None k p = kept_known s job (may_wait s.pool s.waiting job) k p

  offer_known : (s : State) (job : Job) (b : Bool) → AreKnown s → If job (offered s job b).1 → AreKnown (offered s job b).0
  offer_known s job true k p = k
  offer_known s job false k p = placed_known (heard s job.size) job (chosen_thread s.pool.borrowing job.lane s.threads) k p

  post_known : (s : State) (i : Item) (b : Bool) → AreKnown s → AreKnown (posted s i b).0
  post_known s i true k = k
  post_known s i false k = k

  withdrawn_known : (s : State) (o : Option ℕ) → AreKnown s → AreKnown (withdrawn s o).0
  withdrawn_known s (Some at) k = (waits_without s.waiting at k.0, k.1)
  withdrawn_known s None k = k

  cancel_known : (s : State) (conn : ConnId) (id : ℕ) (b : Bool) → AreKnown s → AreKnown (cancelled s conn id b).0
  cancel_known s conn id true k = k
  cancel_known s conn id false k = withdrawn_known (heard s 0) (position (may_cancel conn id) s.waiting) k

  begun_known : (s : State) (t : ℕ) (thread : Thread) (d : Doing) → slice_get s.threads t ≡ Some thread → thread.doing ≡ d → AreKnown s → AreKnown (begun s t thread d).0
  begun_known s t thread (Given job) g e k = (k.0, hands_set s.threads t (doing thread (Busy job)) k.1 (λ j d. subst P (same_Some job j d) (k.1 t thread job g (ap job_of e))))
  begun_known s t thread Free g e k = k
  begun_known s t thread (Busy job) g e k = k

  taken_known : (s : State) (t : ℕ) (o : Option Thread) → slice_get s.threads t ≡ o → AreKnown s → AreKnown (taken s t o).0
  taken_known s t (Some thread) g k = begun_known s t thread thread.doing g refl k
  taken_known s t None g k = k

  handed_on_known : (s : State) (t : ℕ) (thread : Thread) (at : ℕ) (o : Option Job) → slice_get s.waiting at ≡ o → AreKnown s → AreKnown (handed_on s t thread at o)
  handed_on_known s t thread at (Some job) g k = (waits_without s.waiting at k.0, hands_set s.threads t (given job thread) k.1 (λ j d. subst P (same_Some job j d) (k.0 at job g)))
  handed_on_known s t thread at None g k = k

  freed_known : (s : State) (t : ℕ) (thread : Thread) (o : Option ℕ) → AreKnown s → AreKnown (freed s t thread o)
  freed_known s t thread (Some at) k = handed_on_known s t thread at (slice_get s.waiting at) refl k
  freed_known s t thread None k = (k.0, hands_set s.threads t (doing thread Free) k.1 (λ j d. absurd (none-some j d)))

  finished_known : (s : State) (t : ℕ) (answer : Answer) (o : Option Thread) → AreKnown s → AreKnown (finished s t answer o).0
  finished_known s t answer (Some thread) k = freed_known (answered s answer) t thread (next_job s.pool.borrowing thread.lane s.waiting) k
  finished_known s t answer None k = k

  handed_known : (s : State) (at : ℕ) (o : Option Item) → AreKnown s → AreKnown (handed s at o).0
  handed_known s at (Some i) k = k
  handed_known s at None k = k

  shut_known : (s : State) (conn : ConnId) (b : Bool) → AreKnown s → AreKnown (shut s conn b).0
  shut_known s conn true k = k
  shut_known s conn false k = k

  over_known : (s : State) (conn : ConnId) (o : Option How) → AreKnown s → AreKnown (over s conn o).0
  over_known s conn (Some how.Bad) k = k
  over_known s conn (Some how.Shut) k = k
  over_known s conn (Some how.Quiet) k = k
  over_known s conn None k = shut_known s conn (was_told s conn) k

  collected_known : (s : State) (conn : ConnId) (o : Option ℕ) → AreKnown s → AreKnown (collected s conn o).0
  collected_known s conn (Some at) k = handed_known s at (slice_get s.out at) k
  collected_known s conn None k = over_known s conn (end_of s conn) k

  -- a request that the call offers is one, if the reply admits it
  abbrev pub Offers : LaneCall → LaneReply → Type 0
  Offers (Offer job) r = If job r
  Offers call r = Unit {0}

  pub step_known : (s : State) (call : LaneCall) → AreKnown s → Offers call (step s call).1 → AreKnown (step s call).0
  step_known s (Offer job) k p = offer_known s job (is_over s job.size) k p
  step_known s (Post notice) k p = post_known s (item.Noticed notice) (is_over s 0) k
  step_known s (Cancel conn id) k p = cancel_known s conn id (is_over s 0) k
  step_known s (Take t) k p = taken_known s t (slice_get s.threads t) refl k
  step_known s (Finish t answer) k p = finished_known s t answer (slice_get s.threads t) k
  step_known s (Collect conn) k p = collected_known s conn (item_place s conn) k
  step_known s (End conn h) k p = k
  step_known s (Leave slot) k p = k

  -- what a thread takes is one
  abbrev pub IsTaken : LaneReply → Type 0
  IsTaken (reply.Given job) = P job
  IsTaken r = Unit {0}

  begun_takes : (s : State) (t : ℕ) (thread : Thread) (d : Doing) → slice_get s.threads t ≡ Some thread → thread.doing ≡ d → AreKnown s → IsTaken (begun s t thread d).1
  begun_takes s t thread (Given job) g e k = k.1 t thread job g (ap job_of e)
  begun_takes s t thread Free g e k = tt
  begun_takes s t thread (Busy job) g e k = tt

  pub taken_takes : (s : State) (t : ℕ) (o : Option Thread) → slice_get s.threads t ≡ o → AreKnown s → IsTaken (taken s t o).1
  taken_takes s t (Some thread) g k = begun_takes s t thread thread.doing g refl k
  taken_takes s t None g k = tt
