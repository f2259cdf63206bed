-- The choice of a thread in the words of the rule, and when an Offer is refused.
use Rattle.std.proofs.Common.{◌≡◌, ℕ, ◌+◌, ◌*◌, ◌<◌, ◌≤◌, suc, zero, Bool, true, false, if◌then◌else◌, List, [], ◌∷◌, Option, Some, None, inl, inr, ◌⊎◌, sym, refl, ap, ◌∙◌, subst, arith}
use Rattle.std.specs.Prelude.{slice_get}
use Rattle.std.proofs.lemmas.Bool.{cases_order, cases_lt}
use Rattle.lane_machine.specs.declared.call.LaneReply.{LaneReply}
use Rattle.lane_machine.specs.declared.call.LaneReply.TheVariants as reply
use Rattle.orb_base.specs.declared.job.Job.{Job}
use Rattle.lane_machine.specs.State.{State}
use Rattle.thread_borrowing.specs.ThreadList.{Thread}
use Rattle.thread_borrowing.specs.Choice.{standing, rank, can_start, chosen_thread}
use Rattle.lane_machine.specs.Machine.{heard, offered, placed, run_by, kept_or_full, may_wait}
use Rattle.thread_borrowing.specs.Chain.{StandsBefore}
use Rattle.thread_borrowing.proofs.Chosen.{chosen_is, none_chosen, chosen_first}

run_full : (s : State) (job : Job) (t : ℕ) (o : Option Thread) (thread : Thread) → o ≡ Some thread → (run_by s job t o).1 ≡ reply.Full → ⊥
run_full s job t (Some x) thread g e = absurd (cc)
run_full s job t None thread g e = absurd (cc)

kept_full : (s : State) (job : Job) (b : Bool) → (kept_or_full s job b).1 ≡ reply.Full → b ≡ false
kept_full s job true e = absurd (cc)
kept_full s job false e = refl

placed_full : (s : State) (job : Job) (o : Option ℕ) → chosen_thread s.pool.borrowing job.lane s.threads ≡ o → (placed s job o).1 ≡ reply.Full → (o ≡ None) × (may_wait s.pool s.waiting job ≡ false)
placed_full s job (Some t) g e = let h = chosen_is s.pool.borrowing job.lane s.threads t g in absurd (run_full s job t (slice_get s.threads t) h.0 h.1 e)
placed_full s job None g e = (refl, kept_full s job (may_wait s.pool s.waiting job) e)

pub offer_full : (s : State) (job : Job) (over : Bool) → (offered s job over).1 ≡ reply.Full → (chosen_thread s.pool.borrowing job.lane s.threads ≡ None) × (may_wait s.pool s.waiting job ≡ false)
offer_full s job true e = absurd (cc)
offer_full s job false e = placed_full (heard s job.size) job (chosen_thread s.pool.borrowing job.lane s.threads) refl e
