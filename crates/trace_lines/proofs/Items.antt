-- What each call adds to what is owed.
use Rattle.std.proofs.Common.{◌≡◌, ℕ, zero, suc, Bool, true, false, List, [], ◌∷◌, ◌++◌, Option, Some, None, inl, inr, ◌⊎◌, sym, refl, subst}
use Rattle.std.specs.Prelude.{slice_get, position}
use Rattle.std.proofs.lemmas.Option.{none-some, same_Some}
use Rattle.orb_base.specs.declared.conn_id.ConnId.{ConnId}
use Rattle.orb_base.specs.declared.due.Due.{Due}
use Rattle.orb_base.specs.declared.due.Due.TheVariants as due
use Rattle.orb_base.specs.declared.answer.Answer.{Answer}
use Rattle.orb_base.specs.declared.item.Item.{Item}
use Rattle.orb_base.specs.declared.item.Item.TheVariants as item
use Rattle.orb_base.specs.declared.job.Job.{Job}
use Rattle.thread_borrowing.specs.declared.doing.Doing.{Doing}
use Rattle.thread_borrowing.specs.declared.doing.Doing.TheVariants.{Free, Given, Busy}
use Rattle.thread_borrowing.specs.ThreadList.{Thread}
use Rattle.thread_borrowing.specs.Choice.{chosen_thread}
use Rattle.thread_borrowing.proofs.Places.{remove_cases}
use Rattle.request_buffer.specs.Kept.{may_cancel}
use Rattle.request_buffer.specs.Next.{next_job}
use Rattle.lane_machine.specs.declared.call.How.{How}
use Rattle.lane_machine.specs.declared.call.How.TheVariants as how
use Rattle.lane_machine.specs.declared.call.LaneCall.{LaneCall}
use Rattle.lane_machine.specs.declared.call.LaneCall.TheVariants.{Offer, Post, Cancel, Take, Finish, Collect, End, Leave}
use Rattle.lane_machine.specs.State.{State}
use Rattle.lane_machine.specs.SeatLaws.{append_found}
use Rattle.lane_machine.proofs.Refused.{Comes, one_new, none_new}
use Rattle.orb_base.specs.declared.notice.Notice.{Notice}
use Rattle.lane_machine.specs.Machine.{step, is_over, heard, early_items, refusals, late_items, placed, run_by, kept_or_full, may_wait, offered, posted, cancelled, withdrawn, begun, taken, answered, handed_on, freed, finished, handed, collected, over, shut, end_of, was_told, item_place}

-- the item is about this request
abbrev pub IsOf : Job → Item → Type 0
IsOf job x = (x ≡ item.Early job) ⊎ (x ≡ item.Transient job)

-- what a call may add
abbrev pub NewBy : LaneCall → Item → Type 0
NewBy (Offer job) x = IsOf job x
NewBy (Post n) x = x ≡ item.Noticed n
NewBy (Finish t a) x = x ≡ item.Answered a
NewBy call x = ⊥

abbrev NoItem : Item → Type 0
NoItem x = ⊥

early_new : (d : Due) (job : Job) (i : ℕ) (x : Item) → slice_get (early_items d job) i ≡ Some x → IsOf job x
early_new due.Early job i x g = one_new (IsOf job) (item.Early job) (inl refl) i x g
early_new due.Nothing job i x g = none_new (IsOf job) i x g
early_new due.Late job i x g = none_new (IsOf job) i x g

late_new : (d : Due) (a : Answer) (i : ℕ) (x : Item) → slice_get (late_items d a) i ≡ Some x → x ≡ item.Answered a
late_new due.Late a i x g = one_new (λ (y : Item). y ≡ item.Answered a) (item.Answered a) refl i x g
late_new due.Nothing a i x g = none_new (λ (y : Item). y ≡ item.Answered a) i x g
late_new due.Early a i x g = none_new (λ (y : Item). y ≡ item.Answered a) i x g

refused_new : (d : Due) (job : Job) (i : ℕ) (x : Item) → slice_get (refusals d job) i ≡ Some x → IsOf job x
refused_new due.Nothing job i x g = none_new (IsOf job) i x g
refused_new due.Early job i x g = one_new (IsOf job) (item.Transient job) (inr refl) i x g
refused_new due.Late job i x g = one_new (IsOf job) (item.Transient job) (inr refl) i x g

-- the same items, and items after them
stays : (items : List Item) (New : Item → Type 0) → Comes items items New
stays items New i x g = inl (i, g)

grows : (items more : List Item) (New : Item → Type 0) → ((i : ℕ) (x : Item) → slice_get more i ≡ Some x → New x) → Comes items (items ++ more) New
grows items more New new i x g = elim (append_found items more i x g) [ inl a ↦ inl a | inr a ↦ inr (new a.0 x a.1) ]

run_out : (s : State) (job : Job) (t : ℕ) (o : Option Thread) → Comes s.out (run_by s job t o).0.out (IsOf job)
run_out s job t (Some thread) = grows s.out (early_items job.due job) (IsOf job) (early_new job.due job)
run_out s job t None = stays s.out (IsOf job)

kept_out : (s : State) (job : Job) (b : Bool) → Comes s.out (kept_or_full s job b).0.out (IsOf job)
kept_out s job true = grows s.out (early_items job.due job) (IsOf job) (early_new job.due job)
kept_out s job false = grows s.out (refusals job.due job) (IsOf job) (refused_new job.due job)

placed_out : (s : State) (job : Job) (o : Option ℕ) → Comes s.out (placed s job o).0.out (IsOf job)
placed_out s job (Some t) = run_out s job t (slice_get s.threads t)
placed_out s job None = kept_out s job (may_wait s.pool s.waiting job)

offer_out : (s : State) (job : Job) (b : Bool) → Comes s.out (offered s job b).0.out (IsOf job)
offer_out s job true = stays s.out (IsOf job)
offer_out s job false = placed_out (heard s job.size) job (chosen_thread s.pool.borrowing job.lane s.threads)

post_out : (s : State) (n : Notice) (b : Bool) → Comes s.out (posted s (item.Noticed n) b).0.out (λ x. x ≡ item.Noticed n)
post_out s n true = stays s.out (λ x. x ≡ item.Noticed n)
post_out s n false = grows s.out (item.Noticed n ∷ []) (λ x. x ≡ item.Noticed n) (one_new (λ (y : Item). y ≡ item.Noticed n) (item.Noticed n) refl)

withdrawn_out : (s : State) (o : Option ℕ) → Comes s.out (withdrawn s o).0.out NoItem
withdrawn_out s (Some at) = stays s.out NoItem
withdrawn_out s None = stays s.out NoItem

cancel_out : (s : State) (conn : ConnId) (id : ℕ) (b : Bool) → Comes s.out (cancelled s conn id b).0.out NoItem
cancel_out s conn id true = stays s.out NoItem
cancel_out s conn id false = withdrawn_out (heard s 0) (position (may_cancel conn id) s.waiting)

begun_out : (s : State) (t : ℕ) (thread : Thread) (d : Doing) → Comes s.out (begun s t thread d).0.out NoItem
begun_out s t thread Free = stays s.out NoItem
begun_out s t thread (Given job) = stays s.out NoItem
begun_out s t thread (Busy job) = stays s.out NoItem

taken_out : (s : State) (t : ℕ) (o : Option Thread) → Comes s.out (taken s t o).0.out NoItem
taken_out s t (Some thread) = begun_out s t thread thread.doing
taken_out s t None = stays s.out NoItem

handed_on_out : (s : State) (t : ℕ) (thread : Thread) (at : ℕ) (o : Option Job) → (handed_on s t thread at o).out ≡ s.out
handed_on_out s t thread at (Some job) = refl
handed_on_out s t thread at None = refl

freed_out : (s : State) (t : ℕ) (thread : Thread) (o : Option ℕ) → (freed s t thread o).out ≡ s.out
freed_out s t thread (Some at) = handed_on_out s t thread at (slice_get s.waiting at)
freed_out s t thread None = refl

finished_out : (s : State) (t : ℕ) (answer : Answer) (o : Option Thread) → Comes s.out (finished s t answer o).0.out (λ x. x ≡ item.Answered answer)
finished_out s t answer (Some thread) =
    subst (λ (items : List Item). Comes s.out items (λ x. x ≡ item.Answered answer)) (sym (freed_out (answered s answer) t thread (next_job s.pool.borrowing thread.lane s.waiting)))
    (grows s.out (late_items answer.job.due answer) (λ x. x ≡ item.Answered answer) (late_new answer.job.due answer))
finished_out s t answer None = stays s.out (λ x. x ≡ item.Answered answer)

handed_out : (s : State) (at : ℕ) (o : Option Item) → Comes s.out (handed s at o).0.out NoItem
handed_out s at (Some y) = λ i x g. inl (remove_cases s.out at i x g)
handed_out s at None = stays s.out NoItem

shut_out : (s : State) (conn : ConnId) (b : Bool) → Comes s.out (shut s conn b).0.out NoItem
shut_out s conn true = stays s.out NoItem
shut_out s conn false = stays s.out NoItem

over_out : (s : State) (conn : ConnId) (o : Option How) → Comes s.out (over s conn o).0.out NoItem
over_out s conn (Some how.Bad) = stays s.out NoItem
over_out s conn (Some how.Shut) = stays s.out NoItem
over_out s conn (Some how.Quiet) = stays s.out NoItem
over_out s conn None = shut_out s conn (was_told s conn)

collected_out : (s : State) (conn : ConnId) (o : Option ℕ) → Comes s.out (collected s conn o).0.out NoItem
collected_out s conn (Some at) = handed_out s at (slice_get s.out at)
collected_out s conn None = over_out s conn (end_of s conn)

-- each item that is owed after a call was owed before, or is one that the call may add
pub step_out : (s : State) (c : LaneCall) → Comes s.out (step s c).0.out (NewBy c)
step_out s (Offer job) = offer_out s job (is_over s job.size)
step_out s (Post n) = post_out s n (is_over s 0)
step_out s (Cancel conn id) = cancel_out s conn id (is_over s 0)
step_out s (Take t) = taken_out s t (slice_get s.threads t)
step_out s (Finish t answer) = finished_out s t answer (slice_get s.threads t)
step_out s (Collect conn) = collected_out s conn (item_place s conn)
step_out s (End conn h) = stays s.out NoItem
step_out s (Leave slot) = stays s.out NoItem
