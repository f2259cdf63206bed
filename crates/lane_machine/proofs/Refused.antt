-- TRANSIENT is owed only by a refused Offer whose reply is due.
use Rattle.std.proofs.Common.{◌≡◌, ◌≢◌, ℕ, zero, suc, Bool, true, false, List, [], ◌∷◌, ◌++◌, length, Option, Some, None, inl, inr, ◌⊎◌, sym, refl, ap, ◌∙◌, subst, append-nil, append_assoc}
use Rattle.std.specs.Prelude.{slice_get, position}
use Rattle.std.proofs.lemmas.Option.{none-some, same_Some}
use Rattle.orb_base.specs.declared.conn_id.ConnId.{ConnId}
use Rattle.orb_base.specs.declared.due.Due.{Due}
use Rattle.orb_base.specs.declared.due.Due.TheVariants as due
use Rattle.orb_base.specs.declared.answer.Answer.{Answer}
use Rattle.orb_base.specs.declared.item.Item.{Item}
use Rattle.orb_base.specs.declared.item.Item.TheVariants as item
use Rattle.orb_base.specs.declared.job.Job.{Job}
use Rattle.thread_borrowing.specs.declared.doing.Doing.{Doing}
use Rattle.thread_borrowing.specs.declared.doing.Doing.TheVariants.{Free, Given, Busy}
use Rattle.thread_borrowing.specs.ThreadList.{Thread}
use Rattle.thread_borrowing.specs.Choice.{chosen_thread}
use Rattle.thread_borrowing.proofs.Places.{remove_cases}
use Rattle.request_buffer.specs.Kept.{may_cancel}
use Rattle.request_buffer.specs.Next.{next_job}
use Rattle.lane_machine.specs.declared.call.How.{How}
use Rattle.lane_machine.specs.declared.call.How.TheVariants as how
use Rattle.lane_machine.specs.declared.call.LaneCall.{LaneCall}
use Rattle.lane_machine.specs.declared.call.LaneCall.TheVariants.{Offer, Post, Cancel, Take, Finish, Collect, End, Leave}
use Rattle.lane_machine.specs.declared.call.LaneReply.{LaneReply}
use Rattle.lane_machine.specs.declared.call.LaneReply.TheVariants as reply
use Rattle.lane_machine.specs.State.{State, Opens}
use Rattle.lane_machine.specs.Machine.{step, is_over, heard, early_items, refusals, late_items, placed, run_by, kept_or_full, may_wait, offered, posted, cancelled, withdrawn, begun, taken, answered, handed_on, freed, finished, handed, collected, over, shut, end_of, was_told, item_place}
use Rattle.lane_machine.specs.Histories.{History, replay, IsLegal}
use Rattle.lane_machine.specs.Refusals.{WasRefused, HasReply}
use Rattle.lane_machine.specs.Entries.{One}
use Rattle.lane_machine.specs.SeatLaws.{append_found}

-- the item is no TRANSIENT
abbrev Plain : Item → Type 0
Plain (item.Transient job) = ⊥
Plain (item.Answered answer) = Unit {0}
Plain (item.Early job) = Unit {0}
Plain (item.Noticed notice) = Unit {0}

-- the item is that of a refused Offer whose reply is due
abbrev IsRefusal : Job → LaneReply → Item → Type 0
IsRefusal job r x = (x ≡ item.Transient job) × (r ≡ reply.Full) × HasReply job

-- each item was there before, or is new and of this kind
abbrev pub Comes : List Item → List Item → (Item → Type 0) → Type 0
Comes items items' New = (i : ℕ) (x : Item) → slice_get items' i ≡ Some x → ((k : ℕ) × (slice_get items k ≡ Some x)) ⊎ New x

pub one_new : (New : Item → Type 0) (y : Item) → New y → (i : ℕ) (x : Item) → slice_get (y ∷ []) i ≡ Some x → New x
one_new New y new zero x g = subst New (same_Some y x g) new
one_new New y new (suc i) x g = absurd (none-some x g)

pub none_new : (New : Item → Type 0) (i : ℕ) (x : Item) → slice_get {X = Item} [] i ≡ Some x → New x
none_new New i x g = absurd (none-some x g)

early_new : (d : Due) (job : Job) (i : ℕ) (x : Item) → slice_get (early_items d job) i ≡ Some x → Plain x
early_new due.Early job i x g = one_new Plain (item.Early job) tt i x g
early_new due.Nothing job i x g = none_new Plain i x g
early_new due.Late job i x g = none_new Plain i x g

late_new : (d : Due) (answer : Answer) (i : ℕ) (x : Item) → slice_get (late_items d answer) i ≡ Some x → Plain x
late_new due.Late answer i x g = one_new Plain (item.Answered answer) tt i x g
late_new due.Nothing answer i x g = none_new Plain i x g
late_new due.Early answer i x g = none_new Plain i x g

refused_new : (d : Due) (job : Job) (i : ℕ) (x : Item) → slice_get (refusals d job) i ≡ Some x → (x ≡ item.Transient job) × (d ≢ due.Nothing)
refused_new due.Nothing job i x g = absurd (none-some x g)
refused_new due.Early job i x g = one_new (λ (y : Item). (y ≡ item.Transient job) × (due.Early ≢ due.Nothing)) (item.Transient job) (refl, λ e. cc) i x g
refused_new due.Late job i x g = one_new (λ (y : Item). (y ≡ item.Transient job) × (due.Late ≢ due.Nothing)) (item.Transient job) (refl, λ e. cc) i x g

-- the same items, and items after them
stays : (items : List Item) (New : Item → Type 0) → Comes items items New
stays items New i x g = inl (i, g)

grows : (items more : List Item) (New : Item → Type 0) → ((i : ℕ) (x : Item) → slice_get more i ≡ Some x → New x) → Comes items (items ++ more) New
grows items more New new i x g = elim (append_found items more i x g) [ inl a ↦ inl a | inr a ↦ inr (new a.0 x a.1) ]

abbrev NewAt : Job → LaneReply → Item → Type 0
NewAt job r x = Plain x ⊎ IsRefusal job r x

run_out : (s : State) (job : Job) (t : ℕ) (o : Option Thread) → Comes s.out (run_by s job t o).0.out (NewAt job (run_by s job t o).1)
run_out s job t (Some thread) = grows s.out (early_items job.due job) (NewAt job (run_by s job t (Some thread)).1) (λ i x g. inl (early_new job.due job i x g))
run_out s job t None = stays s.out (NewAt job reply.Full)

kept_out : (s : State) (job : Job) (b : Bool) → Comes s.out (kept_or_full s job b).0.out (NewAt job (kept_or_full s job b).1)
kept_out s job true = grows s.out (early_items job.due job) (NewAt job reply.Kept) (λ i x g. inl (early_new job.due job i x g))
kept_out s job false = grows s.out (refusals job.due job) (NewAt job reply.Full) (λ i x g. inr (let r = refused_new job.due job i x g in (r.0, refl, r.1)))

placed_out : (s : State) (job : Job) (o : Option ℕ) → Comes s.out (placed s job o).0.out (NewAt job (placed s job o).1)
placed_out s job (Some t) = run_out s job t (slice_get s.threads t)
placed_out s job None = kept_out s job (may_wait s.pool s.waiting job)

offer_out : (s : State) (job : Job) (b : Bool) → Comes s.out (offered s job b).0.out (NewAt job (offered s job b).1)
offer_out s job true = stays s.out (NewAt job reply.Closing)
offer_out s job false = placed_out (heard s job.size) job (chosen_thread s.pool.borrowing job.lane s.threads)

post_out : (s : State) (i : Item) (b : Bool) → Plain i → Comes s.out (posted s i b).0.out Plain
post_out s i true plain = stays s.out Plain
post_out s i false plain = grows s.out (i ∷ []) Plain (one_new Plain i plain)

withdrawn_out : (s : State) (o : Option ℕ) → Comes s.out (withdrawn s o).0.out Plain
withdrawn_out s (Some at) = stays s.out Plain
withdrawn_out s None = stays s.out Plain

cancel_out : (s : State) (conn : ConnId) (id : ℕ) (b : Bool) → Comes s.out (cancelled s conn id b).0.out Plain
cancel_out s conn id true = stays s.out Plain
cancel_out s conn id false = withdrawn_out (heard s 0) (position (may_cancel conn id) s.waiting)

begun_out : (s : State) (t : ℕ) (thread : Thread) (d : Doing) → Comes s.out (begun s t thread d).0.out Plain
begun_out s t thread Free = stays s.out Plain
begun_out s t thread (Given job) = stays s.out Plain
begun_out s t thread (Busy job) = stays s.out Plain

taken_out : (s : State) (t : ℕ) (o : Option Thread) → Comes s.out (taken s t o).0.out Plain
taken_out s t (Some thread) = begun_out s t thread thread.doing
taken_out s t None = stays s.out Plain

handed_on_out : (s : State) (t : ℕ) (thread : Thread) (at : ℕ) (o : Option Job) → (handed_on s t thread at o).out ≡ s.out
handed_on_out s t thread at (Some job) = refl
handed_on_out s t thread at None = refl

freed_out : (s : State) (t : ℕ) (thread : Thread) (o : Option ℕ) → (freed s t thread o).out ≡ s.out
freed_out s t thread (Some at) = handed_on_out s t thread at (slice_get s.waiting at)
freed_out s t thread None = refl

finished_out : (s : State) (t : ℕ) (answer : Answer) (o : Option Thread) → Comes s.out (finished s t answer o).0.out Plain
finished_out s t answer (Some thread) =
    subst (λ (items : List Item). Comes s.out items Plain) (sym (freed_out (answered s answer) t thread (next_job s.pool.borrowing thread.lane s.waiting)))
    (grows s.out (late_items answer.job.due answer) Plain (late_new answer.job.due answer))
finished_out s t answer None = stays s.out Plain

handed_out : (s : State) (at : ℕ) (o : Option Item) → Comes s.out (handed s at o).0.out Plain
handed_out s at (Some y) = λ i x g. inl (remove_cases s.out at i x g)
handed_out s at None = stays s.out Plain

shut_out : (s : State) (conn : ConnId) (b : Bool) → Comes s.out (shut s conn b).0.out Plain
shut_out s conn true = stays s.out Plain
shut_out s conn false = stays s.out Plain

over_out : (s : State) (conn : ConnId) (o : Option How) → Comes s.out (over s conn o).0.out Plain
over_out s conn (Some how.Bad) = stays s.out Plain
over_out s conn (Some how.Shut) = stays s.out Plain
over_out s conn (Some how.Quiet) = stays s.out Plain
over_out s conn None = shut_out s conn (was_told s conn)

collected_out : (s : State) (conn : ConnId) (o : Option ℕ) → Comes s.out (collected s conn o).0.out Plain
collected_out s conn (Some at) = handed_out s at (slice_get s.out at)
collected_out s conn None = over_out s conn (end_of s conn)

-- a TRANSIENT that is owed after a call was owed before, or the call is a refused Offer of its request
abbrev Brings : State → LaneCall → Job → Type 0
Brings s call job =
    ((k : ℕ) × (slice_get s.out k ≡ Some (item.Transient job)))
    ⊎ ((call ≡ Offer job) × ((step s call).1 ≡ reply.Full) × HasReply job)

transient_is : (a b : Job) → item.Transient a ≡ item.Transient b → a ≡ b
transient_is a b e = cc

plainly : (s : State) (call : LaneCall) (job : Job) (items : List Item) → Comes s.out items Plain → (i : ℕ) → slice_get items i ≡ Some (item.Transient job) → Brings s call job
plainly s call job items comes i g = elim (comes i (item.Transient job) g) [ inl a ↦ inl a | inr a ↦ absurd a ]

brings : (s : State) (call : LaneCall) (i : ℕ) (job : Job) → slice_get (step s call).0.out i ≡ Some (item.Transient job) → Brings s call job
brings s (Offer j) i job g = elim (offer_out s j (is_over s j.size) i (item.Transient job) g) [
  | inl a ↦ inl a
  | inr (inl a) ↦ absurd a
  | inr (inr a) ↦ (let same : j ≡ job = sym (transient_is job j a.0) in inr (ap Offer same, a.1, subst HasReply same a.2))
]
brings s (Post notice) i job g = plainly s (Post notice) job (step s (Post notice)).0.out (post_out s (item.Noticed notice) (is_over s 0) tt) i g
brings s (Cancel conn id) i job g = plainly s (Cancel conn id) job (step s (Cancel conn id)).0.out (cancel_out s conn id (is_over s 0)) i g
brings s (Take t) i job g = plainly s (Take t) job (step s (Take t)).0.out (taken_out s t (slice_get s.threads t)) i g
brings s (Finish t answer) i job g = plainly s (Finish t answer) job (step s (Finish t answer)).0.out (finished_out s t answer (slice_get s.threads t)) i g
brings s (Collect conn) i job g = plainly s (Collect conn) job (step s (Collect conn)).0.out (collected_out s conn (item_place s conn)) i g
brings s (End conn h) i job g = inl (i, g)
brings s (Leave slot) i job g = inl (i, g)

-- each TRANSIENT that is owed has its refused Offer in the history
abbrev AreRefused : History → State → Type 0
AreRefused h s = (i : ℕ) (job : Job) → slice_get s.out i ≡ Some (item.Transient job) → WasRefused h job × HasReply job

still_there : (h more : History) (k : ℕ) (e : One) → slice_get h k ≡ Some e → slice_get (h ++ more) k ≡ Some e
still_there [] more k e g = absurd (none-some e g)
still_there (d ∷ h) more zero e g = g
still_there (d ∷ h) more (suc k) e g = still_there h more k e g

at_end : (h : History) (e : One) → slice_get (h ++ e ∷ []) (length h) ≡ Some e
at_end [] e = refl
at_end (d ∷ h) e = at_end h e

refused_step : (h : History) (s : State) (e : One) → AreRefused h s → e.reply ≡ (step s e.call).1 → AreRefused (h ++ e ∷ []) (step s e.call).0
refused_step h s e known r i job g = elim (brings s e.call i job g) [
  | inl a ↦ (let was = known a.0 job a.1 in ((was.0.0, was.0.1, still_there h (e ∷ []) was.0.0 was.0.1 was.0.2, was.0.3, was.0.4), was.1))
  | inr a ↦ ((length h, e, at_end h e, a.0, r ∙ a.1), a.2)
]

refused_along : (before h : History) (s : State) → AreRefused before s → IsLegal s h → AreRefused (before ++ h) (replay s h)
refused_along before [] s known l = subst (λ (z : History). AreRefused z s) (sym (append-nil before)) known
refused_along before (e ∷ es) s known l =
    subst (λ (z : History). AreRefused z (replay (step s e.call).0 es)) (append_assoc before (e ∷ []) es)
    (refused_along (before ++ e ∷ []) es (step s e.call).0 (refused_step before s e known l.2) l.3)

pub transients_are_refused : (s : State) (h : History) → Opens s → IsLegal s h → AreRefused h (replay s h)
transients_are_refused s h o l =
    refused_along [] h s (subst (AreRefused []) (sym o.fresh) (λ i job g. absurd (none-some (item.Transient job) g))) l
