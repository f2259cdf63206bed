-- What each call of the lane machine leaves of what a test knows.
use Rattle.std.proofs.Common.{◌≡◌, ℕ, Bool, true, false, List, [], ◌∷◌, ◌++◌, Option, Some, None, inl, inr, sym, refl, ap, ◌∙◌, subst}
use Rattle.std.specs.Prelude.{slice_get, slice_set, position}
use Rattle.std.proofs.lemmas.Bool.{cases_eq, and_parts}
use Rattle.std.proofs.lemmas.Option.{none-some, same_Some}
use Rattle.orb_base.specs.Pool.{Pool}
use Rattle.orb_base.specs.declared.conn_id.ConnId.{ConnId}
use Rattle.orb_base.specs.declared.answer.Answer.{Answer}
use Rattle.orb_base.specs.declared.item.Item.{Item}
use Rattle.orb_base.specs.declared.item.Item.TheVariants as item
use Rattle.orb_base.specs.declared.job.Job.{Job}
use Rattle.thread_borrowing.specs.declared.doing.Doing.{Doing}
use Rattle.thread_borrowing.specs.declared.doing.Doing.TheVariants.{Free, Given, Busy}
use Rattle.thread_borrowing.specs.ThreadList.{Thread, is_free, doing, given}
use Rattle.thread_borrowing.specs.Choice.{chosen_thread, may_run}
use Rattle.thread_borrowing.proofs.Chosen.{chosen_is}
use Rattle.thread_borrowing.proofs.Places.{set_cases, set_same, set_other, push_cases}
use Rattle.request_buffer.specs.Kept.{may_cancel}
use Rattle.request_buffer.specs.Next.{next_job}
use Rattle.lane_machine.specs.State.{State, opening}
use Rattle.lane_machine.specs.Changes.{changes, marks}
use Rattle.lane_machine.specs.SeatLaws.{busy_job, given_job, collected_busy}
use Rattle.lane_machine.specs.Machine.{step, is_over, heard, offered, placed, run_by, kept_or_full, may_wait, posted, cancelled, withdrawn, taken, begun, finished, answered, freed, handed_on, item_place}
use Rattle.lane_machine.specs.declared.call.How.{How}
use Rattle.lane_machine.specs.declared.call.LaneCall.{LaneCall}
use Rattle.lane_machine.specs.declared.call.LaneCall.TheVariants.{Offer, Post, Cancel, Take, Finish, Collect, End, Leave}
use Rattle.lane_machine.specs.declared.call.LaneReply.{LaneReply}
use Rattle.lane_machine.specs.declared.call.LaneReply.TheVariants as reply
use Rattle.machine_tests.specs.Knowing.{HasBusy, AreEmpty, IsKnown, is_quiet, Tried}

-- each thread that carries out a request goes on with it
abbrev Keeps : List Thread → List Thread → Type 0
Keeps threads threads' = (t : ℕ) (job : Job) → HasBusy threads t job → HasBusy threads' t job

same_keeps : (threads threads' : List Thread) → threads' ≡ threads → Keeps threads threads'
same_keeps threads threads' p t job b = subst (λ (z : List Thread). HasBusy z t job) (sym p) b

-- another thread comes in the place of one that carries out nothing
free_keeps : (threads : List Thread) (i : ℕ) (old new : Thread) → slice_get threads i ≡ Some old → busy_job old.doing ≡ None → Keeps threads (slice_set threads i new)
free_keeps threads i old new g free t job b = elim (cases_eq t i) [
  | inl same ↦ absurd (none-some job (sym free ∙ (ap (λ (z : Thread). busy_job z.doing) (same_Some old b.0 (sym g ∙ (ap (slice_get threads) (sym same) ∙ b.1))) ∙ ap busy_job b.2)))
  | inr differs ↦ (b.0, set_other threads i t new differs ∙ b.1, b.2)
]

-- another thread comes in another place
away_keeps : (threads : List Thread) (i t : ℕ) (new : Thread) (job : Job) → (t ≡ i → ⊥) → HasBusy threads t job → HasBusy (slice_set threads i new) t job
away_keeps threads i t new job differs b = (b.0, set_other threads i t new differs ∙ b.1, b.2)

free_none : (d : Doing) → is_free d ≡ true → busy_job d ≡ None
free_none Free e = refl
free_none (Given job) e = refl
free_none (Busy job) e = absurd (cc)

run_keeps : (s : State) (job : Job) (t : ℕ) (o : Option Thread) → slice_get s.threads t ≡ o → chosen_thread s.pool.borrowing job.lane s.threads ≡ Some t → Keeps s.threads (run_by s job t o).0.threads
run_keeps s job t (Some old) g e = let h = chosen_is s.pool.borrowing job.lane s.threads t e in
    let free : is_free old.doing ≡ true = ap (λ (z : Thread). is_free z.doing) (same_Some old h.0 (sym g ∙ h.1)) ∙ (and_parts (is_free h.0.doing) (may_run s.pool.borrowing h.0.lane job.lane) h.2).0 in
    free_keeps s.threads t old (given job old) g (free_none old.doing free)
run_keeps s job t None g e = λ i j b. b

kept_keeps : (s : State) (job : Job) (room : Bool) → Keeps s.threads (kept_or_full s job room).0.threads
kept_keeps s job true = λ i j b. b
kept_keeps s job false = λ i j b. b

placed_keeps : (s : State) (job : Job) (o : Option ℕ) → chosen_thread s.pool.borrowing job.lane s.threads ≡ o → Keeps s.threads (placed s job o).0.threads
placed_keeps s job (Some t) e = run_keeps s job t (slice_get s.threads t) refl e
placed_keeps s job None e = kept_keeps s job (may_wait s.pool s.waiting job)

offer_keeps : (s : State) (job : Job) (over : Bool) → Keeps s.threads (offered s job over).0.threads
offer_keeps s job true = λ i j b. b
offer_keeps s job false = placed_keeps (heard s job.size) job (chosen_thread s.pool.borrowing job.lane s.threads) refl

post_same : (s : State) (i : Item) (over : Bool) → (posted s i over).0.threads ≡ s.threads
post_same s i true = refl
post_same s i false = refl

withdrawn_same : (s : State) (o : Option ℕ) → (withdrawn s o).0.threads ≡ s.threads
withdrawn_same s (Some at) = refl
withdrawn_same s None = refl

cancel_same : (s : State) (conn : ConnId) (id : ℕ) (over : Bool) → (cancelled s conn id over).0.threads ≡ s.threads
cancel_same s conn id true = refl
cancel_same s conn id false = withdrawn_same (heard s 0) (position (may_cancel conn id) s.waiting)

begun_keeps : (s : State) (t : ℕ) (thread : Thread) (d : Doing) → thread.doing ≡ d → slice_get s.threads t ≡ Some thread → Keeps s.threads (begun s t thread d).0.threads
begun_keeps s t thread (Given job) p g = free_keeps s.threads t thread (doing thread (Busy job)) g (ap busy_job p)
begun_keeps s t thread Free p g = λ i j b. b
begun_keeps s t thread (Busy job) p g = λ i j b. b

taken_keeps : (s : State) (t : ℕ) (o : Option Thread) → slice_get s.threads t ≡ o → Keeps s.threads (taken s t o).0.threads
taken_keeps s t (Some thread) g = begun_keeps s t thread thread.doing refl g
taken_keeps s t None g = λ i j b. b

-- a thread that is given its task carries it out
begun_busy : (s : State) (t : ℕ) (thread : Thread) (d : Doing) (job : Job) → slice_get s.threads t ≡ Some thread → reply.Given job ≡ (begun s t thread d).1 → HasBusy (begun s t thread d).0.threads t job
begun_busy s t thread (Given j) job g e = (doing thread (Busy j), set_same s.threads t thread (doing thread (Busy j)) g, ap Busy (sym (same_Some job j (ap (λ (r : LaneReply). given_job (Some r)) e))))
begun_busy s t thread Free job g e = absurd (none-some job (sym (ap (λ (r : LaneReply). given_job (Some r)) e)))
begun_busy s t thread (Busy j) job g e = absurd (none-some job (sym (ap (λ (r : LaneReply). given_job (Some r)) e)))

taken_busy : (s : State) (t : ℕ) (o : Option Thread) (job : Job) → slice_get s.threads t ≡ o → reply.Given job ≡ (taken s t o).1 → HasBusy (taken s t o).0.threads t job
taken_busy s t (Some thread) job g e = begun_busy s t thread thread.doing job g e
taken_busy s t None job g e = absurd (none-some job (sym (ap (λ (r : LaneReply). given_job (Some r)) e)))

-- another thread's Finish
handed_keeps : (s : State) (i : ℕ) (thread : Thread) (at : ℕ) (o : Option Job) (t : ℕ) (job : Job) → (t ≡ i → ⊥) → HasBusy s.threads t job → HasBusy (handed_on s i thread at o).threads t job
handed_keeps s i thread at (Some j) t job differs b = away_keeps s.threads i t (given j thread) job differs b
handed_keeps s i thread at None t job differs b = b

freed_keeps : (s : State) (i : ℕ) (thread : Thread) (o : Option ℕ) (t : ℕ) (job : Job) → (t ≡ i → ⊥) → HasBusy s.threads t job → HasBusy (freed s i thread o).threads t job
freed_keeps s i thread (Some at) t job differs b = handed_keeps s i thread at (slice_get s.waiting at) t job differs b
freed_keeps s i thread None t job differs b = away_keeps s.threads i t (doing thread Free) job differs b

finished_keeps : (s : State) (i : ℕ) (answer : Answer) (o : Option Thread) (t : ℕ) (job : Job) → (t ≡ i → ⊥) → HasBusy s.threads t job → HasBusy (finished s i answer o).0.threads t job
finished_keeps s i answer (Some thread) t job differs b = freed_keeps (answered s answer) i thread (next_job s.pool.borrowing thread.lane s.waiting) t job differs b
finished_keeps s i answer None t job differs b = b

-- what is known stays known
quiet_keeps : (s : State) (call : LaneCall) → is_quiet call ≡ true → Keeps s.threads (step s call).0.threads
quiet_keeps s (Offer job) q = offer_keeps s job (is_over s job.size)
quiet_keeps s (Post notice) q = same_keeps s.threads (step s (Post notice)).0.threads (post_same s (item.Noticed notice) (is_over s 0))
quiet_keeps s (Cancel conn id) q = same_keeps s.threads (step s (Cancel conn id)).0.threads (cancel_same s conn id (is_over s 0))
quiet_keeps s (Collect conn) q = same_keeps s.threads (step s (Collect conn)).0.threads (collected_busy s conn (item_place s conn))
quiet_keeps s (Take t) q = absurd (cc)
quiet_keeps s (Finish t answer) q = absurd (cc)
quiet_keeps s (End conn how) q = absurd (cc)
quiet_keeps s (Leave slot) q = absurd (cc)

quiet_ended : (s : State) (call : LaneCall) → is_quiet call ≡ true → ((step s call).0.ended ≡ s.ended) × ((step s call).0.left ≡ s.left)
quiet_ended s (Offer job) q = marks s (Offer job)
quiet_ended s (Post notice) q = marks s (Post notice)
quiet_ended s (Cancel conn id) q = marks s (Cancel conn id)
quiet_ended s (Collect conn) q = marks s (Collect conn)
quiet_ended s (Take t) q = absurd (cc)
quiet_ended s (Finish t answer) q = absurd (cc)
quiet_ended s (End conn how) q = absurd (cc)
quiet_ended s (Leave slot) q = absurd (cc)

module _ (s s' : State) (pool : Pool) (hands : List (Option Job)) (ended : List (ConnId × How)) (left : List ℕ) where
  pub quiet_known : (call : LaneCall) (r : Option LaneReply) → is_quiet call ≡ true → Tried s (step s call) s' r → IsKnown s pool hands ended left → IsKnown s' pool hands ended left
  quiet_known call (Some r) q e k = let m = quiet_ended s call q in subst (λ (z : State). IsKnown z pool hands ended left) (sym e.0) (record {
    same_pool = (changes s call).0 ∙ k.same_pool;
    same_ended = m.0 ∙ k.same_ended;
    same_left = m.1 ∙ k.same_left;
    busy = λ t job g. quiet_keeps s call q t job (k.busy t job g);
  })
  quiet_known call None q e k = subst (λ (z : State). IsKnown z pool hands ended left) (sym e) k

  pub take_known : (t : ℕ) (r : Option LaneReply) → Tried s (step s (Take t)) s' r → IsKnown s pool hands ended left → IsKnown s' pool hands ended left
  take_known t (Some r) e k = let m = marks s (Take t) in subst (λ (z : State). IsKnown z pool hands ended left) (sym e.0) (record {
    same_pool = (changes s (Take t)).0 ∙ k.same_pool;
    same_ended = m.0 ∙ k.same_ended;
    same_left = m.1 ∙ k.same_left;
    busy = λ i job g. taken_keeps s t (slice_get s.threads t) refl i job (k.busy i job g);
  })
  take_known t None e k = subst (λ (z : State). IsKnown z pool hands ended left) (sym e) k

  pub begin_known : (t at : ℕ) (r : LaneReply) (job : Job) (hands' : List (Option Job)) → at ≡ t → hands' ≡ slice_set hands at (Some job) → r ≡ reply.Given job → Tried s (step s (Take t)) s' (Some r) → IsKnown s pool hands ended left → IsKnown s' pool hands' ended left
  begin_known t at r job hands' a h g e k = let n = take_known t (Some r) e k in record {
    same_pool = n.same_pool;
    same_ended = n.same_ended;
    same_left = n.same_left;
    busy = λ i j x. elim (set_cases hands at i (Some job) (Some j) (ap (λ (z : List (Option Job)). slice_get z i) (sym h) ∙ x)) [
      | inl b ↦ subst (λ (z : Job). HasBusy s'.threads i z) (same_Some job j b.1) (subst (λ (z : ℕ). HasBusy s'.threads z job) (sym (b.0 ∙ a)) (subst (λ (z : State). HasBusy z.threads t job) (sym e.0) (taken_busy s t (slice_get s.threads t) job refl (sym g ∙ e.1))))
      | inr b ↦ n.busy i j b
    ];
  }

  -- a thread's hands are emptied
  pub let_go : (at : ℕ) (hands' : List (Option Job)) → hands' ≡ slice_set hands at None → IsKnown s pool hands ended left → IsKnown s pool hands' ended left
  let_go at hands' h k = record {
    same_pool = k.same_pool;
    same_ended = k.same_ended;
    same_left = k.same_left;
    busy = λ i j g. elim (set_cases hands at i None (Some j) (ap (λ (z : List (Option Job)). slice_get z i) (sym h) ∙ g)) [
      | inl a ↦ absurd (none-some j a.1)
      | inr a ↦ k.busy i j a
    ];
  }

  pub finish_known : (t at : ℕ) (answer : Answer) (r : Option LaneReply) (hands' : List (Option Job)) → at ≡ t → hands' ≡ slice_set hands at None → Tried s (step s (Finish t answer)) s' r → IsKnown s pool hands ended left → IsKnown s' pool hands' ended left
  finish_known t at answer (Some r) hands' a h e k = let m = marks s (Finish t answer) in subst (λ (z : List (Option Job)). IsKnown s' pool z ended left) (sym (h ∙ ap (λ (z : ℕ). slice_set hands z None) a)) (subst (λ (z : State). IsKnown z pool (slice_set hands t None) ended left) (sym e.0) (record {
    same_pool = (changes s (Finish t answer)).0 ∙ k.same_pool;
    same_ended = m.0 ∙ k.same_ended;
    same_left = m.1 ∙ k.same_left;
    busy = λ i j g. elim (cases_eq i t) [
      | inl same ↦ elim (set_cases hands t i None (Some j) g) [
        | inl b ↦ absurd (none-some j b.1)
        | inr b ↦ absurd (none-some j (same_Some None (Some j) (sym (set_same hands t (Some j) None (ap (slice_get hands) (sym same) ∙ b)) ∙ (ap (slice_get (slice_set hands t None)) (sym same) ∙ g))))
      ]
      | inr differs ↦ finished_keeps s t answer (slice_get s.threads t) i j differs (k.busy i j (sym (set_other hands t i None differs) ∙ g))
    ];
  }))
  finish_known t at answer None hands' a h e k = subst (λ (z : State). IsKnown z pool hands' ended left) (sym e) (let_go at hands' h k)

  pub end_known : (conn : ConnId) (how : How) (r : LaneReply) (ended' : List (ConnId × How)) → Tried s (step s (End conn how)) s' (Some r) → ended' ≡ ended ++ (conn, how) ∷ [] → IsKnown s pool hands ended left → IsKnown s' pool hands ended' left
  end_known conn how r ended' e h k = subst (λ (z : State). IsKnown z pool hands ended' left) (sym e.0) (record {
    same_pool = k.same_pool;
    same_ended = ap (λ (z : List (ConnId × How)). z ++ (conn, how) ∷ []) k.same_ended ∙ sym h;
    same_left = k.same_left;
    busy = k.busy;
  })

  pub leave_known : (slot : ℕ) (r : LaneReply) (left' : List ℕ) → Tried s (step s (Leave slot)) s' (Some r) → left' ≡ left ++ slot ∷ [] → IsKnown s pool hands ended left → IsKnown s' pool hands ended left'
  leave_known slot r left' e h k = subst (λ (z : State). IsKnown z pool hands ended left') (sym e.0) (record {
    same_pool = k.same_pool;
    same_ended = k.same_ended;
    same_left = ap (λ (z : List ℕ). z ++ slot ∷ []) k.same_left ∙ sym h;
    busy = k.busy;
  })

-- at the opening nothing is in hand
pub opening_known : (s : State) (pool run_pool : Pool) (slots per_slot : ℕ) (hands : List (Option Job)) (ended : List (ConnId × How)) (left : List ℕ) → pool ≡ run_pool → s ≡ opening run_pool slots per_slot → AreEmpty hands → ended ≡ [] → left ≡ [] → IsKnown s pool hands ended left
opening_known s pool run_pool slots per_slot hands ended left p e none c d = subst (λ (z : State). IsKnown z pool hands ended left) (sym e) (record {
  same_pool = sym p;
  same_ended = sym c;
  same_left = sym d;
  busy = λ t job g. absurd (none t job g);
})

pub empty_none : (hands : List (Option Job)) → hands ≡ [] → AreEmpty hands
empty_none hands e t job g = none-some (Some job) (ap (λ (z : List (Option Job)). slice_get z t) (sym e) ∙ g)

pub empty_more : (hands hands' : List (Option Job)) → hands' ≡ hands ++ None ∷ [] → AreEmpty hands → AreEmpty hands'
empty_more hands hands' e none t job g = elim (push_cases hands t None (Some job) (ap (λ (z : List (Option Job)). slice_get z t) (sym e) ∙ g)) [
  | inl a ↦ none t job a
  | inr a ↦ none-some job a
]
