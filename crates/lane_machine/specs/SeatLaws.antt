-- What the entries of a caller tell of the state.
use Rattle.std.proofs.Common.{◌≡◌, ℕ, ◌+◌, ◌*◌, ◌<◌, ◌≤◌, suc, zero, Bool, true, false, cond, eqb, ◌&&◌, ◌==◌, ◌||◌, if◌then◌else◌, List, [], ◌∷◌, ◌++◌, length, Option, Some, None, inl, inr, ◌⊎◌, sym, refl, ap, ◌∙◌, subst, arith}
use Rattle.std.specs.Prelude.{slice_get, slice_set, remove, position, find, is_some, option_map}
use Rattle.std.specs.List.{list_any}
use Rattle.std.proofs.lemmas.Bool.{cases_eq, cases_Bool, and_parts, both_ways, eqb-true, or_parts, or_right}
use Rattle.std.proofs.lemmas.Option.{none-some, same_Some, slice_get_within}
use Rattle.turn_cell.specs.declared.entry.Entry.{Entry}
use Rattle.turn_cell.specs.History as history
use Rattle.orb_base.specs.declared.conn_id.ConnId.{ConnId}
use Rattle.orb_base.specs.declared.answer.Answer.{Answer}
use Rattle.orb_base.specs.declared.item.Item.{Item}
use Rattle.orb_base.specs.declared.item.Item.TheVariants as item
use Rattle.lane_machine.specs.declared.call.How.{How}
use Rattle.lane_machine.specs.declared.call.How.TheVariants as how
use Rattle.thread_borrowing.specs.declared.doing.Doing.{Doing}
use Rattle.thread_borrowing.specs.declared.doing.Doing.TheVariants.{Free, Given, Busy}
use Rattle.lane_machine.specs.declared.call.LaneCall.{LaneCall}
use Rattle.lane_machine.specs.declared.call.LaneCall.TheVariants.{Offer, Post, Cancel, Take, Finish, Collect, End, Leave}
use Rattle.lane_machine.specs.declared.call.LaneReply.{LaneReply}
use Rattle.lane_machine.specs.declared.call.LaneReply.TheVariants as reply
use Rattle.orb_base.specs.declared.lane_spec.LaneSpec.{LaneSpec}
use Rattle.orb_base.specs.Outcomes.{body_len}
use Rattle.thread_borrowing.proofs.Growing.{length-pool_threads}
use Rattle.lane_machine.specs.Callers.{of, latest, ends, has_leave, is_end, is_leave, IsFit, MayCall, IsReading, slot_seat, worker_seat, writer_seat, seat_of, AreFit}
use Rattle.lane_machine.specs.Changes.{Marks, marks, changes, stay}
use Rattle.lane_machine.specs.Entries.{One, of_mine, of_other, latest_push, ends_push, ends_grow, leave_push, leave_grow, along}
use Rattle.orb_base.specs.declared.job.Job.{Job}
use Rattle.lane_machine.specs.State.{State, opening, Opens}
use Rattle.thread_borrowing.specs.ThreadList.{Thread, is_free, some_threads, pool_threads, doing, given}
use Rattle.orb_base.specs.Conn.{same_conn}
use Rattle.orb_base.specs.Pool.{Pool}
use Rattle.thread_borrowing.specs.Choice.{chosen_thread, may_run, can_start, rank}
use Rattle.request_buffer.specs.Next.{next_job}
use Rattle.lane_machine.specs.Machine.{step, is_over, heard, placed, run_by, kept_or_full, may_wait, offered, posted, cancelled, withdrawn, begun, taken, answered, handed_on, freed, finished, handed, collected, over, shut, end_of, was_told, item_place}
use Rattle.lane_machine.specs.Readiness.{is_ready, IsSound, IsBusyWith, can_take, can_go_on, has_left, HasLane}
use Rattle.request_buffer.specs.Kept.{may_cancel}
use Rattle.lane_machine.specs.Histories.{History, replay, IsLegal}
use Rattle.thread_borrowing.proofs.Places.{set_cases, set_same, set_other, push_cases}
use Rattle.thread_borrowing.proofs.Chosen.{chosen_is, none_chosen}
use Rattle.request_buffer.proofs.NextJobs.{next_is, none_next, next_first}
use Rattle.orb_base.specs.declared.limits.TheConstants.{MAX_BODY}

-- one connection by both numbers
pub conn_is : (a b : ConnId) → same_conn a b ≡ true → a ≡ b
conn_is a b e = let h = and_parts (eqb a.slot b.slot) (eqb a.nth b.nth) e in let x = eqb-true a.slot b.slot h.0 in let y = eqb-true a.nth b.nth h.1 in λ i. record { slot = x i; nth = y i }

-- the request that a thread is busy with
abbrev pub busy_job : Doing → Option Job
busy_job Free = None
busy_job (Given job) = None
busy_job (Busy job) = Some job

-- the request that a Take was answered with
abbrev pub given_job : Option LaneReply → Option Job
given_job (Some (reply.Given job)) = Some job
given_job o = None

abbrev EndedKnown : History → List (ConnId × How) → Type 0
EndedKnown h ended = (k : ℕ) (e : ConnId × How) → slice_get ended k ≡ Some e → e.0.nth < ends (of (slot_seat e.0.slot) h)

abbrev LeftKnown : History → List ℕ → Type 0
LeftKnown h left = (k slot : ℕ) → slice_get left k ≡ Some slot → has_leave (of (slot_seat slot) h) ≡ true

abbrev BusyKnown : ℕ → History → List Thread → Type 0
BusyKnown slots h threads = (t : ℕ) (thread : Thread) → slice_get threads t ≡ Some thread → busy_job thread.doing ≡ given_job (latest None (of (worker_seat slots t) h))

ended_stays : (h : History) (e : One) (ended ended' : List (ConnId × How)) → ended' ≡ ended → EndedKnown h ended → EndedKnown (h ++ e ∷ []) ended'
ended_stays h e ended ended' p known = subst (EndedKnown (h ++ e ∷ [])) (sym p) (λ k x g. let a = known k x g in let b = ends_grow (slot_seat x.0.slot) h e in omega arith)

ended_step : (s0 s s' : State) (h : History) (e : One) (call : LaneCall) → e.call ≡ call → Marks call s s' → IsFit s0 e.caller (of e.caller h) call → EndedKnown h s.ended → EndedKnown (h ++ e ∷ []) s'.ended
ended_step s0 s s' h e (End conn how) c m f known = λ k x g. elim (push_cases s.ended k (conn, how) x (subst (λ (z : List (ConnId × How)). slice_get z k ≡ Some x) m.0 g)) [
  | inl a ↦ ended_stays h e s.ended s.ended refl known k x a
  | inr a ↦ subst (λ (z : ConnId × How). z.0.nth < ends (of (slot_seat z.0.slot) (h ++ e ∷ []))) a (
      let n : conn.nth ≡ ends (of e.caller h) = f.1.next in let u : ends (of (slot_seat conn.slot) (h ++ e ∷ [])) ≡ ends (of (slot_seat conn.slot) h ++ e ∷ []) = ap ends (of_mine (slot_seat conn.slot) h e f.0) in
      let v = ends_push (of (slot_seat conn.slot) h) e in let w : ◌≡◌ {A = ℕ} (cond (is_end e.call) 1 0) 1 = ap (λ (z : LaneCall). cond {A = ℕ} (is_end z) 1 0) c in let y : ends (of e.caller h) ≡ ends (of (slot_seat conn.slot) h) = ap (λ (z : ℕ). ends (of z h)) f.0 in omega arith)
]
ended_step s0 s s' h e call c m f known = ended_stays h e s.ended s'.ended m.0 known

left_stays : (h : History) (e : One) (left left' : List ℕ) → left' ≡ left → LeftKnown h left → LeftKnown (h ++ e ∷ []) left'
left_stays h e left left' p known = subst (LeftKnown (h ++ e ∷ [])) (sym p) (λ k x g. leave_grow (slot_seat x) h e (known k x g))

left_step : (s0 s s' : State) (h : History) (e : One) (call : LaneCall) → e.call ≡ call → Marks call s s' → IsFit s0 e.caller (of e.caller h) call → LeftKnown h s.left → LeftKnown (h ++ e ∷ []) s'.left
left_step s0 s s' h e (Leave slot) c m f known = λ k x g. elim (push_cases s.left k slot x (subst (λ (z : List ℕ). slice_get z k ≡ Some x) m.1 g)) [
  | inl a ↦ left_stays h e s.left s.left refl known k x a
  | inr a ↦ subst (λ (z : ℕ). has_leave (of (slot_seat z) (h ++ e ∷ [])) ≡ true) a (
      ap has_leave (of_mine (slot_seat slot) h e f.0) ∙ (leave_push (of (slot_seat slot) h) e ∙ (ap (λ (z : LaneCall). has_leave (of (slot_seat slot) h) || (is_leave z || false)) c ∙ or_right (has_leave (of (slot_seat slot) h)) true refl)))
]
left_step s0 s s' h e call c m f known = left_stays h e s.left s'.left m.1 known

-- what no thread begins or ends
abbrev SameBusy : List Thread → List Thread → Type 0
SameBusy threads threads' = (t : ℕ) (thread : Thread) → slice_get threads' t ≡ Some thread → (old : Thread) × (slice_get threads t ≡ Some old) × (busy_job thread.doing ≡ busy_job old.doing)

busy_none : (d : Doing) → is_free d ≡ true → busy_job d ≡ None
busy_none Free e = refl
busy_none (Given job) e = refl
busy_none (Busy job) e = absurd (cc)

run_busy : (s : State) (job : Job) (t : ℕ) (o : Option Thread) → slice_get s.threads t ≡ o → chosen_thread s.pool.borrowing job.lane s.threads ≡ Some t → SameBusy s.threads (run_by s job t o).0.threads
run_busy s job t (Some old) g e i thread x = elim (set_cases s.threads t i (given job old) thread x) [
  | inl a ↦ (let h = chosen_is s.pool.borrowing job.lane s.threads t e in let free : is_free old.doing ≡ true = ap (λ (z : Thread). is_free z.doing) (same_Some old h.0 (sym g ∙ h.1)) ∙ (and_parts (is_free h.0.doing) (may_run s.pool.borrowing h.0.lane job.lane) h.2).0 in
      (old, ap (slice_get s.threads) a.0 ∙ g, ap (λ (z : Thread). busy_job z.doing) (sym a.1) ∙ sym (busy_none old.doing free)))
  | inr a ↦ (thread, a, refl)
]
run_busy s job t None g e i thread x = (thread, x, refl)

kept_busy : (s : State) (job : Job) (room : Bool) → SameBusy s.threads (kept_or_full s job room).0.threads
kept_busy s job true i thread x = (thread, x, refl)
kept_busy s job false i thread x = (thread, x, refl)

placed_busy : (s : State) (job : Job) (o : Option ℕ) → chosen_thread s.pool.borrowing job.lane s.threads ≡ o → SameBusy s.threads (placed s job o).0.threads
placed_busy s job (Some t) e = run_busy s job t (slice_get s.threads t) refl e
placed_busy s job None e = kept_busy s job (may_wait s.pool s.waiting job)

offer_busy : (s : State) (job : Job) (over : Bool) → SameBusy s.threads (offered s job over).0.threads
offer_busy s job true = λ i thread x. (thread, x, refl)
offer_busy s job false = placed_busy (heard s job.size) job (chosen_thread s.pool.borrowing job.lane s.threads) refl

post_busy : (s : State) (i : Item) (over : Bool) → (posted s i over).0.threads ≡ s.threads
post_busy s i true = refl
post_busy s i false = refl

withdrawn_busy : (s : State) (o : Option ℕ) → (withdrawn s o).0.threads ≡ s.threads
withdrawn_busy s (Some at) = refl
withdrawn_busy s None = refl

cancel_busy : (s : State) (conn : ConnId) (id : ℕ) (over : Bool) → (cancelled s conn id over).0.threads ≡ s.threads
cancel_busy s conn id true = refl
cancel_busy s conn id false = withdrawn_busy (heard s 0) (position (may_cancel conn id) s.waiting)

handed_busy : (s : State) (at : ℕ) (o : Option Item) → (handed s at o).0.threads ≡ s.threads
handed_busy s at (Some i) = refl
handed_busy s at None = refl

tell_busy : (s : State) (conn : ConnId) (b : Bool) → (shut s conn b).0.threads ≡ s.threads
tell_busy s conn true = refl
tell_busy s conn false = refl

shut_busy : (s : State) (conn : ConnId) (o : Option How) → (over s conn o).0.threads ≡ s.threads
shut_busy s conn (Some how.Bad) = refl
shut_busy s conn (Some how.Shut) = refl
shut_busy s conn (Some how.Quiet) = refl
shut_busy s conn None = tell_busy s conn (was_told s conn)

pub collected_busy : (s : State) (conn : ConnId) (o : Option ℕ) → (collected s conn o).0.threads ≡ s.threads
collected_busy s conn (Some at) = handed_busy s at (slice_get s.out at)
collected_busy s conn None = shut_busy s conn (end_of s conn)

-- what a worker's call leaves at its own thread and at another
own_set : (slots : ℕ) (h : History) (e : One) (threads : List Thread) (i : ℕ) (old new : Thread) → slice_get threads i ≡ Some old → e.caller ≡ worker_seat slots i → busy_job new.doing ≡ given_job (Some e.reply)
    → BusyKnown slots h threads → BusyKnown slots (h ++ e ∷ []) (slice_set threads i new)
own_set slots h e threads i old new g c b known t thread x = elim (cases_eq t i) [
  | inl same ↦ (let k : new ≡ thread = same_Some new thread (sym (set_same threads i old new g) ∙ (ap (slice_get (slice_set threads i new)) (sym same) ∙ x)) in
      ap (λ (z : Thread). busy_job z.doing) (sym k) ∙ (b ∙ (ap given_job (sym (latest_push None (of (worker_seat slots i) h) e)) ∙ ap (λ (z : History). given_job (latest None z)) (sym (of_mine (worker_seat slots i) h e c)) ∙ ap (λ (z : ℕ). given_job (latest None (of (worker_seat slots z) (h ++ e ∷ [])))) (sym same))))
  | inr differs ↦ (let k : slice_get threads t ≡ Some thread = sym (set_other threads i t new differs) ∙ x in
      known t thread k ∙ ap (λ (z : History). given_job (latest None z)) (sym (of_other (worker_seat slots t) h e (λ (q : e.caller ≡ worker_seat slots t). differs (let r = c in omega arith)))))
]

-- the worker's thread stays as it is
own_stays : (slots : ℕ) (h : History) (e : One) (threads : List Thread) (i : ℕ) (old : Thread) → slice_get threads i ≡ Some old → e.caller ≡ worker_seat slots i → busy_job old.doing ≡ given_job (Some e.reply)
    → BusyKnown slots h threads → BusyKnown slots (h ++ e ∷ []) threads
own_stays slots h e threads i old g c b known t thread x = elim (cases_eq t i) [
  | inl same ↦ (let k : old ≡ thread = same_Some old thread (sym g ∙ (ap (slice_get threads) (sym same) ∙ x)) in
      ap (λ (z : Thread). busy_job z.doing) (sym k) ∙ (b ∙ (ap given_job (sym (latest_push None (of (worker_seat slots i) h) e)) ∙ ap (λ (z : History). given_job (latest None z)) (sym (of_mine (worker_seat slots i) h e c)) ∙ ap (λ (z : ℕ). given_job (latest None (of (worker_seat slots z) (h ++ e ∷ [])))) (sym same))))
  | inr differs ↦ known t thread x ∙ ap (λ (z : History). given_job (latest None z)) (sym (of_other (worker_seat slots t) h e (λ (q : e.caller ≡ worker_seat slots t). differs (let r = c in omega arith))))
]

-- another's call
other_step : (slots : ℕ) (h : History) (e : One) (threads threads' : List Thread) → ((t : ℕ) → t < length threads → e.caller ≡ worker_seat slots t → ⊥) → SameBusy threads threads' → BusyKnown slots h threads → BusyKnown slots (h ++ e ∷ []) threads'
other_step slots h e threads threads' not_it quiet known t thread x = let q = quiet t thread x in
    q.2 ∙ (known t q.0 q.1 ∙ ap (λ (z : History). given_job (latest None z)) (sym (of_other (worker_seat slots t) h e (not_it t (slice_get_within threads t q.0 q.1)))))

same_busy : (threads threads' : List Thread) → threads' ≡ threads → SameBusy threads threads'
same_busy threads threads' p t thread x = (thread, subst (λ (z : List Thread). slice_get z t ≡ Some thread) p x, refl)

begun_step : (slots : ℕ) (s : State) (h : History) (e : One) (t : ℕ) (thread : Thread) (d : Doing) → thread.doing ≡ d → slice_get s.threads t ≡ Some thread → can_go_on s d ≡ true → e.caller ≡ worker_seat slots t → e.reply ≡ (begun s t thread d).1
    → BusyKnown slots h s.threads → BusyKnown slots (h ++ e ∷ []) (begun s t thread d).0.threads
begun_step slots s h e t thread (Given job) p g r c w known = own_set slots h e s.threads t thread (doing thread (Busy job)) g c (ap (λ (z : LaneReply). given_job (Some z)) (sym w)) known
begun_step slots s h e t thread Free p g r c w known = own_stays slots h e s.threads t thread g c (ap busy_job p ∙ ap (λ (z : LaneReply). given_job (Some z)) (sym w)) known
begun_step slots s h e t thread (Busy job) p g r c w known = absurd (cc)

taken_step : (slots : ℕ) (s : State) (h : History) (e : One) (t : ℕ) (o : Option Thread) → slice_get s.threads t ≡ o → can_take s o ≡ true → e.caller ≡ worker_seat slots t → e.reply ≡ (taken s t o).1
    → BusyKnown slots h s.threads → BusyKnown slots (h ++ e ∷ []) (taken s t o).0.threads
taken_step slots s h e t (Some thread) g r c w known = begun_step slots s h e t thread thread.doing refl g r c w known
taken_step slots s h e t None g r c w known = absurd (cc)

freed_step : (slots : ℕ) (s : State) (h : History) (e : One) (t : ℕ) (thread : Thread) (o : Option ℕ) → next_job s.pool.borrowing thread.lane s.waiting ≡ o → slice_get s.threads t ≡ Some thread → e.caller ≡ worker_seat slots t → e.reply ≡ reply.Finished
    → BusyKnown slots h s.threads → BusyKnown slots (h ++ e ∷ []) (freed s t thread o).threads
freed_step slots s h e t thread (Some at) x g c w known = let a = next_is s.pool.borrowing thread.lane s.waiting at x in
    subst (λ (z : Option Job). BusyKnown slots (h ++ e ∷ []) (handed_on s t thread at z).threads) (sym a.1) (own_set slots h e s.threads t thread (given a.0 thread) g c (ap (λ (z : LaneReply). given_job (Some z)) (sym w)) known)
freed_step slots s h e t thread None x g c w known = own_set slots h e s.threads t thread (doing thread Free) g c (ap (λ (z : LaneReply). given_job (Some z)) (sym w)) known

finished_step : (slots : ℕ) (s : State) (h : History) (e : One) (t : ℕ) (answer : Answer) (o : Option Thread) → slice_get s.threads t ≡ o → IsBusyWith answer o → e.caller ≡ worker_seat slots t → e.reply ≡ (finished s t answer o).1
    → BusyKnown slots h s.threads → BusyKnown slots (h ++ e ∷ []) (finished s t answer o).0.threads
finished_step slots s h e t answer (Some thread) g b c w known = freed_step slots (answered s answer) h e t thread (next_job s.pool.borrowing thread.lane s.waiting) refl g c w known
finished_step slots s h e t answer None g b c w known = absurd b

-- the seats of slots and of writing sides are no worker's
slot_other : (slots slot n t : ℕ) → slot < slots → n ≡ slot_seat slot → n ≡ worker_seat slots t → ⊥
slot_other slots slot n t l a b = omega arith

busy_step : (s0 s : State) (h : History) (e : One) (call : LaneCall) → s0.slots ≤ 16 → length s.threads ≤ 64 → is_ready s call ≡ true → IsSound s call → e.reply ≡ (step s call).1 → IsFit s0 e.caller (of e.caller h) call
    → BusyKnown s0.slots h s.threads → BusyKnown s0.slots (h ++ e ∷ []) (step s call).0.threads
busy_step s0 s h e (Offer job) few many r q w f known = other_step s0.slots h e s.threads (step s (Offer job)).0.threads (λ t l. slot_other s0.slots job.conn.slot e.caller t f.1.0.slot f.0) (offer_busy s job (is_over s job.size)) known
busy_step s0 s h e (Post notice) few many r q w f known = other_step s0.slots h e s.threads (step s (Post notice)).0.threads (λ t l. slot_other s0.slots notice.conn.slot e.caller t f.1.0.slot f.0) (same_busy s.threads (step s (Post notice)).0.threads (post_busy s (item.Noticed notice) (is_over s 0))) known
busy_step s0 s h e (Cancel conn id) few many r q w f known = other_step s0.slots h e s.threads (step s (Cancel conn id)).0.threads (λ t l. slot_other s0.slots conn.slot e.caller t f.1.0.slot f.0) (same_busy s.threads (step s (Cancel conn id)).0.threads (cancel_busy s conn id (is_over s 0))) known
busy_step s0 s h e (Take t) few many r q w f known = taken_step s0.slots s h e t (slice_get s.threads t) refl r f.0 w known
busy_step s0 s h e (Finish t answer) few many r q w f known = finished_step s0.slots s h e t answer (slice_get s.threads t) refl q.0 f.0 w known
busy_step s0 s h e (Collect conn) few many r q w f known = other_step s0.slots h e s.threads (step s (Collect conn)).0.threads (λ t l c. let a = f.0 in omega arith) (same_busy s.threads (step s (Collect conn)).0.threads (collected_busy s conn (item_place s conn))) known
busy_step s0 s h e (End conn how) few many r q w f known = other_step s0.slots h e s.threads s.threads (λ t l. slot_other s0.slots conn.slot e.caller t f.1.slot f.0) (same_busy s.threads s.threads refl) known
busy_step s0 s h e (Leave slot) few many r q w f known = other_step s0.slots h e s.threads s.threads (λ t l. slot_other s0.slots slot e.caller t f.1.0 f.0) (same_busy s.threads s.threads refl) known

-- what the entries of all callers tell of the state
pub record Known (s0 : State) (h : History) (s : State) : Type 0 where
  pub pool : s.pool ≡ s0.pool
  pub slots : s.slots ≡ s0.slots
  pub threads : length s.threads ≡ length s0.threads
  pub ended : EndedKnown h s.ended
  pub left : LeftKnown h s.left
  pub busy : BusyKnown s0.slots h s.threads

pub known_step : (s0 : State) → s0.slots ≤ 16 → length s0.threads ≤ 64 → (h : History) (s : State) (e : One) → Known s0 h s → is_ready s e.call ≡ true → IsSound s e.call → e.reply ≡ (step s e.call).1 → IsFit s0 e.caller (of e.caller h) e.call → Known s0 (h ++ e ∷ []) (step s e.call).0
known_step s0 few many h s e k r q w f = let c = changes s e.call in let m = marks s e.call in record {
  pool = c.0 ∙ k.pool;
  slots = c.1 ∙ k.slots;
  threads = stay s.pool s.threads s.waiting (step s e.call).0.threads (step s e.call).0.waiting c.3 ∙ k.threads;
  ended = ended_step s0 s (step s e.call).0 h e e.call refl m f k.ended;
  left = left_step s0 s (step s e.call).0 h e e.call refl m f k.left;
  busy = busy_step s0 s h e e.call few (let a = k.threads in omega arith) r q w f k.busy;
}

find_none : {X : Type 0} (p : X → Bool) (xs : List X) → ((k : ℕ) (x : X) → slice_get xs k ≡ Some x → p x ≡ false) → find p xs ≡ None
find_none {X} p [] h = refl
find_none {X} p (x ∷ xs) h = ap (λ (b : Bool). cond b (Some x) (find p xs)) (h 0 x refl) ∙ find_none p xs (λ k y g. h (suc k) y g)

any_none : {X : Type 0} (p : X → Bool) (xs : List X) → ((k : ℕ) (x : X) → slice_get xs k ≡ Some x → p x ≡ false) → list_any p xs ≡ false
any_none {X} p [] h = refl
any_none {X} p (x ∷ xs) h = ap (λ (b : Bool). b || list_any p xs) (h 0 x refl) ∙ any_none p xs (λ k y g. h (suc k) y g)

busy_is : (d : Doing) (job : Job) → busy_job d ≡ Some job → d ≡ Busy job
busy_is Free job e = absurd (none-some job e)
busy_is (Given j) job e = absurd (none-some job e)
busy_is (Busy j) job e = ap Busy (same_Some j job e)

busy_found : (answer : Answer) (o : Option Thread) → ((thread : Thread) → o ≡ Some thread → busy_job thread.doing ≡ Some answer.job) → (o ≡ None → ⊥) → IsBusyWith answer o
busy_found answer (Some thread) h there = busy_is thread.doing answer.job (h thread refl)
busy_found answer None h there = absurd (there refl)

inside : {X : Type 0} (xs : List X) (i : ℕ) → i < length xs → slice_get xs i ≡ None → ⊥
inside {X} [] i l e = absurd (omega arith)
inside {X} (x ∷ xs) zero l e = none-some x (sym e)
inside {X} (x ∷ xs) (suc i) l e = inside xs i (omega arith) e

-- what is at a place below the length
is_there : {X : Type 0} (xs : List X) (i : ℕ) → i < length xs → is_some (slice_get xs i) ≡ true
is_there {X} [] i l = absurd (omega arith)
is_there {X} (x ∷ xs) zero l = refl
is_there {X} (x ∷ xs) (suc i) l = is_there xs i (omega arith)

-- a call that is fit for its caller is sound
pub sound_if_fit : (s0 : State) (h : History) (s : State) (n : ℕ) (call : LaneCall) → Known s0 h s → IsFit s0 n (of n h) call → IsSound s call
sound_if_fit s0 h s n (Offer job) k f = subst (λ (p : Pool). HasLane p.laned job (slice_get p.lanes job.lane)) (sym k.pool) f.1.3
sound_if_fit s0 h s n (Post notice) k f = tt
sound_if_fit s0 h s n (Cancel conn id) k f = tt
sound_if_fit s0 h s n (Take t) k f = is_there s.threads t (let a = k.threads in let b = f.1.0 in omega arith)
sound_if_fit s0 h s n (Finish t answer) k f = (
  busy_found answer (slice_get s.threads t)
      (λ thread g. k.busy t thread g ∙ (ap (λ (z : ℕ). given_job (latest None (of z h))) (sym f.0) ∙ ap given_job f.1.1))
      (inside s.threads t (let a = k.threads in let b = f.1.0 in omega arith)),
  f.1.2,
)
sound_if_fit s0 h s n (Collect conn) k f = tt
sound_if_fit s0 h s n (End conn how) k f = ap (option_map (λ (e : ConnId × How). e.1)) (find_none (λ e. same_conn e.0 conn) s.ended (λ i e g. elim (cases_Bool (same_conn e.0 conn)) [
  | inl t ↦ (let same = conn_is e.0 conn t in let a = k.ended i e g in let b : e.0.nth ≡ conn.nth = ap (λ (z : ConnId). z.nth) same in let c = f.1.next in
      let d : ends (of (slot_seat e.0.slot) h) ≡ ends (of n h) = ap (λ (z : ConnId). ends (of (slot_seat z.slot) h)) same ∙ ap (λ (z : ℕ). ends (of z h)) (sym f.0) in absurd (omega arith))
  | inr x ↦ x
]))
sound_if_fit s0 h s n (Leave slot) k f = any_none (λ l. l == slot) s.left (λ i l g. elim (cases_Bool (l == slot)) [
  | inl t ↦ absurd (both_ways (has_leave (of n h)) f.1.1 (ap (λ (z : ℕ). has_leave (of z h)) (f.0 ∙ ap slot_seat (sym (eqb-true l slot t))) ∙ k.left i l g))
  | inr x ↦ x
])

pub append_found : {X : Type 0} (xs ys : List X) (i : ℕ) (x : X) → slice_get (xs ++ ys) i ≡ Some x → ((k : ℕ) × (slice_get xs k ≡ Some x)) ⊎ ((k : ℕ) × (slice_get ys k ≡ Some x))
append_found {X} [] ys i x g = inr (i, g)
append_found {X} (z ∷ xs) ys zero x g = inl (0, g)
append_found {X} (z ∷ xs) ys (suc i) x g = elim (append_found xs ys i x g) [ inl a ↦ inl (suc a.0, a.1) | inr a ↦ inr a ]

idle_some : (t : ℕ) (thread : Thread) (lane : ℕ) (kind : Bool) (n : ℕ) → slice_get (some_threads lane kind n) t ≡ Some thread → busy_job thread.doing ≡ None
idle_some t thread lane kind zero g = absurd (none-some thread g)
idle_some zero thread lane kind (suc n) g = ap (λ (z : Thread). busy_job z.doing) (sym (same_Some (record { lane = lane; is_static = kind; started = kind; doing = Free }) thread g))
idle_some (suc t) thread lane kind (suc n) g = idle_some t thread lane kind n g

idle_lanes : (t : ℕ) (thread : Thread) (lane : ℕ) (lanes : List LaneSpec) → slice_get (pool_threads lane lanes) t ≡ Some thread → busy_job thread.doing ≡ None
idle_lanes t thread lane [] g = absurd (none-some thread g)
idle_lanes t thread lane (l ∷ ls) g = elim (append_found (some_threads lane true l.statics ++ some_threads lane false l.dynamics) (pool_threads (lane + 1) ls) t thread g) [
  | inl a ↦ elim (append_found (some_threads lane true l.statics) (some_threads lane false l.dynamics) a.0 thread a.1) [ inl b ↦ idle_some b.0 thread lane true l.statics b.1 | inr b ↦ idle_some b.0 thread lane false l.dynamics b.1 ]
  | inr a ↦ idle_lanes a.0 thread (lane + 1) ls a.1
]

pub known_first : (pool : Pool) (slots per_slot : ℕ) → Known (opening pool slots per_slot) [] (opening pool slots per_slot)
known_first pool slots per_slot = record {
  pool = refl;
  slots = refl;
  threads = refl;
  ended = λ k e g. absurd (none-some e g);
  left = λ k e g. absurd (none-some e g);
  busy = λ t thread g. idle_lanes t thread 0 pool.lanes g;
}

pub known : (s0 : State) (h : History) → Opens s0 → IsLegal s0 h → AreFit s0 h → Known s0 h (replay s0 h)
known s0 h o l f = along s0 (Known s0) (known_step s0 o.can.slots.few_slots (let a = ap (λ (z : State). length z.threads) o.fresh in let b = o.can.well_formed.lanes.few_threads in let c = length-pool_threads 0 s0.pool.lanes in omega arith)) [] h s0
    (subst (λ (z : State). Known z [] z) (sym o.fresh) (known_first s0.pool s0.slots s0.per_slot)) l f

pub enough : (s0 : State) (h : History) (n : ℕ) (call : LaneCall) → Opens s0 → IsLegal s0 h → AreFit s0 h → IsFit s0 n (of n h) call → IsSound (replay s0 h) call
enough s0 h n call o l f fit = sound_if_fit s0 h (replay s0 h) n call (known s0 h o l f) fit
