-- Where each thread was told that all has ended, each admitted request was finished or removed.
use Rattle.std.proofs.Common.{◌≡◌, ℕ, ◌<◌, ◌≤◌, suc, zero, Bool, true, false, ◌||◌, ◌==◌, List, [], ◌∷◌, ◌++◌, length, Option, Some, None, inl, inr, sym, refl, ap, ◌∙◌, subst, arith}
use Rattle.std.specs.Prelude.{slice_get}
use Rattle.std.specs.List.{list_any}
use Rattle.std.proofs.lemmas.Bool.{cases_eq, cases_Bool, and_parts, both_ways, eqb-true}
use Rattle.std.proofs.lemmas.Option.{same_Some}
use Rattle.orb_base.specs.declared.job.Job.{Job}
use Rattle.orb_base.specs.declared.answer.Answer.{Answer}
use Rattle.thread_borrowing.specs.declared.doing.Doing.{Doing}
use Rattle.thread_borrowing.specs.declared.doing.Doing.TheVariants.{Free, Given, Busy}
use Rattle.thread_borrowing.specs.ThreadList.{Thread, is_free, doing, given}
use Rattle.thread_borrowing.proofs.Places.{set_other}
use Rattle.request_buffer.specs.Next.{next_job}
use Rattle.lane_machine.specs.declared.call.LaneCall.{LaneCall}
use Rattle.lane_machine.specs.declared.call.LaneCall.TheVariants.{Offer, Post, Cancel, Take, Finish, Collect, End, Leave}
use Rattle.lane_machine.specs.declared.call.LaneReply.TheVariants as reply
use Rattle.lane_machine.specs.State.{State}
use Rattle.lane_machine.specs.Machine.{step, begun, taken, answered, handed_on, freed, finished, item_place}
use Rattle.lane_machine.specs.Readiness.{is_ready, can_take, can_go_on, all_left, all_below, has_left}
use Rattle.lane_machine.specs.Histories.{History}
use Rattle.lane_machine.specs.Callers.{of, latest, has_leave, IsFit, slot_seat, worker_seat}
use Rattle.lane_machine.specs.Changes.{changes, marks}
use Rattle.lane_machine.specs.Entries.{One, of_mine, of_other, latest_push}
use Rattle.lane_machine.specs.SeatLaws.{Known, collected_busy}

-- slots that all left
lower : (k n : ℕ) → k < suc n → (k ≡ n → ⊥) → k < n
lower k n l d = omega arith

below_at : (passes : ℕ → Bool) (n k : ℕ) → all_below passes n ≡ true → k < n → passes k ≡ true
below_at passes zero k e l = absurd (omega arith)
below_at passes (suc n) k e l = let h = and_parts (passes n) (all_below passes n) e in elim (cases_eq k n) [ inl same ↦ ap passes same ∙ h.0 | inr d ↦ below_at passes n k h.1 (lower k n l d) ]

any_place : {X : Type 0} (p : X → Bool) (xs : List X) → list_any p xs ≡ true → (k : ℕ) × (x : X) × (slice_get xs k ≡ Some x) × (p x ≡ true)
any_place {X} p [] e = absurd (cc)
any_place {X} p (x ∷ xs) e = elim (cases_Bool (p x)) [
  | inl t ↦ (0, x, refl, t)
  | inr f ↦ (let h = any_place p xs (sym (ap (λ (b : Bool). b || list_any p xs) f) ∙ e) in (suc h.0, h.1, h.2, h.3))
]

-- a slot whose call comes did not leave
not_left : (s0 : State) (h : History) (s : State) (slot : ℕ) → Known s0 h s → slot < s0.slots → has_leave (of (slot_seat slot) h) ≡ false → all_left s ≡ true → ⊥
not_left s0 h s slot k l stays left = let a = below_at (has_left s) s.slots slot left (let b = k.slots in omega arith) in let p = any_place (λ x. x == slot) s.left a in
    both_ways (has_leave (of (slot_seat slot) h)) stays (ap (λ (z : ℕ). has_leave (of (slot_seat z) h)) (sym (eqb-true p.1 slot p.3)) ∙ k.left p.0 p.1 p.2)

abbrev FreeAt : List Thread → ℕ → Type 0
FreeAt threads t = (thread : Thread) → slice_get threads t ≡ Some thread → is_free thread.doing ≡ true

-- a thread that was told that all has ended has no task, and no slot is left that could bring one
abbrev pub Rests : State → History → State → Type 0
Rests s0 h s = (t : ℕ) → t < length s0.threads → latest None (of (worker_seat s0.slots t) h) ≡ Some reply.Ended → (all_left s ≡ true) × FreeAt s.threads t

abbrev OthersStay : ℕ → List Thread → List Thread → Type 0
OthersStay t threads threads' = (k : ℕ) → (k ≡ t → ⊥) → slice_get threads' k ≡ slice_get threads k

begun_others : (s : State) (t : ℕ) (thread : Thread) (d : Doing) → OthersStay t s.threads (begun s t thread d).0.threads
begun_others s t thread (Given job) = λ k x. set_other s.threads t k (doing thread (Busy job)) x
begun_others s t thread Free = λ k x. refl
begun_others s t thread (Busy job) = λ k x. refl

taken_others : (s : State) (t : ℕ) (o : Option Thread) → OthersStay t s.threads (taken s t o).0.threads
taken_others s t (Some thread) = begun_others s t thread thread.doing
taken_others s t None = λ k x. refl

handed_on_others : (s : State) (t : ℕ) (thread : Thread) (at : ℕ) (o : Option Job) → OthersStay t s.threads (handed_on s t thread at o).threads
handed_on_others s t thread at (Some job) = λ k x. set_other s.threads t k (given job thread) x
handed_on_others s t thread at None = λ k x. refl

freed_others : (s : State) (t : ℕ) (thread : Thread) (o : Option ℕ) → OthersStay t s.threads (freed s t thread o).threads
freed_others s t thread (Some at) = handed_on_others s t thread at (slice_get s.waiting at)
freed_others s t thread None = λ k x. set_other s.threads t k (doing thread Free) x

finished_others : (s : State) (t : ℕ) (answer : Answer) (o : Option Thread) → OthersStay t s.threads (finished s t answer o).0.threads
finished_others s t answer (Some thread) = freed_others (answered s answer) t thread (next_job s.pool.borrowing thread.lane s.waiting)
finished_others s t answer None = λ k x. refl

finished_says : (s : State) (t : ℕ) (answer : Answer) (o : Option Thread) → (finished s t answer o).1 ≡ reply.Finished
finished_says s t answer (Some thread) = refl
finished_says s t answer None = refl

-- what Ended tells
begun_ended : (s : State) (t : ℕ) (thread : Thread) (d : Doing) → thread.doing ≡ d → slice_get s.threads t ≡ Some thread → can_go_on s d ≡ true → (begun s t thread d).1 ≡ reply.Ended → (all_left s ≡ true) × FreeAt (begun s t thread d).0.threads t
begun_ended s t thread (Given job) p g r e = absurd (cc)
begun_ended s t thread Free p g r e = (r, λ x h. ap (λ (z : Thread). is_free z.doing) (same_Some x thread (sym h ∙ g)) ∙ ap is_free p)
begun_ended s t thread (Busy job) p g r e = absurd (cc)

taken_ended : (s : State) (t : ℕ) (o : Option Thread) → slice_get s.threads t ≡ o → can_take s o ≡ true → (taken s t o).1 ≡ reply.Ended → (all_left s ≡ true) × FreeAt (taken s t o).0.threads t
taken_ended s t (Some thread) g r e = begun_ended s t thread thread.doing refl g r e
taken_ended s t None g r e = absurd (cc)

-- no slot's call comes
slot_rests : (s0 : State) (h : History) (s s' : State) (e : One) (slot : ℕ) → Known s0 h s → slot < s0.slots → e.caller ≡ slot_seat slot → has_leave (of e.caller h) ≡ false → Rests s0 h s → Rests s0 (h ++ e ∷ []) s'
slot_rests s0 h s s' e slot k l c stays rests t in_pool last = absurd (not_left s0 h s slot k l (ap (λ (z : ℕ). has_leave (of z h)) (sym c) ∙ stays)
    (rests t in_pool (ap (latest None) (sym (of_other (worker_seat s0.slots t) h e (λ (q : e.caller ≡ worker_seat s0.slots t). let z = c in let x : e.caller ≡ worker_seat s0.slots t = q in omega arith))) ∙ last)).0)

worker_rests : (s0 : State) (h : History) (s s' : State) (e : One) (i : ℕ) → e.caller ≡ worker_seat s0.slots i → all_left s' ≡ all_left s → OthersStay i s.threads s'.threads → (e.reply ≡ reply.Ended → (all_left s ≡ true) × FreeAt s'.threads i)
    → Rests s0 h s → Rests s0 (h ++ e ∷ []) s'
worker_rests s0 h s s' e i c left others here rests t in_pool last = elim (cases_eq t i) [
  | inl same ↦ (let r : e.reply ≡ reply.Ended = same_Some e.reply reply.Ended (sym (latest_push None (of (worker_seat s0.slots i) h) e) ∙ (ap (latest None) (sym (of_mine (worker_seat s0.slots i) h e c)) ∙ (ap (λ (z : ℕ). latest None (of (worker_seat s0.slots z) (h ++ e ∷ []))) (sym same) ∙ last))) in
      let x = here r in (left ∙ x.0, subst (FreeAt s'.threads) (sym same) x.1))
  | inr differs ↦ (let r = rests t in_pool (ap (latest None) (sym (of_other (worker_seat s0.slots t) h e (λ (q : e.caller ≡ worker_seat s0.slots t). differs (let z = c in let x : e.caller ≡ worker_seat s0.slots t = q in omega arith)))) ∙ last) in
      (left ∙ r.0, λ thread g. r.1 thread (sym (others t differs) ∙ g)))
]

same_left : (s s' : State) → s'.left ≡ s.left → s'.slots ≡ s.slots → all_left s' ≡ all_left s
same_left s s' a b = λ i. all_below (λ slot. list_any (λ l. l == slot) (a i)) (b i)

pub rests_step : (s0 : State) (h : History) (s : State) (e : One) (call : LaneCall) → s0.slots ≤ 16 → length s0.threads ≤ 64 → Known s0 h s → is_ready s call ≡ true → e.reply ≡ (step s call).1 → IsFit s0 e.caller (of e.caller h) call → Rests s0 h s → Rests s0 (h ++ e ∷ []) (step s call).0
rests_step s0 h s e (Offer job) few many k r w f rests = slot_rests s0 h s (step s (Offer job)).0 e job.conn.slot k f.1.0.slot f.0 f.1.0.stays rests
rests_step s0 h s e (Post notice) few many k r w f rests = slot_rests s0 h s (step s (Post notice)).0 e notice.conn.slot k f.1.0.slot f.0 f.1.0.stays rests
rests_step s0 h s e (Cancel conn id) few many k r w f rests = slot_rests s0 h s (step s (Cancel conn id)).0 e conn.slot k f.1.0.slot f.0 f.1.0.stays rests
rests_step s0 h s e (Take t) few many k r w f rests = let m = marks s (Take t) in worker_rests s0 h s (step s (Take t)).0 e t f.0 (same_left s (step s (Take t)).0 m.1 (changes s (Take t)).1) (taken_others s t (slice_get s.threads t))
    (λ q. taken_ended s t (slice_get s.threads t) refl r (sym w ∙ q)) rests
rests_step s0 h s e (Finish t answer) few many k r w f rests = let m = marks s (Finish t answer) in worker_rests s0 h s (step s (Finish t answer)).0 e t f.0 (same_left s (step s (Finish t answer)).0 m.1 (changes s (Finish t answer)).1) (finished_others s t answer (slice_get s.threads t))
    (λ q. let x : reply.Finished ≡ reply.Ended = sym (finished_says s t answer (slice_get s.threads t)) ∙ (sym w ∙ q) in absurd (cc)) rests
rests_step s0 h s e (Collect conn) few many k r w f rests = λ t in_pool last. (let m = marks s (Collect conn) in let x = rests t in_pool (ap (latest None) (sym (of_other (worker_seat s0.slots t) h e (λ (q : e.caller ≡ worker_seat s0.slots t). let z = f.0 in let y : e.caller ≡ worker_seat s0.slots t = q in omega arith))) ∙ last) in
    (same_left s (step s (Collect conn)).0 m.1 (changes s (Collect conn)).1 ∙ x.0, subst (λ (z : List Thread). FreeAt z t) (sym (collected_busy s conn (item_place s conn))) x.1))
rests_step s0 h s e (End conn how) few many k r w f rests = slot_rests s0 h s (step s (End conn how)).0 e conn.slot k f.1.slot f.0 f.1.stays rests
rests_step s0 h s e (Leave slot) few many k r w f rests = slot_rests s0 h s (step s (Leave slot)).0 e slot k f.1.0 f.0 f.1.1 rests
