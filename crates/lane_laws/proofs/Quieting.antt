-- A connection to which a collect has answered that nothing comes any more is owed nothing, and stays so.
use Rattle.std.proofs.Common.{◌≡◌, ℕ, ◌+◌, ◌*◌, ◌<◌, ◌≤◌, suc, zero, Bool, true, false, cond, ◌&&◌, ◌||◌, ◌==◌, List, [], ◌∷◌, ◌++◌, length, Option, Some, None, inl, inr, ◌⊎◌, sym, refl, ap, ◌∙◌, subst, arith}
use Rattle.std.specs.Prelude.{slice_get, is_some, option_map, find, nat_le, nat_lt}
use Rattle.std.specs.List.{sum_by}
use Rattle.std.proofs.lemmas.Bool.{cases_eq, cases_Bool, and_parts, or_cases, eqb-true}
use Rattle.std.proofs.lemmas.Option.{none-some}
use Rattle.std.proofs.lemmas.List.Sums.{sum_by-cons}
use Rattle.std.proofs.Math.Nat.{suc-mul}
use Rattle.orb_base.specs.Conn.{same_conn}
use Rattle.orb_base.specs.declared.conn_id.ConnId.{ConnId}
use Rattle.orb_base.specs.declared.answer.Answer.{Answer}
use Rattle.orb_base.specs.declared.due.Due.{Due}
use Rattle.orb_base.specs.declared.due.Due.TheVariants as due
use Rattle.orb_base.specs.declared.item.Item.{Item}
use Rattle.orb_base.specs.declared.item.Item.TheVariants as item
use Rattle.orb_base.specs.declared.job.Job.{Job}
use Rattle.thread_borrowing.specs.declared.doing.Doing.{Doing}
use Rattle.thread_borrowing.specs.declared.doing.Doing.TheVariants.{Free, Given, Busy}
use Rattle.thread_borrowing.specs.ThreadList.{Thread}
use Rattle.thread_borrowing.proofs.Places.{at_place}
use Rattle.thread_borrowing.proofs.Growing.{length-pool_threads}
use Rattle.request_buffer.specs.Next.{next_job}
use Rattle.lane_machine.specs.declared.call.How.{How}
use Rattle.lane_machine.specs.declared.call.How.TheVariants as how
use Rattle.lane_machine.specs.declared.call.LaneCall.{LaneCall}
use Rattle.lane_machine.specs.declared.call.LaneCall.TheVariants.{Offer, Post, Cancel, Take, Finish, Collect, End, Leave}
use Rattle.lane_machine.specs.declared.call.LaneReply.{LaneReply}
use Rattle.lane_machine.specs.declared.call.LaneReply.TheVariants as reply
use Rattle.lane_machine.specs.State.{State, Opens}
use Rattle.lane_machine.specs.Machine.{step, is_over, offered, posted, cancelled, begun, taken, answered, handed_on, freed, finished, handed, shut, over, collected, item_place, item_conn, end_of, was_told, early_items, refusals, late_items}
use Rattle.lane_machine.specs.Readiness.{is_ready, IsSound, owed}
use Rattle.lane_machine.specs.Histories.{History, replay, IsLegal}
use Rattle.lane_machine.specs.Callers.{of, latest, ends, may_collect, slot_seat, writer_seat, IsFit, AreFit}
use Rattle.lane_machine.specs.Fates.{named}
use Rattle.lane_machine.specs.Entries.{One, of_mine, of_other, latest_push, ends_grow, along}
use Rattle.lane_machine.specs.SeatLaws.{Known, known_step, known_first, conn_is}
use Rattle.lane_machine.proofs.Weighs.{weigh, OfferMoves, PostMoves, CancelMoves, TakeMoves, CollectMoves, offer_moves, post_moves, cancel_moves, take_moves, finish_moves, collect_moves}
use Rattle.lane_machine.proofs.Bounds.{owing, owed_is, early_few, refused_few, late_few}
use Rattle.lane_laws.specs.Replies.{replies_to, handed_replies, finished_awaited}
use Rattle.lane_laws.proofs.Replying.{replies_counted}

-- ---- no call of another brings more

offer_other : (conn : ConnId) (job : Job) (a b : ℕ) (r : LaneReply) → (owing conn).waits job ≡ 0 → OfferMoves (owing conn) job a b r → b ≤ a
offer_other conn job a b (reply.Run t lent) z m = omega (arith, early_few conn job.due job)
offer_other conn job a b reply.Kept z m = omega (arith, early_few conn job.due job)
offer_other conn job a b reply.Full z m = omega (arith, refused_few conn job.due job)
offer_other conn job a b reply.Closing z m = omega arith
offer_other conn job a b r z m = absurd m

post_other : (conn : ConnId) (i : Item) (a b : ℕ) (r : LaneReply) → (owing conn).owes i ≡ 0 → PostMoves (owing conn) i a b r → b ≤ a
post_other conn i a b reply.Posted z m = omega arith
post_other conn i a b reply.Closing z m = omega arith
post_other conn i a b r z m = absurd m

cancel_less : (conn : ConnId) (waiting : List Job) (c : ConnId) (id a b : ℕ) (r : LaneReply) → CancelMoves (owing conn) waiting c id a b r → b ≤ a
cancel_less conn waiting c id a b reply.Removed m = let e = m.2 in omega arith
cancel_less conn waiting c id a b reply.Nothing m = omega arith
cancel_less conn waiting c id a b reply.Closing m = omega arith
cancel_less conn waiting c id a b r m = absurd m

take_less : (conn : ConnId) (a b : ℕ) (r : LaneReply) → TakeMoves (owing conn) a b r → b ≤ a
take_less conn a b (reply.Given job) m = omega arith
take_less conn a b reply.Ended m = omega arith
take_less conn a b r m = absurd m

collect_less : (conn : ConnId) (a b : ℕ) (r : LaneReply) → CollectMoves (owing conn) a b r → b ≤ a
collect_less conn a b (reply.Handed i) m = omega arith
collect_less conn a b reply.Close m = omega arith
collect_less conn a b reply.Error m = omega arith
collect_less conn a b reply.Done m = omega arith
collect_less conn a b r m = absurd m

-- ---- closing stays

over_closing : (s : State) (size : ℕ) → s.closing ≡ true → is_over s size ≡ true
over_closing s size e = ap (λ (b : Bool). b || nat_le s.pool.run_calls s.calls || nat_lt s.pool.run_bytes (s.bytes + size)) e

pub begun_closing : (s : State) (t : ℕ) (thread : Thread) (d : Doing) → (begun s t thread d).0.closing ≡ s.closing
begun_closing s t thread Free = refl
begun_closing s t thread (Given job) = refl
begun_closing s t thread (Busy job) = refl

pub taken_closing : (s : State) (t : ℕ) (o : Option Thread) → (taken s t o).0.closing ≡ s.closing
taken_closing s t (Some thread) = begun_closing s t thread thread.doing
taken_closing s t None = refl

pub handed_on_closing : (s : State) (t : ℕ) (thread : Thread) (at : ℕ) (o : Option Job) → (handed_on s t thread at o).closing ≡ s.closing
handed_on_closing s t thread at (Some job) = refl
handed_on_closing s t thread at None = refl

pub freed_closing : (s : State) (t : ℕ) (thread : Thread) (o : Option ℕ) → (freed s t thread o).closing ≡ s.closing
freed_closing s t thread (Some at) = handed_on_closing s t thread at (slice_get s.waiting at)
freed_closing s t thread None = refl

pub finished_closing : (s : State) (t : ℕ) (answer : Answer) (o : Option Thread) → (finished s t answer o).0.closing ≡ s.closing
finished_closing s t answer (Some thread) = freed_closing (answered s answer) t thread (next_job s.pool.borrowing thread.lane s.waiting)
finished_closing s t answer None = refl

pub handed_closing : (s : State) (at : ℕ) (o : Option Item) → (handed s at o).0.closing ≡ s.closing
handed_closing s at (Some i) = refl
handed_closing s at None = refl

pub shut_closing : (s : State) (conn : ConnId) (b : Bool) → (shut s conn b).0.closing ≡ s.closing
shut_closing s conn true = refl
shut_closing s conn false = refl

ended_closing : (s : State) (conn : ConnId) (o : Option How) → (over s conn o).0.closing ≡ s.closing
ended_closing s conn (Some how.Bad) = refl
ended_closing s conn (Some how.Shut) = refl
ended_closing s conn (Some how.Quiet) = refl
ended_closing s conn None = shut_closing s conn (was_told s conn)

collected_closing : (s : State) (conn : ConnId) (o : Option ℕ) → (collected s conn o).0.closing ≡ s.closing
collected_closing s conn (Some at) = handed_closing s at (slice_get s.out at)
collected_closing s conn None = ended_closing s conn (end_of s conn)

-- ---- what a told connection is owed

-- it was told that nothing comes any more
abbrev WasTold : History → ConnId → Type 0
WasTold h conn = may_collect (latest None (of (writer_seat conn) h)) ≡ false

-- none of its calls comes, or the run is closing
abbrev IsOver : History → State → ConnId → Type 0
IsOver h s conn = (conn.nth < ends (of (slot_seat conn.slot) h)) ⊎ (s.closing ≡ true)

abbrev IsQuiet : History → State → ConnId → Type 0
IsQuiet h s conn = WasTold h conn → (weigh (owing conn) s ≡ 0) × IsOver h s conn

over_stays : (h : History) (e : One) (s s' : State) (conn : ConnId) → (s.closing ≡ true → s'.closing ≡ true) → IsOver h s conn → IsOver (h ++ e ∷ []) s' conn
over_stays h e s s' conn closing (inl n) = inl (let b = ends_grow (slot_seat conn.slot) h e in omega arith)
over_stays h e s s' conn closing (inr c) = inr (closing c)

told_before : (h : History) (e : One) (conn : ConnId) → (e.caller ≡ writer_seat conn → ⊥) → WasTold (h ++ e ∷ []) conn → WasTold h conn
told_before h e conn other told = ap (λ (z : History). may_collect (latest None z)) (sym (of_other (writer_seat conn) h e other)) ∙ told

-- a call that brings it nothing
quiet_stays : (h : History) (e : One) (s s' : State) (conn : ConnId) → (e.caller ≡ writer_seat conn → ⊥) → weigh (owing conn) s' ≤ weigh (owing conn) s → (s.closing ≡ true → s'.closing ≡ true)
    → IsQuiet h s conn → IsQuiet (h ++ e ∷ []) s' conn
quiet_stays h e s s' conn other less closing quiet told =
    let k = quiet (told_before h e conn other told) in let a = k.0 in
    (omega arith, over_stays h e s s' conn closing k.1)

-- a call of a connection that its slot reads
reading_stays : (h : History) (e : One) (s s' : State) (c conn : ConnId) → e.caller ≡ slot_seat c.slot → c.slot < 16 → c.nth ≡ ends (of e.caller h)
    → (s.closing ≡ true → weigh (owing conn) s' ≡ weigh (owing conn) s) → (same_conn c conn ≡ false → weigh (owing conn) s' ≤ weigh (owing conn) s) → (s.closing ≡ true → s'.closing ≡ true)
    → IsQuiet h s conn → IsQuiet (h ++ e ∷ []) s' conn
reading_stays h e s s' c conn seat few next same_so less closing quiet told =
    let k = quiet (told_before h e conn (λ (q : e.caller ≡ writer_seat conn). let z = seat in omega arith) told) in let nothing = k.0 in
    elim (cases_Bool (same_conn c conn)) [
      | inl t ↦ elim k.1 [
        | inl n ↦ absurd (
            let same = conn_is c conn t in
            let a : c.nth ≡ conn.nth = ap (λ (z : ConnId). z.nth) same in
            let b : ends (of e.caller h) ≡ ends (of (slot_seat conn.slot) h) = ap (λ (z : ℕ). ends (of z h)) seat ∙ ap (λ (z : ConnId). ends (of (slot_seat z.slot) h)) same in omega arith)
        | inr c ↦ (same_so c ∙ nothing, inr (closing c))
      ]
      | inr f ↦ (let a = less f in omega arith, over_stays h e s s' conn closing k.1)
    ]

no_weight : (c conn : ConnId) → same_conn c conn ≡ false → ◌≡◌ {A = ℕ} (cond (same_conn c conn) 1 0) 0
no_weight c conn f = ap (λ (b : Bool). cond {A = ℕ} b 1 0) f

-- an end that is there was made
found : {X Y : Type 0} (f : X → Y) (p : X → Bool) (xs : List X) → is_some (option_map f (find p xs)) ≡ true → (k : ℕ) × (x : X) × (slice_get xs k ≡ Some x) × (p x ≡ true)
found {X} {Y} f p [] e = absurd (cc)
found {X} {Y} f p (x ∷ xs) e = elim (cases_Bool (p x)) [
  | inl t ↦ (0, x, refl, t)
  | inr n ↦ (let h = found f p xs (sym (ap (λ (b : Bool). is_some (option_map f (cond b (Some x) (find p xs)))) n) ∙ e) in (suc h.0, h.1, h.2, h.3))
]

ended_before : (s0 : State) (h : History) (s : State) (conn : ConnId) → Known s0 h s → is_some (end_of s conn) ≡ true → conn.nth < ends (of (slot_seat conn.slot) h)
ended_before s0 h s conn k e =
    let x = found (λ (z : ConnId × How). z.1) (λ (z : ConnId × How). same_conn z.0 conn) s.ended e in
    subst (λ (z : ConnId). z.nth < ends (of (slot_seat z.slot) h)) (conn_is x.1.0 conn x.3) (k.ended x.0 x.1 x.2)

handed_more : (s : State) (at : ℕ) (o : Option Item) → (i : Item) → o ≡ Some i → may_collect (Some (handed s at o).1) ≡ false → ⊥
handed_more s at (Some x) i e told = absurd (cc)
handed_more s at None i e told = none-some i e

-- a collect answers so only where nothing is owed
told_at : (s : State) (c : ConnId) (o : Option ℕ) → item_place s c ≡ o → (is_some o || ((owed s c == 0) && (is_some (end_of s c) || s.closing))) ≡ true → may_collect (Some (collected s c o).1) ≡ false
    → (owed s c ≡ 0) × ((is_some (end_of s c) || s.closing) ≡ true)
told_at s c (Some at) e r told = let x = at_place (λ (i : Item). same_conn (item_conn i) c) s.out at e in absurd (handed_more s at (slice_get s.out at) x.0 x.1 told)
told_at s c None e r told = let h = and_parts (owed s c == 0) (is_some (end_of s c) || s.closing) r in (eqb-true (owed s c) 0 h.0, h.1)

seats_apart : (a b : ConnId) → a.nth < 128 → b.nth < 128 → writer_seat a ≡ writer_seat b → a ≡ b
seats_apart a b x y e = let s : a.slot ≡ b.slot = omega arith in let n : a.nth ≡ b.nth = omega arith in λ i. record { slot = s i; nth = n i }

-- its own writing side collects
own_collect : (s0 : State) (h : History) (e : One) (s : State) (c conn : ConnId) → Known s0 h s → is_ready s (Collect c) ≡ true → e.reply ≡ (step s (Collect c)).1 → e.caller ≡ writer_seat conn → c ≡ conn → weigh (owing conn) (step s (Collect c)).0 ≤ weigh (owing conn) s
    → IsQuiet (h ++ e ∷ []) (step s (Collect c)).0 conn
own_collect s0 h e s c conn k r w seat same less told =
    let last : may_collect (Some e.reply) ≡ false = ap may_collect (sym (latest_push None (of (writer_seat conn) h) e)) ∙ (ap (λ (z : History). may_collect (latest None z)) (sym (of_mine (writer_seat conn) h e seat)) ∙ told) in
    let t = told_at s c (item_place s c) refl r (ap (λ (z : LaneReply). may_collect (Some z)) (sym w) ∙ last) in
    let none : weigh (owing conn) s ≡ 0 = sym (owed_is s conn) ∙ (ap (owed s) (sym same) ∙ t.0) in (
      omega arith,
      elim (or_cases (is_some (end_of s c)) s.closing t.1) [
        | inl x ↦ inl (let a = ended_before s0 h s conn k (ap (λ (z : ConnId). is_some (end_of s z)) (sym same) ∙ x) in let b = ends_grow (slot_seat conn.slot) h e in omega arith)
        | inr x ↦ inr (collected_closing s c (item_place s c) ∙ x)
      ],
    )

quiet_step : (s0 : State) → s0.slots ≤ 16 → s0.per_slot ≤ 128 → length s0.threads ≤ 64 → (h : History) (s : State) (e : One) (call : LaneCall) → Known s0 h s → is_ready s call ≡ true → IsSound s call → e.reply ≡ (step s call).1 → IsFit s0 e.caller (of e.caller h) call
    → (conn : ConnId) → conn.nth < s0.per_slot → IsQuiet h s conn → IsQuiet (h ++ e ∷ []) (step s call).0 conn
quiet_step s0 few per many h s e (Offer job) k r q w f conn n quiet =
    let slot = f.1.0.slot in
    reading_stays h e s (step s (Offer job)).0 job.conn conn f.0 (omega arith) f.1.0.next
    (λ c. ap (λ (b : Bool). weigh (owing conn) (offered s job b).0) (over_closing s job.size c))
    (λ x. offer_other conn job (weigh (owing conn) s) (weigh (owing conn) (step s (Offer job)).0) (step s (Offer job)).1 (no_weight job.conn conn x) (offer_moves (owing conn) s job (is_over s job.size)))
    (λ c. ap (λ (b : Bool). (offered s job b).0.closing) (over_closing s job.size c)) quiet
quiet_step s0 few per many h s e (Post notice) k r q w f conn n quiet =
    let slot = f.1.0.slot in
    reading_stays h e s (step s (Post notice)).0 notice.conn conn f.0 (omega arith) f.1.0.next
    (λ c. ap (λ (b : Bool). weigh (owing conn) (posted s (item.Noticed notice) b).0) (over_closing s 0 c))
    (λ x. post_other conn (item.Noticed notice) (weigh (owing conn) s) (weigh (owing conn) (step s (Post notice)).0) (step s (Post notice)).1 (no_weight notice.conn conn x) (post_moves (owing conn) s (item.Noticed notice) (is_over s 0)))
    (λ c. ap (λ (b : Bool). (posted s (item.Noticed notice) b).0.closing) (over_closing s 0 c)) quiet
quiet_step s0 few per many h s e (Cancel c id) k r q w f conn n quiet =
    let slot = f.1.0.slot in
    quiet_stays h e s (step s (Cancel c id)).0 conn (λ (x : e.caller ≡ writer_seat conn). let z = f.0 in omega arith)
    (cancel_less conn s.waiting c id (weigh (owing conn) s) (weigh (owing conn) (step s (Cancel c id)).0) (step s (Cancel c id)).1 (cancel_moves (owing conn) s c id (is_over s 0)))
    (λ x. ap (λ (b : Bool). (cancelled s c id b).0.closing) (over_closing s 0 x)) quiet
quiet_step s0 few per many h s e (Take t) k r q w f conn n quiet =
    let place = f.1.0 in
    quiet_stays h e s (step s (Take t)).0 conn (λ (x : e.caller ≡ writer_seat conn). let z = f.0 in omega arith)
    (take_less conn (weigh (owing conn) s) (weigh (owing conn) (step s (Take t)).0) (step s (Take t)).1 (take_moves (owing conn) s t))
    (λ x. taken_closing s t (slice_get s.threads t) ∙ x) quiet
quiet_step s0 few per many h s e (Finish t answer) k r q w f conn n quiet =
    let place = f.1.0 in
    quiet_stays h e s (step s (Finish t answer)).0 conn (λ (x : e.caller ≡ writer_seat conn). let z = f.0 in omega arith)
    (let m = finish_moves (owing conn) s t answer q in let l = late_few conn answer.job.due answer in omega arith)
    (λ x. finished_closing s t answer (slice_get s.threads t) ∙ x) quiet
quiet_step s0 few per many h s e (Collect c) k r q w f conn n quiet =
    let less = collect_less conn (weigh (owing conn) s) (weigh (owing conn) (step s (Collect c)).0) (step s (Collect c)).1 (collect_moves (owing conn) s c) in
    elim (cases_eq e.caller (writer_seat conn)) [
      | inl seat ↦ own_collect s0 h e s c conn k r w seat (let m = f.1.1 in seats_apart c conn (omega arith) (omega arith) (sym f.0 ∙ seat)) less
      | inr other ↦ quiet_stays h e s (step s (Collect c)).0 conn other less (λ x. collected_closing s c (item_place s c) ∙ x) quiet
    ]
quiet_step s0 few per many h s e (End c way) k r q w f conn n quiet =
    let slot = f.1.slot in
    quiet_stays h e s (step s (End c way)).0 conn (λ (x : e.caller ≡ writer_seat conn). let z = f.0 in omega arith) (omega arith) (λ x. x) quiet
quiet_step s0 few per many h s e (Leave slot) k r q w f conn n quiet =
    let place = f.1.0 in
    quiet_stays h e s (step s (Leave slot)).0 conn (λ (x : e.caller ≡ writer_seat conn). let z = f.0 in omega arith) (omega arith) (λ x. x) quiet

record Quiets (s0 : State) (h : History) (s : State) : Type 0 where
  knows : Known s0 h s
  quiet : (conn : ConnId) → conn.nth < s0.per_slot → IsQuiet h s conn

few_threads : (s0 : State) → Opens s0 → length s0.threads ≤ 64
few_threads s0 o = let a = ap (λ (z : State). length z.threads) o.fresh in let b = o.can.well_formed.lanes.few_threads in let c = length-pool_threads 0 s0.pool.lanes in omega arith

per_few : (slots per : ℕ) → 1 ≤ slots → per ≤ slots * per
per_few zero per l = absurd (omega arith)
per_few (suc n) per l = let a = suc-mul n per in omega arith

few_conns : (s0 : State) → Opens s0 → s0.per_slot ≤ 128
few_conns s0 o = let a = per_few s0.slots s0.per_slot o.can.slots.some_slot in let b = o.can.slots.few_connections in omega arith

quiets_step : (s0 : State) → Opens s0 → (h : History) (s : State) (e : One) → Quiets s0 h s → is_ready s e.call ≡ true → IsSound s e.call → e.reply ≡ (step s e.call).1 → IsFit s0 e.caller (of e.caller h) e.call → Quiets s0 (h ++ e ∷ []) (step s e.call).0
quiets_step s0 o h s e d r q w f = record {
  knows = known_step s0 o.can.slots.few_slots (few_threads s0 o) h s e d.knows r q w f;
  quiet = λ conn n. quiet_step s0 o.can.slots.few_slots (few_conns s0 o) (few_threads s0 o) h s e e.call d.knows r q w f conn n (d.quiet conn n);
}

quiets_first : (s0 : State) → Opens s0 → Quiets s0 [] s0
quiets_first s0 o = record {
  knows = subst (λ (z : State). Known z [] z) (sym o.fresh) (known_first s0.pool s0.slots s0.per_slot);
  quiet = λ conn n told. absurd (cc);
}

pub told_nothing_owed : (s0 : State) (h : History) (conn : ConnId) → Opens s0 → IsLegal s0 h → AreFit s0 h → conn.nth < s0.per_slot → WasTold h conn → owed (replay s0 h) conn ≡ 0
told_nothing_owed s0 h conn o l f n told =
    owed_is (replay s0 h) conn ∙ ((along s0 (Quiets s0) (quiets_step s0 o) [] h s0 (quiets_first s0 o) l f).quiet conn n told).0

-- ---- so each finished request has had its reply

one_few : (b : Bool) → cond {A = ℕ} b 1 0 ≤ 1
one_few true = omega arith
one_few false = omega arith

named_few : (conn : ConnId) (serial : ℕ) (job : Job) → named conn serial job ≤ 1
named_few conn serial job = one_few (same_conn job.conn conn && (job.serial == serial))

reply_few : (conn : ConnId) (serial : ℕ) (i : Item) → replies_to conn serial i ≤ (owing conn).owes i
reply_few conn serial (item.Answered answer) = elim (cases_Bool (same_conn answer.job.conn conn)) [
  | inl t ↦ (let a : (owing conn).owes (item.Answered answer) ≡ 1 = ap (λ (b : Bool). cond {A = ℕ} b 1 0) t in let b = named_few conn serial answer.job in omega arith)
  | inr x ↦ (let a : named conn serial answer.job ≡ 0 = ap (λ (b : Bool). cond {A = ℕ} (b && (answer.job.serial == serial)) 1 0) x in omega arith)
]
reply_few conn serial (item.Early job) = omega arith
reply_few conn serial (item.Transient job) = omega arith
reply_few conn serial (item.Noticed notice) = omega arith

sums_few : (f g : Item → ℕ) → ((i : Item) → f i ≤ g i) → (xs : List Item) → sum_by f xs ≤ sum_by g xs
sums_few f g less [] = omega arith
sums_few f g less (x ∷ xs) = let a = sums_few f g less xs in let b = less x in let c = sum_by-cons f x xs in let d = sum_by-cons g x xs in omega arith

pub all_replied : (conn : ConnId) (serial : ℕ) (s : State) (h : History) → Opens s → IsLegal s h → AreFit s h → conn.nth < s.per_slot → WasTold h conn → handed_replies conn serial h ≡ finished_awaited conn serial h
all_replied conn serial s h o l f n told =
    let a = replies_counted conn serial s h o l in
    let b : weigh (owing conn) (replay s h) ≡ 0 = sym (owed_is (replay s h) conn) ∙ told_nothing_owed s h conn o l f n told in
    let c = sums_few (replies_to conn serial) (owing conn).owes (reply_few conn serial) (replay s h).out in omega arith
