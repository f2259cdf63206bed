-- The history that is read back from the lines of a legal history is its plain form.
use Rattle.std.proofs.Common.{◌≡◌, ℕ, ◌+◌, ◌≤◌, Bool, true, false, ◌==◌, List, [], ◌∷◌, ◌++◌, Option, Some, None, inl, inr, refl, sym, ap, subst, ◌∙◌, arith, eq-eqb}
use Rattle.std.specs.Prelude.{map, slice_get, position, if◌then◌else◌}
use Rattle.std.proofs.lemmas.Bool.{cases_Bool, and_parts, and_from, eqb-true}
use Rattle.std.proofs.lemmas.List.{map-append}
use Rattle.std.proofs.lemmas.List.Sums.{sum_by-cons, sum_by_push}
use Rattle.std.proofs.lemmas.Option.{same_Some}
use Rattle.orb_base.specs.Conn.{same_conn}
use Rattle.orb_base.specs.Outcomes.{body_len}
use Rattle.orb_base.specs.declared.answer.Answer.{Answer}
use Rattle.orb_base.specs.declared.conn_id.ConnId.{ConnId}
use Rattle.orb_base.specs.declared.item.Item.{Item}
use Rattle.orb_base.specs.declared.item.Item.TheVariants as item
use Rattle.orb_base.specs.declared.job.Job.{Job}
use Rattle.thread_borrowing.specs.declared.doing.Doing.{Doing}
use Rattle.thread_borrowing.specs.declared.doing.Doing.TheVariants.{Free, Given, Busy}
use Rattle.thread_borrowing.specs.ThreadList.{Thread, job_of}
use Rattle.thread_borrowing.specs.Choice.{chosen_thread}
use Rattle.request_buffer.specs.Kept.{may_cancel}
use Rattle.lane_machine.specs.State.{State}
use Rattle.lane_machine.specs.Machine.{step, is_over, heard, offered, placed, run_by, kept_or_full, may_wait, posted, cancelled, withdrawn, taken, begun, collected, handed, over, shut, item_place, item_conn, end_of, was_told}
use Rattle.lane_machine.specs.Machine as machine
use Rattle.lane_machine.specs.Readiness.{IsSound, IsBusyWith}
use Rattle.lane_machine.specs.Histories.{History, IsLegal}
use Rattle.lane_machine.specs.declared.call.How.{How}
use Rattle.lane_machine.specs.declared.call.How.TheVariants as how
use Rattle.lane_machine.specs.declared.call.LaneCall.{LaneCall}
use Rattle.lane_machine.specs.declared.call.LaneCall.TheVariants.{Offer, Post, Cancel, Take, Finish, Collect, End, Leave}
use Rattle.lane_machine.specs.declared.call.LaneReply.{LaneReply}
use Rattle.lane_machine.specs.declared.call.LaneReply.TheVariants as reply
use Rattle.lane_machine.specs.Entries.{One}
use Rattle.trace_lines.specs.declared.trace_line.TraceLine.{TraceLine}
use Rattle.trace_lines.specs.Offers.{offers, number, NoNameTwice}
use Rattle.trace_lines.specs.Lines.{line_of, action_of, offer_reply_of, run_as, post_reply_of, cancel_reply_of, task_of, handed_of, collect_reply_of}
use Rattle.trace_lines.specs.Offers as offers_of
use Rattle.trace_lines.specs.ReadBack.{notice_of, answer_of, with_job, finish_by, given_by, handed_by, reply_of_offer, reply_of_post, reply_of_cancel, call_by, reply_by, entries_after, last_len, len_after}
use Rattle.trace_lines.specs.Plain.{plain, plain_item, plain_call, plain_reply, plain_entry}
use Rattle.lane_machine.specs.SeatLaws.{conn_is}
use Rattle.lane_machine.specs.Fates.{named, finishes, finished}
use Rattle.thread_borrowing.proofs.Places.{at_place}
use Rattle.lane_machine.proofs.Known.{AreKnown, If, Offers, step_known, IsTaken, taken_takes}
use Rattle.trace_lines.proofs.Items.{NewBy, step_out}
use Rattle.trace_lines.proofs.Offered.{Among, AllAmong, plain_there, one_number, offered_parts, conn_itself}

last_push : (k len : ℕ) (ls : List TraceLine) (l : TraceLine) → last_len k len (ls ++ l ∷ []) ≡ len_after k (last_len k len ls) l.action
last_push k len [] l = refl
last_push k len (x ∷ xs) l = last_push k (len_after k len x.action) xs l

pub named_itself : (job : Job) → named job.conn job.serial job ≡ 1
named_itself job = ap (λ (b : Bool). if b then 1 else 0) (and_from (same_conn job.conn job.conn) (job.serial == job.serial) (conn_itself job.conn) (eq-eqb job.serial job.serial refl))

-- the replies to an Offer, a Post and a Cancel are read back as they are
run_back_as : (t : ℕ) (lent : Bool) → reply_of_offer (run_as t lent) ≡ reply.Run t lent
run_back_as t true = refl
run_back_as t false = refl

abbrev ReadsBack : LaneReply → Type 0
ReadsBack r = reply_of_offer (offer_reply_of r) ≡ plain_reply r

run_back : (s : State) (job : Job) (t : ℕ) (o : Option Thread) → ReadsBack (run_by s job t o).1
run_back s job t (Some thread) = run_back_as t _
run_back s job t None = refl

kept_back : (s : State) (job : Job) (b : Bool) → ReadsBack (kept_or_full s job b).1
kept_back s job true = refl
kept_back s job false = refl

placed_back : (s : State) (job : Job) (o : Option ℕ) → ReadsBack (placed s job o).1
placed_back s job (Some t) = run_back s job t (slice_get s.threads t)
placed_back s job None = kept_back s job (may_wait s.pool s.waiting job)

offer_back : (s : State) (job : Job) (b : Bool) → ReadsBack (offered s job b).1
offer_back s job true = refl
offer_back s job false = placed_back (heard s job.size) job (chosen_thread s.pool.borrowing job.lane s.threads)

post_back : (s : State) (i : Item) (b : Bool) → reply_of_post (post_reply_of (posted s i b).1) ≡ plain_reply (posted s i b).1
post_back s i true = refl
post_back s i false = refl

withdrawn_back : (s : State) (o : Option ℕ) → reply_of_cancel (cancel_reply_of (withdrawn s o).1) ≡ plain_reply (withdrawn s o).1
withdrawn_back s (Some at) = refl
withdrawn_back s None = refl

cancel_back : (s : State) (conn : ConnId) (id : ℕ) (b : Bool) → reply_of_cancel (cancel_reply_of (cancelled s conn id b).1) ≡ plain_reply (cancelled s conn id b).1
cancel_back s conn id true = refl
cancel_back s conn id false = withdrawn_back (heard s 0) (position (may_cancel conn id) s.waiting)

module _ (jobs : List Job) (apart : NoNameTwice jobs) where
  abbrev pub Said : History → List TraceLine
  Said before = map (line_of (number jobs)) before

  -- what is known of an item that is owed
  abbrev pub KnownItem : History → Item → Type 0
  KnownItem before (item.Answered a) = Among jobs a.job × (1 ≤ finished a.job.conn a.job.serial before) × (last_len (number jobs a.job) 0 (Said before) ≡ body_len a.outcome)
  KnownItem before (item.Early job) = Among jobs job
  KnownItem before (item.Transient job) = Among jobs job
  KnownItem before (item.Noticed n) = Unit {0}

  abbrev pub KnownItems : History → State → Type 0
  KnownItems before s = (i : ℕ) (x : Item) → slice_get s.out i ≡ Some x → KnownItem before x

  -- a thread's task
  begun_back : (s : State) (t : ℕ) (thread : Thread) (d : Doing) → IsTaken (Among jobs) (begun s t thread d).1 → given_by (map plain jobs) (task_of (number jobs) (begun s t thread d).1) ≡ plain_reply (begun s t thread d).1
  begun_back s t thread (Given job) p = ap (with_job reply.Given) (plain_there jobs job apart p)
  begun_back s t thread Free p = refl
  begun_back s t thread (Busy job) p = refl

  taken_back : (s : State) (t : ℕ) (o : Option Thread) → IsTaken (Among jobs) (taken s t o).1 → given_by (map plain jobs) (task_of (number jobs) (taken s t o).1) ≡ plain_reply (taken s t o).1
  taken_back s t (Some thread) p = begun_back s t thread thread.doing p
  taken_back s t None p = refl

  -- what is handed over
  item_back : (before : History) (conn : ConnId) (x : Item) → KnownItem before x → same_conn (item_conn x) conn ≡ true → handed_by (map plain jobs) (Said before) conn (handed_of (number jobs) x) ≡ reply.Handed (plain_item x)
  item_back before conn (item.Answered a) k c =
      ap (with_job (λ job. reply.Handed (item.Answered (answer_of job (last_len (number jobs a.job) 0 (Said before)))))) (plain_there jobs a.job apart k.0)
      ∙ ap (λ (n : ℕ). reply.Handed (item.Answered (answer_of (plain a.job) n))) k.2
  item_back before conn (item.Early job) k c = ap (with_job (λ j. reply.Handed (item.Early j))) (plain_there jobs job apart k)
  item_back before conn (item.Transient job) k c = ap (with_job (λ j. reply.Handed (item.Transient j))) (plain_there jobs job apart k)
  item_back before conn (item.Noticed n) k c = ap (λ (z : ConnId). reply.Handed (item.Noticed (notice_of z n.id))) (sym (conn_is n.conn conn c))

  abbrev CollectBack : History → ConnId → LaneReply → Type 0
  CollectBack before conn r = handed_by (map plain jobs) (Said before) conn (collect_reply_of (number jobs) r) ≡ plain_reply r

  handed_back : (before : History) (conn : ConnId) (s : State) (at : ℕ) (o : Option Item) → ((x : Item) → o ≡ Some x → KnownItem before x × (same_conn (item_conn x) conn ≡ true)) → CollectBack before conn (handed s at o).1
  handed_back before conn s at (Some x) k = let h = k x refl in item_back before conn x h.0 h.1
  handed_back before conn s at None k = refl

  shut_back : (before : History) (s : State) (conn : ConnId) (b : Bool) → CollectBack before conn (shut s conn b).1
  shut_back before s conn true = refl
  shut_back before s conn false = refl

  over_back : (before : History) (s : State) (conn : ConnId) (o : Option How) → CollectBack before conn (over s conn o).1
  over_back before s conn (Some how.Bad) = refl
  over_back before s conn (Some how.Shut) = refl
  over_back before s conn (Some how.Quiet) = refl
  over_back before s conn None = shut_back before s conn (was_told s conn)

  collected_back : (before : History) (s : State) (conn : ConnId) (o : Option ℕ) → item_place s conn ≡ o → KnownItems before s → CollectBack before conn (collected s conn o).1
  collected_back before s conn (Some at) e k =
      let h = at_place (λ (i : Item). same_conn (item_conn i) conn) s.out at e in
      handed_back before conn s at (slice_get s.out at) (λ x g. (k at x g, subst (λ (z : Item). same_conn (item_conn z) conn ≡ true) (same_Some h.0 x (sym h.1 ∙ g)) h.2))
  collected_back before s conn None e k = over_back before s conn (end_of s conn)

  busy_among : (s : State) (t : ℕ) (a : Answer) (o : Option Thread) → slice_get s.threads t ≡ o → IsBusyWith a o → AreKnown (Among jobs) s → Among jobs a.job
  busy_among s t a (Some thread) g b k = k.1 t thread a.job g (ap job_of b)
  busy_among s t a None g b k = absurd b

  finished_says : (s : State) (t : ℕ) (a : Answer) (o : Option Thread) → (machine.finished s t a o).1 ≡ reply.Finished
  finished_says s t a (Some thread) = refl
  finished_says s t a None = refl

  -- an entry is read back as its plain form
  abbrev EntryBack : History → LaneCall → LaneReply → Type 0
  EntryBack before c r = (call_by (map plain jobs) (action_of (number jobs) c r) ≡ plain_call c) × (reply_by (map plain jobs) (Said before) (action_of (number jobs) c r) ≡ plain_reply r)

  pub entry_back : (before : History) (s : State) (c : LaneCall) → IsSound s c → AreKnown (Among jobs) s → KnownItems before s → EntryBack before c (step s c).1
  entry_back before s (Offer job) q k items = (refl, offer_back s job (is_over s job.size))
  entry_back before s (Post n) q k items = (refl, post_back s (item.Noticed n) (is_over s 0))
  entry_back before s (Cancel conn id) q k items = (refl, cancel_back s conn id (is_over s 0))
  entry_back before s (Take t) q k items = (refl, taken_back s t (slice_get s.threads t) (taken_takes (Among jobs) s t (slice_get s.threads t) refl k))
  entry_back before s (Finish t a) q k items =
      let there = plain_there jobs a.job apart (busy_among s t a (slice_get s.threads t) refl q.0 k) in
      (ap (finish_by t (body_len a.outcome)) there, ap (with_job (λ job. reply.Finished)) there ∙ ap plain_reply (sym (finished_says s t a (slice_get s.threads t))))
  entry_back before s (Collect conn) q k items = (refl, collected_back before s conn (item_place s conn) refl items)
  entry_back before s (End conn h) q k items = (refl, refl)
  entry_back before s (Leave slot) q k items = (refl, refl)

  -- what a Finish does to what is known of an item
  finish_keeps : (before : History) (e : One) (a : Answer) (c : LaneCall) → e.call ≡ c → KnownItem before (item.Answered a)
      → (finishes a.job.conn a.job.serial c ≡ 0) → ((t : ℕ) (b : Answer) → c ≡ Finish t b → Among jobs b.job)
      → len_after (number jobs a.job) (last_len (number jobs a.job) 0 (Said before)) (action_of (number jobs) c e.reply) ≡ body_len a.outcome
  finish_keeps before e a (Finish t b) is k none among = elim (cases_Bool (number jobs b.job == number jobs a.job)) [
    | inl same ↦ absurd (let one : b.job ≡ a.job = one_number jobs b.job a.job apart (among t b refl) k.0 (eqb-true (number jobs b.job) (number jobs a.job) same) in
        let n : named a.job.conn a.job.serial b.job ≡ 1 = ap (named a.job.conn a.job.serial) one ∙ named_itself a.job in omega arith)
    | inr other ↦ ap (λ (z : Bool). if z then body_len b.outcome else last_len (number jobs a.job) 0 (Said before)) other ∙ k.2
  ]
  finish_keeps before e a (Offer job) is k none among = k.2
  finish_keeps before e a (Post n) is k none among = k.2
  finish_keeps before e a (Cancel conn id) is k none among = k.2
  finish_keeps before e a (Take t) is k none among = k.2
  finish_keeps before e a (Collect conn) is k none among = k.2
  finish_keeps before e a (End conn h) is k none among = k.2
  finish_keeps before e a (Leave slot) is k none among = k.2

  lines_push : (before : History) (e : One) → Said (before ++ e ∷ []) ≡ Said before ++ line_of (number jobs) e ∷ []
  lines_push before e = map-append (line_of (number jobs)) before (e ∷ [])

  len_push : (k : ℕ) (before : History) (e : One) → last_len k 0 (Said (before ++ e ∷ [])) ≡ len_after k (last_len k 0 (Said before)) (action_of (number jobs) e.call e.reply)
  len_push k before e = ap (last_len k 0) (lines_push before e) ∙ last_push k 0 (Said before) (line_of (number jobs) e)

  finished_push : (conn : ConnId) (serial : ℕ) (before : History) (e : One) → finished conn serial (before ++ e ∷ []) ≡ finished conn serial before + finishes conn serial e.call
  finished_push conn serial before e = sum_by_push (λ (z : One). finishes conn serial z.call) before e

  -- no request is finished twice
  abbrev pub Few : History → Type 0
  Few before = (conn : ConnId) (serial : ℕ) → finished conn serial before ≤ 1

  item_keeps : (before : History) (e : One) (x : Item) → Few (before ++ e ∷ []) → ((t : ℕ) (b : Answer) → e.call ≡ Finish t b → Among jobs b.job) → KnownItem before x → KnownItem (before ++ e ∷ []) x
  item_keeps before e (item.Answered a) few among k =
      let p = finished_push a.job.conn a.job.serial before e in let f = few a.job.conn a.job.serial in let some = k.1 in
      (k.0, omega arith, len_push (number jobs a.job) before e ∙ finish_keeps before e a e.call refl k (omega arith) among)
  item_keeps before e (item.Early job) few among k = k
  item_keeps before e (item.Transient job) few among k = k
  item_keeps before e (item.Noticed n) few among k = tt

  item_new : (before : History) (e : One) (x : Item) (c : LaneCall) → e.call ≡ c → NewBy c x → AllAmong jobs (offers_of.offered c) → ((t : ℕ) (b : Answer) → c ≡ Finish t b → Among jobs b.job) → KnownItem (before ++ e ∷ []) x
  item_new before e x (Offer job) is (inl n) all among = subst (KnownItem (before ++ e ∷ [])) (sym n) all.0
  item_new before e x (Offer job) is (inr n) all among = subst (KnownItem (before ++ e ∷ [])) (sym n) all.0
  item_new before e x (Post m) is n all among = subst (KnownItem (before ++ e ∷ [])) (sym n) tt
  item_new before e x (Finish t a) is n all among =
      let p = finished_push a.job.conn a.job.serial before e in
      let one : finishes a.job.conn a.job.serial e.call ≡ 1 = ap (finishes a.job.conn a.job.serial) is ∙ named_itself a.job in
      subst (KnownItem (before ++ e ∷ [])) (sym n) (
        among t a refl,
        omega arith,
        len_push (number jobs a.job) before e ∙ (ap (λ (z : LaneCall). len_after (number jobs a.job) (last_len (number jobs a.job) 0 (Said before)) (action_of (number jobs) z e.reply)) is
            ∙ ap (λ (b : Bool). if b then body_len a.outcome else last_len (number jobs a.job) 0 (Said before)) (eq-eqb (number jobs a.job) (number jobs a.job) refl)),
      )
  item_new before e x (Cancel conn id) is n all among = absurd n
  item_new before e x (Take t) is n all among = absurd n
  item_new before e x (Collect conn) is n all among = absurd n
  item_new before e x (End conn h) is n all among = absurd n
  item_new before e x (Leave slot) is n all among = absurd n

  finishes_among : (s : State) (c : LaneCall) → IsSound s c → AreKnown (Among jobs) s → (t : ℕ) (b : Answer) → c ≡ Finish t b → Among jobs b.job
  finishes_among s c q k t b is = busy_among s t b (slice_get s.threads t) refl (subst (IsSound s) is q).0 k

  if_among : (job : Job) (r : LaneReply) → Among jobs job → If (Among jobs) job r
  if_among job (reply.Run t lent) a = a
  if_among job reply.Kept a = a
  if_among job _ a = tt

  offers_among : (c : LaneCall) (r : LaneReply) → AllAmong jobs (offers_of.offered c) → Offers (Among jobs) c r
  offers_among (Offer job) r a = if_among job r a.0
  offers_among (Post n) r a = tt
  offers_among (Cancel conn id) r a = tt
  offers_among (Take t) r a = tt
  offers_among (Finish t x) r a = tt
  offers_among (Collect conn) r a = tt
  offers_among (End conn h) r a = tt
  offers_among (Leave slot) r a = tt

  few_before : (before : History) (e : One) (es : History) → ((conn : ConnId) (serial : ℕ) → finished conn serial before + finished conn serial (e ∷ es) ≤ 1) → (conn : ConnId) (serial : ℕ) → finished conn serial (before ++ e ∷ []) + finished conn serial es ≤ 1
  few_before before e es few conn serial =
      let a = few conn serial in let b = finished_push conn serial before e in let c = sum_by-cons (λ (z : One). finishes conn serial z.call) e es in omega arith

  -- its plain form is read back from the lines of a legal history
  pub rebuilds : (before : History) (s : State) (h : History) → IsLegal s h → AllAmong jobs (offers h) → AreKnown (Among jobs) s → KnownItems before s
      → ((conn : ConnId) (serial : ℕ) → finished conn serial before + finished conn serial h ≤ 1)
      → entries_after (map plain jobs) (Said before) (Said h) ≡ map plain_entry h
  rebuilds before s [] l all k items few = refl
  rebuilds before s (e ∷ es) l all k items few =
      let parts = offered_parts jobs e.call (offers es) all in
      let next = few_before before e es few in
      let few_here : Few (before ++ e ∷ []) = λ conn serial. (let a = next conn serial in omega arith) in
      let among = finishes_among s e.call l.1 k in
      let back = subst (EntryBack before e.call) (sym l.2) (entry_back before s e.call l.1 k items) in
      let known' = step_known (Among jobs) s e.call k (offers_among e.call (step s e.call).1 parts.0) in
      let items' : KnownItems (before ++ e ∷ []) (step s e.call).0 = λ i x g. elim (step_out s e.call i x g) [
        | inl old ↦ item_keeps before e x few_here among (items old.0 x old.1)
        | inr new ↦ item_new before e x e.call refl new parts.0 among
      ] in
      let rest = rebuilds (before ++ e ∷ []) (step s e.call).0 es l.3 parts.1 known' items' next in
      λ i. record { caller = e.caller; call = back.0 i; reply = back.1 i } ∷ (ap (λ (z : List TraceLine). entries_after (map plain jobs) z (Said es)) (sym (lines_push before e)) ∙ rest) i
