-- What the seats keep of a history, and that a legal call is its caller's to make exactly where they allow it.
use Rattle.std.proofs.Common.{◌≡◌, ℕ, ◌+◌, ◌*◌, ◌<◌, ◌≤◌, suc, zero, Bool, true, false, eqb, ltb, ◌&&◌, List, [], ◌∷◌, length, Option, Some, None, refl, sym, ap, subst, ◌∙◌, arith}
use Rattle.std.specs.Prelude.{not, slice_get, is_some}
use Rattle.std.proofs.lemmas.Bool.{and_parts, and_from, ltb-true, lt-ltb, eqb-true, eq-eqb}
use Rattle.std.proofs.lemmas.Option.{none-some, same_Some, slice_get_within}
use Rattle.orb_base.specs.Pool.{Pool}
use Rattle.orb_base.specs.declared.answer.Answer.{Answer}
use Rattle.orb_base.specs.declared.conn_id.ConnId.{ConnId}
use Rattle.orb_base.specs.declared.item.Item.{Item}
use Rattle.orb_base.specs.declared.job.Job.{Job}
use Rattle.thread_borrowing.specs.ThreadList.{Thread}
use Rattle.thread_borrowing.specs.declared.doing.Doing.{Doing}
use Rattle.thread_borrowing.specs.declared.doing.Doing.TheVariants.{Free, Given, Busy}
use Rattle.lane_machine.specs.State.{State}
use Rattle.lane_machine.specs.Machine.{step, begun, taken, handed, shut, over, collected, end_of, was_told}
use Rattle.lane_machine.specs.Readiness.{IsSound, IsBusyWith, HasLane}
use Rattle.lane_machine.specs.Histories.{History}
use Rattle.lane_machine.specs.Callers as seat
use Rattle.lane_machine.specs.Callers.{of, ends, has_leave, heard_calls, was_closed, latest, slot_seat, IsReading, MayCall, IsFit}
use Rattle.lane_machine.specs.SeatLaws.{Known, busy_job, given_job}
use Rattle.lane_machine.specs.declared.call.How.{How}
use Rattle.lane_machine.specs.declared.call.How.TheVariants as how
use Rattle.lane_machine.specs.declared.call.LaneReply.{LaneReply}
use Rattle.lane_machine.specs.declared.call.LaneReply.TheVariants as reply
use Rattle.trace_lines.specs.ReadBack.{job_of, answer_of, with_job, finish_by, call_by, reply_by}
use Rattle.trace_lines.specs.declared.trace_line.Action.{Action}
use Rattle.trace_lines.specs.declared.trace_line.Action.TheVariants as action
use Rattle.trace_lines.specs.declared.trace_line.TraceLine.{TraceLine}
use Rattle.fit_audit.specs.Readers.{reads, may_hear, reader_may}
use Rattle.fit_audit.specs.Seats.{seat_by, slot_may, worker_may, writer_may, may_call, allows}
use Rattle.fit_audit.specs.declared.last_reply.LastReply.{LastReply}
use Rattle.fit_audit.specs.declared.last_reply.LastReply.TheVariants.{Unheard, Finished, Handed, Other}
use Rattle.fit_audit.specs.declared.reader.Reader.{Reader}
use Rattle.fit_audit.specs.declared.seats.Seats.{Seats}

-- a connection of a slot
abbrev pub conn_at : ℕ → ℕ → ConnId
conn_at slot nth = record { slot = slot; nth = nth }

-- what is kept of a slot's caller is what its entries say; nothing was heard of the connections after the one that it reads
pub record IsReader (slot : ℕ) (r : Reader) (mine : History) : Type 0 where
  pub ended : r.ended ≡ ends mine
  pub heard : r.heard ≡ heard_calls (conn_at slot (ends mine)) mine
  pub closed : r.closed ≡ was_closed (conn_at slot (ends mine)) mine
  pub left : r.left ≡ has_leave mine
  pub later : (nth : ℕ) → ends mine < nth → (heard_calls (conn_at slot nth) mine ≡ 0) × (was_closed (conn_at slot nth) mine ≡ false)

-- what the last reply to a seat says of its next call
abbrev pub said : Option LaneReply → LastReply
said None = Unheard
said (Some reply.Finished) = Finished
said (Some (reply.Handed i)) = Handed
said (Some r) = Other

-- what is kept of each seat is what its entries in a history say
pub record Keeps (s0 : State) (h : History) (seats : Seats) : Type 0 where
  pub slots : seats.slots ≡ s0.slots
  pub per_slot : seats.per_slot ≡ s0.per_slot
  pub many_readers : length seats.readers.items ≡ s0.slots
  pub many_replies : length seats.replies.items ≡ 81 + 128 * s0.slots
  pub reader : (slot : ℕ) → slot < s0.slots → (r : Reader) × (slice_get seats.readers.items slot ≡ Some r) × IsReader slot r (of (slot_seat slot) h)
  pub last : (n : ℕ) → n < 81 + 128 * s0.slots → slice_get seats.replies.items n ≡ Some (said (latest None (of n h)))

-- the numbers of a run that opened
pub record Few (s0 : State) : Type 0 where
  pub slots : s0.slots ≤ 16
  pub per_slot : s0.per_slot ≤ 128
  pub threads : length s0.threads ≤ 64

not_true : (b : Bool) → not b ≡ true → b ≡ false
not_true true e = absurd (cc)
not_true false e = refl

-- the connection that a slot reads
closed_is : (slot : ℕ) (r : Reader) (mine : History) (nth : ℕ) → IsReader slot r mine → nth ≡ ends mine → was_closed (conn_at slot nth) mine ≡ r.closed
closed_is slot r mine nth k e = ap (λ (n : ℕ). was_closed (conn_at slot n) mine) e ∙ sym k.closed

heard_is : (slot : ℕ) (r : Reader) (mine : History) (nth : ℕ) → IsReader slot r mine → nth ≡ ends mine → heard_calls (conn_at slot nth) mine ≡ r.heard
heard_is slot r mine nth k e = ap (λ (n : ℕ). heard_calls (conn_at slot n) mine) e ∙ sym k.heard

reading_if : (s0 : State) (r : Reader) (mine : History) (conn : ConnId) → IsReader conn.slot r mine → conn.slot < s0.slots → reads s0.per_slot r conn.nth ≡ true → IsReading s0 mine conn
reading_if s0 r mine conn k l t =
    let a = and_parts (ltb conn.nth s0.per_slot && eqb r.ended conn.nth) (not r.left) t in
    let b = and_parts (ltb conn.nth s0.per_slot) (eqb r.ended conn.nth) a.0 in record {
      slot = l;
      nth = ltb-true conn.nth s0.per_slot b.0;
      next = sym (eqb-true r.ended conn.nth b.1) ∙ k.ended;
      stays = sym k.left ∙ not_true r.left a.1;
    }

reading_then : (s0 : State) (r : Reader) (mine : History) (conn : ConnId) → IsReader conn.slot r mine → IsReading s0 mine conn → reads s0.per_slot r conn.nth ≡ true
reading_then s0 r mine conn k f =
    and_from (ltb conn.nth s0.per_slot && eqb r.ended conn.nth) (not r.left)
    (and_from (ltb conn.nth s0.per_slot) (eqb r.ended conn.nth) (lt-ltb conn.nth s0.per_slot f.nth) (eq-eqb r.ended conn.nth (k.ended ∙ sym f.next)))
    (ap not (k.left ∙ f.stays))

hearing_if : (s0 : State) (r : Reader) (mine : History) (conn : ConnId) → IsReader conn.slot r mine → conn.slot < s0.slots → may_hear s0.per_slot r conn.nth ≡ true
    → IsReading s0 mine conn × (was_closed conn mine ≡ false)
hearing_if s0 r mine conn k l t =
    let a = and_parts (reads s0.per_slot r conn.nth) (not r.closed) t in
    let f = reading_if s0 r mine conn k l a.0 in
    (f, closed_is conn.slot r mine conn.nth k f.next ∙ not_true r.closed a.1)

hearing_then : (s0 : State) (r : Reader) (mine : History) (conn : ConnId) → IsReader conn.slot r mine → IsReading s0 mine conn → was_closed conn mine ≡ false
    → may_hear s0.per_slot r conn.nth ≡ true
hearing_then s0 r mine conn k f c =
    and_from (reads s0.per_slot r conn.nth) (not r.closed) (reading_then s0 r mine conn k f) (ap not (sym (closed_is conn.slot r mine conn.nth k f.next) ∙ c))

-- the caller of a slot that is there
slot_there : (per_slot : ℕ) (o : Option Reader) (a : Action) → slot_may per_slot o a ≡ true → (r : Reader) × (o ≡ Some r) × (reader_may per_slot r a ≡ true)
slot_there per_slot (Some r) a t = (r, refl, t)
slot_there per_slot None a t = absurd (cc)

slot_if : (s0 : State) (h : History) (seats : Seats) (slot : ℕ) (a : Action) → Keeps s0 h seats → slot_may seats.per_slot (slice_get seats.readers.items slot) a ≡ true
    → (r : Reader) × (slot < s0.slots) × IsReader slot r (of (slot_seat slot) h) × (reader_may s0.per_slot r a ≡ true)
slot_if s0 h seats slot a k t =
    let x = slot_there seats.per_slot (slice_get seats.readers.items slot) a t in
    let w = slice_get_within seats.readers.items slot x.0 x.1 in let m = k.many_readers in let l : slot < s0.slots = omega arith in
    let y = k.reader slot l in
    (y.0, l, y.2, subst (λ (p : ℕ). reader_may p y.0 a ≡ true) k.per_slot (subst (λ (z : Reader). reader_may seats.per_slot z a ≡ true) (same_Some x.0 y.0 (sym x.1 ∙ y.1)) x.2))

slot_then : (s0 : State) (h : History) (seats : Seats) (slot : ℕ) (a : Action) → Keeps s0 h seats → slot < s0.slots
    → ((r : Reader) → IsReader slot r (of (slot_seat slot) h) → reader_may s0.per_slot r a ≡ true) → slot_may seats.per_slot (slice_get seats.readers.items slot) a ≡ true
slot_then s0 h seats slot a k l f =
    let y = k.reader slot l in
    ap (λ (o : Option Reader). slot_may seats.per_slot o a) y.1 ∙ ap (λ (p : ℕ). reader_may p y.0 a) k.per_slot ∙ f y.0 y.2

-- workers and writing sides
takes_same : (o : Option LaneReply) → worker_may (Some (said o)) ≡ seat.may_take o
takes_same None = refl
takes_same (Some reply.Finished) = refl
takes_same (Some (reply.Handed i)) = refl
takes_same (Some r) = refl

collects_same : (o : Option LaneReply) → writer_may (Some (said o)) ≡ seat.may_collect o
collects_same None = refl
collects_same (Some reply.Finished) = refl
collects_same (Some (reply.Handed i)) = refl
collects_same (Some r) = refl

worker_is : (s0 : State) (h : History) (seats : Seats) (t : ℕ) → Few s0 → Keeps s0 h seats → t < length s0.threads
    → worker_may (slice_get seats.replies.items (seat.worker_seat seats.slots t)) ≡ seat.may_take (latest None (of (seat.worker_seat s0.slots t) h))
worker_is s0 h seats t few k l =
    let b = few.threads in
    ap (λ (n : ℕ). worker_may (slice_get seats.replies.items (seat.worker_seat n t))) k.slots
    ∙ ap worker_may (k.last (seat.worker_seat s0.slots t) (omega arith)) ∙ takes_same (latest None (of (seat.worker_seat s0.slots t) h))

writer_is : (s0 : State) (h : History) (seats : Seats) (conn : ConnId) → Few s0 → Keeps s0 h seats → conn.slot < s0.slots → conn.nth < s0.per_slot
    → writer_may (slice_get seats.replies.items (seat.writer_seat conn)) ≡ seat.may_collect (latest None (of (seat.writer_seat conn) h))
writer_is s0 h seats conn few k l m =
    let b = few.per_slot in
    ap writer_may (k.last (seat.writer_seat conn) (omega arith)) ∙ collects_same (latest None (of (seat.writer_seat conn) h))

-- a line that names a request without its Offer isn't legal
begun_noted : (s : State) (t : ℕ) (thread : Thread) (d : Doing) → reply.Noted ≡ (begun s t thread d).1 → ⊥
begun_noted s t thread (Given job) e = cc
begun_noted s t thread Free e = cc
begun_noted s t thread (Busy job) e = cc

pub taken_noted : (s : State) (t : ℕ) (o : Option Thread) → reply.Noted ≡ (taken s t o).1 → ⊥
taken_noted s t (Some thread) e = begun_noted s t thread thread.doing e
taken_noted s t None e = cc

handed_noted : (s : State) (at : ℕ) (o : Option Item) → reply.Noted ≡ (handed s at o).1 → ⊥
handed_noted s at (Some i) e = cc
handed_noted s at None e = cc

shut_noted : (s : State) (conn : ConnId) (b : Bool) → reply.Noted ≡ (shut s conn b).1 → ⊥
shut_noted s conn true e = cc
shut_noted s conn false e = cc

over_noted : (s : State) (conn : ConnId) (o : Option How) → reply.Noted ≡ (over s conn o).1 → ⊥
over_noted s conn (Some how.Bad) e = cc
over_noted s conn (Some how.Shut) e = cc
over_noted s conn (Some how.Quiet) e = cc
over_noted s conn None e = shut_noted s conn (was_told s conn) e

pub collected_noted : (s : State) (conn : ConnId) (o : Option ℕ) → reply.Noted ≡ (collected s conn o).1 → ⊥
collected_noted s conn (Some at) e = handed_noted s at (slice_get s.out at) e
collected_noted s conn None e = over_noted s conn (end_of s conn) e

-- a thread that is busy with a request was given it
given_is : (o : Option LaneReply) (job : Job) → given_job o ≡ Some job → o ≡ Some (reply.Given job)
given_is (Some (reply.Given j)) job e = ap (λ (z : Job). Some (reply.Given z)) (same_Some j job e)
given_is None job e = absurd (none-some job e)
given_is (Some r) job e = absurd (none-some job e)

busy_there : (answer : Answer) (o : Option Thread) → IsBusyWith answer o → (thread : Thread) × (o ≡ Some thread) × (thread.doing ≡ Busy answer.job)
busy_there answer (Some thread) b = (thread, refl, b)
busy_there answer None b = absurd b

some_within : {X : Type 0} (xs : List X) (i : ℕ) → is_some (slice_get xs i) ≡ true → i < length xs
some_within {X} [] i e = absurd (cc)
some_within {X} (x ∷ xs) zero e = omega arith
some_within {X} (x ∷ xs) (suc i) e = let a = some_within xs i e in omega arith

finish_if : (s0 s : State) (h : History) (t len : ℕ) (o : Option Job) → Known s0 h s → IsSound s (finish_by t len o) → with_job (λ job. reply.Finished) o ≡ (step s (finish_by t len o)).1
    → MayCall s0 (of (seat.seat_of s0 (finish_by t len o)) h) (finish_by t len o)
finish_if s0 s h t len None known q w = absurd (taken_noted s t (slice_get s.threads t) w)
finish_if s0 s h t len (Some job) known q w =
    let b = busy_there (answer_of job len) (slice_get s.threads t) q.0 in
    let l = slice_get_within s.threads t b.0 b.1 in let m = known.threads in
    (omega arith, given_is (latest None (of (seat.worker_seat s0.slots t) h)) job (sym (known.busy t b.0 b.1) ∙ ap busy_job b.2), q.1)

-- where the seats allow a legal call, its seat may make it
may_if : (s0 s : State) (h : History) (seats : Seats) (jobs : List Job) (before : List TraceLine) (a : Action) → Few s0 → Keeps s0 h seats → Known s0 h s
    → IsSound s (call_by jobs a) → reply_by jobs before a ≡ (step s (call_by jobs a)).1 → may_call seats a ≡ true
    → MayCall s0 (of (seat.seat_of s0 (call_by jobs a)) h) (call_by jobs a)
may_if s0 s h seats jobs before (action.Offer request x) few k known q w t =
    let y = slot_if s0 h seats request.conn.slot (action.Offer request x) k t in
    let mine = of (slot_seat request.conn.slot) h in
    let a = and_parts (may_hear s0.per_slot y.0 request.conn.nth) (eqb y.0.heard request.serial) y.3 in
    let f = hearing_if s0 y.0 mine request.conn y.2 y.1 a.0 in (
      f.0,
      f.1,
      sym (eqb-true y.0.heard request.serial a.1) ∙ sym (heard_is request.conn.slot y.0 mine request.conn.nth y.2 f.0.next),
      subst (λ (p : Pool). HasLane p.laned (job_of request) (slice_get p.lanes request.lane)) known.pool q,
    )
may_if s0 s h seats jobs before (action.Post conn id x) few k known q w t =
    let y = slot_if s0 h seats conn.slot (action.Post conn id x) k t in
    hearing_if s0 y.0 (of (slot_seat conn.slot) h) conn y.2 y.1 y.3
may_if s0 s h seats jobs before (action.Cancel conn id x) few k known q w t =
    let y = slot_if s0 h seats conn.slot (action.Cancel conn id x) k t in
    hearing_if s0 y.0 (of (slot_seat conn.slot) h) conn y.2 y.1 y.3
may_if s0 s h seats jobs before (action.Take th task) few k known q w t =
    let l = some_within s.threads th q in let m = known.threads in let n : th < length s0.threads = omega arith in
    (n, sym (worker_is s0 h seats th few k n) ∙ t)
may_if s0 s h seats jobs before (action.Finish th j len) few k known q w t = finish_if s0 s h th len (slice_get jobs j) known q w
may_if s0 s h seats jobs before (action.Collect conn x) few k known q w t =
    let a = and_parts (ltb conn.slot seats.slots && ltb conn.nth seats.per_slot) (writer_may (slice_get seats.replies.items (seat.writer_seat conn))) t in
    let b = and_parts (ltb conn.slot seats.slots) (ltb conn.nth seats.per_slot) a.0 in
    let c = ltb-true conn.slot seats.slots b.0 in let d = ltb-true conn.nth seats.per_slot b.1 in
    let e = k.slots in let g = k.per_slot in let l : conn.slot < s0.slots = omega arith in let m : conn.nth < s0.per_slot = omega arith in
    (l, m, sym (writer_is s0 h seats conn few k l m) ∙ a.1)
may_if s0 s h seats jobs before (action.End conn how) few k known q w t =
    let y = slot_if s0 h seats conn.slot (action.End conn how) k t in
    reading_if s0 y.0 (of (slot_seat conn.slot) h) conn y.2 y.1 y.3
may_if s0 s h seats jobs before (action.Leave slot) few k known q w t =
    let y = slot_if s0 h seats slot (action.Leave slot) k t in
    let a = and_parts (not y.0.left) (eqb y.0.heard 0) y.3 in
    (y.1, sym y.2.left ∙ not_true y.0.left a.0, sym y.2.heard ∙ eqb-true y.0.heard 0 a.1)

-- where its seat may make the call, the seats allow it
may_then : (s0 : State) (h : History) (seats : Seats) (jobs : List Job) (a : Action) → Few s0 → Keeps s0 h seats
    → MayCall s0 (of (seat.seat_of s0 (call_by jobs a)) h) (call_by jobs a) → may_call seats a ≡ true
may_then s0 h seats jobs (action.Offer request x) few k f =
    slot_then s0 h seats request.conn.slot (action.Offer request x) k f.0.slot (λ r i.
    let mine = of (slot_seat request.conn.slot) h in
    and_from (may_hear s0.per_slot r request.conn.nth) (eqb r.heard request.serial) (hearing_then s0 r mine request.conn i f.0 f.1)
    (eq-eqb r.heard request.serial (sym (heard_is request.conn.slot r mine request.conn.nth i f.0.next) ∙ sym f.2)))
may_then s0 h seats jobs (action.Post conn id x) few k f =
    slot_then s0 h seats conn.slot (action.Post conn id x) k f.0.slot (λ r i. hearing_then s0 r (of (slot_seat conn.slot) h) conn i f.0 f.1)
may_then s0 h seats jobs (action.Cancel conn id x) few k f =
    slot_then s0 h seats conn.slot (action.Cancel conn id x) k f.0.slot (λ r i. hearing_then s0 r (of (slot_seat conn.slot) h) conn i f.0 f.1)
may_then s0 h seats jobs (action.Take th task) few k f = worker_is s0 h seats th few k f.0 ∙ f.1
may_then s0 h seats jobs (action.Finish th j len) few k f = refl
may_then s0 h seats jobs (action.Collect conn x) few k f =
    let e = k.slots in let g = k.per_slot in let l = f.0 in let m = f.1 in
    and_from (ltb conn.slot seats.slots && ltb conn.nth seats.per_slot) (writer_may (slice_get seats.replies.items (seat.writer_seat conn)))
    (and_from (ltb conn.slot seats.slots) (ltb conn.nth seats.per_slot) (lt-ltb conn.slot seats.slots (omega arith)) (lt-ltb conn.nth seats.per_slot (omega arith)))
    (writer_is s0 h seats conn few k f.0 f.1 ∙ f.2)
may_then s0 h seats jobs (action.End conn how) few k f =
    slot_then s0 h seats conn.slot (action.End conn how) k f.slot (λ r i. reading_then s0 r (of (slot_seat conn.slot) h) conn i f)
may_then s0 h seats jobs (action.Leave slot) few k f =
    slot_then s0 h seats slot (action.Leave slot) k f.0 (λ r i.
    and_from (not r.left) (eqb r.heard 0) (ap not (i.left ∙ f.1)) (eq-eqb r.heard 0 (i.heard ∙ f.2)))

-- a line's call is that of the same seat as its entry's
pub finish_seat : (s0 : State) (t len : ℕ) (o : Option Job) → seat.seat_of s0 (finish_by t len o) ≡ seat.worker_seat s0.slots t
finish_seat s0 t len (Some job) = refl
finish_seat s0 t len None = refl

seat_same : (s0 : State) (jobs : List Job) (a : Action) → seat.seat_of s0 (call_by jobs a) ≡ seat_by s0.slots a
seat_same s0 jobs (action.Offer request x) = refl
seat_same s0 jobs (action.Post conn id x) = refl
seat_same s0 jobs (action.Cancel conn id x) = refl
seat_same s0 jobs (action.Take t task) = refl
seat_same s0 jobs (action.Finish t j len) = finish_seat s0 t len (slice_get jobs j)
seat_same s0 jobs (action.Collect conn x) = refl
seat_same s0 jobs (action.End conn how) = refl
seat_same s0 jobs (action.Leave slot) = refl

-- where the seats allow a legal line, its call is fit, and the other way round
pub fit_if : (s0 s : State) (h : History) (seats : Seats) (jobs : List Job) (before : List TraceLine) (l : TraceLine) → Few s0 → Keeps s0 h seats → Known s0 h s
    → IsSound s (call_by jobs l.action) → reply_by jobs before l.action ≡ (step s (call_by jobs l.action)).1 → allows seats l ≡ true
    → IsFit s0 l.caller (of l.caller h) (call_by jobs l.action)
fit_if s0 s h seats jobs before l few k known q w t =
    let p = and_parts (eqb l.caller (seat_by seats.slots l.action)) (may_call seats l.action) t in
    let c : l.caller ≡ seat.seat_of s0 (call_by jobs l.action) =
    eqb-true l.caller (seat_by seats.slots l.action) p.0 ∙ ap (λ (n : ℕ). seat_by n l.action) k.slots ∙ sym (seat_same s0 jobs l.action) in
    (c, subst (λ (n : ℕ). MayCall s0 (of n h) (call_by jobs l.action)) (sym c) (may_if s0 s h seats jobs before l.action few k known q w p.1))

pub fit_then : (s0 : State) (h : History) (seats : Seats) (jobs : List Job) (l : TraceLine) → Few s0 → Keeps s0 h seats
    → IsFit s0 l.caller (of l.caller h) (call_by jobs l.action) → allows seats l ≡ true
fit_then s0 h seats jobs l few k f =
    and_from (eqb l.caller (seat_by seats.slots l.action)) (may_call seats l.action)
    (eq-eqb l.caller (seat_by seats.slots l.action) (f.0 ∙ seat_same s0 jobs l.action ∙ ap (λ (n : ℕ). seat_by n l.action) (sym k.slots)))
    (may_then s0 h seats jobs l.action few k (subst (λ (n : ℕ). MayCall s0 (of n h) (call_by jobs l.action)) f.0 f.1))
