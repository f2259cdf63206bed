-- A call by a pass leads from one turn to the next, and what a turn asks is that the call is fit.
use Rattle.std.proofs.Common.{◌≡◌, ℕ, ◌+◌, ◌<◌, ◌≤◌, Bool, true, false, cond, ◌&&◌, ◌||◌, [], ◌∷◌, ◌++◌, Some, None, inl, inr, sym, refl, ap, ◌∙◌, subst, arith}
use Rattle.std.specs.Prelude.{slice_get, Result, Ok, Err, IfOk}
use Rattle.std.proofs.lemmas.Bool.{cases_Bool}
use Rattle.std.proofs.lemmas.List.Sums.{sum_by-cons}
use Rattle.orb_base.specs.Outcomes.{body_len}
use Rattle.orb_base.specs.declared.answer.Answer.{Answer}
use Rattle.orb_base.specs.declared.conn_id.ConnId.{ConnId}
use Rattle.orb_base.specs.declared.job.Job.{Job}
use Rattle.orb_base.specs.declared.limits.TheConstants.{MAX_BODY}
use Rattle.orb_base.specs.declared.notice.Notice.{Notice}
use Rattle.turn_cell.specs.Seats.{CellView}
use Rattle.turn_cell.specs.Calls.{IsOf, Calls}
use Rattle.turn_cell.specs.Good.{entry}
use Rattle.lane_machine.specs.State.{State, Opens}
use Rattle.lane_machine.specs.Machine.{step}
use Rattle.lane_machine.specs.Readiness.{is_ready, IsSound, HasLane}
use Rattle.lane_machine.specs.Callers.{IsFit, IsReading, slot_seat, worker_seat, writer_seat, ends, has_leave, heard_calls, was_closed, latest, may_take, may_collect, is_end, is_leave, is_heard, is_closing}
use Rattle.lane_machine.specs.Entries.{One, latest_push, ends_push, leave_push}
use Rattle.lane_machine.specs.Histories.{History}
use Rattle.lane_machine.proofs.Fates.{heard_push}
use Rattle.lane_machine.specs.declared.call.How.{How}
use Rattle.lane_machine.specs.declared.call.LaneCall.{LaneCall}
use Rattle.lane_machine.specs.declared.call.LaneCall.TheVariants.{Offer, Post, Cancel, Take, Finish, Collect, End, Leave}
use Rattle.lane_machine.specs.declared.call.LaneReply.{LaneReply}
use Rattle.lane_machine.specs.declared.call.LaneReply.TheVariants as reply
use Rattle.lane_pool.specs.declared.answers.Taken.{Taken}
use Rattle.lane_pool.specs.declared.answers.Taken.TheVariants as taken
use Rattle.lane_pool.specs.declared.answers.Collected.{Collected}
use Rattle.lane_pool.specs.declared.answers.Collected.TheVariants as collected
use Rattle.lane_pool.specs.Pass.{Pass, Sitting, conn_of}
use Rattle.lane_pool.specs.Passes.{MayMake, Makes, IsLinked, IsUnlinked}
use Rattle.lane_pool.specs.Replies.{taken_reply, collected_reply}
use Rattle.lane_pool.specs.Turns.{heard_by, IsServing, Reads, Listens, HasEnded, Rests, GoesOn, FitsLane, Works, CanTake, Carries, Writes, HasTaken, HasCollected}
use Rattle.lane_pool.proofs.Closed.{closed_heard, other_heard}

-- the counts after one more entry
ends_same : (mine new : History) (n : ℕ) (call : LaneCall) (r : LaneReply) → is_end call ≡ false → new ≡ mine ++ entry n call r ∷ [] → ends new ≡ ends mine
ends_same mine new n call r f w = let c : ◌≡◌ {A = ℕ} (cond (is_end call) 1 0) 0 = ap (λ (z : Bool). cond {A = ℕ} z 1 0) f in let a = ends_push mine (entry n call r) in let b : ends new ≡ ends (mine ++ entry n call r ∷ []) = ap ends w in omega arith

ends_more : (mine new : History) (n : ℕ) (call : LaneCall) (r : LaneReply) → is_end call ≡ true → new ≡ mine ++ entry n call r ∷ [] → ends new ≡ ends mine + 1
ends_more mine new n call r f w = let c : ◌≡◌ {A = ℕ} (cond (is_end call) 1 0) 1 = ap (λ (z : Bool). cond {A = ℕ} z 1 0) f in let a = ends_push mine (entry n call r) in let b : ends new ≡ ends (mine ++ entry n call r ∷ []) = ap ends w in omega arith

leave_same : (mine new : History) (n : ℕ) (call : LaneCall) (r : LaneReply) → is_leave call ≡ false → has_leave mine ≡ false → new ≡ mine ++ entry n call r ∷ [] → has_leave new ≡ false
leave_same mine new n call r f s w = ap has_leave w ∙ (leave_push mine (entry n call r) ∙ (ap (λ (z : Bool). has_leave mine || (z || false)) f ∙ ap (λ (z : Bool). z || (false || false)) s))

heard_same : (conn : ConnId) (mine new : History) (n : ℕ) (call : LaneCall) (r : LaneReply) → is_heard conn call ≡ false → new ≡ mine ++ entry n call r ∷ [] → heard_calls conn new ≡ heard_calls conn mine
heard_same conn mine new n call r f w = let c : ◌≡◌ {A = ℕ} (cond (is_heard conn call) 1 0) 0 = ap (λ (z : Bool). cond {A = ℕ} z 1 0) f in let a = heard_push conn mine (entry n call r) in let b : heard_calls conn new ≡ heard_calls conn (mine ++ entry n call r ∷ []) = ap (heard_calls conn) w in omega arith

heard_more : (conn : ConnId) (mine new : History) (n : ℕ) (call : LaneCall) (r : LaneReply) → is_heard conn call ≡ true → new ≡ mine ++ entry n call r ∷ [] → heard_calls conn new ≡ heard_calls conn mine + 1
heard_more conn mine new n call r f w = let c : ◌≡◌ {A = ℕ} (cond (is_heard conn call) 1 0) 1 = ap (λ (z : Bool). cond {A = ℕ} z 1 0) f in let a = heard_push conn mine (entry n call r) in let b : heard_calls conn new ≡ heard_calls conn (mine ++ entry n call r ∷ []) = ap (heard_calls conn) w in omega arith

latest_is : (mine new : History) (n : ℕ) (call : LaneCall) (r : LaneReply) → new ≡ mine ++ entry n call r ∷ [] → latest None new ≡ Some r
latest_is mine new n call r w = ap (latest None) w ∙ latest_push None mine (entry n call r)

-- what is heard is no End and no Leave
heard_goes_on : (conn : ConnId) (call : LaneCall) → is_heard conn call ≡ true → (is_end call ≡ false) × (is_leave call ≡ false)
heard_goes_on conn (Offer job) h = (refl, refl)
heard_goes_on conn (Post notice) h = (refl, refl)
heard_goes_on conn (Cancel c id) h = (refl, refl)
heard_goes_on conn (Take t) h = (refl, refl)
heard_goes_on conn (Finish t answer) h = (refl, refl)
heard_goes_on conn (Collect c) h = (refl, refl)
heard_goes_on conn (End c how) h = absurd (cc)
heard_goes_on conn (Leave slot) h = absurd (cc)

made_in : (cell : CellView State) (call : LaneCall) (r : LaneReply) (old new : Sitting) → Calls is_ready IsSound step Opens IsFit cell call r old new → IsOf cell old → IsOf cell new
made_in cell call r old new c i = (c.0.0 ∙ i.0, c.0.1 ∙ i.1)

pub same_conn_of : (old new : Pass) → new.who ≡ old.who → new.nth ≡ old.nth → conn_of new ≡ conn_of old
same_conn_of old new a b = λ i. record { slot = a i; nth = b i }

-- a call that is heard of the connection
serves_on : (cell : CellView State) (call : LaneCall) (r : LaneReply) (old new : Pass) → IsServing cell old.nth (old.nth + 1) old → is_heard (conn_of old) call ≡ true → Makes cell call r old new → IsServing cell old.nth (old.nth + 1) new
serves_on cell call r old new s h m =
    let c = m.2 in
    let kind = heard_goes_on (conn_of old) call h in
    let e = ends_same old.seat.mine new.seat.mine old.seat.number call r kind.0 c.2 in
    record {
      in_cell = made_in cell call r old.seat new.seat c s.in_cell;
      number = c.0.2 ∙ (s.number ∙ ap slot_seat (sym m.0));
      slot = (let a = m.0 in let b = s.slot in omega arith);
      ends_are = (let a = s.ends_are in omega arith);
      stays = leave_same old.seat.mine new.seat.mine old.seat.number call r kind.1 s.stays c.2;
      later = λ k l. ap (λ (z : ℕ). heard_calls (record { slot = z; nth = k }) new.seat.mine) m.0
          ∙ (heard_same (record { slot = old.who; nth = k }) old.seat.mine new.seat.mine old.seat.number call r (other_heard (conn_of old) (record { slot = old.who; nth = k }) call h (λ (q : old.nth ≡ k). omega arith)) c.2 ∙ s.later k l);
    }

reads_on : (cell : CellView State) (call : LaneCall) (r : LaneReply) (old new : Pass) → Reads cell old → is_heard (conn_of old) call ≡ true → Makes cell call r old new → Reads cell new
reads_on cell call r old new d h m = record {
  serves = subst (λ (n : ℕ). IsServing cell n (n + 1) new) (sym m.1) (serves_on cell call r old new d.serves h m);
  nth = (let a = m.1 in let b = d.nth in omega arith);
}

pub goes_on : (cell : CellView State) (call : LaneCall) (r : LaneReply) (old new : Pass) → Listens cell old → is_heard (conn_of old) call ≡ true → Makes cell call r old new → GoesOn cell (is_closing r) old new
goes_on cell call r old new d h m =
    let same = same_conn_of old new m.0 m.1 in
    record {
      reads = reads_on cell call r old new d.reads h m;
      heard = ap (λ (z : ConnId). heard_calls z new.seat.mine) same ∙ heard_more (conn_of old) old.seat.mine new.seat.mine old.seat.number call r h m.2.2;
      is_open = λ closing. ap (λ (z : ConnId). was_closed z new.seat.mine) same
          ∙ (sym (closed_heard (conn_of old) old.seat.mine new.seat.mine old.seat.number call r false (sym d.is_open) h m.2.2) ∙ closing);
    }

-- the end of a connection
pub has_ended : (cell : CellView State) (how : How) (r : LaneReply) (old new : Pass) → Reads cell old → Makes cell (End (conn_of old) how) r old new → HasEnded cell new
has_ended cell how r old new d m =
    let c = m.2 in
    let s = d.serves in
    let e = ends_more old.seat.mine new.seat.mine old.seat.number (End (conn_of old) how) r refl c.2 in
    record {
      in_cell = made_in cell (End (conn_of old) how) r old.seat new.seat c s.in_cell;
      number = c.0.2 ∙ (s.number ∙ ap slot_seat (sym m.0));
      slot = (let a = m.0 in let b = s.slot in omega arith);
      ends_are = (let a = s.ends_are in let b = m.1 in omega arith);
      stays = leave_same old.seat.mine new.seat.mine old.seat.number (End (conn_of old) how) r refl s.stays c.2;
      later = λ k l. ap (λ (z : ℕ). heard_calls (record { slot = z; nth = k }) new.seat.mine) m.0
          ∙ (heard_same (record { slot = old.who; nth = k }) old.seat.mine new.seat.mine old.seat.number (End (conn_of old) how) r refl c.2 ∙ s.later k (let a = m.1 in omega arith));
    }

-- the slot's pass after its connection
pub rests_again : (cell : CellView State) (reader writer new : Pass) → HasEnded cell reader → IsUnlinked reader writer new → Rests cell new
rests_again cell reader writer new s u =
    let h = u.seats.0 in
    record {
      in_cell = (h.0 ∙ s.in_cell.0, h.1 ∙ s.in_cell.1);
      number = h.2 ∙ (s.number ∙ ap slot_seat (sym u.who_is));
      slot = (let a = u.who_is in let b = s.slot in omega arith);
      ends_are = u.nth_is ∙ (s.ends_are ∙ ap ends (sym h.3));
      stays = ap has_leave h.3 ∙ s.stays;
      later = λ k l. ap (λ (z : ℕ). heard_calls (record { slot = z; nth = k }) new.seat.mine) u.who_is
          ∙ (ap (heard_calls (record { slot = reader.who; nth = k })) h.3 ∙ s.later k (let a = u.nth_is in omega arith));
    }

-- where nothing was heard, nothing was answered Closing
none_closed : (conn : ConnId) (h : History) → heard_calls conn h ≡ 0 → was_closed conn h ≡ false
none_closed conn [] e = refl
none_closed conn (x ∷ xs) e = let s = sum_by-cons (λ (y : One). cond (is_heard conn y.call) 1 0) x xs in elim (cases_Bool (is_heard conn x.call)) [
  | inl t ↦ absurd (let c : ◌≡◌ {A = ℕ} (cond (is_heard conn x.call) 1 0) 1 = ap (λ (z : Bool). cond {A = ℕ} z 1 0) t in omega arith)
  | inr f ↦ ap (λ (b : Bool). (b && is_closing x.reply) || was_closed conn xs) f ∙ none_closed conn xs (let c : ◌≡◌ {A = ℕ} (cond (is_heard conn x.call) 1 0) 0 = ap (λ (z : Bool). cond {A = ℕ} z 1 0) f in omega arith)
]

-- the passes of a slot's next connection
pub fresh_link : (cell : CellView State) (old : Pass) (mine : History) → Rests cell old → mine ≡ old.seat.mine → false ≡ was_closed (conn_of old) mine
fresh_link cell old mine s e = sym (ap (was_closed (conn_of old)) e ∙ none_closed (conn_of old) old.seat.mine (s.later old.nth (omega arith)))

pub listens : (cell : CellView State) (old reader writer : Pass) → Rests cell old → old.nth < cell.terms.opening.per_slot → IsLinked old reader writer → Listens cell reader
listens cell old reader writer s room u =
    let h = u.seats in
    let same = same_conn_of old reader u.reader_who u.reader_nth in
    record {
      reads = record {
        serves = record {
          in_cell = (h.0 ∙ s.in_cell.0, h.1 ∙ s.in_cell.1);
          number = h.2 ∙ (s.number ∙ ap slot_seat (sym u.reader_who));
          slot = (let a = u.reader_who in let b = s.slot in omega arith);
          ends_are = u.reader_nth ∙ (s.ends_are ∙ ap ends (sym h.4));
          stays = ap has_leave h.4 ∙ s.stays;
          later = λ k l. ap (λ (z : ℕ). heard_calls (record { slot = z; nth = k }) reader.seat.mine) u.reader_who
              ∙ (ap (heard_calls (record { slot = old.who; nth = k })) h.4 ∙ s.later k (let a = u.reader_nth in omega arith));
        };
        nth = (let a = u.reader_nth in omega arith);
      };
      is_open = ap (λ (z : ConnId). was_closed z reader.seat.mine) same ∙ sym (fresh_link cell old reader.seat.mine s h.4);
    }

pub writes : (cell : CellView State) (old reader writer : Pass) → Rests cell old → old.nth < cell.terms.opening.per_slot → IsLinked old reader writer → Writes cell writer
writes cell old reader writer s room u =
    let h = u.seats in
    record {
      in_cell = (h.7 ∙ s.in_cell.0, h.8 ∙ s.in_cell.1);
      number = u.writes ∙ ap writer_seat (sym (same_conn_of old writer u.writer_who u.writer_nth));
      slot = (let a = u.writer_who in let b = s.slot in omega arith);
      nth = (let a = u.writer_nth in omega arith);
      more = ap (λ (z : History). may_collect (latest None z)) h.11;
    }

pub listens_ok : (cell : CellView State) (old : Pass) (r : Result (Pass × Pass) Pass) → Rests cell old → old.nth < cell.terms.opening.per_slot → IfOk r (λ p. IsLinked old p.0 p.1) → IfOk r (λ p. Listens cell p.0)
listens_ok cell old (Ok p) s room u = listens cell old p.0 p.1 s room u
listens_ok cell old (Err back) s room u = tt

pub writes_ok : (cell : CellView State) (old : Pass) (r : Result (Pass × Pass) Pass) → Rests cell old → old.nth < cell.terms.opening.per_slot → IfOk r (λ p. IsLinked old p.0 p.1) → IfOk r (λ p. Writes cell p.1)
writes_ok cell old (Ok p) s room u = writes cell old p.0 p.1 s room u
writes_ok cell old (Err back) s room u = tt

unheard : (cell : CellView State) (old reader writer : Pass) → Rests cell old → IsLinked old reader writer → heard_by reader ≡ 0
unheard cell old reader writer s u =
    ap (λ (z : ConnId). heard_calls z reader.seat.mine) (same_conn_of old reader u.reader_who u.reader_nth) ∙ (ap (heard_calls (conn_of old)) u.seats.4 ∙ s.later old.nth (omega arith))

pub unheard_ok : (cell : CellView State) (old : Pass) (r : Result (Pass × Pass) Pass) → Rests cell old → IfOk r (λ p. IsLinked old p.0 p.1) → IfOk r (λ p. heard_by p.0 ≡ 0)
unheard_ok cell old (Ok p) s u = unheard cell old p.0 p.1 s u
unheard_ok cell old (Err back) s u = tt

-- after a call that was not answered Closing more may come
pub listens_on : (cell : CellView State) (closing : Bool) (old new : Pass) → GoesOn cell closing old new → closing ≡ false → Listens cell new
listens_on cell closing old new g e = record { reads = g.reads; is_open = g.is_open e }

-- fit calls
reading : (cell : CellView State) (pass : Pass) → Reads cell pass → IsReading cell.terms.opening pass.seat.mine (conn_of pass)
reading cell pass d = record { slot = d.serves.slot; nth = d.nth; next = d.serves.ends_are; stays = d.serves.stays }

pub fit_offer : (cell : CellView State) (job : Job) (pass : Pass) → Listens cell pass → job.conn ≡ conn_of pass → job.serial ≡ heard_by pass → FitsLane cell job → MayMake cell (Offer job) pass
fit_offer cell job pass d e n l = subst (λ (c : ConnId). (pass.seat.number ≡ slot_seat c.slot) × (IsReading cell.terms.opening pass.seat.mine c × (was_closed c pass.seat.mine ≡ false) × (job.serial ≡ heard_calls c pass.seat.mine)
    × HasLane cell.terms.opening.pool.laned job (slice_get cell.terms.opening.pool.lanes job.lane)))
    (sym e) (d.reads.serves.number, (reading cell pass d.reads, d.is_open, n, l))

pub fit_post : (cell : CellView State) (notice : Notice) (pass : Pass) → Listens cell pass → notice.conn ≡ conn_of pass → MayMake cell (Post notice) pass
fit_post cell notice pass d e = subst (λ (c : ConnId). (pass.seat.number ≡ slot_seat c.slot) × (IsReading cell.terms.opening pass.seat.mine c × (was_closed c pass.seat.mine ≡ false))) (sym e) (d.reads.serves.number, (reading cell pass d.reads, d.is_open))

pub fit_cancel : (cell : CellView State) (id : ℕ) (pass : Pass) → Listens cell pass → MayMake cell (Cancel (conn_of pass) id) pass
fit_cancel cell id pass d = (d.reads.serves.number, (reading cell pass d.reads, d.is_open))

pub fit_end : (cell : CellView State) (how : How) (pass : Pass) → Reads cell pass → MayMake cell (End (conn_of pass) how) pass
fit_end cell how pass d = (d.serves.number, reading cell pass d)

pub fit_leave : (cell : CellView State) (pass : Pass) → Rests cell pass → MayMake cell (Leave pass.who) pass
fit_leave cell pass s = (s.number, (s.slot, s.stays, s.later (ends pass.seat.mine) (let a = s.ends_are in omega arith)))

pub fit_take : (cell : CellView State) (pass : Pass) → CanTake cell pass → MayMake cell (Take pass.who) pass
fit_take cell pass d = (d.works.number, (d.works.thread, d.idle))

pub fit_finish : (cell : CellView State) (answer : Answer) (pass : Pass) → Carries cell answer.job pass → body_len answer.outcome ≤ MAX_BODY → MayMake cell (Finish pass.who answer) pass
fit_finish cell answer pass d short = (d.works.number, (d.works.thread, d.task, short))

pub fit_collect : (cell : CellView State) (pass : Pass) → Writes cell pass → MayMake cell (Collect (conn_of pass)) pass
fit_collect cell pass d = (d.number, (d.slot, d.nth, d.more))

-- the turns of workers and of writing sides
works_on : (cell : CellView State) (call : LaneCall) (r : LaneReply) (old new : Pass) → Works cell old → Makes cell call r old new → Works cell new
works_on cell call r old new d m = record {
  in_cell = made_in cell call r old.seat new.seat m.2 d.in_cell;
  number = m.2.0.2 ∙ (d.number ∙ ap (worker_seat cell.terms.opening.slots) (sym m.0));
  thread = (let a = m.0 in let b = d.thread in omega arith);
}

pub has_taken : (cell : CellView State) (answer : Taken) (old new : Pass) → CanTake cell old → Makes cell (Take old.who) (taken_reply answer) old new → HasTaken cell answer new
has_taken cell (taken.Job job) old new d m = record { works = works_on cell (Take old.who) (reply.Given job) old new d.works m; task = latest_is old.seat.mine new.seat.mine old.seat.number (Take old.who) (reply.Given job) m.2.2 }
has_taken cell taken.Ended old new d m = tt

pub can_take : (cell : CellView State) (answer : Answer) (old new : Pass) → Carries cell answer.job old → Makes cell (Finish old.who answer) reply.Finished old new → CanTake cell new
can_take cell answer old new d m = record { works = works_on cell (Finish old.who answer) reply.Finished old new d.works m; idle = ap may_take (latest_is old.seat.mine new.seat.mine old.seat.number (Finish old.who answer) reply.Finished m.2.2) }

pub has_collected : (cell : CellView State) (answer : Collected) (old new : Pass) → Writes cell old → Makes cell (Collect (conn_of old)) (collected_reply answer) old new → HasCollected cell answer new
has_collected cell (collected.Item item) old new d m = record {
  in_cell = made_in cell (Collect (conn_of old)) (reply.Handed item) old.seat new.seat m.2 d.in_cell;
  number = m.2.0.2 ∙ (d.number ∙ ap writer_seat (sym (same_conn_of old new m.0 m.1)));
  slot = (let a = m.0 in let b = d.slot in omega arith);
  nth = (let a = m.1 in let b = d.nth in omega arith);
  more = ap may_collect (latest_is old.seat.mine new.seat.mine old.seat.number (Collect (conn_of old)) (reply.Handed item) m.2.2);
}
has_collected cell collected.Close old new d m = tt
has_collected cell collected.Error old new d m = tt
has_collected cell collected.Done old new d m = tt
