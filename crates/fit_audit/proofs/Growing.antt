-- What the seats keep, after one entry more.
use Rattle.std.proofs.Common.{◌≡◌, ℕ, ◌+◌, ◌*◌, ◌-◌, ◌^◌, ◌<◌, ◌≤◌, Bool, true, false, cond, eqb, ◌&&◌, ◌||◌, List, [], ◌∷◌, ◌++◌, length, Option, Some, None, inl, inr, refl, sym, ap, subst, ◌∙◌, arith}
use Rattle.std.specs.Prelude.{min, slice_get, slice_set}
use Rattle.std.proofs.Math.Bool.{or-false}
use Rattle.std.proofs.lemmas.Bool.{cases_eq, and_from, and_right, eq-eqb, ne_eqb}
use Rattle.std.proofs.lemmas.List.{length-set}
use Rattle.std.proofs.lemmas.List.Folds.{list_any-append}
use Rattle.std.proofs.lemmas.List.Sums.{count_by-le-length}
use Rattle.thread_borrowing.proofs.Places.{set_same, set_other}
use Rattle.orb_base.specs.Conn.{same_conn}
use Rattle.orb_base.specs.declared.conn_id.ConnId.{ConnId}
use Rattle.orb_base.specs.declared.item.Item.TheVariants as item
use Rattle.orb_base.specs.declared.job.Job.{Job}
use Rattle.lane_machine.specs.State.{State}
use Rattle.lane_machine.specs.Machine.{step, item_place}
use Rattle.lane_machine.specs.Histories.{History}
use Rattle.lane_machine.specs.Callers as seat
use Rattle.lane_machine.specs.Callers.{of, ends, has_leave, is_end, is_leave, is_heard, heard_calls, was_closed, latest, slot_seat, IsReading, MayCall, IsFit}
use Rattle.lane_machine.specs.Entries.{One, of_mine, of_other, latest_push, ends_push, leave_push}
use Rattle.lane_machine.proofs.Fates.{heard_push}
use Rattle.lane_machine.specs.declared.call.LaneCall.TheVariants as call
use Rattle.lane_machine.specs.declared.call.LaneReply.{LaneReply}
use Rattle.lane_machine.specs.declared.call.LaneReply.TheVariants as reply
use Rattle.trace_lines.specs.ReadBack.{answer_of, last_len, with_job, given_by, finish_by, call_by, reply_by, entry_by, reply_of_offer, reply_of_post, reply_of_cancel, handed_by}
use Rattle.trace_lines.specs.declared.trace_line.OfferReply.{OfferReply}
use Rattle.trace_lines.specs.declared.trace_line.OfferReply.TheVariants as offer_reply
use Rattle.trace_lines.specs.declared.trace_line.PostReply.{PostReply}
use Rattle.trace_lines.specs.declared.trace_line.PostReply.TheVariants as post_reply
use Rattle.trace_lines.specs.declared.trace_line.CancelReply.{CancelReply}
use Rattle.trace_lines.specs.declared.trace_line.CancelReply.TheVariants as cancel_reply
use Rattle.trace_lines.specs.declared.trace_line.CollectReply.{CollectReply}
use Rattle.trace_lines.specs.declared.trace_line.CollectReply.TheVariants as collect_reply
use Rattle.trace_lines.specs.declared.trace_line.Action.{Action}
use Rattle.trace_lines.specs.declared.trace_line.Action.TheVariants as action
use Rattle.trace_lines.specs.declared.trace_line.TraceLine.{TraceLine}
use Rattle.fit_audit.specs.LastReplies.{last_reply, collected}
use Rattle.fit_audit.specs.Readers.{offer_closing, post_closing, cancel_closing, one_more, hearing, reader_after}
use Rattle.fit_audit.specs.Seats.{set_reader, readers_after, Heard}
use Rattle.fit_audit.specs.declared.last_reply.LastReply.{LastReply}
use Rattle.fit_audit.specs.declared.last_reply.LastReply.TheVariants as kind
use Rattle.fit_audit.specs.declared.reader.Reader.{Reader}
use Rattle.fit_audit.specs.declared.seats.Seats.{Seats}
use Rattle.fit_audit.proofs.Keeping.{conn_at, IsReader, said, Keeps, Few, finish_seat, taken_noted, collected_noted}

closed_push : (conn : ConnId) (mine : History) (e : One) → was_closed conn (mine ++ e ∷ []) ≡ (was_closed conn mine || (is_heard conn e.call && seat.is_closing e.reply || false))
closed_push conn mine e = list_any-append (λ (x : One). is_heard conn x.call && seat.is_closing x.reply) mine (e ∷ [])

lesser : (a b : ℕ) → a ≤ b → min a b ≡ a
lesser a b l = omega arith

more_is : (n m : ℕ) → n ≤ m → m < 2 ^ 64 - 1 → one_more n ≡ n + 1
more_is n m l s = lesser (n + 1) (2 ^ 64 - 1) (omega arith)

-- a call that isn't heard of a connection
quiet : (conn : ConnId) (mine : History) (e : One) → is_heard conn e.call ≡ false
    → (heard_calls conn (mine ++ e ∷ []) ≡ heard_calls conn mine) × (was_closed conn (mine ++ e ∷ []) ≡ was_closed conn mine)
quiet conn mine e q = (
  (let a = heard_push conn mine e in let c : ◌≡◌ {A = ℕ} (cond (is_heard conn e.call) 1 0) 0 = ap (λ (b : Bool). cond {A = ℕ} b 1 0) q in omega arith),
  closed_push conn mine e ∙ ap (λ (b : Bool). was_closed conn mine || (b && seat.is_closing e.reply || false)) q ∙ or-false (was_closed conn mine),
)

or_true : (b : Bool) → (b || true) ≡ true
or_true true = refl
or_true false = refl

-- the number of connections that ended, after a call that ends none
ends_stay : (mine : History) (e : One) → is_end e.call ≡ false → ends (mine ++ e ∷ []) ≡ ends mine
ends_stay mine e q = let a = ends_push mine e in let c : ◌≡◌ {A = ℕ} (cond (is_end e.call) 1 0) 0 = ap (λ (b : Bool). cond {A = ℕ} b 1 0) q in omega arith

-- the slot has left, as before
leave_stays : (mine : History) (e : One) → is_leave e.call ≡ false → has_leave (mine ++ e ∷ []) ≡ has_leave mine
leave_stays mine e q = leave_push mine e ∙ ap (λ (b : Bool). has_leave mine || (b || false)) q ∙ or-false (has_leave mine)

-- a call of the connection that the slot reads
heard_next : (slot : ℕ) (r : Reader) (mine : History) (e : One) (closing : Bool) → IsReader slot r mine → length mine < 2 ^ 64 - 1 → is_end e.call ≡ false → is_leave e.call ≡ false
    → is_heard (conn_at slot (ends mine)) e.call ≡ true → ((nth : ℕ) → ends mine < nth → is_heard (conn_at slot nth) e.call ≡ false) → seat.is_closing e.reply ≡ closing
    → IsReader slot (hearing r closing) (mine ++ e ∷ [])
heard_next slot r mine e closing k small no_end no_leave now after is =
    let same : ends (mine ++ e ∷ []) ≡ ends mine = ends_stay mine e no_end in record {
      ended = k.ended ∙ sym same;
      heard = (let a = heard_push (conn_at slot (ends mine)) mine e in
          let c : ◌≡◌ {A = ℕ} (cond (is_heard (conn_at slot (ends mine)) e.call) 1 0) 1 = ap (λ (b : Bool). cond {A = ℕ} b 1 0) now in
          let few = count_by-le-length (λ (x : One). is_heard (conn_at slot (ends mine)) x.call) mine in
          let i = k.heard in
          let m : one_more r.heard ≡ r.heard + 1 = more_is r.heard (length mine) (omega arith) small in
          let n : r.heard + 1 ≡ heard_calls (conn_at slot (ends mine)) (mine ++ e ∷ []) = omega arith in
          m ∙ n ∙ ap (λ (n : ℕ). heard_calls (conn_at slot n) (mine ++ e ∷ [])) (sym same));
      closed = sym (ap (λ (n : ℕ). was_closed (conn_at slot n) (mine ++ e ∷ [])) same ∙ closed_push (conn_at slot (ends mine)) mine e
          ∙ ap (λ (b : Bool). was_closed (conn_at slot (ends mine)) mine || (b && seat.is_closing e.reply || false)) now
          ∙ ap (λ (b : Bool). was_closed (conn_at slot (ends mine)) mine || b) (or-false (seat.is_closing e.reply) ∙ is)
          ∙ ap (λ (b : Bool). b || closing) (sym k.closed));
      left = k.left ∙ sym (leave_stays mine e no_leave);
      later = λ nth l. (let m : ends mine < nth = omega arith in let q = quiet (conn_at slot nth) mine e (after nth m) in let x = k.later nth m in (q.0 ∙ x.0, q.1 ∙ x.1));
    }

-- the end of that connection
end_next : (slot : ℕ) (r : Reader) (mine : History) (e : One) → IsReader slot r mine → length mine < 2 ^ 64 - 1 → is_end e.call ≡ true → is_leave e.call ≡ false
    → ((conn : ConnId) → is_heard conn e.call ≡ false) → IsReader slot (record { ended = one_more r.ended; heard = 0; closed = false; left = r.left }) (mine ++ e ∷ [])
end_next slot r mine e k small is no_leave none =
    let a = ends_push mine e in let c : ◌≡◌ {A = ℕ} (cond (is_end e.call) 1 0) 1 = ap (λ (b : Bool). cond {A = ℕ} b 1 0) is in
    let more : ends (mine ++ e ∷ []) ≡ ends mine + 1 = omega arith in
    let here = k.later (ends (mine ++ e ∷ [])) (omega arith) in
    let q = quiet (conn_at slot (ends (mine ++ e ∷ []))) mine e (none (conn_at slot (ends (mine ++ e ∷ [])))) in record {
      ended = (let few = count_by-le-length (λ (x : One). is_end x.call) mine in let i = k.ended in
          let m : one_more r.ended ≡ r.ended + 1 = more_is r.ended (length mine) (omega arith) small in omega arith);
      heard = sym (q.0 ∙ here.0);
      closed = sym (q.1 ∙ here.1);
      left = k.left ∙ sym (leave_stays mine e no_leave);
      later = λ nth l. (let p = quiet (conn_at slot nth) mine e (none (conn_at slot nth)) in let x = k.later nth (omega arith) in (p.0 ∙ x.0, p.1 ∙ x.1));
    }

-- the slot leaves
leave_next : (slot : ℕ) (r : Reader) (mine : History) (e : One) → IsReader slot r mine → is_end e.call ≡ false → is_leave e.call ≡ true
    → ((conn : ConnId) → is_heard conn e.call ≡ false) → IsReader slot (record { ended = r.ended; heard = r.heard; closed = r.closed; left = true }) (mine ++ e ∷ [])
leave_next slot r mine e k no_end is none =
    let same : ends (mine ++ e ∷ []) ≡ ends mine = ends_stay mine e no_end in
    let q = quiet (conn_at slot (ends mine)) mine e (none (conn_at slot (ends mine))) in record {
      ended = k.ended ∙ sym same;
      heard = k.heard ∙ sym q.0 ∙ ap (λ (n : ℕ). heard_calls (conn_at slot n) (mine ++ e ∷ [])) (sym same);
      closed = k.closed ∙ sym q.1 ∙ ap (λ (n : ℕ). was_closed (conn_at slot n) (mine ++ e ∷ [])) (sym same);
      left = sym (leave_push mine e ∙ ap (λ (b : Bool). has_leave mine || (b || false)) is ∙ or_true (has_leave mine));
      later = λ nth l. (let p = quiet (conn_at slot nth) mine e (none (conn_at slot nth)) in let x = k.later nth (omega arith) in (p.0 ∙ x.0, p.1 ∙ x.1));
    }

-- replies that say that a limit is met
offer_same : (x : OfferReply) → seat.is_closing (reply_of_offer x) ≡ offer_closing x
offer_same (offer_reply.Run t) = refl
offer_same (offer_reply.Lent t) = refl
offer_same offer_reply.Kept = refl
offer_same offer_reply.Full = refl
offer_same offer_reply.Closing = refl

post_same : (x : PostReply) → seat.is_closing (reply_of_post x) ≡ post_closing x
post_same post_reply.Posted = refl
post_same post_reply.Closing = refl

cancel_same : (x : CancelReply) → seat.is_closing (reply_of_cancel x) ≡ cancel_closing x
cancel_same cancel_reply.Removed = refl
cancel_same cancel_reply.Nothing = refl
cancel_same cancel_reply.Closing = refl

-- one connection, and a later one of its slot
same_now : (conn : ConnId) (n : ℕ) → conn.nth ≡ n → same_conn conn (conn_at conn.slot n) ≡ true
same_now conn n e = and_from (eqb conn.slot conn.slot) (eqb conn.nth n) (eq-eqb conn.slot conn.slot refl) (eq-eqb conn.nth n e)

same_later : (conn : ConnId) (n nth : ℕ) → conn.nth ≡ n → n < nth → same_conn conn (conn_at conn.slot nth) ≡ false
same_later conn n nth e l = and_right (eqb conn.slot conn.slot) (eqb conn.nth nth) (ne_eqb conn.nth nth (λ (q : conn.nth ≡ nth). (omega arith)))

-- a call of the connection that the slot reads, by whichever name it is
offer_next : (s0 : State) (mine : History) (jobs : List Job) (e : One) (conn : ConnId) (closing : Bool) (r : Reader) → IsReader conn.slot r mine → length mine < 2 ^ 64 - 1 → IsReading s0 mine conn
    → is_end e.call ≡ false → is_leave e.call ≡ false → ((c : ConnId) → is_heard c e.call ≡ same_conn conn c) → seat.is_closing e.reply ≡ closing
    → IsReader conn.slot (hearing r closing) (mine ++ e ∷ [])
offer_next s0 mine jobs e conn closing r k small f no_end no_leave is closed =
    heard_next conn.slot r mine e closing k small no_end no_leave (is (conn_at conn.slot (ends mine)) ∙ same_now conn (ends mine) f.next)
    (λ nth l. is (conn_at conn.slot nth) ∙ same_later conn (ends mine) nth f.next l) closed

-- what the seats keep of the callers of slots
abbrev EachReader : State → History → List Reader → Type 0
EachReader s0 h readers = (slot : ℕ) → slot < s0.slots → (r : Reader) × (slice_get readers slot ≡ Some r) × IsReader slot r (of (slot_seat slot) h)

slot_push : (s0 : State) (h : History) (e : One) (readers : List Reader) (slot : ℕ) (a : Action) → EachReader s0 h readers → slot < s0.slots → e.caller ≡ slot_seat slot
    → ((r : Reader) → IsReader slot r (of (slot_seat slot) h) → IsReader slot (reader_after r a) (of (slot_seat slot) h ++ e ∷ []))
    → EachReader s0 (h ++ e ∷ []) (set_reader readers slot (slice_get readers slot) a)
slot_push s0 h e readers slot a each l c f =
    let y = each slot l in
    let now : set_reader readers slot (slice_get readers slot) a ≡ slice_set readers slot (reader_after y.0 a) = ap (λ (o : Option Reader). set_reader readers slot o a) y.1 in
    λ k m. elim (cases_eq k slot) [
      | inl same ↦ subst (λ (z : ℕ). (r : Reader) × (slice_get (set_reader readers slot (slice_get readers slot) a) z ≡ Some r) × IsReader z r (of (slot_seat z) (h ++ e ∷ []))) (sym same) (
        reader_after y.0 a,
        ap (λ (z : List Reader). slice_get z slot) now ∙ set_same readers slot y.0 (reader_after y.0 a) y.1,
        subst (IsReader slot (reader_after y.0 a)) (sym (of_mine (slot_seat slot) h e c)) (f y.0 y.2),
      )
      | inr differs ↦ (let x = each k m in (
        x.0,
        ap (λ (z : List Reader). slice_get z k) now ∙ (set_other readers slot k (reader_after y.0 a) differs ∙ x.1),
        subst (IsReader k x.0) (sym (of_other (slot_seat k) h e (λ (q : e.caller ≡ slot_seat k). differs (let w = c in omega arith)))) x.2,
      ))
    ]

other_push : (s0 : State) (h : History) (e : One) (readers : List Reader) → EachReader s0 h readers → ((slot : ℕ) → slot < s0.slots → e.caller ≡ slot_seat slot → ⊥) → EachReader s0 (h ++ e ∷ []) readers
other_push s0 h e readers each not_it k m = let x = each k m in (x.0, x.1, subst (IsReader k x.0) (sym (of_other (slot_seat k) h e (not_it k m))) x.2)

-- the entries of a caller are no more than all
of_short : (n : ℕ) (h : History) → length (of n h) ≤ length h
of_short n [] = omega arith
of_short n (e ∷ es) = let a = of_short n es in elim (eqb e.caller n) as (λ (b : Bool). length (cond b (e ∷ of n es) (of n es)) ≤ length (e ∷ es)) [ true ↦ omega arith | false ↦ omega arith ]

readers_push : (s0 : State) (h : History) (e : One) (readers : List Reader) (jobs : List Job) (before : List TraceLine) (a : Action) → Few s0 → EachReader s0 h readers
    → length h < 2 ^ 64 - 1 → e.call ≡ call_by jobs a → e.reply ≡ reply_by jobs before a → IsFit s0 e.caller (of e.caller h) (call_by jobs a) → EachReader s0 (h ++ e ∷ []) (readers_after readers a)
readers_push s0 h e readers jobs before (action.Offer request x) few each small c w f =
    let short = of_short (slot_seat request.conn.slot) h in
    let g = subst (λ (n : ℕ). MayCall s0 (of n h) (call_by jobs (action.Offer request x))) f.0 f.1 in
    slot_push s0 h e readers request.conn.slot (action.Offer request x) each g.0.slot f.0 (λ r k.
    offer_next s0 (of (slot_seat request.conn.slot) h) jobs e request.conn (offer_closing x) r k (omega arith) g.0 (ap is_end c) (ap is_leave c) (λ z. ap (is_heard z) c) (ap seat.is_closing w ∙ offer_same x))
readers_push s0 h e readers jobs before (action.Post conn id x) few each small c w f =
    let short = of_short (slot_seat conn.slot) h in
    let g = subst (λ (n : ℕ). MayCall s0 (of n h) (call_by jobs (action.Post conn id x))) f.0 f.1 in
    slot_push s0 h e readers conn.slot (action.Post conn id x) each g.0.slot f.0 (λ r k.
    offer_next s0 (of (slot_seat conn.slot) h) jobs e conn (post_closing x) r k (omega arith) g.0 (ap is_end c) (ap is_leave c) (λ z. ap (is_heard z) c) (ap seat.is_closing w ∙ post_same x))
readers_push s0 h e readers jobs before (action.Cancel conn id x) few each small c w f =
    let short = of_short (slot_seat conn.slot) h in
    let g = subst (λ (n : ℕ). MayCall s0 (of n h) (call_by jobs (action.Cancel conn id x))) f.0 f.1 in
    slot_push s0 h e readers conn.slot (action.Cancel conn id x) each g.0.slot f.0 (λ r k.
    offer_next s0 (of (slot_seat conn.slot) h) jobs e conn (cancel_closing x) r k (omega arith) g.0 (ap is_end c) (ap is_leave c) (λ z. ap (is_heard z) c) (ap seat.is_closing w ∙ cancel_same x))
readers_push s0 h e readers jobs before (action.Take t task) few each small c w f =
    other_push s0 h e readers each (λ slot l q. (let m = f.0 in omega arith))
readers_push s0 h e readers jobs before (action.Finish t j len) few each small c w f =
    let m = f.0 ∙ finish_seat s0 t len (slice_get jobs j) in
    other_push s0 h e readers each (λ slot l q. (omega arith))
readers_push s0 h e readers jobs before (action.Collect conn x) few each small c w f =
    other_push s0 h e readers each (λ slot l q. (let m = f.0 in let b = few.slots in omega arith))
readers_push s0 h e readers jobs before (action.End conn how) few each small c w f =
    let short = of_short (slot_seat conn.slot) h in
    let g = subst (λ (n : ℕ). MayCall s0 (of n h) (call_by jobs (action.End conn how))) f.0 f.1 in
    slot_push s0 h e readers conn.slot (action.End conn how) each g.slot f.0 (λ r k.
    end_next conn.slot r (of (slot_seat conn.slot) h) e k (omega arith) (ap is_end c) (ap is_leave c) (λ z. ap (is_heard z) c))
readers_push s0 h e readers jobs before (action.Leave slot) few each small c w f =
    let g = subst (λ (n : ℕ). MayCall s0 (of n h) (call_by jobs (action.Leave slot))) f.0 f.1 in
    slot_push s0 h e readers slot (action.Leave slot) each g.0 f.0 (λ r k.
    leave_next slot r (of (slot_seat slot) h) e k (ap is_end c) (ap is_leave c) (λ z. ap (is_heard z) c))

-- the callers of the slots stay as many
set_long : (readers : List Reader) (slot : ℕ) (o : Option Reader) (a : Action) → length (set_reader readers slot o a) ≡ length readers
set_long readers slot (Some r) a = length-set readers slot (reader_after r a)
set_long readers slot None a = refl

readers_long : (readers : List Reader) (a : Action) → length (readers_after readers a) ≡ length readers
readers_long readers (action.Offer request x) = set_long readers request.conn.slot (slice_get readers request.conn.slot) (action.Offer request x)
readers_long readers (action.Post conn id x) = set_long readers conn.slot (slice_get readers conn.slot) (action.Post conn id x)
readers_long readers (action.Cancel conn id x) = set_long readers conn.slot (slice_get readers conn.slot) (action.Cancel conn id x)
readers_long readers (action.Take t task) = refl
readers_long readers (action.Finish t j len) = refl
readers_long readers (action.Collect conn x) = refl
readers_long readers (action.End conn how) = set_long readers conn.slot (slice_get readers conn.slot) (action.End conn how)
readers_long readers (action.Leave slot) = set_long readers slot (slice_get readers slot) (action.Leave slot)

-- the last reply of a legal line is what the line says
finish_said : (s : State) (t len : ℕ) (o : Option Job) → with_job (λ job. reply.Finished) o ≡ (step s (finish_by t len o)).1 → kind.Finished ≡ said (Some (with_job (λ job. reply.Finished) o))
finish_said s t len (Some job) w = refl
finish_said s t len None w = absurd (taken_noted s t (slice_get s.threads t) w)

handed_said : (s : State) (conn : ConnId) (make : Job → LaneReply) (o : Option Job) → ((job : Job) → kind.Handed ≡ said (Some (make job))) → with_job make o ≡ (step s (call.Collect conn)).1
    → kind.Handed ≡ said (Some (with_job make o))
handed_said s conn make (Some job) f w = f job
handed_said s conn make None f w = absurd (collected_noted s conn (item_place s conn) w)

collect_said : (s : State) (jobs : List Job) (before : List TraceLine) (conn : ConnId) (x : CollectReply) → handed_by jobs before conn x ≡ (step s (call.Collect conn)).1
    → collected x ≡ said (Some (handed_by jobs before conn x))
collect_said s jobs before conn (collect_reply.Answered k) w =
    handed_said s conn (λ job. reply.Handed (item.Answered (answer_of job (last_len k 0 before)))) (slice_get jobs k) (λ job. refl) w
collect_said s jobs before conn (collect_reply.Early k) w = handed_said s conn (λ job. reply.Handed (item.Early job)) (slice_get jobs k) (λ job. refl) w
collect_said s jobs before conn (collect_reply.Transient k) w = handed_said s conn (λ job. reply.Handed (item.Transient job)) (slice_get jobs k) (λ job. refl) w
collect_said s jobs before conn (collect_reply.Posted id) w = refl
collect_said s jobs before conn collect_reply.Close w = refl
collect_said s jobs before conn collect_reply.Error w = refl
collect_said s jobs before conn collect_reply.Done w = refl

offer_said : (x : OfferReply) → kind.Other ≡ said (Some (reply_of_offer x))
offer_said (offer_reply.Run t) = refl
offer_said (offer_reply.Lent t) = refl
offer_said offer_reply.Kept = refl
offer_said offer_reply.Full = refl
offer_said offer_reply.Closing = refl

post_said : (x : PostReply) → kind.Other ≡ said (Some (reply_of_post x))
post_said post_reply.Posted = refl
post_said post_reply.Closing = refl

cancel_said : (x : CancelReply) → kind.Other ≡ said (Some (reply_of_cancel x))
cancel_said cancel_reply.Removed = refl
cancel_said cancel_reply.Nothing = refl
cancel_said cancel_reply.Closing = refl

task_said : (o : Option Job) → kind.Other ≡ said (Some (with_job reply.Given o))
task_said (Some job) = refl
task_said None = refl

take_said : (jobs : List Job) (task : Option ℕ) → kind.Other ≡ said (Some (given_by jobs task))
take_said jobs (Some k) = task_said (slice_get jobs k)
take_said jobs None = refl

said_is : (s : State) (jobs : List Job) (before : List TraceLine) (a : Action) → reply_by jobs before a ≡ (step s (call_by jobs a)).1 → last_reply a ≡ said (Some (reply_by jobs before a))
said_is s jobs before (action.Offer request x) w = offer_said x
said_is s jobs before (action.Post conn id x) w = post_said x
said_is s jobs before (action.Cancel conn id x) w = cancel_said x
said_is s jobs before (action.Take t task) w = take_said jobs task
said_is s jobs before (action.Finish t j len) w = finish_said s t len (slice_get jobs j) w
said_is s jobs before (action.Collect conn x) w = collect_said s jobs before conn x w
said_is s jobs before (action.End conn how) w = refl
said_is s jobs before (action.Leave slot) w = refl

-- the last replies, after one more
replies_push : (s0 : State) (h : History) (e : One) (replies : List LastReply) (x : LastReply) → ((n : ℕ) → n < 81 + 128 * s0.slots → slice_get replies n ≡ Some (said (latest None (of n h))))
    → x ≡ said (Some e.reply) → (n : ℕ) → n < 81 + 128 * s0.slots → slice_get (slice_set replies e.caller x) n ≡ Some (said (latest None (of n (h ++ e ∷ []))))
replies_push s0 h e replies x each is n l = elim (cases_eq n e.caller) [
  | inl same ↦ ap (λ (z : ℕ). slice_get (slice_set replies z x) n) (sym same) ∙ set_same replies n (said (latest None (of n h))) x (each n l)
      ∙ ap Some (is ∙ ap said (sym (ap (latest None) (of_mine n h e (sym same)) ∙ latest_push None (of n h) e)))
  | inr differs ↦ set_other replies e.caller n x differs ∙ each n l
      ∙ ap (λ (z : History). Some (said (latest None z))) (sym (of_other n h e (λ (q : e.caller ≡ n). differs (sym q))))
]

-- what the seats keep after a line that they heard
pub keeps_step : (s0 s : State) (h : History) (jobs : List Job) (before : List TraceLine) (l : TraceLine) (e : One) (old new : Seats) → Few s0 → Keeps s0 h old → length h < 2 ^ 64 - 1
    → e ≡ entry_by jobs before l → reply_by jobs before l.action ≡ (step s (call_by jobs l.action)).1 → IsFit s0 l.caller (of l.caller h) (call_by jobs l.action)
    → Heard l old new → new.fit ≡ true → Keeps s0 (h ++ e ∷ []) new
keeps_step s0 s h jobs before l e old new few k small is w f heard t =
    let by : e.caller ≡ l.caller = ap (λ (z : One). z.caller) is in
    let says : e.reply ≡ reply_by jobs before l.action = ap (λ (z : One). z.reply) is in
    let called : e.call ≡ call_by jobs l.action = ap (λ (z : One). z.call) is in
    let fit : IsFit s0 e.caller (of e.caller h) (call_by jobs l.action) = subst (λ (n : ℕ). IsFit s0 n (of n h) (call_by jobs l.action)) (sym by) f in
    let readers = heard.readers t in
    let replies : new.replies.items ≡ slice_set old.replies.items e.caller (last_reply l.action) = heard.replies t ∙ ap (λ (n : ℕ). slice_set old.replies.items n (last_reply l.action)) (sym by) in record {
      slots = heard.slots ∙ k.slots;
      per_slot = heard.per_slot ∙ k.per_slot;
      many_readers = ap length readers ∙ readers_long old.readers.items l.action ∙ k.many_readers;
      many_replies = ap length replies ∙ length-set old.replies.items e.caller (last_reply l.action) ∙ k.many_replies;
      reader = subst (EachReader s0 (h ++ e ∷ [])) (sym readers) (readers_push s0 h e old.readers.items jobs before l.action few k.reader small called says fit);
      last = λ n m. ap (λ (z : List LastReply). slice_get z n) replies
          ∙ replies_push s0 h e old.replies.items (last_reply l.action) k.last (said_is s jobs before l.action w ∙ ap (λ (z : LaneReply). said (Some z)) (sym says)) n m;
    }
