-- Each caller has few marks, and one left while it may call.
use Rattle.std.proofs.Common.{◌≡◌, ℕ, ◌+◌, ◌*◌, ◌<◌, ◌≤◌, Bool, true, false, cond, eqb, ◌&&◌, ◌||◌, List, [], ◌∷◌, ◌++◌, length, Option, Some, None, inl, inr, ◌⊎◌, sym, refl, ap, ◌∙◌, arith}
use Rattle.std.specs.Prelude.{nat_lt}
use Rattle.std.proofs.lemmas.Bool.{cases_Bool, and_parts, and_from, and_right, or_left, or_right, lt-ltb, ltb-true, eq-eqb}
use Rattle.std.proofs.lemmas.List.Sums.{sum_by_push}
use Rattle.std.proofs.lemmas.List.Folds.{list_any-append}
use Rattle.orb_base.specs.declared.job.Job.{Job}
use Rattle.orb_base.specs.declared.conn_id.ConnId.{ConnId}
use Rattle.orb_base.specs.declared.item.Item.{Item}
use Rattle.orb_base.specs.declared.item.Item.TheVariants as item
use Rattle.orb_base.specs.Conn.{same_conn}
use Rattle.lane_machine.specs.declared.call.LaneCall.{LaneCall}
use Rattle.lane_machine.specs.declared.call.LaneCall.TheVariants.{Offer, Post, Cancel, Take, Finish, Collect, End, Leave}
use Rattle.lane_machine.specs.declared.call.LaneReply.{LaneReply}
use Rattle.lane_machine.specs.declared.call.LaneReply.TheVariants as reply
use Rattle.lane_machine.specs.State.{State}
use Rattle.lane_machine.specs.Machine.{step, is_over}
use Rattle.lane_machine.specs.Histories.{History}
use Rattle.lane_machine.specs.Callers.{of, latest, ends, has_leave, is_end, is_leave, is_heard, is_closing, was_closed, may_take, may_collect, IsFit, IsReading, slot_seat, worker_seat}
use Rattle.lane_machine.specs.Counting.{is_mark, marks}
use Rattle.lane_machine.specs.Entries.{One, latest_push, ends_push, leave_push}
use Rattle.lane_machine.proofs.Weighs.{weigh, OfferMoves, PostMoves, CancelMoves, offer_moves, post_moves, cancel_moves}
use Rattle.lane_machine.proofs.Bounds.{owing}

abbrev pub one : Bool → ℕ
one b = cond b 1 0

pub marks_push : (h : History) (e : One) → marks (h ++ e ∷ []) ≡ marks h + one (is_mark e.reply)
marks_push h e = sum_by_push (λ (x : One). cond (is_mark x.reply) 1 0) h e

pub one_le : (b : Bool) → one b ≤ 1
one_le true = omega arith
one_le false = omega arith

-- workers and writing sides: one mark, the last reply
abbrev pub unmarked : Option LaneReply → ℕ
unmarked None = 1
unmarked (Some r) = cond (is_mark r) 0 1

both_one : (b : Bool) → cond b 1 0 + cond b 0 1 ≡ 1
both_one true = refl
both_one false = refl

abbrev pub OnceMarked : History → Type 0
OnceMarked mine = marks mine + unmarked (latest None mine) ≤ 1

pub once_push : (mine : History) (e : One) → unmarked (latest None mine) ≡ 1 → OnceMarked mine → OnceMarked (mine ++ e ∷ [])
once_push mine e u m = let a = marks_push mine e in let b : unmarked (latest None (mine ++ e ∷ [])) ≡ cond (is_mark e.reply) 0 1 = ap unmarked (latest_push None mine e) in let c = both_one (is_mark e.reply) in omega arith

take_free : (o : Option LaneReply) → may_take o ≡ true → unmarked o ≡ 1
take_free None t = refl
take_free (Some reply.Finished) t = refl
take_free (Some r) t = absurd (cc)

collect_free : (o : Option LaneReply) → may_collect o ≡ true → unmarked o ≡ 1
collect_free None t = refl
collect_free (Some (reply.Handed i)) t = refl
collect_free (Some r) t = absurd (cc)

-- a caller that is no slot has its mark left when it calls
pub once_fit : (s0 : State) (n : ℕ) (mine : History) (call : LaneCall) → s0.slots < n → IsFit s0 n mine call → unmarked (latest None mine) ≡ 1
once_fit s0 n mine (Offer job) l f = absurd (let a = f.0 in let b = f.1.0.slot in omega arith)
once_fit s0 n mine (Post notice) l f = absurd (let a = f.0 in let b = f.1.0.slot in omega arith)
once_fit s0 n mine (Cancel conn id) l f = absurd (let a = f.0 in let b = f.1.0.slot in omega arith)
once_fit s0 n mine (Take t) l f = take_free (latest None mine) f.1.1
once_fit s0 n mine (Finish t answer) l f = ap unmarked f.1.1
once_fit s0 n mine (Collect conn) l f = collect_free (latest None mine) f.1.2
once_fit s0 n mine (End conn how) l f = absurd (let a = f.0 in let b = f.1.slot in omega arith)
once_fit s0 n mine (Leave slot) l f = absurd (let a = f.0 in let b = f.1.0 in omega arith)

-- slots: two marks for each connection, and the Leave
abbrev current : ℕ → History → ConnId
current slot mine = record { slot = slot; nth = ends mine }

abbrev closed_now : ℕ → ℕ → History → Bool
closed_now per_slot slot mine = was_closed (current slot mine) mine && nat_lt (ends mine) per_slot

pub record SlotMarked (per_slot slot : ℕ) (mine : History) : Type 0 where
  pub few_ends : ends mine ≤ per_slot
  pub few_marks : marks mine ≤ 2 * ends mine + one (closed_now per_slot slot mine) + one (has_leave mine)

pub closed_push : (conn : ConnId) (mine : History) (e : One) → was_closed conn (mine ++ e ∷ []) ≡ (was_closed conn mine || (is_heard conn e.call && is_closing e.reply || false))
closed_push conn mine e = list_any-append (λ (x : One). is_heard conn x.call && is_closing x.reply) mine (e ∷ [])

-- a heard call
heard_step : (per_slot slot : ℕ) (mine : History) (e : One) → is_end e.call ≡ false → is_heard (current slot mine) e.call ≡ true → is_mark e.reply ≡ is_closing e.reply → ends mine < per_slot → was_closed (current slot mine) mine ≡ false → has_leave mine ≡ false
    → SlotMarked per_slot slot mine → SlotMarked per_slot slot (mine ++ e ∷ [])
heard_step per_slot slot mine e no_end heard same room fresh stays m =
    let a = marks_push mine e in let b = ends_push mine e in let c : ◌≡◌ {A = ℕ} (cond (is_end e.call) 1 0) 0 = ap (λ (z : Bool). cond {A = ℕ} z 1 0) no_end in
    let d : one (closed_now per_slot slot mine) ≡ 0 = ap (λ (z : Bool). one (z && nat_lt (ends mine) per_slot)) fresh in let x : one (has_leave mine) ≡ 0 = ap one stays in
    let y = m.few_marks in let z : one (is_mark e.reply) ≡ one (is_closing e.reply) = ap one same in record {
      few_ends = omega arith;
      few_marks = elim (cases_Bool (is_closing e.reply)) [
        | inl t ↦ (let k : ends (mine ++ e ∷ []) ≡ ends mine = omega arith in
            let w : was_closed (current slot mine) (mine ++ e ∷ []) ≡ true = closed_push (current slot mine) mine e ∙ (ap (λ (q : Bool). was_closed (current slot mine) mine || q) (ap (λ (q : Bool). q || false) (and_from (is_heard (current slot mine) e.call) (is_closing e.reply) heard t)) ∙ or_right (was_closed (current slot mine) mine) true refl) in
            let v : one (closed_now per_slot slot (mine ++ e ∷ [])) ≡ 1 = ap one (and_from (was_closed (current slot (mine ++ e ∷ [])) (mine ++ e ∷ [])) (nat_lt (ends (mine ++ e ∷ [])) per_slot)
            (ap (λ (q : ℕ). was_closed (record { slot = slot; nth = q }) (mine ++ e ∷ [])) k ∙ w) (lt-ltb (ends (mine ++ e ∷ [])) per_slot (omega arith))) in
            let u = one_le (is_closing e.reply) in omega arith)
        | inr t ↦ (let u : one (is_closing e.reply) ≡ 0 = ap one t in omega arith)
      ];
    }

end_step : (per_slot slot : ℕ) (mine : History) (e : One) → is_end e.call ≡ true → ends mine < per_slot → has_leave mine ≡ false → SlotMarked per_slot slot mine → SlotMarked per_slot slot (mine ++ e ∷ [])
end_step per_slot slot mine e is room stays m =
    let a = marks_push mine e in let b = ends_push mine e in let c : ◌≡◌ {A = ℕ} (cond (is_end e.call) 1 0) 1 = ap (λ (z : Bool). cond {A = ℕ} z 1 0) is in
    let d = one_le (closed_now per_slot slot mine) in let x : one (has_leave mine) ≡ 0 = ap one stays in let y = m.few_marks in let z = one_le (is_mark e.reply) in record { few_ends = omega arith; few_marks = omega arith }

leave_step : (per_slot slot : ℕ) (mine : History) (e : One) → is_end e.call ≡ false → is_leave e.call ≡ true → has_leave mine ≡ false → SlotMarked per_slot slot mine → SlotMarked per_slot slot (mine ++ e ∷ [])
leave_step per_slot slot mine e no_end is stays m =
    let a = marks_push mine e in let b = ends_push mine e in let c : ◌≡◌ {A = ℕ} (cond (is_end e.call) 1 0) 0 = ap (λ (z : Bool). cond {A = ℕ} z 1 0) no_end in let x : one (has_leave mine) ≡ 0 = ap one stays in
    let k : ends (mine ++ e ∷ []) ≡ ends mine = omega arith in let y = m.few_marks in let z = one_le (is_mark e.reply) in let f = m.few_ends in
    let l : one (has_leave (mine ++ e ∷ [])) ≡ 1 = ap one (leave_push mine e ∙ (ap (λ (q : Bool). has_leave mine || (q || false)) is ∙ or_right (has_leave mine) true refl)) in record {
      few_ends = omega arith;
      few_marks = elim (cases_Bool (closed_now per_slot slot mine)) [
        | inl t ↦ (let h = and_parts (was_closed (current slot mine) mine) (nat_lt (ends mine) per_slot) t in
            let w : was_closed (current slot mine) (mine ++ e ∷ []) ≡ true = closed_push (current slot mine) mine e ∙ or_left (was_closed (current slot mine) mine) (is_heard (current slot mine) e.call && is_closing e.reply || false) h.0 in
            let v : one (closed_now per_slot slot (mine ++ e ∷ [])) ≡ 1 = ap one (and_from (was_closed (current slot (mine ++ e ∷ [])) (mine ++ e ∷ [])) (nat_lt (ends (mine ++ e ∷ [])) per_slot)
            (ap (λ (q : ℕ). was_closed (record { slot = slot; nth = q }) (mine ++ e ∷ [])) k ∙ w) (ap (λ (q : ℕ). nat_lt q per_slot) k ∙ h.1)) in
            let u = one_le (closed_now per_slot slot mine) in omega arith)
        | inr t ↦ (let u : one (closed_now per_slot slot mine) ≡ 0 = ap one t in omega arith)
      ];
    }

-- how many marks a slot may have, and that one is left while it has no Leave
pub slot_room : (per_slot slot : ℕ) (mine : History) → SlotMarked per_slot slot mine → marks mine ≤ 2 * per_slot + one (has_leave mine)
slot_room per_slot slot mine m = let f = m.few_ends in let y = m.few_marks in elim (cases_Bool (nat_lt (ends mine) per_slot)) [
  | inl t ↦ (let a = ltb-true (ends mine) per_slot t in let b = one_le (closed_now per_slot slot mine) in omega arith)
  | inr t ↦ (let b : one (closed_now per_slot slot mine) ≡ 0 = ap one (and_right (was_closed (current slot mine) mine) (nat_lt (ends mine) per_slot) t) in omega arith)
]

offer_marks : (job : Job) (a b : ℕ) (r : LaneReply) → OfferMoves (owing job.conn) job a b r → is_mark r ≡ is_closing r
offer_marks job a b (reply.Run t lent) m = refl
offer_marks job a b reply.Kept m = refl
offer_marks job a b reply.Full m = refl
offer_marks job a b reply.Closing m = refl
offer_marks job a b r m = absurd m

post_marks : (conn : ConnId) (i : Item) (a b : ℕ) (r : LaneReply) → PostMoves (owing conn) i a b r → is_mark r ≡ is_closing r
post_marks conn i a b reply.Posted m = refl
post_marks conn i a b reply.Closing m = refl
post_marks conn i a b r m = absurd m

cancel_marks : (waiting : List Job) (conn : ConnId) (id a b : ℕ) (r : LaneReply) → CancelMoves (owing conn) waiting conn id a b r → is_mark r ≡ is_closing r
cancel_marks waiting conn id a b reply.Removed m = refl
cancel_marks waiting conn id a b reply.Nothing m = refl
cancel_marks waiting conn id a b reply.Closing m = refl
cancel_marks waiting conn id a b r m = absurd m

pub same_self : (conn : ConnId) → same_conn conn conn ≡ true
same_self conn = and_from (eqb conn.slot conn.slot) (eqb conn.nth conn.nth) (eq-eqb conn.slot conn.slot refl) (eq-eqb conn.nth conn.nth refl)

heard_call : (s0 : State) (slot : ℕ) (mine : History) (e : One) (conn : ConnId) → conn.slot ≡ slot → IsReading s0 mine conn → was_closed conn mine ≡ false → is_end e.call ≡ false → is_heard conn e.call ≡ true → is_mark e.reply ≡ is_closing e.reply
    → SlotMarked s0.per_slot slot mine → SlotMarked s0.per_slot slot (mine ++ e ∷ [])
heard_call s0 slot mine e conn at r fresh no_end heard same m = let n = r.next in let is : conn ≡ current slot mine = λ i. record { slot = at i; nth = n i } in
    heard_step s0.per_slot slot mine e no_end (ap (λ (z : ConnId). is_heard z e.call) (sym is) ∙ heard) same (let l = r.nth in omega arith) (ap (λ (z : ConnId). was_closed z mine) (sym is) ∙ fresh) r.stays m

pub slot_step : (s0 s : State) (slot : ℕ) (mine : History) (e : One) (call : LaneCall) → s0.slots ≤ 16 → slot < s0.slots → e.caller ≡ slot_seat slot → e.call ≡ call → e.reply ≡ (step s call).1 → IsFit s0 e.caller mine call
    → SlotMarked s0.per_slot slot mine → SlotMarked s0.per_slot slot (mine ++ e ∷ [])
slot_step s0 s slot mine e (Offer job) few l n c w f m = heard_call s0 slot mine e job.conn (let a = f.0 in omega arith) f.1.0 f.1.1 (ap is_end c) (ap (is_heard job.conn) c ∙ same_self job.conn)
    (ap is_mark w ∙ (offer_marks job (weigh (owing job.conn) s) (weigh (owing job.conn) (step s (Offer job)).0) (step s (Offer job)).1 (offer_moves (owing job.conn) s job (is_over s job.size)) ∙ ap is_closing (sym w))) m
slot_step s0 s slot mine e (Post notice) few l n c w f m = heard_call s0 slot mine e notice.conn (let a = f.0 in omega arith) f.1.0 f.1.1 (ap is_end c) (ap (is_heard notice.conn) c ∙ same_self notice.conn)
    (ap is_mark w ∙ (post_marks notice.conn (item.Noticed notice) (weigh (owing notice.conn) s) (weigh (owing notice.conn) (step s (Post notice)).0) (step s (Post notice)).1 (post_moves (owing notice.conn) s (item.Noticed notice) (is_over s 0)) ∙ ap is_closing (sym w))) m
slot_step s0 s slot mine e (Cancel conn id) few l n c w f m = heard_call s0 slot mine e conn (let a = f.0 in omega arith) f.1.0 f.1.1 (ap is_end c) (ap (is_heard conn) c ∙ same_self conn)
    (ap is_mark w ∙ (cancel_marks s.waiting conn id (weigh (owing conn) s) (weigh (owing conn) (step s (Cancel conn id)).0) (step s (Cancel conn id)).1 (cancel_moves (owing conn) s conn id (is_over s 0)) ∙ ap is_closing (sym w))) m
slot_step s0 s slot mine e (Take t) few l n c w f m = absurd (let a = f.0 in omega arith)
slot_step s0 s slot mine e (Finish t answer) few l n c w f m = absurd (let a = f.0 in omega arith)
slot_step s0 s slot mine e (Collect conn) few l n c w f m = absurd (let a = f.0 in omega arith)
slot_step s0 s slot mine e (End conn how) few l n c w f m = end_step s0.per_slot slot mine e (ap is_end c) (let a = f.1.nth in let b = f.1.next in omega arith) f.1.stays m
slot_step s0 s slot mine e (Leave k) few l n c w f m = leave_step s0.per_slot slot mine e (ap is_end c) (ap is_leave c) f.1.1 m

-- a slot that may call has no Leave
pub slot_fit : (s0 : State) (n : ℕ) (mine : History) (call : LaneCall) → s0.slots ≤ 16 → n ≤ s0.slots → IsFit s0 n mine call → has_leave mine ≡ false
slot_fit s0 n mine (Offer job) few l f = f.1.0.stays
slot_fit s0 n mine (Post notice) few l f = f.1.0.stays
slot_fit s0 n mine (Cancel conn id) few l f = f.1.0.stays
slot_fit s0 n mine (Take t) few l f = absurd (let a = f.0 in omega arith)
slot_fit s0 n mine (Finish t answer) few l f = absurd (let a = f.0 in omega arith)
slot_fit s0 n mine (Collect conn) few l f = absurd (let a = f.0 in omega arith)
slot_fit s0 n mine (End conn how) few l f = f.1.stays
slot_fit s0 n mine (Leave slot) few l f = f.1.1

-- the seat of a fit call
abbrev pub IsSeat : State → ℕ → Type 0
IsSeat s0 n = ((slot : ℕ) × (slot < s0.slots) × (n ≡ slot_seat slot)) ⊎ (((t : ℕ) × (t < length s0.threads) × (n ≡ worker_seat s0.slots t)) ⊎ ((slot k : ℕ) × (slot < s0.slots) × (k < s0.per_slot) × (n ≡ 81 + 128 * slot + k)))

pub seated : (s0 : State) (n : ℕ) (mine : History) (call : LaneCall) → IsFit s0 n mine call → IsSeat s0 n
seated s0 n mine (Offer job) f = inl (job.conn.slot, f.1.0.slot, f.0)
seated s0 n mine (Post notice) f = inl (notice.conn.slot, f.1.0.slot, f.0)
seated s0 n mine (Cancel conn id) f = inl (conn.slot, f.1.0.slot, f.0)
seated s0 n mine (Take t) f = inr (inl (t, f.1.0, f.0))
seated s0 n mine (Finish t answer) f = inr (inl (t, f.1.0, f.0))
seated s0 n mine (Collect conn) f = inr (inr (conn.slot, conn.nth, f.1.0, f.1.1, f.0))
seated s0 n mine (End conn how) f = inl (conn.slot, f.1.slot, f.0)
seated s0 n mine (Leave slot) f = inl (slot, f.1.0, f.0)

-- the marks of one seat, and of all
abbrev pub marks_of : History → ℕ → ℕ
marks_of h n = marks (of n h)
