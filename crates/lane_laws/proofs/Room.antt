-- A history has room for each fit call.
use Rattle.std.proofs.Common.{◌≡◌, ℕ, ◌+◌, ◌*◌, ◌<◌, ◌≤◌, Bool, true, cond, [], ◌∷◌, ◌++◌, length, ◌-◌, inl, inr, append-nil, append_assoc, sym, refl, ap, ◌∙◌, subst, arith}
use Rattle.std.specs.Prelude.{nat_le}
use Rattle.std.proofs.lemmas.Bool.{cases_eq, cases_lt, le-leb, lt-leb}
use Rattle.orb_base.specs.Pool.{Pool}
use Rattle.lane_machine.specs.declared.call.LaneCall.{LaneCall}
use Rattle.lane_machine.specs.State.{State, Opens, opening}
use Rattle.lane_machine.specs.Machine.{step}
use Rattle.lane_machine.specs.Readiness.{is_ready, IsSound}
use Rattle.lane_machine.specs.Histories.{History, replay, IsLegal}
use Rattle.lane_machine.specs.Callers.{of, has_leave, IsFit, AreFit, slot_seat, worker_seat}
use Rattle.lane_machine.specs.Counting.{is_mark, marks, room}
use Rattle.lane_machine.specs.Entries.{One, of_mine, of_other, along}
use Rattle.lane_machine.specs.Changes.{changes}
use Rattle.lane_machine.proofs.Length.{entries, Counted, counted_step}
use Rattle.lane_machine.proofs.Bounds.{opening_weighs}
use Rattle.lane_laws.proofs.Marks.{one, one_le, marks_push, marks_of, OnceMarked, once_push, once_fit, SlotMarked, slot_step, slot_fit, slot_room, IsSeat, seated}
use Rattle.lane_laws.proofs.Tallies.{sum_below, below_le, below_more, all_slots, all_ones, all_pairs}

-- the marks of all seats
abbrev all_marks : State → (ℕ → ℕ) → ℕ
all_marks s0 f = sum_below (λ i. f (slot_seat i)) s0.slots + sum_below (λ t. f (worker_seat s0.slots t)) (length s0.threads) + sum_below (λ i. sum_below (λ k. f (81 + 128 * i + k)) s0.per_slot) s0.slots

-- one seat has more
seats_more : (s0 : State) (f g : ℕ → ℕ) (n d : ℕ) → ((j : ℕ) → 0 < j → f j ≤ g j) → f n + d ≤ g n → IsSeat s0 n → all_marks s0 f + d ≤ all_marks s0 g
seats_more s0 f g n d h m (inl q) =
    let a = below_more (λ i. f (slot_seat i)) (λ i. g (slot_seat i)) s0.slots q.0 d (λ j l. h (slot_seat j) (omega arith)) q.1 (subst (λ (z : ℕ). f z + d ≤ g z) q.2 m) in
    let b = below_le (λ t. f (worker_seat s0.slots t)) (λ t. g (worker_seat s0.slots t)) (length s0.threads) (λ t l. h (worker_seat s0.slots t) (omega arith)) in
    let c = below_le (λ i. sum_below (λ k. f (81 + 128 * i + k)) s0.per_slot) (λ i. sum_below (λ k. g (81 + 128 * i + k)) s0.per_slot) s0.slots (λ i l. below_le (λ k. f (81 + 128 * i + k)) (λ k. g (81 + 128 * i + k)) s0.per_slot (λ k y. h (81 + 128 * i + k) (omega arith))) in omega arith
seats_more s0 f g n d h m (inr (inl q)) =
    let a = below_le (λ i. f (slot_seat i)) (λ i. g (slot_seat i)) s0.slots (λ j l. h (slot_seat j) (omega arith)) in
    let b = below_more (λ t. f (worker_seat s0.slots t)) (λ t. g (worker_seat s0.slots t)) (length s0.threads) q.0 d (λ t l. h (worker_seat s0.slots t) (omega arith)) q.1 (subst (λ (z : ℕ). f z + d ≤ g z) q.2 m) in
    let c = below_le (λ i. sum_below (λ k. f (81 + 128 * i + k)) s0.per_slot) (λ i. sum_below (λ k. g (81 + 128 * i + k)) s0.per_slot) s0.slots (λ i l. below_le (λ k. f (81 + 128 * i + k)) (λ k. g (81 + 128 * i + k)) s0.per_slot (λ k y. h (81 + 128 * i + k) (omega arith))) in omega arith
seats_more s0 f g n d h m (inr (inr q)) =
    let a = below_le (λ i. f (slot_seat i)) (λ i. g (slot_seat i)) s0.slots (λ j l. h (slot_seat j) (omega arith)) in
    let b = below_le (λ t. f (worker_seat s0.slots t)) (λ t. g (worker_seat s0.slots t)) (length s0.threads) (λ t l. h (worker_seat s0.slots t) (omega arith)) in
    let c = below_more (λ i. sum_below (λ k. f (81 + 128 * i + k)) s0.per_slot) (λ i. sum_below (λ k. g (81 + 128 * i + k)) s0.per_slot) s0.slots q.0 d (λ i l. below_le (λ k. f (81 + 128 * i + k)) (λ k. g (81 + 128 * i + k)) s0.per_slot (λ k y. h (81 + 128 * i + k) (omega arith))) q.2
    (below_more (λ k. f (81 + 128 * q.0 + k)) (λ k. g (81 + 128 * q.0 + k)) s0.per_slot q.1 d (λ k y. h (81 + 128 * q.0 + k) (omega arith)) q.3 (subst (λ (z : ℕ). f z + d ≤ g z) q.4 m)) in omega arith

-- what the marks keep
pub record Marked (s0 : State) (h : History) : Type 0 where
  pub slots : (slot : ℕ) → slot < s0.slots → SlotMarked s0.per_slot slot (of (slot_seat slot) h)
  pub others : (n : ℕ) → s0.slots < n → OnceMarked (of n h)
  pub spread : marks h ≤ all_marks s0 (marks_of h)

more : (h : History) (e : One) (n : ℕ) → marks_of h n ≤ marks_of (h ++ e ∷ []) n
more h e n = elim (cases_eq e.caller n) [
  | inl c ↦ (let a = marks_push (of n h) e in let b : marks_of (h ++ e ∷ []) n ≡ marks (of n h ++ e ∷ []) = ap marks (of_mine n h e c) in omega arith)
  | inr d ↦ (let b : marks_of (h ++ e ∷ []) n ≡ marks (of n h) = ap marks (of_other n h e d) in omega arith)
]

marked_step : (s0 : State) → s0.slots ≤ 16 → (h : History) (s : State) (e : One) → Marked s0 h → e.reply ≡ (step s e.call).1 → IsFit s0 e.caller (of e.caller h) e.call → Marked s0 (h ++ e ∷ [])
marked_step s0 few h s e m w f = record {
  slots = λ slot l. elim (cases_eq e.caller (slot_seat slot)) [
    | inl c ↦ subst (SlotMarked s0.per_slot slot) (sym (of_mine (slot_seat slot) h e c)) (slot_step s0 s slot (of (slot_seat slot) h) e e.call few l c refl w (subst (λ (n : ℕ). IsFit s0 e.caller (of n h) e.call) c f) (m.slots slot l))
    | inr d ↦ subst (SlotMarked s0.per_slot slot) (sym (of_other (slot_seat slot) h e d)) (m.slots slot l)
  ];
  others = λ n l. elim (cases_eq e.caller n) [
    | inl c ↦ subst OnceMarked (sym (of_mine n h e c)) (once_push (of n h) e (once_fit s0 n (of n h) e.call l (subst (λ (k : ℕ). IsFit s0 k (of k h) e.call) c f)) (m.others n l))
    | inr d ↦ subst OnceMarked (sym (of_other n h e d)) (m.others n l)
  ];
  spread = (let a = marks_push h e in let b = m.spread in
      let k : marks_of (h ++ e ∷ []) e.caller ≡ marks (of e.caller h ++ e ∷ []) = ap marks (of_mine e.caller h e refl) in let j = marks_push (of e.caller h) e in
      let c = seats_more s0 (marks_of h) (marks_of (h ++ e ∷ [])) e.caller (one (is_mark e.reply)) (λ n l. more h e n) (omega arith) (seated s0 e.caller (of e.caller h) e.call f) in omega arith);
}

nothing : (s0 : State) → Marked s0 []
nothing s0 = record { slots = λ slot l. record { few_ends = omega arith; few_marks = omega arith }; others = λ n l. omega arith; spread = omega arith }

-- the bound of a seat
abbrev seat_most : State → ℕ → ℕ
seat_most s0 n = cond (nat_le n s0.slots) (2 * s0.per_slot + 1) 1

slot_most : (s0 : State) (n : ℕ) → n ≤ s0.slots → seat_most s0 n ≡ 2 * s0.per_slot + 1
slot_most s0 n l = ap (λ (b : Bool). cond b (2 * s0.per_slot + 1) 1) (le-leb n s0.slots l)

other_most : (s0 : State) (n : ℕ) → s0.slots < n → seat_most s0 n ≡ 1
other_most s0 n l = ap (λ (b : Bool). cond b (2 * s0.per_slot + 1) 1) (lt-leb n s0.slots l)

most_all : (s0 : State) → s0.slots ≤ 16 → all_marks s0 (seat_most s0) ≤ 3 * (s0.slots * s0.per_slot) + s0.slots + length s0.threads
most_all s0 few =
    let a = below_le (λ i. seat_most s0 (slot_seat i)) (λ i. 2 * s0.per_slot + 1) s0.slots (λ i l. let e = slot_most s0 (slot_seat i) (omega arith) in omega arith) in
    let b = below_le (λ t. seat_most s0 (worker_seat s0.slots t)) (λ t. 1) (length s0.threads) (λ t l. let e = other_most s0 (worker_seat s0.slots t) (omega arith) in omega arith) in
    let c = below_le (λ i. sum_below (λ k. seat_most s0 (81 + 128 * i + k)) s0.per_slot) (λ i. sum_below (λ k. 1) s0.per_slot) s0.slots (λ i l. below_le (λ k. seat_most s0 (81 + 128 * i + k)) (λ k. 1) s0.per_slot (λ k y. let e = other_most s0 (81 + 128 * i + k) (omega arith) in omega arith)) in
    let x = all_slots s0.per_slot s0.slots in let y = all_ones (length s0.threads) in let z = all_pairs s0.per_slot s0.slots in omega arith

slot_is : (n : ℕ) → 0 < n → slot_seat (n - 1) ≡ n
slot_is n l = omega arith

-- the marks of a seat are within its bound, and below it while it may call
within : (s0 : State) (h : History) (n : ℕ) → Marked s0 h → 0 < n → marks_of h n ≤ seat_most s0 n
within s0 h n m l = elim (cases_lt s0.slots n) [
  | inl x ↦ (let a = m.others n x in let b = other_most s0 n x in omega arith)
  | inr x ↦ (let a = slot_room s0.per_slot (n - 1) (of n h) (subst (λ (k : ℕ). SlotMarked s0.per_slot (n - 1) (of k h)) (slot_is n l) (m.slots (n - 1) (omega arith))) in let b = slot_most s0 n x in let c = one_le (has_leave (of n h)) in omega arith)
]

below : (s0 : State) (h : History) (n : ℕ) (call : LaneCall) → s0.slots ≤ 16 → Marked s0 h → 0 < n → IsFit s0 n (of n h) call → marks_of h n + 1 ≤ seat_most s0 n
below s0 h n call few m l f = elim (cases_lt s0.slots n) [
  | inl x ↦ (let a = m.others n x in let b = other_most s0 n x in let c = once_fit s0 n (of n h) call x f in omega arith)
  | inr x ↦ (let a = slot_room s0.per_slot (n - 1) (of n h) (subst (λ (k : ℕ). SlotMarked s0.per_slot (n - 1) (of k h)) (slot_is n l) (m.slots (n - 1) (omega arith))) in let b = slot_most s0 n x in
      let c : one (has_leave (of n h)) ≡ 0 = ap one (slot_fit s0 n (of n h) call few x f) in omega arith)
]

seat_some : (s0 : State) (n : ℕ) → IsSeat s0 n → 0 < n
seat_some s0 n (inl q) = let a = q.2 in omega arith
seat_some s0 n (inr (inl q)) = let a = q.2 in omega arith
seat_some s0 n (inr (inr q)) = let a = q.4 in omega arith

-- where a fit call can come, a mark is left
mark_left : (s0 : State) → s0.slots ≤ 16 → (h : History) (n : ℕ) (call : LaneCall) → Marked s0 h → IsFit s0 n (of n h) call → marks h + 1 ≤ 3 * (s0.slots * s0.per_slot) + s0.slots + length s0.threads
mark_left s0 few h n call m f = let seat = seated s0 n (of n h) call f in let a = m.spread in
    let b = seats_more s0 (marks_of h) (seat_most s0) n 1 (λ j l. within s0 h j m l) (below s0 h n call few m (seat_some s0 n seat) f) seat in let c = most_all s0 few in omega arith

-- both counts together
record Both (s0 : State) (h : History) (s : State) : Type 0 where
  pool : s.pool ≡ s0.pool
  counted : Counted s0.pool.run_calls h s
  marked : Marked s0 h

both_step : (s0 : State) → s0.slots ≤ 16 → (h : History) (s : State) (e : One) → Both s0 h s → is_ready s e.call ≡ true → IsSound s e.call → e.reply ≡ (step s e.call).1 → IsFit s0 e.caller (of e.caller h) e.call → Both s0 (h ++ e ∷ []) (step s e.call).0
both_step s0 few h s e b r q w f = record {
  pool = (changes s e.call).0 ∙ b.pool;
  counted = counted_step s0.pool.run_calls h s e (ap (λ (p : Pool). p.run_calls) b.pool) b.counted q w;
  marked = marked_step s0 few h s e b.marked w f;
}

first : (pool : Pool) (slots per_slot : ℕ) → Both (opening pool slots per_slot) [] (opening pool slots per_slot)
first pool slots per_slot = record {
  pool = refl;
  counted = record { length = (let a = opening_weighs entries pool slots per_slot in omega arith); calls = omega arith };
  marked = nothing (opening pool slots per_slot);
}

both : (s0 : State) (h : History) → Opens s0 → IsLegal s0 h → AreFit s0 h → Both s0 h (replay s0 h)
both s0 h o l f = along s0 (Both s0) (both_step s0 o.can.slots.few_slots) [] h s0 (subst (λ (z : State). Both z [] z) (sym o.fresh) (first s0.pool s0.slots s0.per_slot)) l f

pub counts : (s0 : State) (h : History) → Opens s0 → IsLegal s0 h → AreFit s0 h → Counted s0.pool.run_calls h (replay s0 h)
counts s0 h o l f = (both s0 h o l f).counted

pub has_room : (s0 : State) (h : History) (n : ℕ) (call : LaneCall) → Opens s0 → IsLegal s0 h → AreFit s0 h → IsFit s0 n (of n h) call → length h < room s0
has_room s0 h n call o l f fit = let b = both s0 h o l f in let c = b.counted in let a = c.length in let d = c.calls in let e = mark_left s0 o.can.slots.few_slots h n call b.marked fit in omega arith

-- without the callers
counted_along : (most : ℕ) (before h : History) (s : State) → s.pool.run_calls ≡ most → Counted most before s → IsLegal s h → Counted most (before ++ h) (replay s h)
counted_along most before [] s p c l = subst (λ (z : History). Counted most z s) (sym (append-nil before)) c
counted_along most before (e ∷ es) s p c l = subst (λ (z : History). Counted most z (replay (step s e.call).0 es)) (append_assoc before (e ∷ []) es)
    (counted_along most (before ++ e ∷ []) es (step s e.call).0 (ap (λ (q : Pool). q.run_calls) (changes s e.call).0 ∙ p) (counted_step most before s e p c l.1 l.2) l.3)

pub lengths : (s0 : State) (h : History) → Opens s0 → IsLegal s0 h → Counted s0.pool.run_calls h (replay s0 h)
lengths s0 h o l = counted_along s0.pool.run_calls [] h s0 refl (subst (λ (z : State). Counted z.pool.run_calls [] z) (sym o.fresh) (first s0.pool s0.slots s0.per_slot).counted) l
