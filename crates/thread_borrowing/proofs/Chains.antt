-- The choice of a thread goes down the lanes.
use Rattle.std.proofs.Common.{◌≡◌, ℕ, zero, suc, ◌+◌, ◌*◌, ◌<◌, ◌≤◌, Bool, true, false, if◌then◌else◌, ◌&&◌, ◌||◌, ◌==◌, List, Option, Some, None, inl, inr, refl, sym, ap, ◌∙◌, subst, arith}
use Rattle.std.specs.Option.{option_or}
use Rattle.std.specs.Prelude.{slice_get, position, nat_lt}
use Rattle.std.proofs.lemmas.Option.{same_Some}
use Rattle.std.proofs.lemmas.Bool.{and_parts, and_from, or_cases, or_left, or_right, or_from, both_ways, cases_lt, cases_order, eqb-true, eq-eqb, ltb-true, lt-ltb}
use Rattle.thread_borrowing.specs.ThreadList.{Thread, is_free}
use Rattle.thread_borrowing.specs.Choice.{first_greatest, may_run, standing, rank, can_start, chosen_thread}
use Rattle.thread_borrowing.specs.Chain.{stands_in, first_standing, in_lane, down_from, StandsBefore}
use Rattle.thread_borrowing.proofs.Places.{at_place, before_place, no_place, none_passes, at_first, first_is}
use Rattle.thread_borrowing.proofs.Chosen.{chosen_is, chosen_first}

-- two tests that pass alike are one
bool_same : (a b : Bool) → (a ≡ true → b ≡ true) → (b ≡ true → a ≡ true) → a ≡ b
bool_same true b there back = sym (there refl)
bool_same false true there back = back refl
bool_same false false there back = refl

-- one of two tests passes, and the first does not
or_second : (a b : Bool) → (a || b) ≡ true → a ≡ false → b ≡ true
or_second a b either first = elim (or_cases a b either) [ inl t ↦ absurd (both_ways a first t) | inr t ↦ t ]

module _ {X : Type 0} where
  -- the place of one that passes and is before each other that passes; or none passes
  abbrev IsTop : (X → Bool) → (X → ℕ) → List X → Option ℕ → Type 0
  IsTop p w xs None = (k : ℕ) (x : X) → slice_get xs k ≡ Some x → p x ≡ false
  IsTop p w xs (Some i) =
      (x : X) × (slice_get xs i ≡ Some x) × (p x ≡ true)
      × ((k : ℕ) (y : X) → slice_get xs k ≡ Some y → p y ≡ true → (w y ≤ w x) × (w y ≡ w x → i ≤ k))

  -- the first of greatest weight is such a place
  first_is_top : (p : X → Bool) (w : X → ℕ) (xs : List X) (o : Option ℕ) → first_greatest p w xs ≡ o → IsTop p w xs o
  first_is_top p w xs None e = λ k x g. none_passes p w xs k x e g
  first_is_top p w xs (Some i) e = let a = at_first p w xs i e in (a.0, a.1, a.2, first_is p w xs i a.0 e a.1)

  -- there is one such place
  same_top : (p : X → Bool) (w : X → ℕ) (xs : List X) (a b : Option ℕ) → IsTop p w xs a → IsTop p w xs b → a ≡ b
  same_top p w xs None None s t = refl
  same_top p w xs None (Some i) s t = absurd (both_ways (p t.0) (s i t.0 t.1) t.2)
  same_top p w xs (Some i) None s t = absurd (both_ways (p s.0) (t i s.0 s.1) s.2)
  same_top p w xs (Some i) (Some j) s t =
      let u = s.3 j t.0 t.1 t.2 in
      let v = t.3 i s.0 s.1 s.2 in
      let even : w t.0 ≡ w s.0 = omega (arith, u.0, v.0) in
      let there : i ≤ j = u.1 even in
      let back : j ≤ i = v.1 (sym even) in
      ap Some (omega arith)

  -- so it is the first of greatest weight
  top_first : (p : X → Bool) (w : X → ℕ) (xs : List X) (o : Option ℕ) → IsTop p w xs o → first_greatest p w xs ≡ o
  top_first p w xs o top = same_top p w xs (first_greatest p w xs) o (first_is_top p w xs (first_greatest p w xs) refl) top

  -- the first of those that weigh the same
  even_top : (p : X → Bool) (w : X → ℕ) (weight : ℕ) (xs : List X) (o : Option ℕ) → position p xs ≡ o → ((x : X) → p x ≡ true → w x ≡ weight) → IsTop p w xs o
  even_top p w weight xs None e even = λ k x g. no_place p xs k x e g
  even_top p w weight xs (Some i) e even =
      let a = at_place p xs i e in
      let here = even a.0 a.2 in (
        a.0,
        a.1,
        a.2,
        λ k y g t. let there = even y t in (
          omega arith,
          λ _. elim (cases_lt k i) [
            | inl below ↦ absurd (both_ways (p y) (before_place p xs i k y e below g) t)
            | inr l ↦ l
          ],
        ),
      )

  -- the same place for a test that passes alike
  alike_top : (p r : X → Bool) (w : X → ℕ) (xs : List X) (o : Option ℕ) → ((x : X) → r x ≡ p x) → IsTop p w xs o → IsTop r w xs o
  alike_top p r w xs None same top = λ k x g. same x ∙ top k x g
  alike_top p r w xs (Some i) same top = (top.0, top.1, same top.0 ∙ top.2, λ k y g t. top.3 k y g (sym (same y) ∙ t))

  -- those of one test are before those of the other
  else_top : (p q : X → Bool) (w : X → ℕ) (bound : ℕ) (xs : List X) (a b : Option ℕ) → ((x : X) → p x ≡ true → bound ≤ w x) → ((y : X) → q y ≡ true → w y < bound)
      → IsTop p w xs a → IsTop q w xs b → IsTop (λ x. p x || q x) w xs (option_or a b)
  else_top p q w bound xs None None above below s t = λ k x g. or_from (p x) (q x) (s k x g) (t k x g)
  else_top p q w bound xs None (Some i) above below s t =
      (t.0, t.1, or_right (p t.0) (q t.0) t.2, λ k y g e. t.3 k y g (or_second (p y) (q y) e (s k y g)))
  else_top p q w bound xs (Some i) b above below s t = (
    s.0,
    s.1,
    or_left (p s.0) (q s.0) s.2,
    λ k y g e. elim (or_cases (p y) (q y) e) [
      | inl first ↦ s.3 k y g first
      | inr second ↦ (let high = above s.0 s.2 in let low = below y second in (omega arith, λ even. absurd (omega arith)))
    ],
  )

-- a thread of this lane without a task
abbrev is_here : ℕ → Thread → Bool
is_here lane thread = is_free thread.doing && (thread.lane == lane)

-- the rank of one that is so
rank_here : (lane how : ℕ) (thread : Thread) → stands_in lane how thread ≡ true → rank thread ≡ 3 * lane + how
rank_here lane how thread e =
    let a = and_parts (is_here lane thread) (standing thread == how) e in
    let b = and_parts (is_free thread.doing) (thread.lane == lane) a.0 in
    let at : thread.lane ≡ lane = eqb-true thread.lane lane b.1 in
    let so : standing thread ≡ how = eqb-true (standing thread) how a.1 in
    omega arith

-- a thread is in one of three ways
three_ways : (here static started : Bool)
    → here ≡ ((here && ((if static then 2 else (if started then 1 else 0)) == 2))
    || ((here && ((if static then 2 else (if started then 1 else 0)) == 1)) || (here && ((if static then 2 else (if started then 1 else 0)) == 0))))
three_ways false static started = refl
three_ways true true started = refl
three_ways true false true = refl
three_ways true false false = refl

-- no rank of a lane passes the next lane's
few : (a b : Bool) → (if a then 2 else (if b then 1 else 0)) ≤ 2
few true b = omega arith
few false true = omega arith
few false false = omega arith

-- the choice in one lane
lane_top : (lane : ℕ) (threads : List Thread) → IsTop (is_here lane) rank threads (in_lane lane threads)
lane_top lane threads =
    let way : (how : ℕ) → IsTop (stands_in lane how) rank threads (first_standing lane how threads) =
    λ how. even_top (stands_in lane how) rank (3 * lane + how) threads (first_standing lane how threads) refl (rank_here lane how) in
    let dynamic = else_top (stands_in lane 1) (stands_in lane 0) rank (3 * lane + 1) threads (first_standing lane 1 threads) (first_standing lane 0 threads)
    (λ x e. let r = rank_here lane 1 x e in omega arith) (λ x e. let r = rank_here lane 0 x e in omega arith) (way 1) (way 0) in
    let all = else_top (stands_in lane 2) (λ x. stands_in lane 1 x || stands_in lane 0 x) rank (3 * lane + 2) threads (first_standing lane 2 threads)
    (option_or (first_standing lane 1 threads) (first_standing lane 0 threads))
    (λ x e. let r = rank_here lane 2 x e in omega arith)
    (λ x e. elim (or_cases (stands_in lane 1 x) (stands_in lane 0 x) e) [
      | inl t ↦ (let r = rank_here lane 1 x t in omega arith)
      | inr t ↦ (let r = rank_here lane 0 x t in omega arith)
    ]) (way 2) dynamic in
    alike_top (λ x. stands_in lane 2 x || (stands_in lane 1 x || stands_in lane 0 x)) (is_here lane) rank threads (in_lane lane threads)
    (λ x. three_ways (is_here lane x) x.is_static x.started) all

-- with borrowing a thread runs the requests of its lane and of those above
runs_below : (from lane : ℕ) → may_run true from lane ≡ true → from ≤ lane
runs_below from lane e = elim (or_cases (from == lane) (nat_lt from lane) e) [
  | inl same ↦ (let s = eqb-true from lane same in omega arith)
  | inr less ↦ (let l = ltb-true from lane less in omega arith)
]

below_runs : (from lane : ℕ) → from ≤ lane → may_run true from lane ≡ true
below_runs from lane le = elim (cases_lt from lane) [
  | inl less ↦ or_right (from == lane) (nat_lt from lane) (lt-ltb from lane less)
  | inr l ↦ or_left (from == lane) (nat_lt from lane) (eq-eqb from lane (omega arith))
]

-- without borrowing a thread runs the requests of its lane alone
alone_runs : (from lane : ℕ) → may_run false from lane ≡ (from == lane)
alone_runs from lane = bool_same (may_run false from lane) (from == lane)
    (λ e. elim (or_cases (from == lane) false e) [ inl t ↦ t | inr t ↦ absurd (both_ways false refl t) ])
    (λ e. or_left (from == lane) false e)

-- which threads can start: of the lowest lane, and of the lanes down from the next
starts_lowest : (thread : Thread) → can_start true zero thread ≡ is_here zero thread
starts_lowest thread = ap (λ (b : Bool). is_free thread.doing && b) (bool_same (may_run true thread.lane zero) (thread.lane == zero)
    (λ e. let le = runs_below thread.lane zero e in eq-eqb thread.lane zero (omega arith))
    (λ e. or_left (thread.lane == zero) (nat_lt thread.lane zero) e))

starts_next : (lane : ℕ) (thread : Thread) → can_start true (suc lane) thread ≡ (is_here (suc lane) thread || can_start true lane thread)
starts_next lane thread = bool_same (can_start true (suc lane) thread) (is_here (suc lane) thread || can_start true lane thread)
    (λ e. let a = and_parts (is_free thread.doing) (may_run true thread.lane (suc lane)) e in
    let le = runs_below thread.lane (suc lane) a.1 in
    elim (cases_lt thread.lane (suc lane)) [
      | inl less ↦ or_right (is_here (suc lane) thread) (can_start true lane thread) (and_from (is_free thread.doing) (may_run true thread.lane lane) a.0 (below_runs thread.lane lane (omega arith)))
      | inr l ↦ or_left (is_here (suc lane) thread) (can_start true lane thread) (and_from (is_free thread.doing) (thread.lane == suc lane) a.0 (eq-eqb thread.lane (suc lane) (omega arith)))
    ])
    (λ e. elim (or_cases (is_here (suc lane) thread) (can_start true lane thread) e) [
      | inl here ↦ (let a = and_parts (is_free thread.doing) (thread.lane == suc lane) here in
          and_from (is_free thread.doing) (may_run true thread.lane (suc lane)) a.0 (let s = eqb-true thread.lane (suc lane) a.1 in below_runs thread.lane (suc lane) (omega arith)))
      | inr lower ↦ (let a = and_parts (is_free thread.doing) (may_run true thread.lane lane) lower in
          and_from (is_free thread.doing) (may_run true thread.lane (suc lane)) a.0 (let s = runs_below thread.lane lane a.1 in below_runs thread.lane (suc lane) (omega arith)))
    ])

-- the ranks on both sides of a lane's floor
rank_above : (lane : ℕ) (thread : Thread) → is_here lane thread ≡ true → 3 * lane ≤ rank thread
rank_above lane thread e =
    let a = and_parts (is_free thread.doing) (thread.lane == lane) e in
    let s = eqb-true thread.lane lane a.1 in omega arith

rank_below : (lane : ℕ) (thread : Thread) → can_start true lane thread ≡ true → rank thread < 3 * suc lane
rank_below lane thread e =
    let a = and_parts (is_free thread.doing) (may_run true thread.lane lane) e in
    let s = runs_below thread.lane lane a.1 in
    let f = few thread.is_static thread.started in omega arith

-- the choice down the lanes
down_top : (borrowing : Bool) (lane : ℕ) (threads : List Thread) → IsTop (can_start borrowing lane) rank threads (down_from borrowing lane threads)
down_top false lane threads = alike_top (is_here lane) (can_start false lane) rank threads (in_lane lane threads)
    (λ x. ap (λ (b : Bool). is_free x.doing && b) (alone_runs x.lane lane)) (lane_top lane threads)
down_top true zero threads = alike_top (is_here zero) (can_start true zero) rank threads (in_lane zero threads) starts_lowest (lane_top zero threads)
down_top true (suc lane) threads =
    alike_top (λ x. is_here (suc lane) x || can_start true lane x) (can_start true (suc lane)) rank threads (option_or (in_lane (suc lane) threads) (down_from true lane threads))
    (starts_next lane)
    (else_top (is_here (suc lane)) (can_start true lane) rank (3 * suc lane) threads (in_lane (suc lane) threads) (down_from true lane threads)
    (rank_above (suc lane)) (rank_below lane) (lane_top (suc lane) threads) (down_top true lane threads))

-- so the chosen thread is the one found down the lanes
pub chosen_down : (borrowing : Bool) (lane : ℕ) (threads : List Thread) → chosen_thread borrowing lane threads ≡ down_from borrowing lane threads
unfolding chosen_thread
chosen_down borrowing lane threads =
    top_first (can_start borrowing lane) rank threads (down_from borrowing lane threads) (down_top borrowing lane threads)

-- the lane of the chosen thread
chosen_runs : (borrowing : Bool) (lane : ℕ) (threads : List Thread) (t : ℕ) (thread : Thread) → chosen_thread borrowing lane threads ≡ Some t → slice_get threads t ≡ Some thread
    → may_run borrowing thread.lane lane ≡ true
chosen_runs borrowing lane threads t thread e g =
    let h = chosen_is borrowing lane threads t e in
    let same : h.0 ≡ thread = same_Some h.0 thread (sym h.1 ∙ g) in
    let can : can_start borrowing lane thread ≡ true = subst (λ (x : Thread). can_start borrowing lane x ≡ true) same h.2 in
    (and_parts (is_free thread.doing) (may_run borrowing thread.lane lane) can).1

pub never_upward : (borrowing : Bool) (lane : ℕ) (threads : List Thread) (t : ℕ) (thread : Thread) → chosen_thread borrowing lane threads ≡ Some t → slice_get threads t ≡ Some thread
    → thread.lane ≤ lane
never_upward true lane threads t thread e g = runs_below thread.lane lane (chosen_runs true lane threads t thread e g)
never_upward false lane threads t thread e g =
    let same = eqb-true thread.lane lane (sym (alone_runs thread.lane lane) ∙ chosen_runs false lane threads t thread e g) in omega arith

pub lane_alone : (lane : ℕ) (threads : List Thread) (t : ℕ) (thread : Thread) → chosen_thread false lane threads ≡ Some t → slice_get threads t ≡ Some thread
    → thread.lane ≡ lane
lane_alone lane threads t thread e g = eqb-true thread.lane lane (sym (alone_runs thread.lane lane) ∙ chosen_runs false lane threads t thread e g)

-- of two ranks the greater one is first
before : (t k : ℕ) (x y : Thread) → rank y ≤ rank x → (rank y ≡ rank x → t ≤ k) → StandsBefore t x k y
before t k x y le even =
    let a = few x.is_static x.started in let b = few y.is_static y.started in
    elim (cases_order y.lane x.lane) [
      | inl same ↦ inr (same, elim (cases_lt (standing y) (standing x)) [ inl l ↦ inl l | inr l ↦ inr (omega arith, even (omega arith)) ])
      | inr (inl l) ↦ inl l
      | inr (inr l) ↦ absurd (omega arith)
    ]

pub first_of_all : (borrowing : Bool) (lane : ℕ) (threads : List Thread) (t : ℕ) → chosen_thread borrowing lane threads ≡ Some t
    → (thread : Thread) × (slice_get threads t ≡ Some thread) × (can_start borrowing lane thread ≡ true)
    × ((k : ℕ) (other : Thread) → slice_get threads k ≡ Some other → can_start borrowing lane other ≡ true → StandsBefore t thread k other)
first_of_all borrowing lane threads t e =
    let h = chosen_is borrowing lane threads t e in
    (h.0, h.1, h.2, λ k other g c. let f = chosen_first borrowing lane threads t h.0 e h.1 k other g c in before t k h.0 other f.0 f.1)
