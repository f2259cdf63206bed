-- The way of a request down the lanes, by the sets of their threads without a task.
use Rattle.std.proofs.Common.{◌≡◌, ℕ, zero, suc, ◌+◌, ◌<◌, ◌≤◌, min, Bool, true, false, not, if◌then◌else◌, ◌==◌, ◌&&◌, List, get_or, Option, Some, None, inl, inr, refl, sym, ap, ◌∙◌, subst, arith}
use Rattle.std.specs.Prelude.{slice_get, IsSomeAnd}
use Rattle.std.specs.Option.{option_or}
use Rattle.std.proofs.lemmas.Bool.{cases_eq, eqb-true, and_parts}
use Rattle.std.proofs.lemmas.Option.{same_Some, slice_get-get_or}
use Rattle.orb_base.specs.declared.limits.TheConstants.{MAX_LANES}
use Rattle.thread_borrowing.specs.declared.choice.Choice.{Choice}
use Rattle.thread_borrowing.specs.declared.probes.LaneSet.{LaneSet}
use Rattle.thread_borrowing.specs.ThreadList.{Thread, is_free}
use Rattle.thread_borrowing.specs.Choice.{standing, can_start, chosen_thread, Suits}
use Rattle.thread_borrowing.specs.Chain.{stands_in, first_standing, in_lane, down_from}
use Rattle.thread_borrowing.specs.Masks.{IsProbed, IsSetOf, ArePlaced, AreSetsOf}
use Rattle.thread_borrowing.proofs.Places.{at_place}
use Rattle.thread_borrowing.proofs.Chosen.{chosen_is}
use Rattle.thread_borrowing.proofs.Chains.{chosen_down}
use Rattle.thread_borrowing.proofs.SetLaws.{least_place, least_passes}

-- a set without a thread, which no index of a lane gives
abbrev pub no_set : LaneSet
no_set = record { statics = record { bits = 0 }; started = record { bits = 0 }; resting = record { bits = 0 } }

-- the set at a lane's index is that of the lane
pub set_at : (lane : ℕ) (threads : List Thread) (sets : List LaneSet) → AreSetsOf threads sets → lane < MAX_LANES → IsSetOf lane threads (get_or sets lane no_set)
set_at lane threads sets are low = are.each lane (get_or sets lane no_set) (slice_get-get_or sets lane no_set (omega (arith, are.all)))

-- three places, one after another
first_of_three : (a b c : Option ℕ) (t : ℕ) → a ≡ Some t → option_or a (option_or b c) ≡ Some t
first_of_three a b c t e = ap (λ o. option_or o (option_or b c)) e

second_of_three : (a b c : Option ℕ) (t : ℕ) → a ≡ None → b ≡ Some t → option_or a (option_or b c) ≡ Some t
second_of_three a b c t e f = ap (λ o. option_or o (option_or b c)) e ∙ ap (λ o. option_or o c) f

last_of_three : (a b c o : Option ℕ) → a ≡ None → b ≡ None → c ≡ o → option_or a (option_or b c) ≡ o
last_of_three a b c o e f g = ap (λ o. option_or o (option_or b c)) e ∙ ap (λ o. option_or o c) f ∙ g

-- a probe that finds none says that the lane has none
pub none_in_lane : (lane : ℕ) (threads : List Thread) (set : LaneSet) → IsSetOf lane threads set → IsProbed set None → in_lane lane threads ≡ None
none_in_lane lane threads set s none =
    last_of_three (first_standing lane 2 threads) (first_standing lane 1 threads) (first_standing lane 0 threads) None
    (least_place (stands_in lane 2) threads set.statics None s.statics none.0)
    (least_place (stands_in lane 1) threads set.started None s.started none.1)
    (least_place (stands_in lane 0) threads set.resting None s.resting none.2)

-- a probe that finds one gives the thread of the lane
pub some_in_lane : (lane : ℕ) (threads : List Thread) (set : LaneSet) (t : ℕ) (starts : Bool) → IsSetOf lane threads set → IsProbed set (Some (t, starts)) → in_lane lane threads ≡ Some t
some_in_lane lane threads set t starts s (inl found) =
    first_of_three (first_standing lane 2 threads) (first_standing lane 1 threads) (first_standing lane 0 threads) t
    (least_place (stands_in lane 2) threads set.statics (Some t) s.statics found.0)
some_in_lane lane threads set t starts s (inr (inl found)) =
    second_of_three (first_standing lane 2 threads) (first_standing lane 1 threads) (first_standing lane 0 threads) t
    (least_place (stands_in lane 2) threads set.statics None s.statics found.0)
    (least_place (stands_in lane 1) threads set.started (Some t) s.started found.1)
some_in_lane lane threads set t starts s (inr (inr found)) =
    last_of_three (first_standing lane 2 threads) (first_standing lane 1 threads) (first_standing lane 0 threads) (Some t)
    (least_place (stands_in lane 2) threads set.statics None s.statics found.0)
    (least_place (stands_in lane 1) threads set.started None s.started found.1)
    (least_place (stands_in lane 0) threads set.resting (Some t) s.resting found.2)

-- what a standing says of a thread
static_of : (s d : Bool) → ◌≡◌ {A = ℕ} (if s then 2 else (if d then 1 else 0)) 2 → s ≡ true
static_of true d e = refl
static_of false true e = absurd (omega arith)
static_of false false e = absurd (omega arith)

started_of : (s d : Bool) → ◌≡◌ {A = ℕ} (if s then 2 else (if d then 1 else 0)) 1 → d ≡ true
started_of true d e = absurd (omega arith)
started_of false true e = refl
started_of false false e = absurd (omega arith)

resting_of : (s d : Bool) → ◌≡◌ {A = ℕ} (if s then 2 else (if d then 1 else 0)) 0 → d ≡ false
resting_of true d e = absurd (omega arith)
resting_of false true e = absurd (omega arith)
resting_of false false e = refl

-- a thread that a probe found: it is free, of the lane, and started for the request unless it was
pub record IsFound (lane t : ℕ) (starts : Bool) (threads : List Thread) : Type 0 where
  pub thread : Thread
  pub there : slice_get threads t ≡ Some thread
  pub of_lane : thread.lane ≡ lane
  pub as_told : starts ≡ not thread.started

lane_of : (lane how : ℕ) (x : Thread) → stands_in lane how x ≡ true → x.lane ≡ lane
lane_of lane how x e = eqb-true x.lane lane (and_parts (is_free x.doing) (x.lane == lane) (and_parts (is_free x.doing && (x.lane == lane)) (standing x == how) e).0).1

how_of : (lane how : ℕ) (x : Thread) → stands_in lane how x ≡ true → standing x ≡ how
how_of lane how x e = eqb-true (standing x) how (and_parts (is_free x.doing && (x.lane == lane)) (standing x == how) e).1

pub probe_found : (lane : ℕ) (threads : List Thread) (set : LaneSet) (t : ℕ) (starts : Bool) → ArePlaced threads → IsSetOf lane threads set → IsProbed set (Some (t, starts)) → IsFound lane t starts threads
probe_found lane threads set t starts placed s (inl found) =
    let x = least_passes (stands_in lane 2) threads set.statics t s.statics found.0 in
    record {
      thread = x.0;
      there = x.1;
      of_lane = lane_of lane 2 x.0 x.2;
      as_told = found.1 ∙ sym (ap not ((placed.each t x.0 x.1).ready (static_of x.0.is_static x.0.started (how_of lane 2 x.0 x.2))));
    }
probe_found lane threads set t starts placed s (inr (inl found)) =
    let x = least_passes (stands_in lane 1) threads set.started t s.started found.1 in
    record {
      thread = x.0;
      there = x.1;
      of_lane = lane_of lane 1 x.0 x.2;
      as_told = found.2 ∙ sym (ap not (started_of x.0.is_static x.0.started (how_of lane 1 x.0 x.2)));
    }
probe_found lane threads set t starts placed s (inr (inr found)) =
    let x = least_passes (stands_in lane 0) threads set.resting t s.resting found.2 in
    record {
      thread = x.0;
      there = x.1;
      of_lane = lane_of lane 0 x.0 x.2;
      as_told = found.3 ∙ sym (ap not (resting_of x.0.is_static x.0.started (how_of lane 0 x.0 x.2)));
    }

-- no thread has a lane that a pool has not
no_standing : (lane how : ℕ) (threads : List Thread) (o : Option ℕ) → ArePlaced threads → MAX_LANES ≤ lane → first_standing lane how threads ≡ o → o ≡ None
no_standing lane how threads None placed high e = refl
no_standing lane how threads (Some i) placed high e =
    absurd (let x = at_place (stands_in lane how) threads i e in
    let low = (placed.each i x.0 x.1).in_pool in
    let same = lane_of lane how x.0 x.2 in omega arith)

no_lane : (lane : ℕ) (threads : List Thread) → ArePlaced threads → MAX_LANES ≤ lane → in_lane lane threads ≡ None
no_lane lane threads placed high =
    let none : (how : ℕ) → first_standing lane how threads ≡ None = λ how. no_standing lane how threads (first_standing lane how threads) placed high refl in
    last_of_three (first_standing lane 2 threads) (first_standing lane 1 threads) (first_standing lane 0 threads) None (none 2) (none 1) (none 0)

-- the lanes from one up to the request's have no thread for it, and each of a pool took a probe
pub record Descent (threads : List Thread) (lane lowest at before now : ℕ) : Type 0 where
  pub passed : (k : ℕ) → at ≤ k → k ≤ lane → in_lane k threads ≡ None
  pub counted : now + at ≡ before + min (lane + 1) MAX_LANES
  pub floor : min lowest (min (lane + 1) MAX_LANES) ≤ at

pub descent_start : (threads : List Thread) (lane lowest at before : ℕ) → ArePlaced threads → at ≡ min (lane + 1) MAX_LANES → Descent threads lane lowest at before before
descent_start threads lane lowest at before placed is = record {
  passed = λ k from to. no_lane k threads placed (omega arith);
  counted = omega arith;
  floor = omega arith;
}

pub descent_step : (threads : List Thread) (set : LaneSet) (lane lowest at next before now : ℕ) → lowest ≤ next → at ≡ next + 1 → IsSetOf next threads set → IsProbed set None
    → Descent threads lane lowest at before now → Descent threads lane lowest next before (now + 1)
descent_step threads set lane lowest at next before now above one_less s none so_far = record {
  passed = λ k from to. elim (cases_eq k next) [
    | inl same ↦ (ap (λ n. in_lane n threads) same ∙ none_in_lane next threads set s none)
    | inr other ↦ so_far.passed k (omega arith) to
  ];
  counted = let c = so_far.counted in omega arith;
  floor = omega arith;
}

-- where all lanes down to the lowest were passed there is no thread
all_passed : (lane : ℕ) (threads : List Thread) → ((k : ℕ) → k ≤ lane → in_lane k threads ≡ None) → down_from true lane threads ≡ None
all_passed zero threads none = none zero (omega arith)
all_passed (suc lane) threads none =
    ap (λ o. option_or o (down_from true lane threads)) (none (suc lane) (omega arith)) ∙ all_passed lane threads (λ k to. none k (omega arith))

pub nothing_down : (borrowing : Bool) (lane at : ℕ) (threads : List Thread) → ((k : ℕ) → at ≤ k → k ≤ lane → in_lane k threads ≡ None) → at ≤ (if borrowing then 0 else lane)
    → down_from borrowing lane threads ≡ None
nothing_down false lane at threads none low = none lane low (omega arith)
nothing_down true lane at threads none low = all_passed lane threads (λ k to. none k (omega arith) to)

-- the first lane with a thread gives it
first_passed : (lane at t : ℕ) (threads : List Thread) → at ≤ lane → ((k : ℕ) → at + 1 ≤ k → k ≤ lane → in_lane k threads ≡ None) → in_lane at threads ≡ Some t → down_from true lane threads ≡ Some t
first_passed zero at t threads to none here = let same : at ≡ zero = omega arith in sym (ap (λ n. in_lane n threads) same) ∙ here
first_passed (suc lane) at t threads to none here = elim (cases_eq at (suc lane)) [
  | inl same ↦ ap (λ o. option_or o (down_from true lane threads)) (sym (ap (λ n. in_lane n threads) same) ∙ here)
  | inr other ↦ (ap (λ o. option_or o (down_from true lane threads)) (none (suc lane) (omega arith) (omega arith))
      ∙ first_passed lane at t threads (omega arith) (λ k from to'. none k from (omega arith)) here)
]

pub found_down : (borrowing : Bool) (lane at t : ℕ) (threads : List Thread) → (if borrowing then 0 else lane) ≤ at → at ≤ lane → ((k : ℕ) → at + 1 ≤ k → k ≤ lane → in_lane k threads ≡ None)
    → in_lane at threads ≡ Some t → down_from borrowing lane threads ≡ Some t
found_down false lane at t threads low to none here = let same : at ≡ lane = omega arith in sym (ap (λ n. in_lane n threads) same) ∙ here
found_down true lane at t threads low to none here = first_passed lane at t threads to none here

-- what the body of the choice shows at its two ends
pub none_chosen_down : (borrowing : Bool) (threads : List Thread) (lane lowest at before now : ℕ) → lowest ≡ (if borrowing then 0 else lane) → at ≤ lowest → Descent threads lane lowest at before now
    → None ≡ chosen_thread borrowing lane threads
none_chosen_down borrowing threads lane lowest at before now is low so_far =
    sym (chosen_down borrowing lane threads ∙ nothing_down borrowing lane at threads so_far.passed (subst (λ (n : ℕ). at ≤ n) is low))

pub some_chosen_down : (borrowing : Bool) (threads : List Thread) (set : LaneSet) (lane lowest at next t before now : ℕ) (starts : Bool) → lowest ≡ (if borrowing then 0 else lane) → lowest ≤ next → at ≡ next + 1 → next ≤ lane
    → IsSetOf next threads set → IsProbed set (Some (t, starts)) → Descent threads lane lowest at before now → chosen_thread borrowing lane threads ≡ Some t
some_chosen_down borrowing threads set lane lowest at next t before now starts is low one_less within s found so_far =
    chosen_down borrowing lane threads ∙ found_down borrowing lane next t threads (subst (λ (n : ℕ). n ≤ next) is low) within
    (λ k from to. so_far.passed k (omega arith) to) (some_in_lane next threads set t starts s found)

-- what holds of the thread at a place
pub some_and : (threads : List Thread) (t : ℕ) (x : Thread) (P : Thread → Type 0) → slice_get threads t ≡ Some x → P x → IsSomeAnd (slice_get threads t) P
some_and threads t x P g holds = subst (λ (o : Option Thread). IsSomeAnd o P) (sym g) holds

pub suits_down : (borrowing : Bool) (threads : List Thread) (set : LaneSet) (lane next : ℕ) (choice : Choice) → chosen_thread borrowing lane threads ≡ Some choice.thread → choice.lent ≡ not (next == lane) → ArePlaced threads
    → IsSetOf next threads set → IsProbed set (Some (choice.thread, choice.starts)) → IsSomeAnd (slice_get threads choice.thread) (Suits borrowing lane choice)
suits_down borrowing threads set lane next choice chosen lent placed s found =
    let x = probe_found next threads set choice.thread choice.starts placed s found in
    let y = chosen_is borrowing lane threads choice.thread chosen in
    let same : y.0 ≡ x.thread = same_Some y.0 x.thread (sym y.1 ∙ x.there) in
    some_and threads choice.thread x.thread (Suits borrowing lane choice) x.there (
      subst (λ (z : Thread). can_start borrowing lane z ≡ true) same y.2,
      lent ∙ sym (ap (λ n. not (n == lane)) x.of_lane),
      x.as_told,
    )

-- the choice that a probe gives: the thread that is chosen, what is said of it, and the probes down to its lane
pub record IsChoice (borrowing : Bool) (lane : ℕ) (threads : List Thread) (choice : Choice) (before now : ℕ) : Type 0 where
  pub exact : chosen_thread borrowing lane threads ≡ Some choice.thread
  pub suits : IsSomeAnd (slice_get threads choice.thread) (Suits borrowing lane choice)
  pub reached : IsSomeAnd (slice_get threads choice.thread) (λ thread. now + thread.lane ≡ before + min (lane + 1) MAX_LANES)

pub choice_down : (borrowing : Bool) (threads : List Thread) (sets : List LaneSet) (lane lowest at next before now : ℕ) (choice : Choice) → lowest ≡ (if borrowing then 0 else lane) → lowest ≤ next → at ≡ next + 1
    → next ≤ lane → next < MAX_LANES → choice.lent ≡ not (next == lane) → ArePlaced threads → AreSetsOf threads sets → IsProbed (get_or sets next no_set) (Some (choice.thread, choice.starts))
    → Descent threads lane lowest at before now → IsChoice borrowing lane threads choice before (now + 1)
choice_down borrowing threads sets lane lowest at next before now choice is low one_less within small lent placed are found so_far =
    let set = get_or sets next no_set in
    let s = set_at next threads sets are small in
    let chosen = some_chosen_down borrowing threads set lane lowest at next choice.thread before now choice.starts is low one_less within s found so_far in
    let x = probe_found next threads set choice.thread choice.starts placed s found in
    record {
      exact = chosen;
      suits = suits_down borrowing threads set lane next choice chosen lent placed s found;
      reached = some_and threads choice.thread x.thread (λ thread. now + 1 + thread.lane ≡ before + min (lane + 1) MAX_LANES) x.there (let c = so_far.counted in let l = x.of_lane in omega arith);
    }
