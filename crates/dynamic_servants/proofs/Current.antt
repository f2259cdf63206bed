-- The built-in servant's method of `current`, run.
use Rattle.std.proofs.Common.{◌≡◌, ℕ, pos, ◌<◌, ◌≤◌, ◌^◌, Bool, true, cond, ltb, List, [], ◌∷◌, ◌++◌, length, Option, Some, None, Ok, Err, refl, sym, ap, ◌∙◌, subst, arith}
use Rattle.std.specs.Prelude.{◌==◌, min, not, slice_get, position}
use Rattle.std.specs.List.{position_or_len}
use Rattle.std.specs.Int.{w16}
use Rattle.std.proofs.lemmas.Bool.{eq-eqb, lt-ltb, ltb-false}
use Rattle.std.proofs.lemmas.List.Folds.{position_or_len_push}
use Rattle.std.proofs.lemmas.List.Sums.{prefix_len-le-length}
use Rattle.std.proofs.Math.Nat.{min-eq_left}
use Rattle.std.proofs.lemmas.List.{append-nil, length-append}
use Rattle.orb_base.proofs.Places.{cond_is_none}
use Rattle.cdr_core.proofs.CallerLemmas.{ok_is}
use Rattle.orb_base.specs.declared.order.Order.{Order}
use Rattle.orb_base.specs.declared.order.Order.TheVariants.{Big, Little}
use Rattle.cdr_core.specs.Field as core
use Rattle.cdr_core.specs.Field.{Field, number_bytes}
use Rattle.cdr_values.specs.Trees.{size2, Kind, scalar, signed, number}
use Rattle.cdr_values.specs.Spelling.{fields_of}
use Rattle.idl_types.specs.Things.{Thing}
use Rattle.idl_types.specs.References.{kind_at}
use Rattle.idl_types.specs.Finding.{has_id, place_named}
use Rattle.idl_types.specs.Sound.{ping_id}
use Rattle.idl_types.specs.BuiltIn as built
use Rattle.script_values.specs.Evaluation.{value_at}
use Rattle.script_values.specs.Running.{returned, run_one, run}
use Rattle.script_values.specs.Trees.{priority, give, step, no_steps}
use Rattle.script_checks.specs.Dues.{result_due}
use Rattle.script_checks.specs.Scene.{Checks, ◌>>=◌}
use Rattle.script_checks.specs.Servants.{checked}
use Rattle.dynamic_servants.specs.BuiltInServant.{ping_servant, built_in}
use Rattle.dynamic_servants.specs.Replies.{body_of}
use Rattle.dynamic_servants.specs.Outcome.{Served, target_of, outcome_of}
use Rattle.dynamic_servants.specs.Served.{served_by}
use Rattle.dynamic_servants.specs.PingLaw.{ServesPing, CurrentTellsPriority, PingIsServed}

short : Kind
short = scalar (signed size2)

same_place : (n : ℕ) → (n == n) ≡ true
same_place n = eq-eqb n n refl

-- the type of the result
due_is : (ts : List Thing) (place : ℕ) → place < 2 ^ 32 → slice_get ts place ≡ Some built.ping → kind_at ts (result_due place 0) ≡ Some short
unfolding short
due_is ts place near thing =
    let here : min place 4294967295 ≡ place = min-eq_left (omega (arith, near)) in
    rw (here, thing) refl

-- a priority as a short
fields_are : (p : ℕ) → p < 2 ^ 15 → fields_of (number (pos p)) short ≡ Some (core.number w16 p ∷ [])
unfolding short
fields_are p fits = rw (lt-ltb p 32768 (omega (arith, fits))) refl

-- the built-in interface has its own servant
pub target_is : (s : Served) (h : ServesPing s) → target_of s ping_id ≡ Some (record { id = ping_id; bases = []; operations = built.operations }, ping_servant s.things h.place)
target_is s h = rw (h.placed, h.thing, h.first, same_place h.place) refl

ran : (p : ℕ) (k : Option Kind) → k ≡ Some short → p < 2 ^ 15 → run p (step (give k priority) no_steps) [] ≡ Ok (returned (number (pos p)), [])
unfolding run run_one value_at
ran p k is fits = rw (is, fields_are p fits) refl

bytes_len : (order : Order) (p : ℕ) → length (number_bytes order w16 p) ≡ 2
unfolding number_bytes
bytes_len Big p = refl
bytes_len Little p = refl

body_is : (order : Order) (p : ℕ) → p < 2 ^ 15 → body_of order ((short, number (pos p)) ∷ []) ≡ Ok (number_bytes order w16 p)
body_is order p fits = rw (fields_are p fits, append-nil (number_bytes order w16 p), bytes_len order p) refl

pub current_told : CurrentTellsPriority
unfolding outcome_of short
current_told s h job is fits =
    let ran : run job.priority (step (give (kind_at s.things (result_due h.place 0)) priority) no_steps) [] ≡ Ok (returned (number (pos job.priority)), []) =
    ran job.priority (kind_at s.things (result_due h.place 0)) (due_is s.things h.place h.near h.thing) fits in
    rw (target_is s h, is, ran, body_is job.order job.priority fits) refl

-- ---- where the built-in interface stands

last_placed : {X : Type 0} (p : X → Bool) (xs : List X) (y : X) → position p xs ≡ None → p y ≡ true → position p (xs ++ y ∷ []) ≡ Some (length xs)
last_placed p xs y none passes =
    let past : length xs ≤ position_or_len p xs = ltb-false _ _ (cond_is_none (ltb (position_or_len p xs) (length xs)) (position_or_len p xs) none) in
    let all : position_or_len p xs ≡ length xs = let le = prefix_len-le-length (λ x. not (p x)) xs in omega (arith, past, le) in
    let at : position_or_len p (xs ++ y ∷ []) ≡ length xs = position_or_len_push p xs y ∙ rw (all, same_place (length xs), passes) (omega arith) in
    let within : length xs < length (xs ++ y ∷ []) = omega (arith, length-append xs (y ∷ [])) in
    ap (λ n. cond (ltb n (length (xs ++ y ∷ []))) (Some n) None) at ∙ ap (λ b. cond b (Some (length xs)) None) (lt-ltb _ _ within)

last_got : {X : Type 0} (xs : List X) (y : X) → slice_get (xs ++ y ∷ []) (length xs) ≡ Some y
last_got [] y = refl
last_got (x ∷ xs) y = last_got xs y

taken : {A B : Type 0} (r : Checks A) (f : A → B) (s : B) → (r >>= λ x. Ok (f x)) ≡ Ok s → (x : A) × (f x ≡ s)
taken (Ok x) f s e = (x, ok_is (f x) s e)
taken (Err y) f s e = absurd cc

pub ping_served : PingIsServed
ping_served ts script s none near e =
    let zs : List Thing = ts ++ built.ping ∷ [] in
    let whole : built.with_ping ts ≡ zs = rw none refl in
    let placed : place_named zs ping_id ≡ Some (length ts) = last_placed (has_id ping_id) ts built.ping none refl in
    let h = taken (checked zs script) (λ vs. record { things = zs; servants = built_in zs (place_named zs ping_id) ++ vs }) s
    (ap (λ (xs : List Thing). served_by xs script) (sym whole) ∙ e) in
    subst ServesPing h.1 (record {
      place = length ts;
      near = near;
      placed = placed;
      thing = last_got ts built.ping;
      others = h.0;
      first = ap (λ (o : Option ℕ). built_in zs o ++ h.0) placed;
    })
