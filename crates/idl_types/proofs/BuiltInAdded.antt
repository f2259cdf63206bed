-- The exceptions of the name service are things that may be added.
use Rattle.std.proofs.Common.{◌≡◌, ◌≤◌, ◌+◌, refl, sym, ap, ◌∙◌, arith, Option, None, Ok, Err, ℕ, Bool, true, false, List}
use Rattle.std.specs.Prelude.{is_some, Result, IfOk}
use Rattle.orb_base.specs.declared.no_memory.NoMemory.{NoMemory}
use Rattle.idl_types.specs.declared.repository.Repository.{Repository}
use Rattle.idl_types.specs.Contents.{things_of}
use Rattle.std.specs.List.{list_all}
use Rattle.idl_types.specs.Things.{Thing, id_of}
use Rattle.idl_types.specs.Sound.{not_found_id, already_bound_id, no_room_id, is_own, file_leaves}
use Rattle.idl_types.specs.BuiltIn.{bare_exception, names, with_thing, with_names}
use Rattle.idl_types.specs.Declaring.{may_hold, IsAdded}
use Rattle.idl_types.specs.Finding.{place_named}
use Rattle.idl_types.proofs.Places.{none_of}
use Rattle.idl_types.proofs.Holding.{exception_adds}

pub not_found_adds : (t : Thing) → t ≡ bare_exception not_found_id → IsAdded t
not_found_adds t is = exception_adds not_found_id t (record { head = refl; alone = refl }) refl refl is

pub already_bound_adds : (t : Thing) → t ≡ bare_exception already_bound_id → IsAdded t
already_bound_adds t is = exception_adds already_bound_id t (record { head = refl; alone = refl }) refl refl is

pub no_room_adds : (t : Thing) → t ≡ bare_exception no_room_id → IsAdded t
no_room_adds t is = exception_adds no_room_id t (record { head = refl; alone = refl }) refl refl is

-- where its id isn't there it may be held
pub may_add : (ts : List Thing) (t : Thing) (place : Option ℕ) → IsAdded t → place ≡ place_named ts (id_of t) → is_some place ≡ false → list_all is_own ts ≡ true
    → (left : ℕ) → left + file_leaves ts ≡ 1048576 → may_hold ts t ≡ true
may_add ts t place h is none own left all = h.may ts (sym is ∙ none_of place none) own (omega (arith, all))

-- one after the other they are all added
pub all_added : (r : Result Repository NoMemory) (ts r1 r2 r3 : List Thing) (t1 t2 t3 t4 : Thing) → t1 ≡ bare_exception not_found_id → t2 ≡ bare_exception already_bound_id
    → t3 ≡ bare_exception no_room_id → t4 ≡ names → r1 ≡ with_thing t1 ts → r2 ≡ with_thing t2 r1 → r3 ≡ with_thing t3 r2
    → IfOk r (λ x. things_of x ≡ with_thing t4 r3) → IfOk r (λ x. things_of x ≡ with_names ts)
all_added r ts r1 r2 r3 t1 t2 t3 t4 e1 e2 e3 e4 s1 s2 s3 = by r
  where
    q1 : r1 ≡ with_thing (bare_exception not_found_id) ts
    q1 = s1 ∙ ap (λ (t : Thing). with_thing t ts) e1

    q2 : r2 ≡ with_thing (bare_exception already_bound_id) (with_thing (bare_exception not_found_id) ts)
    q2 = s2 ∙ ap (λ (t : Thing). with_thing t r1) e2 ∙ ap (with_thing (bare_exception already_bound_id)) q1

    q3 : r3 ≡ with_thing (bare_exception no_room_id) (with_thing (bare_exception already_bound_id) (with_thing (bare_exception not_found_id) ts))
    q3 = s3 ∙ ap (λ (t : Thing). with_thing t r2) e3 ∙ ap (with_thing (bare_exception no_room_id)) q2

    q4 : with_thing t4 r3 ≡ with_names ts
    q4 = ap (λ (t : Thing). with_thing t r3) e4 ∙ ap (with_thing names) q3

    by : (r : Result Repository NoMemory) → IfOk r (λ x. things_of x ≡ with_thing t4 r3) → IfOk r (λ x. things_of x ≡ with_names ts)
    by (Ok x) h = h ∙ q4
    by (Err x) h = h
