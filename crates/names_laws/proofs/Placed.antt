-- The interface of a name service has the place at which it was added.
use Rattle.std.proofs.Common.{◌≡◌, ℕ, ◌<◌, ◌≤◌, ◌+◌, Bool, true, false, cond, ltb, List, [], ◌∷◌, ◌++◌, length, Option, Some, None, refl, sym, ap, ◌∙◌, arith}
use Rattle.std.specs.Prelude.{◌==◌, not, slice_get, position, is_some}
use Rattle.std.specs.List.{position_or_len}
use Rattle.std.specs.Str.{bytes_eq}
use Rattle.std.proofs.lemmas.Bool.{eq-eqb, lt-ltb, le-ltb, ltb-false}
use Rattle.std.proofs.lemmas.List.Folds.{position_or_len_push}
use Rattle.std.proofs.lemmas.List.Sums.{prefix_len-le-length}
use Rattle.std.proofs.lemmas.List.{length-append}
use Rattle.std.proofs.lemmas.Option.{same_Some}
use Rattle.orb_base.proofs.Places.{cond_is_none}
use Rattle.idl_types.specs.BuiltIn.{bare_exception, names, with_thing, with_names}
use Rattle.idl_types.specs.Finding.{has_id, place_named}
use Rattle.idl_types.specs.Sound.{names_id, not_found_id, already_bound_id, no_room_id}
use Rattle.idl_types.specs.Things.{Thing, id_of}
use Rattle.names_laws.specs.Serving.{NamesAreServed}

same_place : (n : ℕ) → (n == n) ≡ true
same_place n = eq-eqb n n refl

module _ {X : Type 0} (p : X → Bool) where
  -- a list without one is passed whole
  passed : (xs : List X) → position p xs ≡ None → position_or_len p xs ≡ length xs
  passed xs none =
      let past : length xs ≤ position_or_len p xs = ltb-false _ _ (cond_is_none (ltb (position_or_len p xs) (length xs)) (position_or_len p xs) none) in
      let le = prefix_len-le-length (λ x. not (p x)) xs in omega (arith, past, le)

  -- the first one comes at the end
  last_placed : (xs : List X) (y : X) → position p xs ≡ None → p y ≡ true → position p (xs ++ y ∷ []) ≡ Some (length xs)
  last_placed xs y none passes =
      let all = passed xs none in
      let at : position_or_len p (xs ++ y ∷ []) ≡ length xs = position_or_len_push p xs y ∙ rw (all, same_place (length xs), passes) (omega arith) in
      let within : length xs < length (xs ++ y ∷ []) = omega (arith, length-append xs (y ∷ [])) in
      ap (λ n. cond (ltb n (length (xs ++ y ∷ []))) (Some n) None) at ∙ ap (λ b. cond b (Some (length xs)) None) (lt-ltb _ _ within)

  -- another one at the end is none either
  none_placed : (xs : List X) (y : X) → position p xs ≡ None → p y ≡ false → position p (xs ++ y ∷ []) ≡ None
  none_placed xs y none fails =
      let all = passed xs none in
      let at : position_or_len p (xs ++ y ∷ []) ≡ length xs + 1 = position_or_len_push p xs y ∙ rw (all, same_place (length xs), fails) (omega arith) in
      let end : length (xs ++ y ∷ []) ≤ length xs + 1 = omega (arith, length-append xs (y ∷ [])) in
      ap (λ n. cond (ltb n (length (xs ++ y ∷ []))) (Some n) None) at ∙ ap (λ b. cond b (Some (length xs + 1)) None) (le-ltb _ _ end)

last_got : {X : Type 0} (xs : List X) (y : X) → slice_get (xs ++ y ∷ []) (length xs) ≡ Some y
last_got [] y = refl
last_got (x ∷ xs) y = last_got xs y

-- a thing of another id doesn't take the place
still_none : (t : Thing) (ts : List Thing) → bytes_eq names_id (id_of t) ≡ false → place_named ts names_id ≡ None → place_named (with_thing t ts) names_id ≡ None
still_none t ts other none = on (place_named ts (id_of t))
  where
    on : (o : Option ℕ) → place_named (cond (is_some o) ts (ts ++ t ∷ [])) names_id ≡ None
    on None = none_placed (has_id names_id) ts t none other
    on (Some i) = none

pub names_served : NamesAreServed
names_served ts servants place servant none placed serves =
    let one : List Thing = with_thing (bare_exception not_found_id) ts in
    let two : List Thing = with_thing (bare_exception already_bound_id) one in
    let others : List Thing = with_thing (bare_exception no_room_id) two in
    let still : place_named others names_id ≡ None = still_none (bare_exception no_room_id) two refl
    (still_none (bare_exception already_bound_id) one refl (still_none (bare_exception not_found_id) ts refl none)) in
    let whole : with_names ts ≡ others ++ names ∷ [] = ap (λ (o : Option ℕ). cond (is_some o) others (others ++ names ∷ [])) still in
    let at : place_named (with_names ts) names_id ≡ Some (length others) =
    ap (λ (xs : List Thing). place_named xs names_id) whole ∙ last_placed (has_id names_id) others names still refl in
    let here : length others ≡ place = same_Some (length others) place (sym at ∙ placed) in
    record {
      place = place;
      placed = placed;
      thing = ap (slice_get (with_names ts)) (sym here) ∙ ap (λ (xs : List Thing). slice_get xs (length others)) whole ∙ last_got others names;
      servant = servant;
      serves = serves;
    }
