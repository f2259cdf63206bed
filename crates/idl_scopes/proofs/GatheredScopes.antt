-- The scopes of declarations at some places.
use Rattle.std.proofs.Common.{◌≡◌, ◌≤◌, ◌+◌, ◌<◌, ℕ, Bool, true, false, not, ◌&&◌, List, [], ◌∷◌, ◌++◌, length, drop, Option, Some, None, inl, inr, refl, sym, ap, subst, ◌∙◌, eqb-true, eq-eqb}
use Rattle.std.specs.Prelude.{slice_get, ◌==◌, if◌then◌else◌}
use Rattle.std.specs.List.{slice_index_or}
use Rattle.std.specs.Str.{bytes_eq}
use Rattle.std.proofs.lemmas.Bool.{and_parts, or_cases, or_left, or_right}
use Rattle.std.proofs.lemmas.List.{append-nil, at_drop_more, drop_all}
use Rattle.idl_scopes.specs.Bases.{holds}
use Rattle.idl_scopes.specs.Table.{Table}
use Rattle.idl_scopes.specs.Finding.{lowered, is_at, place_in, sort_at, is_operation}
use Rattle.idl_scopes.specs.Groups.{with_scope, scopes_at, AreHolders, AreOwners}
use Rattle.idl_scopes.specs.Taking.{is_operation_there}
use Rattle.idl_scopes.proofs.NamedKeys.{placed}
use Rattle.idl_scopes.proofs.SharedParts.{joins}

module _ (t : Table) (operations : Bool) where
  both : (o : Option (ℕ × List ℕ)) (xs : List ℕ) → with_scope o xs ≡ with_scope o [] ++ xs
  both None xs = refl
  both (Some k) xs = refl

  one : (b : Bool) (o : Option (ℕ × List ℕ)) (xs : List ℕ) → (if b then with_scope o xs else xs) ≡ (if b then with_scope o [] else []) ++ xs
  one true o xs = both o xs
  one false o xs = refl

  taken : (i : ℕ) → Bool
  taken i = not (operations && not (is_operation (sort_at t i)))

  first : (i : ℕ) (is : List ℕ) → scopes_at t operations (i ∷ is) ≡ scopes_at t operations (i ∷ []) ++ scopes_at t operations is
  first i is = one (not (operations && not (is_operation (sort_at t i)))) (slice_get t.keys i) (scopes_at t operations is)

  -- as far as a loop has come
  pub gather_next : (places : List ℕ) (n x : ℕ) (so_far next total : List ℕ) → n < length places → slice_index_or places n 0 ≡ x → next ≡ so_far ++ scopes_at t operations (x ∷ [])
      → so_far ++ scopes_at t operations (drop n places) ≡ total → next ++ scopes_at t operations (drop (n + 1) places) ≡ total
  gather_next places n x so_far next total lt is put reached =
      ap (λ (zs : List ℕ). zs ++ scopes_at t operations (drop (n + 1) places)) put
      ∙ joins so_far (scopes_at t operations (x ∷ [])) (scopes_at t operations (drop (n + 1) places))
      ∙ ap (λ (zs : List ℕ). so_far ++ zs) (sym (first x (drop (n + 1) places)))
      ∙ ap (λ (y : ℕ). so_far ++ scopes_at t operations (y ∷ drop (n + 1) places)) (sym is)
      ∙ ap (λ (zs : List ℕ). so_far ++ zs) (sym (at_drop_more (scopes_at t operations) places n 0 lt))
      ∙ reached

  pub gather_end : (places : List ℕ) (n : ℕ) (so_far total : List ℕ) → length places ≤ n → so_far ++ scopes_at t operations (drop n places) ≡ total → so_far ≡ total
  gather_end places n so_far total le reached = sym (append-nil so_far) ∙ ap (λ (ps : List ℕ). so_far ++ scopes_at t operations ps) (sym (drop_all n places le)) ∙ reached

  front : (b : Bool) (o : Option (ℕ × List ℕ)) (k : ℕ × List ℕ) (xs : List ℕ) → b ≡ true → o ≡ Some k → holds (if b then with_scope o xs else xs) k.0 ≡ true
  front b o k xs so is =
      subst (λ (c : Bool). holds (if c then with_scope o xs else xs) k.0 ≡ true) (sym so)
      (subst (λ (p : Option (ℕ × List ℕ)). holds (with_scope p xs) k.0 ≡ true) (sym is) (or_left (k.0 == k.0) (holds xs k.0) (eq-eqb k.0 k.0 refl)))

  later : (b : Bool) (o : Option (ℕ × List ℕ)) (s : ℕ) (xs : List ℕ) → holds xs s ≡ true → holds (if b then with_scope o xs else xs) s ≡ true
  later true None s xs h = h
  later true (Some k) s xs h = or_right (k.0 == s) (holds xs s) h
  later false o s xs h = h

  gathered : (places : List ℕ) (i : ℕ) (k : ℕ × List ℕ) → holds places i ≡ true → not (operations && not (is_operation (sort_at t i))) ≡ true → slice_get t.keys i ≡ Some k → holds (scopes_at t operations places) k.0 ≡ true
  gathered [] i k there so is = absurd cc
  gathered (p ∷ ps) i k there so is = elim (or_cases (p == i) (holds ps i) there) [
    | inl h ↦ (let e = eqb-true p i h in
        front (not (operations && not (is_operation (sort_at t p)))) (slice_get t.keys p) k (scopes_at t operations ps)
        (ap (λ (j : ℕ). not (operations && not (is_operation (sort_at t j)))) e ∙ so) (ap (slice_get t.keys) e ∙ is))
    | inr h ↦ later (not (operations && not (is_operation (sort_at t p)))) (slice_get t.keys p) k.0 (scopes_at t operations ps) (gathered ps i k h so is)
  ]

-- the scopes of a name's places
pub all_holders : (t : Table) (name places : List ℕ) → ((scope i : ℕ) → place_in t name scope ≡ Some i → holds places i ≡ true) → AreHolders t name (scopes_at t false places)
all_holders t name places all = λ scope i found.
    let q = placed (is_at scope (lowered name)) t.keys i found in
    let e = eqb-true scope q.0.0 (and_parts (scope == q.0.0) (bytes_eq (lowered name) q.0.1) q.2).0 in
    subst (λ (s : ℕ). holds (scopes_at t false places) s ≡ true) (sym e) (gathered t false places i q.0 (all scope i found) refl q.1)

-- those of the operations among them
pub all_owners : (t : Table) (name places : List ℕ) → ((scope i : ℕ) → place_in t name scope ≡ Some i → holds places i ≡ true) → AreOwners t name (scopes_at t true places)
all_owners t name places all = λ scope there. by scope (place_in t name scope) refl there
  where
    double : (b : Bool) → b ≡ true → not (not b) ≡ true
    double true e = refl
    double false e = absurd cc

    by : (scope : ℕ) (o : Option ℕ) → place_in t name scope ≡ o → is_operation_there t o ≡ true → holds (scopes_at t true places) scope ≡ true
    by scope None is there = absurd cc
    by scope (Some i) is there =
        let q = placed (is_at scope (lowered name)) t.keys i is in
        let e = eqb-true scope q.0.0 (and_parts (scope == q.0.0) (bytes_eq (lowered name) q.0.1) q.2).0 in
        subst (λ (s : ℕ). holds (scopes_at t true places) s ≡ true) (sym e) (gathered t true places i q.0 (all scope i is) (double (is_operation (sort_at t i)) there) q.1)
