-- What is so of the types of all names is so of the types of each thing that they declare.
use Rattle.std.proofs.Common.{◌≡◌, ℕ, suc, ◌+◌, Bool, true, List, [], ◌∷◌, ◌++◌, Option, Some, None, refl, subst}
use Rattle.std.specs.Prelude.{slice_get}
use Rattle.std.specs.List.{list_all}
use Rattle.std.proofs.lemmas.Bool.{and_from, and_parts}
use Rattle.std.proofs.lemmas.Option.{none-some, same_Some}
use Rattle.cdr_values.specs.Trees.{Kind}
use Rattle.idl_scopes.specs.Table.{Table}
use Rattle.idl_types.specs.Things as things
use Rattle.idl_names.specs.State.{Thing, nothing, interface, type, exception, constant, enumerator, operations}
use Rattle.idl_names.specs.Changes.{thing_in}
use Rattle.idl_reader.specs.Declared.{operations_of, operations_at, declared_at, listed, declared_from}
use Rattle.idl_reader.specs.Accepted.{Each, is_result_so, has_types_so, HasTypes}
use Rattle.idl_reader.proofs.KeptTypes.{IsSoResult, AreSoParams, AreSoOperations, IsSoThing}

module _ (so : Kind → Bool) (are_so : List (List ℕ × Kind) → Bool) where
  abbrev pub AllSo : List Thing → Type 0
  AllSo all = (i : ℕ) (x : Thing) → slice_get all i ≡ Some x → IsSoThing so are_so x

  so_params : (ps : List things.ParamView) → AreSoParams so are_so ps → list_all (λ p. so p.kind) ps ≡ true
  so_params [] h = refl
  so_params (p ∷ ps) h = and_from (so p.kind) (list_all (λ q. so q.kind) ps) h.0 (so_params ps h.1)

  so_result : (o : Option Kind) → IsSoResult so are_so o → is_result_so so o ≡ true
  so_result None h = refl
  so_result (Some k) h = h

  so_operations : (os : List things.OperationView) → AreSoOperations so are_so os → list_all (has_types_so so) os ≡ true
  so_operations [] h = refl
  so_operations (o ∷ os) h =
      and_from (has_types_so so o) (list_all (has_types_so so) os)
      (and_from (is_result_so so o.result) (list_all (λ p. so p.kind) o.params) (so_result o.result h.0.0) (so_params o.params h.0.1)) (so_operations os h.1)

  so_append : (os ks : List things.OperationView) → list_all (has_types_so so) os ≡ true → list_all (has_types_so so) ks ≡ true → list_all (has_types_so so) (os ++ ks) ≡ true
  so_append [] ks h k = k
  so_append (o ∷ os) ks h k =
      let p = and_parts (has_types_so so o) (list_all (has_types_so so) os) h in
      and_from (has_types_so so o) (list_all (has_types_so so) (os ++ ks)) p.0 (so_append os ks p.1 k)

  so_of : (x : Thing) → IsSoThing so are_so x → list_all (has_types_so so) (operations_of x) ≡ true
  so_of (operations os n) h = so_operations os h
  so_of nothing h = refl
  so_of (interface bs os) h = refl
  so_of (type k) h = refl
  so_of (exception ms) h = refl
  so_of (constant k v) h = refl
  so_of (enumerator id n) h = refl

  so_in : (all : List Thing) → AllSo all → (i : ℕ) (o : Option Thing) → slice_get all i ≡ o → list_all (has_types_so so) (operations_of (thing_in o)) ≡ true
  so_in all h i None e = refl
  so_in all h i (Some x) e = so_of x (h i x e)

  so_operations_at : (all : List Thing) → AllSo all → (is : List ℕ) → list_all (has_types_so so) (operations_at all is) ≡ true
  so_operations_at all h [] = refl
  so_operations_at all h (i ∷ is) = so_append (operations_of (thing_in (slice_get all i))) (operations_at all is) (so_in all h i (slice_get all i) refl) (so_operations_at all h is)

  so_thing : (table : Table) (all : List Thing) → AllSo all → (i : ℕ) (us : List things.Thing) (x : Thing) (t : things.Thing) → declared_at table all i x ≡ Some t → IsSoThing so are_so x → HasTypes so are_so us t
  so_thing table all h i us nothing t e m = absurd (none-some t e)
  so_thing table all h i us (interface bases os) t e m = subst (HasTypes so are_so us) (same_Some _ t e) (so_operations_at all h os)
  so_thing table all h i us (type k) t e m = subst (HasTypes so are_so us) (same_Some _ t e) m
  so_thing table all h i us (exception ms) t e m = subst (HasTypes so are_so us) (same_Some _ t e) m
  so_thing table all h i us (constant k v) t e m = subst (HasTypes so are_so us) (same_Some _ t e) m
  so_thing table all h i us (enumerator enum n) t e m = absurd (none-some t e)
  so_thing table all h i us (operations os n) t e m = absurd (none-some t e)

  module _ (table : Table) (all : List Thing) (o : AllSo all) where
    each_listed : (i : ℕ) (x : Thing) (rest : List Thing) (t : Option things.Thing) → declared_at table all i x ≡ t → IsSoThing so are_so x
        → ((us : List things.Thing) → Each (HasTypes so are_so) us (declared_from table all (i + 1) rest)) → (us : List things.Thing)
        → Each (HasTypes so are_so) us (listed t ++ declared_from table all (i + 1) rest)
    each_listed i x rest None e m next us = next us
    each_listed i x rest (Some t) e m next us = (so_thing table all o i us x t e m, next (us ++ t ∷ []))

    each_so : (i : ℕ) (rest : List Thing) → AllSo rest → (us : List things.Thing) → Each (HasTypes so are_so) us (declared_from table all i rest)
    each_so i [] h us = tt
    each_so i (x ∷ rest) h us = each_listed i x rest (declared_at table all i x) refl (h 0 x refl) (λ vs. each_so (i + 1) rest (λ k y e. h (suc k) y e) vs) us

    -- so of all that names declare
    pub each_typed : Each (HasTypes so are_so) [] (declared_from table all 0 all)
    each_typed = each_so 0 all o []
