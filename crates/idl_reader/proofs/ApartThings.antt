-- The parameters of each operation that a text declares are told apart, case aside.
use Rattle.std.proofs.Common.{◌≡◌, ℕ, ◌+◌, true, List, [], ◌∷◌, ◌++◌, Option, Some, None, refl, sym, subst}
use Rattle.std.specs.Prelude.{slice_get}
use Rattle.std.specs.List.{list_all}
use Rattle.std.proofs.lemmas.Bool.{and_from, and_parts}
use Rattle.std.proofs.lemmas.Option.{none-some, same_Some}
use Rattle.idl_scopes.specs.Table.{Table}
use Rattle.idl_types.specs.Things as things
use Rattle.idl_names.specs.State.{Thing, nothing, interface, type, exception, constant, enumerator, operations}
use Rattle.idl_names.specs.Changes.{thing_in}
use Rattle.idl_reader.specs.Declared.{operations_of, operations_at, declared_at, listed, declared_from}
use Rattle.idl_reader.specs.Accepted.{Each, TextsGive, has_params_apart, HasParamsApart}
use Rattle.idl_reader.proofs.ParamsApart as apart

apart_operations : (os : List things.OperationView) → apart.AreApart os → list_all has_params_apart os ≡ true
apart_operations [] h = refl
apart_operations (o ∷ os) h = and_from (has_params_apart o) (list_all has_params_apart os) h.0 (apart_operations os h.1)

apart_append : (os ks : List things.OperationView) → list_all has_params_apart os ≡ true → list_all has_params_apart ks ≡ true → list_all has_params_apart (os ++ ks) ≡ true
apart_append [] ks h k = k
apart_append (o ∷ os) ks h k =
    let p = and_parts (has_params_apart o) (list_all has_params_apart os) h in
    and_from (has_params_apart o) (list_all has_params_apart (os ++ ks)) p.0 (apart_append os ks p.1 k)

apart_of : (x : Thing) → apart.HasParamsApart x → list_all has_params_apart (operations_of x) ≡ true
apart_of (operations os n) h = apart_operations os h
apart_of nothing h = refl
apart_of (interface bs os) h = refl
apart_of (type k) h = refl
apart_of (exception ms) h = refl
apart_of (constant k v) h = refl
apart_of (enumerator id n) h = refl

apart_in : (all : List Thing) → apart.AllApart all → (i : ℕ) (o : Option Thing) → slice_get all i ≡ o → list_all has_params_apart (operations_of (thing_in o)) ≡ true
apart_in all h i None e = refl
apart_in all h i (Some x) e = apart_of x (h i x e)

apart_operations_at : (all : List Thing) → apart.AllApart all → (is : List ℕ) → list_all has_params_apart (operations_at all is) ≡ true
apart_operations_at all h [] = refl
apart_operations_at all h (i ∷ is) = apart_append (operations_of (thing_in (slice_get all i))) (operations_at all is) (apart_in all h i (slice_get all i) refl) (apart_operations_at all h is)

apart_thing : (table : Table) (all : List Thing) → apart.AllApart all → (i : ℕ) (us : List things.Thing) (x : Thing) (t : things.Thing) → declared_at table all i x ≡ Some t → HasParamsApart us t
apart_thing table all h i us nothing t e = absurd (none-some t e)
apart_thing table all h i us (interface bases os) t e = subst (HasParamsApart us) (same_Some _ t e) (apart_operations_at all h os)
apart_thing table all h i us (type k) t e = subst (HasParamsApart us) (same_Some _ t e) refl
apart_thing table all h i us (exception ms) t e = subst (HasParamsApart us) (same_Some _ t e) refl
apart_thing table all h i us (constant k v) t e = subst (HasParamsApart us) (same_Some _ t e) refl
apart_thing table all h i us (enumerator enum n) t e = absurd (none-some t e)
apart_thing table all h i us (operations os n) t e = absurd (none-some t e)

module _ (table : Table) (all : List Thing) (h : apart.AllApart all) where
  each_listed : (i : ℕ) (x : Thing) (rest : List Thing) (t : Option things.Thing) → declared_at table all i x ≡ t
      → ((us : List things.Thing) → Each HasParamsApart us (declared_from table all (i + 1) rest)) → (us : List things.Thing) → Each HasParamsApart us (listed t ++ declared_from table all (i + 1) rest)
  each_listed i x rest None e next us = next us
  each_listed i x rest (Some t) e next us = (apart_thing table all h i us x t e, next (us ++ t ∷ []))

  each_apart : (i : ℕ) (rest : List Thing) (us : List things.Thing) → Each HasParamsApart us (declared_from table all i rest)
  each_apart i [] us = tt
  each_apart i (x ∷ rest) us = each_listed i x rest (declared_at table all i x) refl (λ vs. each_apart (i + 1) rest vs) us

pub texts_give_apart_params : TextsGive HasParamsApart
texts_give_apart_params text ts w =
    let n = w.new in
    subst (Each HasParamsApart []) (sym w.told) (each_apart n.scopes n.things (apart.apart_text text n w.names) 0 n.things [])
