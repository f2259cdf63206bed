-- The operations of each interface that a text declares have names that differ, and begin with what its bases give.
use Rattle.std.proofs.Common.{◌≡◌, ℕ, ◌+◌, Bool, true, cond, not, List, [], ◌∷◌, ◌++◌, length, Option, Some, inl, inr, refl, sym, ap, subst, ◌∙◌}
use Rattle.std.specs.Prelude.{slice_get, filter}
use Rattle.std.specs.Cmp.Lexicographic.{pointwise}
use Rattle.std.specs.List.{starts_with}
use Rattle.std.specs.Option.{option_map_or}
use Rattle.std.specs.Str.{bytes_eq}
use Rattle.std.proofs.Math.Seq.{take-append_seam}
use Rattle.std.proofs.lemmas.Bool.{and_from, cases_Bool}
use Rattle.std.proofs.lemmas.Option.{none-some, same_Some}
use Rattle.std.proofs.lemmas.Slice.Eq.{bytes_eq-Decides}
use Rattle.cdr_values.specs.Trees.{Names}
use Rattle.idl_scopes.specs.Table.{Table}
use Rattle.idl_scopes.specs.Ids as ids
use Rattle.idl_types.specs.Inherited.{operations_named, given_names, inherited_names}
use Rattle.idl_types.specs.Names.{operation_names, once, with_names}
use Rattle.idl_types.specs.Things as things
use Rattle.idl_types.specs.Things.{InterfaceView}
use Rattle.idl_types.proofs.EachOnce.{with_both, one_by_one}
use Rattle.idl_names.specs.Each.{and_each}
use Rattle.idl_names.specs.State.{Thing, nothing, interface, type, exception, constant, enumerator, operations}
use Rattle.idl_names.specs.Changes.{thing_in}
use Rattle.idl_names.specs.Interfaces.{operations_in, operations_from}
use Rattle.idl_reader.specs.Declared.{ids_at, declared_at, declared_from}
use Rattle.idl_reader.specs.Accepted.{Each, TextsGive, HasOperationsApart, HasInheritedFirst}
use Rattle.idl_reader.proofs.BasedThings.{AreFrom, base_named, each_from}
use Rattle.idl_reader.proofs.EarlierBases.{IsBase, AreBases, AreEarlier, AreBased}
use Rattle.idl_reader.proofs.FirstNames.{IsAmong}
use Rattle.idl_reader.proofs.HeldOperations.{IsHeld, IsInterface, AreInterfaces}
use Rattle.idl_reader.proofs.Ids.{InOrder}
use Rattle.idl_reader.proofs.KeptOperations.{interfaces_text, based_text}
use Rattle.idl_reader.proofs.OperationNames.{IsIn, with_all, with_front, with_each, distinct_differ, all_names, names_both, among_left, each_left, among_held, all_distinct, names_each}
use Rattle.idl_reader.proofs.Standing.{orderly_text}
use Rattle.idl_reader.proofs.Tables.{known_in, AreInOrder, in_order}

-- a list begins with its prefix
spelled_alike : (ns : Names) → pointwise bytes_eq ns ns ≡ true
spelled_alike [] = refl
spelled_alike (n ∷ ns) = and_from (bytes_eq n n) (pointwise bytes_eq ns ns) ((bytes_eq-Decides n n).1 refl) (spelled_alike ns)

front_starts : (xs ys : Names) → starts_with bytes_eq (xs ++ ys) xs ≡ true
front_starts xs ys = ap (λ (zs : Names). pointwise bytes_eq xs zs) (take-append_seam xs ys) ∙ spelled_alike xs

-- names of an interface whose names are there already add none
module _ (us : List things.Thing) where
  abbrev names_of : List ℕ → Names
  names_of id = operation_names (operations_named us id)

  given_without : (n : List ℕ) (ns : List (List ℕ)) (so_far : Names) → ((m : List ℕ) → IsIn m (names_of n) → IsIn m so_far)
      → with_names so_far (given_names us (filter (λ m. not (bytes_eq m n)) ns)) ≡ with_names so_far (given_names us ns)
  given_without n [] so_far there = refl
  given_without n (m ∷ ns) so_far there = elim (cases_Bool (bytes_eq m n)) [
    | inl e ↦
        let same : m ≡ n = (bytes_eq-Decides m n).0 e in
        ap (λ (b : Bool). with_names so_far (given_names us (cond (not b) (m ∷ filter (λ k. not (bytes_eq k n)) ns) (filter (λ k. not (bytes_eq k n)) ns)))) e
        ∙ given_without n ns so_far there
        ∙ ap (λ (zs : Names). with_names zs (given_names us ns)) (sym (with_all so_far (names_of m) (λ k a. there k (subst (λ (z : List ℕ). IsIn k (names_of z)) same a))))
        ∙ sym (with_both so_far (names_of m) (given_names us ns))
    | inr e ↦
        ap (λ (b : Bool). with_names so_far (given_names us (cond (not b) (m ∷ filter (λ k. not (bytes_eq k n)) ns) (filter (λ k. not (bytes_eq k n)) ns)))) e
        ∙ with_both so_far (names_of m) (given_names us (filter (λ k. not (bytes_eq k n)) ns))
        ∙ given_without n ns (with_names so_far (names_of m)) (λ k a. with_front k so_far (names_of m) (there k a))
        ∙ sym (with_both so_far (names_of m) (given_names us ns))
  ]

  given_once : (ns : List (List ℕ)) (so_far : Names) → with_names so_far (given_names us (once ns)) ≡ with_names so_far (given_names us ns)
  given_once [] so_far = refl
  given_once (n ∷ ns) so_far =
      with_both so_far (names_of n) (given_names us (filter (λ m. not (bytes_eq m n)) (once ns)))
      ∙ given_without n (once ns) (with_names so_far (names_of n)) (λ m a. with_each m so_far (names_of n) a)
      ∙ given_once ns (with_names so_far (names_of n))
      ∙ sym (with_both so_far (names_of n) (given_names us ns))

  -- what is inherited, added name by name
  pub inherited_is : (bases : List (List ℕ)) → inherited_names us bases ≡ with_names [] (given_names us bases)
  inherited_is bases = sym (one_by_one (given_names us (once bases))) ∙ given_once bases []

-- what is among others stays there
from_left : (all : List Thing) (bs so_far : List ℕ) (o : ℕ) → IsAmong o so_far → IsAmong o (operations_from all so_far bs)
from_left all [] so_far o m = m
from_left all (b ∷ bs) so_far o m = from_left all bs (and_each so_far (operations_in (thing_in (slice_get all b)))) o (each_left so_far (operations_in (thing_in (slice_get all b))) o m)

module _ (table : Table) (o : InOrder table) (order : AreInOrder (known_in table.declared)) (all : List Thing) (based : AreBased all) (paired : length all ≡ length table.declared) (kept : AreInterfaces table all) where
  -- what several bases give, by names and by places
  given_from : (i : ℕ) (us : List things.Thing) → AreFrom table o all based paired i us → (ss bs so_far : List ℕ) → AreBases all bs → AreEarlier bs i
      → ((p : ℕ) → IsAmong p (operations_from all so_far bs) → IsHeld table all ss p) → with_names (all_names all so_far) (given_names us (ids_at table bs)) ≡ all_names all (operations_from all so_far bs)
  given_from i us f ss [] so_far d e held = refl
  given_from i us f ss (b ∷ bs) so_far d e held =
      let h : IsBase all b = d.0 in
      let given = given_names us (ids_at table bs) in
      let named : operation_names (operations_named us (ids.id_of table b)) ≡ all_names all h.operations
      = ap (λ (x : Option InterfaceView). operation_names (option_map_or (λ v. v.operations) x [])) (base_named table o all based paired i b us f e.0 h) in
      let next = and_each so_far h.operations in
      let there : operations_in (thing_in (slice_get all b)) ≡ h.operations = ap (λ (x : Option Thing). operations_in (thing_in x)) h.there in
      let same : operations_from all so_far (b ∷ bs) ≡ operations_from all next bs = ap (λ (ks : List ℕ). operations_from all (and_each so_far ks) bs) there in
      let held' : (p : ℕ) → IsAmong p (operations_from all next bs) → IsHeld table all ss p = λ p m. held p (subst (λ (ks : List ℕ). IsAmong p ks) (sym same) m) in
      with_both (all_names all so_far) (operation_names (operations_named us (ids.id_of table b))) given
      ∙ ap (λ (ns : Names). with_names (with_names (all_names all so_far) ns) given) named
      ∙ ap (λ (ns : Names). with_names ns given) (names_each table all ss order so_far h.operations (λ p m. held' p (from_left all bs next p m)))
      ∙ given_from i us f ss bs next d.1 e.1 held'
      ∙ ap (λ (ks : List ℕ). all_names all ks) (sym same)

  interface_begins : (i : ℕ) (us : List things.Thing) → AreFrom table o all based paired i us → (bs os : List ℕ) → IsInterface table all i bs os
      → starts_with bytes_eq (all_names all os) (inherited_names us (ids_at table bs)) ≡ true
  interface_begins i us f bs os d =
      let front = operations_from all [] bs in
      let held : (p : ℕ) → IsAmong p front → IsHeld table all ((i + 1) ∷ d.scopes) p
      = λ p m. among_held table all ((i + 1) ∷ d.scopes) order os d.held p (subst (λ (ks : List ℕ). IsAmong p ks) (sym d.is) (among_left p front d.own m)) in
      let is : inherited_names us (ids_at table bs) ≡ all_names all front = inherited_is us (ids_at table bs) ∙ given_from i us f ((i + 1) ∷ d.scopes) bs [] d.stand d.earlier held in
      ap (λ (ns : Names). starts_with bytes_eq (all_names all os) ns) is
      ∙ ap (λ (ns : Names). starts_with bytes_eq ns (all_names all front)) (ap (λ (ks : List ℕ). all_names all ks) d.is ∙ names_both all front d.own)
      ∙ front_starts (all_names all front) (all_names all d.own)

  begins : (i : ℕ) (us : List things.Thing) → AreFrom table o all based paired i us → (x : Thing) → slice_get all i ≡ Some x → (t : things.Thing) → declared_at table all i x ≡ Some t → HasInheritedFirst us t
  begins i us f nothing there t e = absurd (none-some t e)
  begins i us f (interface bs os) there t e = subst (HasInheritedFirst us) (same_Some _ t e) (interface_begins i us f bs os (kept.each i bs os there))
  begins i us f (type k) there t e = subst (HasInheritedFirst us) (same_Some _ t e) refl
  begins i us f (exception ms) there t e = subst (HasInheritedFirst us) (same_Some _ t e) refl
  begins i us f (constant k v) there t e = subst (HasInheritedFirst us) (same_Some _ t e) refl
  begins i us f (enumerator enum n) there t e = absurd (none-some t e)
  begins i us f (operations os n) there t e = absurd (none-some t e)

  apart : (i : ℕ) (us : List things.Thing) → AreFrom table o all based paired i us → (x : Thing) → slice_get all i ≡ Some x → (t : things.Thing) → declared_at table all i x ≡ Some t → HasOperationsApart us t
  apart i us f nothing there t e = absurd (none-some t e)
  apart i us f (interface bs os) there t e =
      let d = kept.each i bs os there in
      subst (HasOperationsApart us) (same_Some _ t e) (distinct_differ (all_names all os) (all_distinct table all ((i + 1) ∷ d.scopes) order os d.held d.once))
  apart i us f (type k) there t e = subst (HasOperationsApart us) (same_Some _ t e) refl
  apart i us f (exception ms) there t e = subst (HasOperationsApart us) (same_Some _ t e) refl
  apart i us f (constant k v) there t e = subst (HasOperationsApart us) (same_Some _ t e) refl
  apart i us f (enumerator enum n) there t e = absurd (none-some t e)
  apart i us f (operations os n) there t e = absurd (none-some t e)

  pub all_begin : Each HasInheritedFirst [] (declared_from table all 0 all)
  all_begin = each_from table o all based paired HasInheritedFirst begins

  pub all_apart : Each HasOperationsApart [] (declared_from table all 0 all)
  all_apart = each_from table o all based paired HasOperationsApart apart

pub texts_give_apart_operations : TextsGive HasOperationsApart
texts_give_apart_operations text ts w =
    let n = w.new in
    let o = orderly_text text n w.names in
    subst (Each HasOperationsApart []) (sym w.told) (all_apart n.scopes (in_order n.scopes o.names) o.names n.things (based_text text n w.names) o.paired (interfaces_text text n w.names))

pub texts_inherit_first : TextsGive HasInheritedFirst
texts_inherit_first text ts w =
    let n = w.new in
    let o = orderly_text text n w.names in
    subst (Each HasInheritedFirst []) (sym w.told) (all_begin n.scopes (in_order n.scopes o.names) o.names n.things (based_text text n w.names) o.paired (interfaces_text text n w.names))
