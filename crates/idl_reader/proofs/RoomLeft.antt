-- With each thing that a text declares, the file has no more leaves than it may.
use Rattle.std.proofs.Common.{◌≡◌, ℕ, ◌+◌, ◌≤◌, arith, List, [], ◌∷◌, ◌++◌, Option, Some, None, refl, sym, ap, subst, ◌∙◌, sum_by}
use Rattle.std.specs.Prelude.{slice_get}
use Rattle.std.proofs.lemmas.Bool.{cond_both, le-leb}
use Rattle.std.proofs.lemmas.List.Sums.{sum_by-append, sum_by_push}
use Rattle.std.proofs.lemmas.Option.{none-some, same_Some}
use Rattle.idl_scopes.specs.Table.{Table}
use Rattle.idl_types.specs.Things as things
use Rattle.idl_types.specs.Things.{id_of}
use Rattle.idl_types.specs.Counting.{operation_leaves, thing_leaves}
use Rattle.idl_types.specs.Sound.{is_reserved, counted_leaves, file_leaves}
use Rattle.idl_names.specs.State.{Thing, nothing, interface, type, exception, constant, enumerator, operations}
use Rattle.idl_names.specs.Changes.{thing_in}
use Rattle.idl_reader.specs.Declared.{operations_of, operations_at, declared_at, listed, declared_from}
use Rattle.idl_reader.specs.Accepted.{Each, TextsGive, HasLeavesLeft}
use Rattle.idl_reader.proofs.FileLeaves.{own_leaves, held_leaves, declared_leaves, all_leaves}
use Rattle.idl_reader.proofs.CountedThings.{counted_text}

own_of : (x : Thing) → own_leaves x ≡ sum_by operation_leaves (operations_of x)
own_of (operations os n) = refl
own_of nothing = refl
own_of (interface bs os) = refl
own_of (type k) = refl
own_of (exception ms) = refl
own_of (constant k v) = refl
own_of (enumerator id n) = refl

held_of : (all : List Thing) (is : List ℕ) → held_leaves all is ≡ sum_by operation_leaves (operations_at all is)
held_of all [] = refl
held_of all (i ∷ is) =
    let a = own_of (thing_in (slice_get all i)) in
    let b = held_of all is in
    let c = sum_by-append operation_leaves (operations_of (thing_in (slice_get all i))) (operations_at all is) in
    omega arith

leaves_declared : (table : Table) (all : List Thing) (i : ℕ) (x : Thing) (t : things.Thing) → declared_at table all i x ≡ Some t → thing_leaves t ≡ declared_leaves all x
leaves_declared table all i nothing t e = absurd (none-some t e)
leaves_declared table all i (interface bases os) t e = ap thing_leaves (sym (same_Some _ t e)) ∙ sym (held_of all os)
leaves_declared table all i (type k) t e = ap thing_leaves (sym (same_Some _ t e))
leaves_declared table all i (exception ms) t e = ap thing_leaves (sym (same_Some _ t e))
leaves_declared table all i (constant k v) t e = ap thing_leaves (sym (same_Some _ t e))
leaves_declared table all i (enumerator enum n) t e = absurd (none-some t e)
leaves_declared table all i (operations os n) t e = absurd (none-some t e)

no_more : (t : things.Thing) → counted_leaves t ≤ thing_leaves t
no_more t = cond_both (is_reserved (id_of t)) 0 (thing_leaves t) (λ n. n ≤ thing_leaves t) (λ e. omega arith) (λ e. omega arith)

module _ (table : Table) (all : List Thing) where
  each_listed : (i : ℕ) (x : Thing) (rest : List Thing) (t : Option things.Thing) → declared_at table all i x ≡ t
      → ((us : List things.Thing) → file_leaves us + all_leaves all rest ≤ 1048576 → Each HasLeavesLeft us (declared_from table all (i + 1) rest))
      → (us : List things.Thing) → file_leaves us + (declared_leaves all x + all_leaves all rest) ≤ 1048576 → Each HasLeavesLeft us (listed t ++ declared_from table all (i + 1) rest)
  each_listed i x rest None e next us h = next us (omega arith)
  each_listed i x rest (Some t) e next us h =
      let a = leaves_declared table all i x t e in
      let b = no_more t in
      let c : file_leaves (us ++ t ∷ []) ≡ file_leaves us + counted_leaves t = sum_by_push counted_leaves us t in
      let small : file_leaves us + counted_leaves t ≤ 1048576 = omega arith in
      (le-leb (file_leaves us + counted_leaves t) 1048576 small, next (us ++ t ∷ []) (omega arith))

  each_left : (i : ℕ) (rest : List Thing) (us : List things.Thing) → file_leaves us + all_leaves all rest ≤ 1048576 → Each HasLeavesLeft us (declared_from table all i rest)
  each_left i [] us h = tt
  each_left i (x ∷ rest) us h = each_listed i x rest (declared_at table all i x) refl (λ vs g. each_left (i + 1) rest vs g) us h

pub texts_leave_room : TextsGive HasLeavesLeft
texts_leave_room text ts w =
    let n = w.new in
    let h = counted_text text n w.names in
    let a = h.counted in
    let b = h.within in
    subst (Each HasLeavesLeft []) (sym w.told) (each_left n.scopes n.things 0 n.things [] (omega arith))
