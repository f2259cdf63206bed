-- The things that a text declares have ids of their own, case aside, and none is in the built-in module.
use Rattle.std.proofs.Common.{◌≡◌, ℕ, ◌+◌, ◌<◌, ◌≤◌, arith, false, List, [], ◌∷◌, ◌++◌, length, codes, Option, Some, None, refl, sym, ap, subst, ◌∙◌}
use Rattle.std.specs.List.{list_any}
use Rattle.std.specs.Str.{str_eq_ignore_ascii_case, str_to_ascii_lowercase}
use Rattle.std.proofs.lemmas.Bool.{or_from, not_from_false, false_from_ne_true}
use Rattle.std.proofs.lemmas.Option.{none-some, same_Some}
use Rattle.std.proofs.lemmas.Slice.Eq.{bytes_eq-Decides}
use Rattle.idl_scopes.specs.Table.{Table}
use Rattle.idl_scopes.specs.Ids as ids
use Rattle.idl_types.specs.Things.{Thing, id_of}
use Rattle.idl_types.specs.Sound.{is_reserved}
use Rattle.idl_scopes.specs.Finding.{lowered, scope_at, name_at}
use Rattle.idl_names.specs.State as names
use Rattle.idl_names.specs.State.{Built}
use Rattle.idl_names.specs.Whole.{Declares}
use Rattle.idl_reader.specs.Declared.{declared_at, listed, declared_from, declared}
use Rattle.idl_reader.specs.Accepted.{Each, IsNew, TextsGive}
use Rattle.idl_reader.proofs.Ids.{InOrder, same_id}
use Rattle.idl_reader.proofs.Tables.{in_order, free_at}
use Rattle.idl_reader.proofs.OwnIds.{own_id}
use Rattle.idl_reader.proofs.Standing.{orderly_text}

-- the ids of things are those of declarations before this place
abbrev pub AreBefore : Table → ℕ → List Thing → Type 0
AreBefore table i [] = Unit {0}
AreBefore table i (u ∷ us) = ((j : ℕ) × (j < i) × (id_of u ≡ ids.id_of table j)) × AreBefore table i us

pub before_more : (table : Table) (i k : ℕ) (us : List Thing) → i ≤ k → AreBefore table i us → AreBefore table k us
before_more table i k [] h b = tt
before_more table i k (u ∷ us) h b = let p = b.0.1 in ((b.0.0, omega arith, b.0.2), before_more table i k us h b.1)

pub before_one : (table : Table) (i j : ℕ) (us : List Thing) (u : Thing) → j < i → id_of u ≡ ids.id_of table j → AreBefore table i us → AreBefore table i (us ++ u ∷ [])
before_one table i j [] u h e b = ((j, h, e), tt)
before_one table i j (v ∷ us) u h e b = (b.0, before_one table i j us u h e b.1)

-- what a name declares has its id
pub id_declared : (table : Table) (all : List names.Thing) (i : ℕ) (x : names.Thing) (t : Thing) → declared_at table all i x ≡ Some t → id_of t ≡ ids.id_of table i
id_declared table all i names.nothing t e = absurd (none-some t e)
id_declared table all i (names.interface bases os) t e = ap id_of (sym (same_Some _ t e))
id_declared table all i (names.type k) t e = ap id_of (sym (same_Some _ t e))
id_declared table all i (names.exception ms) t e = ap id_of (sym (same_Some _ t e))
id_declared table all i (names.constant k v) t e = ap id_of (sym (same_Some _ t e))
id_declared table all i (names.enumerator enum n) t e = absurd (none-some t e)
id_declared table all i (names.operations os n) t e = absurd (none-some t e)

-- it is told apart from those before it
none_same : (table : Table) → InOrder table → (i : ℕ) → i < length table.declared → (t : Thing) → id_of t ≡ ids.id_of table i → (us : List Thing) → AreBefore table i us
    → list_any (λ u. str_eq_ignore_ascii_case (id_of t) (id_of u)) us ≡ false
none_same table o i h t e [] b = refl
none_same table o i h t e (u ∷ us) b =
    or_from (str_eq_ignore_ascii_case (id_of t) (id_of u)) (list_any (λ u. str_eq_ignore_ascii_case (id_of t) (id_of u)) us)
    (false_from_ne_true (str_eq_ignore_ascii_case (id_of t) (id_of u)) (λ same.
    let j = b.0.0 in
    let less : j < i = b.0.1 in
    let low = (bytes_eq-Decides (str_to_ascii_lowercase (id_of t)) (str_to_ascii_lowercase (id_of u))).0 same in
    let it : i ≡ j = same_id table o i j h (omega arith) (ap str_to_ascii_lowercase (sym e) ∙ low ∙ ap str_to_ascii_lowercase b.0.2) in
    absurd (omega arith)))
    (none_same table o i h t e us b.1)

-- what the laws of ids rest on
record Law (table : Table) : Type 0 where
  order : InOrder table
  free : (i : ℕ) → scope_at table i ≡ 0 → lowered (name_at table i) ≡ codes "orb" → ⊥

each_listed : (table : Table) → Law table → (all : List names.Thing) (i : ℕ) (x : names.Thing) (rest : List names.Thing) → i < length table.declared → (o : Option Thing) → declared_at table all i x ≡ o
    → ((us : List Thing) → AreBefore table (i + 1) us → Each IsNew us (declared_from table all (i + 1) rest))
    → (us : List Thing) → AreBefore table i us → Each IsNew us (listed o ++ declared_from table all (i + 1) rest)
each_listed table o all i x rest h None e next us b = next us (before_more table i (i + 1) us (omega arith) b)
each_listed table o all i x rest h (Some t) e next us b =
    let id = id_declared table all i x t e in
    ((not_from_false _ (none_same table o.order i h t id us b), ap is_reserved id ∙ own_id table o.order o.free i h), next (us ++ t ∷ []) (before_one table (i + 1) i us t (omega arith) id (before_more table i (i + 1) us (omega arith) b)))

each_new : (table : Table) → Law table → (all : List names.Thing) (i : ℕ) (rest : List names.Thing) → i + length rest ≤ length table.declared → (us : List Thing) → AreBefore table i us
    → Each IsNew us (declared_from table all i rest)
each_new table o all i [] h us b = tt
each_new table o all i (x ∷ rest) h us b =
    each_listed table o all i x rest (omega arith) (declared_at table all i x) refl (λ vs c. each_new table o all (i + 1) rest (omega arith) vs c) us b

-- of the things that a text declares, each has an id that none before it has, case aside, and that is not in the built-in module
new_ids : (text : List ℕ) (new : Built) → Declares text new → Each IsNew [] (declared new)
new_ids text new w =
    let o = orderly_text text new w in
    let p = o.paired in
    each_new new.scopes (record { order = in_order new.scopes o.names; free = free_at new.scopes o.free }) new.things 0 new.things (omega arith) [] tt

pub texts_give_new_ids : TextsGive IsNew
texts_give_new_ids text ts w = subst (Each IsNew []) (sym w.told) (new_ids text w.new w.names)
