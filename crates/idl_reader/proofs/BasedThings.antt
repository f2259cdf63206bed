-- The bases of each interface that a text declares are interfaces among the things before it.
use Rattle.std.proofs.Common.{◌≡◌, inl, inr, ℕ, zero, suc, ◌+◌, ◌<◌, arith, Bool, true, false, List, [], ◌∷◌, ◌++◌, length, Option, Some, None, refl, sym, ap, subst, ◌∙◌, is_some}
use Rattle.std.specs.Prelude.{slice_get, find, if◌then◌else◌}
use Rattle.std.specs.List.{list_all}
use Rattle.std.specs.Option.{option_and_then}
use Rattle.std.specs.Str.{bytes_eq}
use Rattle.std.proofs.lemmas.Bool.{and_from, both_ways, cases_eq}
use Rattle.std.proofs.lemmas.Option.{none-some, same_Some, slice_get_within}
use Rattle.std.proofs.lemmas.Slice.Eq.{bytes_eq-Decides}
use Rattle.idl_scopes.specs.Table.{Table}
use Rattle.idl_scopes.specs.Finding.{lowered}
use Rattle.idl_scopes.specs.Ids as ids
use Rattle.idl_types.specs.Things as things
use Rattle.idl_types.specs.Things.{InterfaceView, id_of, bases_of}
use Rattle.idl_types.specs.Finding.{has_id, as_interface, interface_named, is_interface}
use Rattle.idl_types.specs.Sound.{has_bases_in}
use Rattle.idl_names.specs.State.{Thing, nothing, interface, type, exception, constant, enumerator, operations}
use Rattle.idl_reader.specs.Declared.{ids_at, operations_at, declared_at, listed, declared_from}
use Rattle.idl_reader.specs.Accepted.{Each, TextsGive, HasEarlierBases}
use Rattle.idl_reader.proofs.Ids.{InOrder, same_id}
use Rattle.idl_reader.proofs.Tables.{in_order, get_behind}
use Rattle.idl_reader.proofs.ThingLists.{get_before, get_last}
use Rattle.idl_reader.proofs.NewIds.{id_declared}
use Rattle.idl_reader.proofs.KeptOperations.{based_text}
use Rattle.idl_reader.proofs.Standing.{orderly_text}
use Rattle.idl_reader.proofs.EarlierBases.{AreBases, AreEarlier, AreBased, IsBase}

module _ (table : Table) (o : InOrder table) (all : List Thing) (based : AreBased all) (paired : length all ≡ length table.declared) where
  -- what the name at a place declares
  pub record DeclaredAt (j : ℕ) (u : things.Thing) : Type 0 where
    pub x : Thing
    pub there : slice_get all j ≡ Some x
    pub is : declared_at table all j x ≡ Some u

  -- each of these things is declared before a place
  pub record AreFrom (i : ℕ) (us : List things.Thing) : Type 0 where
    pub from : (k : ℕ) (u : things.Thing) → slice_get us k ≡ Some u → (j : ℕ) × (j < i) × DeclaredAt j u
    pub all_there : (j : ℕ) (u : things.Thing) → j < i → DeclaredAt j u → (k : ℕ) × (slice_get us k ≡ Some u)

  -- what the name of an interface declares
  abbrev view_at : ℕ → List ℕ → List ℕ → InterfaceView
  view_at b bases os = record { id = ids.id_of table b; bases = ids_at table bases; operations = operations_at all os }

  abbrev pub interface_at : (b : ℕ) → IsBase all b → InterfaceView
  interface_at b h = view_at b h.bases h.operations

  -- an interface has the id that a thing before has
  same_place : (j b : ℕ) (u : things.Thing) → DeclaredAt j u → b < length all → bytes_eq (ids.id_of table b) (id_of u) ≡ true → j ≡ b
  same_place j b u d h e =
      let q = slice_get_within all j d.x d.there in
      same_id table o j b (omega arith) (omega arith) (ap lowered (sym (id_declared table all j d.x u d.is) ∙ sym ((bytes_eq-Decides (ids.id_of table b) (id_of u)).0 e)))

  interface_there : (j b : ℕ) (u : things.Thing) → DeclaredAt j u → (h : IsBase all b) → j ≡ b → as_interface u ≡ Some (interface_at b h)
  interface_there j b u d h e =
      let there : slice_get all j ≡ Some (interface h.bases h.operations) = subst (λ (k : ℕ). slice_get all k ≡ Some (interface h.bases h.operations)) (sym e) h.there in
      let x : d.x ≡ interface h.bases h.operations = same_Some _ _ (sym d.there ∙ there) in
      let is = subst (λ (y : Thing). declared_at table all j y ≡ Some u) x d.is in
      subst (λ (k : ℕ). as_interface u ≡ Some (view_at k h.bases h.operations)) e (ap as_interface (sym (same_Some (things.interface (view_at j h.bases h.operations)) u is)))

  -- the first thing that has its id is it
  abbrev FoundIn : (b : ℕ) → IsBase all b → List things.Thing → Type 0
  FoundIn b h us = option_and_then as_interface (find (has_id (ids.id_of table b)) us) ≡ Some (interface_at b h)

  first_or_later : (b : ℕ) (h : IsBase all b) (v : things.Thing) (us : List things.Thing) (j : ℕ) → DeclaredAt j v → (u : things.Thing) → bytes_eq (ids.id_of table b) (id_of u) ≡ true
      → ((k : ℕ) → slice_get us k ≡ Some u → FoundIn b h us) → (c : Bool) → has_id (ids.id_of table b) v ≡ c → (k : ℕ) → slice_get (v ∷ us) k ≡ Some u → FoundIn b h (v ∷ us)
  first_or_later b h v us j d u is later true p k e =
      ap (λ (c : Bool). option_and_then as_interface (if c then Some v else find (has_id (ids.id_of table b)) us)) p
      ∙ interface_there j b v d h (same_place j b v d (slice_get_within all b _ h.there) p)
  first_or_later b h v us j d u is later false p zero e =
      absurd (both_ways (has_id (ids.id_of table b) v) p (ap (λ (w : things.Thing). has_id (ids.id_of table b) w) (same_Some v u e) ∙ is))
  first_or_later b h v us j d u is later false p (suc k) e =
      ap (λ (c : Bool). option_and_then as_interface (if c then Some v else find (has_id (ids.id_of table b)) us)) p ∙ later k e

  found : (b : ℕ) (h : IsBase all b) (us : List things.Thing) → ((k : ℕ) (u : things.Thing) → slice_get us k ≡ Some u → (j : ℕ) × DeclaredAt j u)
      → (k : ℕ) (u : things.Thing) → slice_get us k ≡ Some u → bytes_eq (ids.id_of table b) (id_of u) ≡ true → FoundIn b h us
  found b h [] from k u e is = absurd (none-some u e)
  found b h (v ∷ us) from k u e is =
      let d = from 0 v refl in
      first_or_later b h v us d.0 d.1 u is (λ n f. found b h us (λ i w g. from (suc i) w g) n u f is) (has_id (ids.id_of table b) v) refl k e

  -- the interface that is at the place of a base
  pub base_named : (i b : ℕ) (us : List things.Thing) → AreFrom i us → b < i → (h : IsBase all b) → interface_named us (ids.id_of table b) ≡ Some (interface_at b h)
  base_named i b us f less h =
      let u = things.interface (interface_at b h) in
      let p = f.all_there b u less (record { x = interface h.bases h.operations; there = h.there; is = refl }) in
      found b h us (λ k v e. let q = f.from k v e in (q.0, q.2)) p.0 u p.1 ((bytes_eq-Decides (ids.id_of table b) (ids.id_of table b)).1 refl)

  is_base : (i b : ℕ) (us : List things.Thing) → AreFrom i us → b < i → IsBase all b → is_interface us (ids.id_of table b) ≡ true
  is_base i b us f less h = ap (λ (o : Option InterfaceView). is_some o) (base_named i b us f less h)

  are_bases : (i : ℕ) (us : List things.Thing) → AreFrom i us → (bs : List ℕ) → AreBases all bs → AreEarlier bs i → list_all (is_interface us) (ids_at table bs) ≡ true
  are_bases i us f [] h e = refl
  are_bases i us f (b ∷ bs) h e =
      and_from (is_interface us (ids.id_of table b)) (list_all (is_interface us) (ids_at table bs)) (is_base i b us f e.0 h.0) (are_bases i us f bs h.1 e.1)

  -- what a name declares
  has_bases : (i : ℕ) (us : List things.Thing) → AreFrom i us → (x : Thing) → slice_get all i ≡ Some x → (t : things.Thing) → declared_at table all i x ≡ Some t → has_bases_in us t ≡ true
  has_bases i us f nothing there t e = absurd (none-some t e)
  has_bases i us f (interface bases os) there t e =
      let b = based i bases os there in
      ap (has_bases_in us) (sym (same_Some _ t e)) ∙ are_bases i us f bases b.0 b.1
  has_bases i us f (type k) there t e = ap (has_bases_in us) (sym (same_Some _ t e))
  has_bases i us f (exception ms) there t e = ap (has_bases_in us) (sym (same_Some _ t e))
  has_bases i us f (constant k v) there t e = ap (has_bases_in us) (sym (same_Some _ t e))
  has_bases i us f (enumerator enum n) there t e = absurd (none-some t e)
  has_bases i us f (operations os n) there t e = absurd (none-some t e)

  -- where a name declares nothing, the same things are declared before the next one
  none_more : (i : ℕ) (us : List things.Thing) (x : Thing) → slice_get all i ≡ Some x → declared_at table all i x ≡ None → AreFrom i us → AreFrom (i + 1) us
  none_more i us x there none f = record {
    from = λ k u e. let q = f.from k u e in let less : q.0 < i = q.1 in (q.0, omega arith, q.2);
    all_there = λ j u less d. elim (cases_eq j i) [
      | inl p ↦
          let here : slice_get all i ≡ Some d.x = subst (λ (k : ℕ). slice_get all k ≡ Some d.x) p d.there in
          let same : d.x ≡ x = same_Some d.x x (sym here ∙ there) in
          let is : declared_at table all i x ≡ Some u = subst (λ (y : Thing). declared_at table all i y ≡ Some u) same (subst (λ (k : ℕ). declared_at table all k d.x ≡ Some u) p d.is) in
          absurd (none-some u (sym none ∙ is))
      | inr p ↦ f.all_there j u (omega arith) d
    ];
  }

  -- where it declares a thing, this one too
  one_more : (i : ℕ) (us : List things.Thing) (x : Thing) (t : things.Thing) → slice_get all i ≡ Some x → declared_at table all i x ≡ Some t → AreFrom i us → AreFrom (i + 1) (us ++ t ∷ [])
  one_more i us x t there some f = record {
    from = λ k u e. elim (get_behind us t u k e) [
      | inl p ↦ let q = f.from k u p in let less : q.0 < i = q.1 in (q.0, omega arith, q.2)
      | inr p ↦ (i, omega arith, subst (DeclaredAt i) p.1 (record { x = x; there = there; is = some }))
    ];
    all_there = λ j u less d. elim (cases_eq j i) [
      | inl p ↦
          let here : slice_get all i ≡ Some d.x = subst (λ (k : ℕ). slice_get all k ≡ Some d.x) p d.there in
          let same : d.x ≡ x = same_Some d.x x (sym here ∙ there) in
          let is : declared_at table all i x ≡ Some u = subst (λ (y : Thing). declared_at table all i y ≡ Some u) same (subst (λ (k : ℕ). declared_at table all k d.x ≡ Some u) p d.is) in
          (length us, get_last us t ∙ sym some ∙ is)
      | inr p ↦ let q = f.all_there j u (omega arith) d in (q.0, get_before us t u q.0 q.1)
    ];
  }

  none_before : AreFrom 0 []
  none_before = record { from = λ k u e. absurd (none-some u e); all_there = λ j u less d. absurd (omega arith) }

  module _ (P : List things.Thing → things.Thing → Type 0)
      (so : (i : ℕ) (us : List things.Thing) → AreFrom i us → (x : Thing) → slice_get all i ≡ Some x → (t : things.Thing) → declared_at table all i x ≡ Some t → P us t) where
    each_listed : (i : ℕ) (x : Thing) (rest : List Thing) → slice_get all i ≡ Some x → (t : Option things.Thing) → declared_at table all i x ≡ t
        → ((us : List things.Thing) → AreFrom (i + 1) us → Each P us (declared_from table all (i + 1) rest))
        → (us : List things.Thing) → AreFrom i us → Each P us (listed t ++ declared_from table all (i + 1) rest)
    each_listed i x rest there None e next us f = next us (none_more i us x there e f)
    each_listed i x rest there (Some t) e next us f = (so i us f x there t e, next (us ++ t ∷ []) (one_more i us x t there e f))

    each_so : (i : ℕ) (rest : List Thing) → ((k : ℕ) → slice_get rest k ≡ slice_get all (i + k)) → (us : List things.Thing) → AreFrom i us → Each P us (declared_from table all i rest)
    each_so i [] h us f = tt
    each_so i (x ∷ rest) h us f =
        each_listed i x rest (ap (λ (k : ℕ). slice_get all k) (omega arith) ∙ sym (h 0)) (declared_at table all i x) refl
        (λ vs g. each_so (i + 1) rest (λ k. h (suc k) ∙ ap (λ (n : ℕ). slice_get all n) (omega arith)) vs g) us f

    -- what is so of each thing with those before it is so of all
    pub each_from : Each P [] (declared_from table all 0 all)
    each_from = each_so 0 all (λ k. ap (λ (n : ℕ). slice_get all n) (omega arith)) [] none_before

  pub all_based : Each HasEarlierBases [] (declared_from table all 0 all)
  all_based = each_from HasEarlierBases has_bases

pub texts_give_earlier_bases : TextsGive HasEarlierBases
texts_give_earlier_bases text ts w =
    let n = w.new in
    let o = orderly_text text n w.names in
    subst (Each HasEarlierBases []) (sym w.told) (all_based n.scopes (in_order n.scopes o.names) n.things (based_text text n w.names) o.paired)
