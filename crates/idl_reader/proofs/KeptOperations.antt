-- At each spot of a text the operations of each interface stand for one name each, and the inherited ones are first.
use Rattle.std.proofs.Common.{◌≡◌, ◌⊎◌, inl, inr, ℕ, zero, suc, ◌+◌, ◌-◌, ◌<◌, ◌≤◌, arith, Bool, true, false, not, ◌||◌, List, [], ◌∷◌, ◌++◌, length, length-append, map, set, Option, Some, None, Ok, refl, sym, ap, subst, ◌∙◌}
use Rattle.std.specs.Prelude.{◌==◌, nat_lt, slice_get}
use Rattle.std.specs.List.{list_any}
use Rattle.std.specs.Option.{option_map}
use Rattle.std.specs.Str.{bytes_eq}
use Rattle.std.proofs.lemmas.Bool.{and_from, both_ways, or_left, or_right, or_parts, eq-eqb, cases_eq, cond-false, ne_eqb, not-false}
use Rattle.std.proofs.lemmas.List.{length-map, length-set, set_comm}
use Rattle.std.proofs.lemmas.Option.{none-some, same_Some, cond_some, slice_get-map, slice_get_within}
use Rattle.std.proofs.lemmas.Slice.Eq.{bytes_eq-Decides}
use Rattle.grammar.specs.Language.{Placed}
use Rattle.grammar.specs.Reading.{◌>>=◌}
use Rattle.grammar.proofs.Basics.{bind_ok, ok_is}
use Rattle.cdr_values.specs.Trees.{scalar, structure, union, enumeration, members_of, cases_of}
use Rattle.idl_tokens.specs.declared.kind.Kind.{Kind}
use Rattle.idl_grammar.specs.declared.fault.IdlCause.TheVariants as cause
use Rattle.idl_grammar.specs.declared.label.IdlLabel.{IdlLabel}
use Rattle.idl_grammar.specs.declared.label.IdlLabel.TheVariants as l
use Rattle.idl_scopes.specs.declared.place.Place.{Place}
use Rattle.idl_scopes.specs.Table as table
use Rattle.idl_scopes.specs.Table.{Sort, unfinished, module_, operation, Declared, Table}
use Rattle.idl_scopes.specs.Finding.{lowered, scope_in, name_in, sort_at, scope_at, is_finished, is_module, is_operation, inherited, is_at, own, above, outer, scopes_of, if_module, module_in}
use Rattle.idl_scopes.specs.Taking.{is_in, is_owner, is_operation_there, is_operation_in, is_taken_part, is_taken}
use Rattle.idl_scopes.specs.Declaring.{added, finished}
use Rattle.idl_scopes.proofs.NotTaken.{absent_here}
use Rattle.idl_types.specs.Names.{operation_names}
use Rattle.idl_types.specs.Things.{OperationView}
use Rattle.idl_constants.specs.Fitting.{fit}
use Rattle.idl_names.specs.Sizes.{Sized, plus, leaf}
use Rattle.idl_names.specs.State.{Thing, nothing, interface, type, exception, constant, enumerator, operations, Built, nothing_built}
use Rattle.idl_names.specs.Changes.{Done, place_of, unless, newest, opened, thing_in, thing_at, place_at, name_at, with_name, declare_in, declare, entered, enter, open_body, leave, ended, ends, counted, measured}
use Rattle.idl_names.specs.ScopedNames as names
use Rattle.idl_names.specs.Values as values
use Rattle.idl_names.specs.Bodies as bodies
use Rattle.idl_names.specs.Interfaces as interfaces
use Rattle.idl_names.specs.Interfaces.{is_interface, and_operation}
use Rattle.idl_names.specs.Labels.{act, judge}
use Rattle.idl_names.specs.Whole.{Declares}
use Rattle.idl_reader.proofs.ApartBodies.{Body, NamesAt, names_at, names_alone}
use Rattle.idl_reader.proofs.DeclaredNames.{declared_is, known_scope, scope_by_known, outer_added, outer_finished}
use Rattle.idl_reader.proofs.EarlierBases.{IsBase, AreBased}
use Rattle.idl_reader.proofs.FirstNames.{IsAmong, AreRead, first_known, placed}
use Rattle.idl_reader.proofs.HeldOperations.{AreNamesOf, IsHeld, AreHeld, IsScopeOf, AreScopes, IsInterface, AreInterfaces, IsModuleAt, is_container, IsClear, IsOpenAt, AreMerged, none_merged, module_kept, keeps_added, keeps_set, no_interface, sort_old, sort_new, scope_new, sort_there, sort_elsewhere, among_scope, interfaces_added, interfaces_set, interfaces_opened, interfaces_gained}
use Rattle.idl_reader.proofs.HeldSpots.{HeldSpot, holds_at, holds_alone, held_text}
use Rattle.idl_reader.proofs.KeptLabels.{declares}
use Rattle.idl_reader.proofs.KeptNames.{IsOrderly, unless_ok, finished_length}
use Rattle.idl_reader.proofs.MergedBases.{base_merged}
use Rattle.idl_reader.proofs.NameTokens.{begins_low, IsNameText}
use Rattle.idl_reader.proofs.Places.{Spot, outside, heading, based, named, inside, part, goes, goes_alone}
use Rattle.idl_reader.proofs.QuietLabels.{Same, itself, leaves_then, leaves_unless, leaves_counted, leaves_measured, leaves_fitting, quiet_act, quiet_judge}
use Rattle.idl_reader.proofs.Shapes.{gained, newest_same, opened_same}
use Rattle.idl_reader.proofs.Standing.{Stands, IsFresh, IsOpened, stands_same, stands_at, stands_alone, nothing_orderly, newest_there}
use Rattle.idl_reader.proofs.Steps.{Gives, gives_ok, gives_then}
use Rattle.idl_reader.proofs.Tables.{known, known_in, key_of, AreInOrder, in_order, any_there, get_behind, same_known, known_added}
use Rattle.idl_reader.proofs.ThingLists.{get_before, get_last, set_elsewhere, set_there, get_set}

-- the open scope is a module's or the file's, or that of an interface
abbrev InScope : Bool → Table → List Thing → ℕ → Type 0
InScope false t ts scope = IsModuleAt t scope
InScope true t ts scope = IsOpenAt ts scope

abbrev AllUnread : Table → List ℕ → Type 0
AllUnread t [] = Unit {0}
AllUnread t (k ∷ ks) = (is_finished (sort_at t k) ≡ false) × AllUnread t ks

-- the ends of these declarations haven't been read, and those of all others have
record AreUnread (t : Table) (ks : List ℕ) : Type 0 where
  rest : (k : ℕ) → k < length t.declared → (is_finished (sort_at t k) ≡ true) ⊎ IsAmong k ks
  all : AllUnread t ks

-- the place of the newest declaration
abbrev last_of : Table → ℕ
last_of t = length t.declared - 1

abbrev ScopesAt : Spot → Bool → Table → ℕ → List Thing → List ℕ → List ℕ → Type 0
ScopesAt outside b t here ts bases given = InScope b t ts here × AreUnread t []
ScopesAt heading b t here ts bases given = (InScope b t ts here × AreUnread t (last_of t ∷ [])) × ((scope_at t (last_of t) ≡ here) × AreMerged t ts (last_of t) bases given)
ScopesAt based b t here ts bases given = (InScope b t ts here × AreUnread t (last_of t ∷ [])) × ((scope_at t (last_of t) ≡ here) × AreMerged t ts (last_of t) bases given)
ScopesAt named b t here ts bases given = InScope b t ts here × AreUnread t (last_of t ∷ [])
ScopesAt inside b t here ts bases given = InScope b t ts (outer t here) × AreUnread t ((here - 1) ∷ [])
ScopesAt part b t here ts bases given = InScope b t ts (outer t here) × AreUnread t (last_of t ∷ (here - 1) ∷ [])

record HeldAt (m : Spot) (b : Bool) (t : Table) (here : ℕ) (ts : List Thing) (bases given : List ℕ) : Type 0 where
  interfaces : AreInterfaces t ts
  scopes : ScopesAt m b t here ts bases given

abbrev Held : Spot → Bool → Built → Type 0
Held m b s = HeldAt m b s.scopes s.here s.things s.parts.bases s.parts.given

held_same : (m : Spot) (b : Bool) (s c : Built) → Same s c → Held m b s → Held m b c
held_same m b s c k h =
    subst (λ (bs : List ℕ). HeldAt m b c.scopes c.here c.things bs c.parts.given) k.bases
    (subst (λ (gs : List ℕ). HeldAt m b c.scopes c.here c.things s.parts.bases gs) (ap (λ (y : Body). y.4) k.body)
    (subst (λ (ts : List Thing). HeldAt m b c.scopes c.here ts s.parts.bases s.parts.given) k.things
    (subst (λ (n : ℕ). HeldAt m b c.scopes n s.things s.parts.bases s.parts.given) k.here
    (subst (λ (t : Table). HeldAt m b t s.here s.things s.parts.bases s.parts.given) k.scopes h))))

-- steps of the tables
all_unread_added : (scope : ℕ) (name : List ℕ) (place : Place) (sort : Sort) (t : Table) (ks : List ℕ) → ((k : ℕ) → IsAmong k ks → k < length t.declared) → AllUnread t ks → AllUnread (added scope name place sort t) ks
all_unread_added scope name place sort t [] less h = tt
all_unread_added scope name place sort t (k ∷ ks) less h = (ap is_finished (sort_old scope name place sort t k (less k (inl refl))) ∙ h.0, all_unread_added scope name place sort t ks (λ j m. less j (inr m)) h.1)

added_length : (scope : ℕ) (name : List ℕ) (place : Place) (sort : Sort) (t : Table) → length (added scope name place sort t).declared ≡ length t.declared + 1
added_length scope name place sort t = length-append t.declared (record { scope = scope; name = name; place = place; sort = sort } ∷ [])

-- a declaration more whose end is read, and one whose end isn't
unread_read : (scope : ℕ) (name : List ℕ) (place : Place) (sort : Sort) (t : Table) (ks : List ℕ) → is_finished sort ≡ true → ((k : ℕ) → IsAmong k ks → k < length t.declared) → AreUnread t ks → AreUnread (added scope name place sort t) ks
unread_read scope name place sort t ks fin less h = record {
  rest = λ k m. elim (cases_eq k (length t.declared)) [
    | inl p ↦ inl (ap (λ (j : ℕ). is_finished (sort_at (added scope name place sort t) j)) p ∙ ap is_finished (sort_new scope name place sort t) ∙ fin)
    | inr p ↦
        let n = added_length scope name place sort t in
        let l : k < length t.declared = omega arith in
        elim (h.rest k l) [ inl q ↦ inl (ap is_finished (sort_old scope name place sort t k l) ∙ q) | inr q ↦ inr q ]
  ];
  all = all_unread_added scope name place sort t ks less h.all;
}

unread_more : (scope : ℕ) (name : List ℕ) (place : Place) (t : Table) (ks : List ℕ) → ((k : ℕ) → IsAmong k ks → k < length t.declared) → AreUnread t ks → AreUnread (added scope name place unfinished t) (last_of (added scope name place unfinished t) ∷ ks)
unread_more scope name place t ks less h =
    let n = added_length scope name place unfinished t in
    let last : length t.declared ≡ last_of (added scope name place unfinished t) = omega arith in
    subst (λ (i : ℕ). AreUnread (added scope name place unfinished t) (i ∷ ks)) last (record {
      rest = λ k m. elim (cases_eq k (length t.declared)) [
        | inl p ↦ inr (inl p)
        | inr p ↦
            let l : k < length t.declared = omega arith in
            elim (h.rest k l) [ inl q ↦ inl (ap is_finished (sort_old scope name place unfinished t k l) ∙ q) | inr q ↦ inr (inr q) ]
      ];
      all = (ap is_finished (sort_new scope name place unfinished t), all_unread_added scope name place unfinished t ks less h.all);
    })

set_length : (t : Table) (i : ℕ) (sort : Sort) → length (finished t i sort).declared ≡ length t.declared
set_length t i sort = finished_length t.declared i sort (slice_get t.declared i)

all_unread_set : (t : Table) (i : ℕ) (sort : Sort) (ks : List ℕ) → (IsAmong i ks → ⊥) → AllUnread t ks → AllUnread (finished t i sort) ks
all_unread_set t i sort [] n h = tt
all_unread_set t i sort (k ∷ ks) n h = (ap is_finished (sort_elsewhere t i k sort (λ e. n (inl e))) ∙ h.0, all_unread_set t i sort ks (λ m. n (inr m)) h.1)

-- the end of a declaration
unread_set : (t : Table) (i : ℕ) (sort : Sort) (ks : List ℕ) → is_finished sort ≡ true → (IsAmong i ks → ⊥) → AreUnread t (i ∷ ks) → AreUnread (finished t i sort) ks
unread_set t i sort ks fin n h = record {
  rest = λ k m.
      let l : k < length t.declared = let e = set_length t i sort in omega arith in
      elim (cases_eq i k) [
        | inl p ↦ inl (ap (λ (j : ℕ). is_finished (sort_at (finished t i sort) j)) (sym p) ∙ ap is_finished (sort_there t i sort (subst (λ (j : ℕ). j < length t.declared) (sym p) l)) ∙ fin)
        | inr p ↦ elim (h.rest k l) [
          | inl q ↦ inl (ap is_finished (sort_elsewhere t i k sort p) ∙ q)
          | inr q ↦ elim q [ inl e ↦ absurd (p (sym e)) | inr r ↦ inr r ]
        ]
      ];
  all = all_unread_set t i sort ks n h.all.1;
}

-- the open scope goes on to be open
scope_added : (b : Bool) (scope : ℕ) (name : List ℕ) (place : Place) (sort : Sort) (t : Table) (ts : List Thing) (x : Thing) (here : ℕ) → is_interface x ≡ false → InScope b t ts here → InScope b (added scope name place sort t) (ts ++ x ∷ []) here
scope_added false scope name place sort t ts x here plain h = module_kept t ts (added scope name place sort t) (ts ++ x ∷ []) (keeps_added scope name place sort t ts x) here h
scope_added true scope name place sort t ts x here plain h = record {
  at = h.at;
  is = h.is;
  bases = h.bases;
  os = h.os;
  there = get_before ts x (interface h.bases h.os) h.at h.there;
  last = λ i bs ks e. elim (get_behind ts x (interface bs ks) i e) [ inl q ↦ h.last i bs ks q | inr q ↦ absurd (no_interface x bs ks plain q.1) ];
}

scope_set : (b : Bool) (t : Table) (ts : List Thing) (i : ℕ) (sort : Sort) (x : Thing) (here : ℕ) → slice_get ts i ≡ Some nothing → is_finished (sort_at t i) ≡ false → is_interface x ≡ false → InScope b t ts here → InScope b (finished t i sort) (set ts i x) here
scope_set false t ts i sort x here there un plain h = module_kept t ts (finished t i sort) (set ts i x) (keeps_set t ts i sort x there un) here h
scope_set true t ts i sort x here there un plain h = record {
  at = h.at;
  is = h.is;
  bases = h.bases;
  os = h.os;
  there = set_elsewhere ts i h.at x (λ p. no_interface nothing h.bases h.os refl (same_Some nothing _ (sym there ∙ ap (λ (j : ℕ). slice_get ts j) p ∙ h.there))) ∙ h.there;
  last = λ j bs ks e. elim (get_set ts i j x (interface bs ks) e) [ inl q ↦ absurd (no_interface x bs ks plain q.1) | inr q ↦ h.last j bs ks q.1 ];
}

-- a scope among those of an interface is that of an interface, which isn't after it
record InsideOf (ts : List Thing) (i scope : ℕ) : Type 0 where
  at : ℕ
  is : scope ≡ at + 1
  base : IsBase ts at
  most : at ≤ i

in_interface : (t : Table) (ts : List Thing) (i : ℕ) (bs os : List ℕ) (scope : ℕ) → slice_get ts i ≡ Some (interface bs os) → (d : IsInterface t ts i bs os) → IsAmong scope ((i + 1) ∷ d.scopes) → InsideOf ts i scope
in_interface t ts i bs os scope e d m = elim m [
  | inl q ↦ record { at = i; is = q; base = record { bases = bs; operations = os; there = e }; most = omega arith }
  | inr q ↦ let r = among_scope ts i d.scopes d.within scope q in record { at = r.at; is = r.is; base = r.base; most = (let less = r.less in omega arith) }
]

no_module : (t : Table) (ts : List Thing) (at scope : ℕ) → AreInterfaces t ts → IsBase ts at → scope ≡ at + 1 → IsModuleAt t scope → ⊥
no_module t ts at scope h b e m = elim m [
  | inl z ↦ omega arith
  | inr s ↦
      let d = h.each at b.bases b.operations b.there in
      let back : scope - 1 ≡ at = omega arith in
      no_sort d.scopes (sym d.sort ∙ ap (λ (j : ℕ). sort_at t j) (sym back) ∙ s)
]
  where
    no_sort : (ss : List ℕ) → table.interface ss ≡ module_ → ⊥
    no_sort ss e = absurd cc

itself_at : (scope : ℕ) (name : List ℕ) → is_at scope name (scope, name) ≡ true
itself_at scope name = and_from (scope == scope) (bytes_eq name name) (eq-eqb scope scope refl) ((bytes_eq-Decides name name).1 refl)

among_passes : (test : ℕ → Bool) (xs : List ℕ) (x : ℕ) → IsAmong x xs → test x ≡ true → list_any test xs ≡ true
among_passes test [] x m h = absurd m
among_passes test (y ∷ xs) x m h = elim m [ inl e ↦ or_left (test y) (list_any test xs) (ap test (sym e) ∙ h) | inr r ↦ or_right (test y) (list_any test xs) (among_passes test xs x r h) ]

-- a name that is free in the open scope is none of an operation there
clear_free : (b : Bool) (t : Table) (ts : List Thing) (scope : ℕ) (name : List ℕ) → AreInOrder (known_in t.declared) → t.keys ≡ map key_of (known_in t.declared) → is_taken t name scope ≡ false → AreInterfaces t ts → InScope b t ts scope
    → IsClear t ts scope name
clear_free false t ts scope name o keyed free h s i bs os e d n p f op m same =
    let r = in_interface t ts i bs os scope e d m in no_module t ts r.at scope h r.base r.is s
clear_free true t ts scope name o keyed free h s i bs os e d n p f op m same =
    let r = in_interface t ts i bs os scope e d m in
    let most = s.last i bs os e in
    let a = s.is in
    let b = r.is in
    let c = r.most in
    let back : scope - 1 ≡ i = omega arith in
    let at : scope ≡ i + 1 = omega arith in
    let q = first_known (known_in t.declared) ((i + 1) ∷ d.scopes) n p f in
    let there : slice_get (known_in t.declared) p ≡ Some (q.0, name) = q.1 ∙ ap (λ (z : List ℕ). Some (q.0, z)) (sym same) in
    let found = placed t o keyed p q.0 name there in
    let parts = or_parts (is_taken_part t name scope) (is_owner t name scope || list_any (is_operation_in t name) (above t scope)) free in
    let more = or_parts (is_owner t name scope) (list_any (is_operation_in t name) (above t scope)) parts.1 in
    elim q.2 [
      | inl here ↦
          let key : slice_get t.keys p ≡ Some (scope, lowered name)
          = ap (λ (ks : List (ℕ × List ℕ)). slice_get ks p) keyed ∙ slice_get-map key_of (known_in t.declared) p ∙ ap (λ (x : Option (ℕ × List ℕ)). option_map key_of x) there
          ∙ ap (λ (z : ℕ). Some (z, lowered name)) (here ∙ sym at) in
          both_ways (is_in t name scope) (absent_here t name scope free) (any_there (is_at scope (lowered name)) t.keys p (scope, lowered name) key (itself_at scope (lowered name)))
      | inr held ↦
          let over : above t scope ≡ d.scopes
          = cond-false (scope == 0) [] (inherited (sort_at t (scope - 1))) (ne_eqb scope 0 (λ z. omega arith)) ∙ ap (λ (j : ℕ). inherited (sort_at t j)) back ∙ ap (λ (z : Sort). inherited z) d.sort in
          let one : is_operation_in t name q.0 ≡ true = ap (is_operation_there t) found ∙ ap is_operation op in
          both_ways (list_any (is_operation_in t name) (above t scope)) more.1 (ap (λ (zs : List ℕ). list_any (is_operation_in t name) zs) over ∙ among_passes (is_operation_in t name) d.scopes q.0 held one)
    ]

-- a name in a body that is open is in no interface
clear_inside : (t : Table) (ts : List Thing) (scope : ℕ) (name : List ℕ) → 0 < scope → slice_get ts (scope - 1) ≡ Some nothing → IsClear t ts scope name
clear_inside t ts scope name some there i bs os e d n p f op m same =
    let r = in_interface t ts i bs os scope e d m in
    let a = r.is in
    let back : scope - 1 ≡ r.at = omega arith in
    no_interface nothing r.base.bases r.base.operations refl (same_Some nothing _ (sym there ∙ ap (λ (j : ℕ). slice_get ts j) back ∙ r.base.there))

-- a declaration ends that stood for nothing, and the open scope stays open
record Finishes (i : ℕ) (s c : Built) : Type 0 where
  thing : Thing
  plain : is_interface thing ≡ false
  scopes : c.scopes ≡ finished s.scopes i table.other
  things : c.things ≡ set s.things i thing
  here : c.here ≡ s.here

finish_named : (thing : Thing) (s x c : Built) → is_interface thing ≡ false → Same s x → c.scopes ≡ finished x.scopes (newest x) table.other → c.things ≡ set x.things (newest x) thing → c.here ≡ x.here → Finishes (newest s) s c
finish_named thing s x c plain h a b d = record {
  thing = thing;
  plain = plain;
  scopes = a ∙ ap (λ (u : Table). finished u (last_of u) table.other) (sym h.scopes);
  things = b ∙ ap (λ (ts : List Thing). set ts (newest x) thing) (sym h.things) ∙ ap (λ (i : ℕ). set s.things i thing) (newest_same s x h);
  here = d ∙ sym h.here;
}

counted_after : (s : Built) (n : ℕ) (p : Place) (r : Done) → Gives (Same s) r → Gives (Same s) (r >>= counted n p)
counted_after s n p r h = leaves_then s r (counted n p) h (λ x k. leaves_counted s n p x k)

name_measured : (s : Built) → Gives (Same s) (bodies.measured_name s)
name_measured s = leaves_measured s (bodies.declared_type s) (place_at s (newest s)) s (itself s)

typedef_finishes : (s : Built) → Gives (Finishes (newest s) s) (bodies.typedef s)
typedef_finishes s =
    let k = bodies.declared_type s in
    let p = place_at s (newest s) in
    gives_then (Same s) (Finishes (newest s) s) (bodies.measured_name s >>= counted k.leaves p) (bodies.type_named k) (counted_after s k.leaves p (bodies.measured_name s) (name_measured s))
    (λ x h. gives_ok (Finishes (newest s) s) (bodies.named (type k) x) (finish_named (type k) s x (bodies.named (type k) x) refl h refl refl refl))

member_finishes : (s : Built) → Gives (Finishes (newest s) s) (bodies.member s)
member_finishes s =
    gives_then (Same s) (Finishes (newest s) s) (bodies.measured_name s) bodies.member_named (name_measured s)
    (λ x h. gives_ok (Finishes (newest s) s) _ (finish_named nothing s x _ refl h refl refl refl))

case_finishes : (s : Built) → Gives (Finishes (newest s) s) (bodies.case_member s)
case_finishes s =
    gives_then (Same s) (Finishes (newest s) s) (bodies.measured_name s) bodies.case_named (name_measured s)
    (λ x h. gives_ok (Finishes (newest s) s) _ (finish_named nothing s x _ refl h refl refl refl))

const_finishes : (s : Built) → Gives (Finishes (newest s) s) (values.end_const s)
const_finishes s =
    let p = place_at s (newest s) in
    gives_then (Same s) (Finishes (newest s) s) (values.fitting (fit s.type.kind s.value.value) s >>= counted 1 p) values.constant_named
    (counted_after s 1 p (values.fitting (fit s.type.kind s.value.value) s) (leaves_fitting s (fit s.type.kind s.value.value) s (itself s)))
    (λ x h. gives_ok (Finishes (newest s) s) _ (finish_named (constant x.type.kind x.value.value) s x _ refl h refl refl refl))

-- the open declaration ends, and with it its body
record Closes (s c : Built) : Type 0 where
  thing : Thing
  plain : is_interface thing ≡ false
  scopes : c.scopes ≡ finished s.scopes (opened s) table.other
  things : c.things ≡ set s.things (opened s) thing
  here : c.here ≡ outer s.scopes s.here

close_ended : (thing : Thing) (s x : Built) → is_interface thing ≡ false → Same s x → Closes s (ended table.other thing x)
close_ended thing s x plain h = record {
  thing = thing;
  plain = plain;
  scopes = ap (λ (n : ℕ). finished x.scopes n table.other) (opened_same s x h) ∙ ap (λ (u : Table). finished u (opened s) table.other) (sym h.scopes);
  things = ap (λ (n : ℕ). set x.things n thing) (opened_same s x h) ∙ ap (λ (ts : List Thing). set ts (opened s) thing) (sym h.things);
  here = outer_finished x.scopes (opened x) table.other x.here ∙ ap (λ (n : ℕ). outer x.scopes n) (sym h.here) ∙ ap (λ (u : Table). outer u s.here) (sym h.scopes);
}

type_closes : (k : Sized) (s : Built) → Gives (Closes s) (bodies.ends_type k s)
type_closes k s =
    let p = place_at s (opened s) in
    gives_then (Same s) (Closes s) (measured k p s >>= counted k.leaves p) (ends table.other (type k)) (counted_after s k.leaves p (measured k p s) (leaves_measured s k p s (itself s)))
    (λ x h. gives_ok (Closes s) (ended table.other (type k) x) (close_ended (type k) s x refl h))

exception_closes : (s : Built) → Gives (Closes s) (bodies.end_exception s)
exception_closes s =
    let p = place_at s (opened s) in
    let first = unless (nat_lt 65536 s.parts.leaves) cause.TooLarge p s in
    gives_then (Same s) (Closes s) (first >>= counted s.parts.leaves p) (ends table.other (exception s.parts.members))
    (counted_after s s.parts.leaves p first (leaves_unless s (nat_lt 65536 s.parts.leaves) cause.TooLarge p s (itself s)))
    (λ x h. gives_ok (Closes s) (ended table.other (exception s.parts.members) x) (close_ended (exception s.parts.members) s x refl h))

-- what is known at a spot: the scopes in order, and the operations of interfaces
newest_within : (s : Built) → IsOrderly s → IsFresh s → newest s < length s.scopes.declared
newest_within s o f = let p = o.paired in let q = f.some in omega arith

opened_within : (s : Built) → IsOrderly s → IsOpened s → opened s < length s.scopes.declared
opened_within s o f = let p = o.paired in let q = slice_get_within s.things (opened s) nothing f.there in omega arith

named_finished : (b : Bool) (s c : Built) → Stands named s → Held named b s → Finishes (newest s) s c → Held outside b c
named_finished b s c w h f =
    let there = newest_there s w.0 w.1 in
    let less = newest_within s w.0 w.1 in
    let un = h.scopes.1.all.0 in
    let i = newest s in
    subst (λ (t : Table). HeldAt outside b t c.here c.things c.parts.bases c.parts.given) (sym f.scopes)
    (subst (λ (n : ℕ). HeldAt outside b (finished s.scopes i table.other) n c.things c.parts.bases c.parts.given) (sym f.here)
    (subst (λ (ts : List Thing). HeldAt outside b (finished s.scopes i table.other) s.here ts c.parts.bases c.parts.given) (sym f.things) (record {
      interfaces = interfaces_set s.scopes s.things i table.other f.thing there un less f.plain refl h.interfaces;
      scopes = (scope_set b s.scopes s.things i table.other f.thing s.here there un f.plain h.scopes.0, unread_set s.scopes i table.other [] refl (λ m. m) h.scopes.1);
    })))

part_finished : (b : Bool) (s c : Built) → Stands part s → Held part b s → Finishes (newest s) s c → Held inside b c
part_finished b s c w h f =
    let there = newest_there s w.0.0 w.1.0 in
    let less = newest_within s w.0.0 w.1.0 in
    let un = h.scopes.1.all.0 in
    let i = newest s in
    let below = w.1.1 in
    let some = w.0.1.some in
    let paired = w.0.0.paired in
    let u = finished s.scopes i table.other in
    subst (λ (t : Table). HeldAt inside b t c.here c.things c.parts.bases c.parts.given) (sym f.scopes)
    (subst (λ (n : ℕ). HeldAt inside b u n c.things c.parts.bases c.parts.given) (sym f.here)
    (subst (λ (ts : List Thing). HeldAt inside b u s.here ts c.parts.bases c.parts.given) (sym f.things) (record {
      interfaces = interfaces_set s.scopes s.things i table.other f.thing there un less f.plain refl h.interfaces;
      scopes = (
        subst (λ (n : ℕ). InScope b u (set s.things i f.thing) n) (sym (outer_finished s.scopes i table.other s.here)) (scope_set b s.scopes s.things i table.other f.thing (outer s.scopes s.here) there un f.plain h.scopes.0),
        unread_set s.scopes i table.other (opened s ∷ []) refl (λ m. elim m [ inl e ↦ absurd (omega arith) | inr r ↦ r ]) h.scopes.1,
      );
    })))

closed : (b : Bool) (s c : Built) → Stands inside s → Held inside b s → Closes s c → Held outside b c
closed b s c w h f =
    let there = w.1.there in
    let less = opened_within s w.0 w.1 in
    let un = h.scopes.1.all.0 in
    let i = opened s in
    let u = finished s.scopes i table.other in
    subst (λ (t : Table). HeldAt outside b t c.here c.things c.parts.bases c.parts.given) (sym f.scopes)
    (subst (λ (n : ℕ). HeldAt outside b u n c.things c.parts.bases c.parts.given) (sym f.here)
    (subst (λ (ts : List Thing). HeldAt outside b u (outer s.scopes s.here) ts c.parts.bases c.parts.given) (sym f.things) (record {
      interfaces = interfaces_set s.scopes s.things i table.other f.thing there un less f.plain refl h.interfaces;
      scopes = (scope_set b s.scopes s.things i table.other f.thing (outer s.scopes s.here) there un f.plain h.scopes.0, unread_set s.scopes i table.other [] refl (λ m. m) h.scopes.1);
    })))

-- a name is declared in the open scope
none_unread : (n k : ℕ) → IsAmong k [] → k < n
none_unread n k m = absurd m

declared_named : (b : Bool) (t : Placed Kind) (s c : Built) → Stands outside s → Held outside b s → declare t s ≡ Ok c → Held named b c
declared_named b t s c w h e =
    let q = declared_is s.here unfinished nothing t s c e in
    let p = place_of t in
    subst (λ (x : Built). Held named b x) q.1 (record {
      interfaces = interfaces_added s.here t.text p unfinished s.scopes s.things nothing w.paired refl (λ z. absurd cc) (clear_free b s.scopes s.things s.here t.text w.names w.keyed q.0 h.interfaces h.scopes.0) h.interfaces;
      scopes = (scope_added b s.here t.text p unfinished s.scopes s.things nothing s.here refl h.scopes.0, unread_more s.here t.text p s.scopes [] (none_unread (length s.scopes.declared)) h.scopes.1);
    })

declared_heading : (t : Placed Kind) (s c : Built) → Stands outside s → NamesAt outside s → Held outside false s → declare t s ≡ Ok c → Held heading false c
declared_heading t s c w n h e =
    let q = declared_is s.here unfinished nothing t s c e in
    let p = place_of t in
    let d = declared_named false t s c w h e in
    let u = added s.here t.text p unfinished s.scopes in
    let long = added_length s.here t.text p unfinished s.scopes in
    let last : length s.scopes.declared ≡ last_of u = omega arith in
    let bases : s.parts.bases ≡ [] = ap (λ (y : Body). y.3) n in
    let given : s.parts.given ≡ [] = ap (λ (y : Body). y.4) n in
    subst (λ (x : Built). Held heading false x) q.1 (
    let f = subst (λ (x : Built). Held named false x) (sym q.1) d in
    record {
      interfaces = f.interfaces;
      scopes = (
        f.scopes,
        (
          subst (λ (i : ℕ). scope_at u i ≡ s.here) last (scope_new s.here t.text p unfinished s.scopes),
          subst (λ (bs : List ℕ). AreMerged u (s.things ++ nothing ∷ []) (last_of u) bs s.parts.given) (sym bases)
              (subst (λ (gs : List ℕ). AreMerged u (s.things ++ nothing ∷ []) (last_of u) [] gs) (sym given) (none_merged u (s.things ++ nothing ∷ []) (last_of u))),
        ),
      );
    })

declared_open : (b : Bool) (t : Placed Kind) (s c : Built) → Stands outside s → Held outside b s → open_body t s ≡ Ok c → Held inside b c
declared_open b t s c w h e =
    let m = bind_ok (declare t s) enter c e in
    let d = declared_named b t s m.0 w h m.1 in
    let q = declared_is s.here unfinished nothing t s m.0 m.1 in
    let p = place_of t in
    let u = added s.here t.text p unfinished s.scopes in
    let long = added_length s.here t.text p unfinished s.scopes in
    let f = subst (λ (x : Built). Held named b x) (sym q.1) d in
    let last : length s.scopes.declared ≡ length u.declared - 1 = omega arith in
    let around : s.here ≡ outer u (length u.declared) = sym (subst (λ (i : ℕ). scope_at u i ≡ s.here) last (scope_new s.here t.text p unfinished s.scopes)) in
    subst (λ (x : Built). Held inside b x) (ap entered q.1 ∙ ok_is _ c m.2) (record {
      interfaces = f.interfaces;
      scopes = (subst (λ (n : ℕ). InScope b u (s.things ++ nothing ∷ []) n) around f.scopes.0, f.scopes.1);
    })

one_unread : (n i k : ℕ) → i < n → IsAmong k (i ∷ []) → k < n
one_unread n i k less m = elim m [ inl e ↦ omega arith | inr r ↦ absurd r ]

-- a name in an open body
declared_part : (b : Bool) (t : Placed Kind) (s c : Built) → Stands inside s → Held inside b s → declare t s ≡ Ok c → Held part b c
declared_part b t s c w h e =
    let q = declared_is s.here unfinished nothing t s c e in
    let p = place_of t in
    let less = opened_within s w.0 w.1 in
    let u = added s.here t.text p unfinished s.scopes in
    subst (λ (x : Built). Held part b x) q.1 (record {
      interfaces = interfaces_added s.here t.text p unfinished s.scopes s.things nothing w.0.paired refl (λ z. absurd cc) (clear_inside s.scopes s.things s.here t.text w.1.some w.1.there) h.interfaces;
      scopes = (
        subst (λ (n : ℕ). InScope b u (s.things ++ nothing ∷ []) n) (sym (outer_added s.here t.text p unfinished s.scopes s.here less)) (scope_added b s.here t.text p unfinished s.scopes s.things nothing (outer s.scopes s.here) refl h.scopes.0),
        unread_more s.here t.text p s.scopes (opened s ∷ []) (λ k m. one_unread (length s.scopes.declared) (opened s) k less m) h.scopes.1,
      );
    })

declared_param : (b : Bool) (t : Placed Kind) (s c : Built) → Stands inside s → Held inside b s → interfaces.param t s ≡ Ok c → Held inside b c
declared_param b t s c w h e =
    let first = unless (is_taken_part s.scopes t.text s.here) cause.Clash (place_of t) s in
    let second : Built → Done = λ x. Ok (with_name x.here table.other nothing t x) in
    let m = bind_ok (interfaces.declare_param t s) (interfaces.param_named t) c e in
    let n = bind_ok first second m.0 m.1 in
    let v = unless_ok (is_taken_part s.scopes t.text s.here) cause.Clash (place_of t) s n.0 n.1 in
    let y : with_name s.here table.other nothing t s ≡ m.0 = ap (λ (x : Built). with_name x.here table.other nothing t x) v.1 ∙ ok_is _ m.0 n.2 in
    let z = ap (λ (x : Built). record x { parts = interfaces.with_param t.text x.type x.parts }) y ∙ ok_is _ c m.2 in
    let p = place_of t in
    let less = opened_within s w.0 w.1 in
    let u = added s.here t.text p table.other s.scopes in
    subst (λ (x : Built). Held inside b x) z (record {
      interfaces = interfaces_added s.here t.text p table.other s.scopes s.things nothing w.0.paired refl (λ x. absurd cc) (clear_inside s.scopes s.things s.here t.text w.1.some w.1.there) h.interfaces;
      scopes = (
        subst (λ (n : ℕ). InScope b u (s.things ++ nothing ∷ []) n) (sym (outer_added s.here t.text p table.other s.scopes s.here less)) (scope_added b s.here t.text p table.other s.scopes s.things nothing (outer s.scopes s.here) refl h.scopes.0),
        unread_read s.here t.text p table.other s.scopes (opened s ∷ []) refl (λ k m. one_unread (length s.scopes.declared) (opened s) k less m) h.scopes.1,
      );
    })

enumerated : (b : Bool) (t : Placed Kind) (s c : Built) → Stands inside s → Held inside b s → bodies.enumerate t s ≡ Ok c → Held inside b c
enumerated b t s c w h e =
    let thing = enumerator (bodies.open_id s) (length s.parts.enumerators) in
    let scope = outer s.scopes s.here in
    let m = bind_ok (declare_in scope table.other thing t s) (bodies.label_named t) c e in
    let q = declared_is scope table.other thing t s m.0 m.1 in
    let r = subst (λ (x : Built). bodies.label_named t x ≡ Ok c) (sym q.1) m.2 in
    let p = place_of t in
    let less = opened_within s w.0 w.1 in
    let u = added scope t.text p table.other s.scopes in
    subst (λ (x : Built). Held inside b x) (ok_is _ c r) (record {
      interfaces = interfaces_added scope t.text p table.other s.scopes s.things thing w.0.paired refl (λ x. absurd cc) (clear_free b s.scopes s.things scope t.text w.0.names w.0.keyed q.0 h.interfaces h.scopes.0) h.interfaces;
      scopes = (
        subst (λ (n : ℕ). InScope b u (s.things ++ thing ∷ []) n) (sym (outer_added scope t.text p table.other s.scopes s.here less)) (scope_added b scope t.text p table.other s.scopes s.things thing scope refl h.scopes.0),
        unread_read scope t.text p table.other s.scopes (opened s ∷ []) refl (λ k m. one_unread (length s.scopes.declared) (opened s) k less m) h.scopes.1,
      );
    })

-- modules
module_sort : (s : Sort) → is_module s ≡ true → s ≡ module_
module_sort unfinished h = absurd cc
module_sort module_ h = refl
module_sort (table.interface ss) h = absurd cc
module_sort operation h = absurd cc
module_sort table.other h = absurd cc

reopened : (t : Table) (o : Option ℕ) (i : ℕ) → if_module t o ≡ Some i → sort_at t i ≡ module_
reopened t None i e = absurd (none-some i e)
reopened t (Some j) i e =
    let p = cond_some (is_module (sort_at t j)) j i e in
    module_sort (sort_at t i) (subst (λ (k : ℕ). is_module (sort_at t k) ≡ true) p.1 p.0)

module_opened : (t : Placed Kind) (s c : Built) (o : Option ℕ) → ((i : ℕ) → o ≡ Some i → sort_at s.scopes i ≡ module_) → Stands outside s → Held outside false s → names.open_module t s o ≡ Ok c → Held outside false c
module_opened t s c (Some i) is w h e =
    let back : i + 1 - 1 ≡ i = omega arith in
    subst (λ (x : Built). Held outside false x) (ok_is (record s { here = i + 1 }) c e)
    (record { interfaces = h.interfaces; scopes = (inr (ap (λ (k : ℕ). sort_at s.scopes k) back ∙ is i refl), h.scopes.1) })
module_opened t s c None is w h e =
    let m = bind_ok (declare_in s.here module_ nothing t s) enter c e in
    let q = declared_is s.here module_ nothing t s m.0 m.1 in
    let p = place_of t in
    let u = added s.here t.text p module_ s.scopes in
    let long = added_length s.here t.text p module_ s.scopes in
    let last : length s.scopes.declared ≡ length u.declared - 1 = omega arith in
    subst (λ (x : Built). Held outside false x) (ap entered q.1 ∙ ok_is _ c m.2) (record {
      interfaces = interfaces_added s.here t.text p module_ s.scopes s.things nothing w.paired refl (λ z. h.scopes.0) (clear_free false s.scopes s.things s.here t.text w.names w.keyed q.0 h.interfaces h.scopes.0) h.interfaces;
      scopes = (
        inr (subst (λ (i : ℕ). sort_at u i ≡ module_) last (sort_new s.here t.text p module_ s.scopes)),
        unread_read s.here t.text p module_ s.scopes [] refl (none_unread (length s.scopes.declared)) h.scopes.1,
      );
    })

first_scope : (t : Table) → AreInOrder (known_in t.declared) → scope_at t 0 ≡ 0
first_scope t o = let h = (in_order t o).inwards 0 in omega arith

module_closed : (s c : Built) → Stands outside s → Held outside false s → leave s ≡ c → Held outside false c
module_closed s c w h e =
    let around : IsModuleAt s.scopes (outer s.scopes s.here) = elim h.scopes.0 [
      | inl z ↦ inl (ap (λ (n : ℕ). scope_at s.scopes (n - 1)) z ∙ first_scope s.scopes w.names)
      | inr k ↦ h.interfaces.placed (s.here - 1) (ap is_container k)
    ] in
    subst (λ (x : Built). Held outside false x) e (record { interfaces = h.interfaces; scopes = (around, h.scopes.1) })

-- interfaces
interface_closed : (s c : Built) → Stands outside s → Held outside true s → leave s ≡ c → Held outside false c
interface_closed s c w h e =
    let o = h.scopes.0 in
    let a = o.is in
    let back : s.here - 1 ≡ o.at = omega arith in
    let d = h.interfaces.each o.at o.bases o.os o.there in
    let around : IsModuleAt s.scopes (outer s.scopes s.here) = subst (λ (i : ℕ). IsModuleAt s.scopes (scope_at s.scopes i)) (sym back) (h.interfaces.placed o.at (ap is_container d.sort)) in
    subst (λ (x : Built). Held outside false x) e (record { interfaces = h.interfaces; scopes = (around, h.scopes.1) })

interface_opened : (s c : Built) → Stands based s → Held based false s → interfaces.open_interface s ≡ Ok c → Held outside true c
interface_opened s c w h e =
    let i = newest s in
    let sort = table.interface s.parts.given in
    let os = interfaces.inherited s in
    let x = interface s.parts.bases os in
    let there = newest_there s w.0 w.1 in
    let less = newest_within s w.0 w.1 in
    let un = h.scopes.0.1.all.0 in
    let u = finished s.scopes i sort in
    let us = set s.things i x in
    let long : length u.declared ≡ length s.scopes.declared = set_length s.scopes i sort in
    let wide : length us ≡ length s.things = length-set s.things i x in
    let paired = w.0.paired in
    subst (λ (y : Built). Held outside true y) (ok_is _ c e) (record {
      interfaces = interfaces_opened s.scopes s.things i s.parts.bases s.parts.given w.0.names there un less (omega arith)
          (subst (IsModuleAt s.scopes) (sym h.scopes.1.0) h.scopes.0.0) h.scopes.1.1 h.interfaces;
      scopes = (
        record {
          at = i;
          is = omega arith;
          bases = s.parts.bases;
          os = os;
          there = set_there s.things i x nothing there;
          last = λ j bs ks g. let r = slice_get_within us j (interface bs ks) g in omega arith;
        },
        unread_set s.scopes i sort [] refl (λ m. m) h.scopes.0.1,
      );
    })

-- scopes of interfaces are read, where the newest declaration alone isn't
read_scope : (t : Table) (ts : List Thing) (n s here : ℕ) (o : AreInOrder (known_in t.declared)) (keyed : t.keys ≡ map key_of (known_in t.declared)) → AreInterfaces t ts → AreUnread t (n ∷ []) → scope_at t n ≡ here → IsModuleAt t here → IsScopeOf ts n s
    → (k : ℕ) (name : List ℕ) → slice_get (known_in t.declared) k ≡ Some (s, name) → is_finished (sort_at t k) ≡ true
read_scope t ts n s here o keyed h un at m d k name e =
    let less : k < length t.declared = let a = slice_get_within (known_in t.declared) k (s, name) e in let b : length (known_in t.declared) ≡ length t.declared = length-map t.declared known in omega arith in
    let scope : scope_at t k ≡ s = scope_by_known t k ∙ ap known_scope e in
    elim (un.rest k less) [
      | inl fin ↦ fin
      | inr a ↦ elim a [
        | inl p ↦ absurd (no_module t ts d.at s h d.base d.is (subst (IsModuleAt t) (sym (sym scope ∙ ap (λ (j : ℕ). scope_at t j) p ∙ at)) m))
        | inr r ↦ absurd r
      ]
    ]

read_scopes : (t : Table) (ts : List Thing) (n here : ℕ) (o : AreInOrder (known_in t.declared)) (keyed : t.keys ≡ map key_of (known_in t.declared)) → AreInterfaces t ts → AreUnread t (n ∷ []) → scope_at t n ≡ here → IsModuleAt t here
    → (ss : List ℕ) → AreScopes ts n ss → AreRead t o keyed ss
read_scopes t ts n here o keyed h un at m [] d = tt
read_scopes t ts n here o keyed h un at m (s ∷ ss) d = (read_scope t ts n s here o keyed h un at m d.0, read_scopes t ts n here o keyed h un at m ss d.1)

interface_is : (x : Thing) → is_interface x ≡ true → (bs : List ℕ) × (os : List ℕ) × (x ≡ interface bs os)
interface_is (interface bs os) h = (bs, os, refl)
interface_is nothing h = absurd cc
interface_is (type k) h = absurd cc
interface_is (exception ms) h = absurd cc
interface_is (constant k v) h = absurd cc
interface_is (enumerator id n) h = absurd cc
interface_is (operations os n) h = absurd cc

some_thing : (ts : List Thing) (i : ℕ) (o : Option Thing) (bs os : List ℕ) → slice_get ts i ≡ o → thing_in o ≡ interface bs os → slice_get ts i ≡ Some (interface bs os)
some_thing ts i None bs os e f = absurd cc
some_thing ts i (Some x) bs os e f = e ∙ ap (λ (y : Thing). Some y) f

base_read : (s c : Built) → Stands heading s → Held heading false s → interfaces.base_named (names.meaning s) s ≡ Ok c → Held heading false c
base_read s c w h e =
    let first = unless (not (is_interface (names.meaning s))) cause.WrongKind s.last s in
    let second = λ (x : Built). unless (interfaces.base_clashes x) cause.Clash x.last x in
    let m = bind_ok (first >>= second) interfaces.with_base c e in
    let n = bind_ok first second m.0 m.1 in
    let u = unless_ok (not (is_interface (names.meaning s))) cause.WrongKind s.last s n.0 n.1 in
    let v = unless_ok (interfaces.base_clashes n.0) cause.Clash n.0.last n.0 m.0 n.2 in
    let same : s ≡ m.0 = u.1 ∙ v.1 in
    let clear : interfaces.base_clashes s ≡ false = ap interfaces.base_clashes u.1 ∙ v.0 in
    let b = names.meant s in
    let is = interface_is (names.meaning s) (not-false (is_interface (names.meaning s)) u.0) in
    let there = some_thing s.things b (slice_get s.things b) is.0 is.1 refl is.2 in
    let less = slice_get_within s.things b (interface is.0 is.1) there in
    let fresh = newest_there s w.0 w.1 in
    let apart : b ≡ newest s → ⊥ = λ p. no_interface nothing is.0 is.1 refl (same_Some nothing _ (sym fresh ∙ ap (λ (j : ℕ). slice_get s.things j) (sym p) ∙ there)) in
    let paired = w.0.paired in
    let before : b < newest s = elim (cases_eq b (newest s)) [ inl p ↦ absurd (apart p) | inr p ↦ omega arith ] in
    let d = h.interfaces.each b is.0 is.1 there in
    let g = h.scopes.1.1 in
    let read = read_scopes s.scopes s.things (newest s) s.here w.0.names w.0.keyed h.interfaces h.scopes.0.1 h.scopes.1.0 h.scopes.0.0 s.parts.given g.within in
    subst (λ (x : Built). Held heading false x) (ap (λ (x : Built). names.renewed (record x { parts = interfaces.and_base (names.meant x) (scopes_of x.scopes (names.meant x)) x.parts })) same ∙ ok_is _ c m.2) (record {
      interfaces = h.interfaces;
      scopes = (h.scopes.0, (h.scopes.1.0, base_merged s.scopes w.0.names w.0.keyed s.things (newest s) b s.parts.bases s.parts.given is.0 is.1 there before d read clear g));
    })

-- what is known of a declaration
entry_of : (ds : List Declared) (i : ℕ) (x : Option Declared) → slice_get ds i ≡ x → i < length ds → slice_get (known_in ds) i ≡ Some (scope_in x, name_in x)
entry_of ds i None e less = absurd (past ds i e less)
  where
    past : (ds : List Declared) (i : ℕ) → slice_get ds i ≡ None → i < length ds → ⊥
    past [] i e x = omega arith
    past (d ∷ ds) zero e x = none-some d (sym e)
    past (d ∷ ds) (suc i) e x = past ds i e (omega arith)
entry_of ds i (Some d) e less = slice_get-map known ds i ∙ ap (λ (x : Option Declared). option_map known x) e

-- operations and attributes
record GivenNames (x : Thing) (name : List ℕ) : Type 0 where
  given : List OperationView
  leaves : ℕ
  is : x ≡ operations given leaves
  names : AreNamesOf name (operation_names given)

attribute_names : (b : Bool) (name : List ℕ) (k : Sized) → GivenNames (interfaces.attribute_of b name k) name
attribute_names true name k = record { given = _; leaves = _; is = refl; names = inr (inl refl) }
attribute_names false name k = record { given = _; leaves = _; is = refl; names = inr (inr refl) }

held_new : (t : Table) (ts : List Thing) (ss : List ℕ) (i o : ℕ) (name : List ℕ) (x : Thing) → slice_get (known_in t.declared) o ≡ Some (i, name) → begins_low name ≡ false → sort_at t o ≡ operation → slice_get ts o ≡ Some x → GivenNames x name → IsHeld t ts (i ∷ ss) o
held_new t ts ss i o name x known low sort there g = record {
  name = name;
  plain = low;
  first = inl known;
  sort = sort;
  given = g.given;
  leaves = g.leaves;
  there = there ∙ ap (λ (y : Thing). Some y) g.is;
  names = g.names;
}

none_of_held : (t : Table) (ts : List Thing) (ss os : List ℕ) (o : ℕ) → (IsHeld t ts ss o → ⊥) → AreHeld t ts ss os → IsAmong o os → ⊥
none_of_held t ts ss [] o n h m = m
none_of_held t ts ss (x ∷ os) o n h m = elim m [ inl e ↦ n (subst (IsHeld t ts ss) (sym e) h.0) | inr r ↦ none_of_held t ts ss os o n h.1 r ]

-- the open interface with one operation more
open_gained : (ts : List Thing) (scope o : ℕ) (d : IsOpenAt ts scope) → IsOpenAt (gained d.at o ts) scope
open_gained ts scope o d =
    let x = interface d.bases (d.os ++ o ∷ []) in
    let e : gained d.at o ts ≡ set ts d.at x = ap (λ (y : Option Thing). set ts d.at (and_operation o (thing_in y))) d.there in
    record {
      at = d.at;
      is = d.is;
      bases = d.bases;
      os = d.os ++ o ∷ [];
      there = ap (λ (us : List Thing). slice_get us d.at) e ∙ set_there ts d.at x (interface d.bases d.os) d.there;
      last = λ j bs ks g. elim (get_set ts d.at j x (interface bs ks) (ap (λ (us : List Thing). slice_get us j) (sym e) ∙ g)) [ inl q ↦ (let p = q.0 in omega arith) | inr q ↦ d.last j bs ks q.1 ];
    }

operation_same : (x y : Built) → Same x y → Same (interfaces.with_operation x.here (newest x) x) (interfaces.with_operation y.here (newest y) y)
operation_same x y k = record {
  scopes = k.scopes;
  here = k.here;
  things = ap (λ (n : ℕ). gained (n - 1) (newest x) x.things) k.here ∙ ap (λ (i : ℕ). gained (y.here - 1) i x.things) (sym (newest_same x y k)) ∙ ap (λ (ts : List Thing). gained (y.here - 1) (newest y) ts) k.things;
  bases = k.bases;
  params = k.params;
  body = k.body;
  counts = record { more = k.counts.more; within = k.counts.within };
}

attribute_held : (t : Placed Kind) (s c : Built) → IsNameText t.text → Stands outside s → Held outside true s → interfaces.attribute t s ≡ Ok c → Held outside true c
unfolding scope_added
attribute_held t s c name w h e =
    let thing = interfaces.attribute_of s.parts.readonly t.text s.type in
    let first = declare_in s.here operation thing t s in
    let m = bind_ok (first >>= interfaces.attribute_counted t) interfaces.attribute_held c e in
    let n = bind_ok first (interfaces.attribute_counted t) m.0 m.1 in
    let q = declared_is s.here operation thing t s n.0 n.1 in
    let k = leaves_counted n.0 (interfaces.operation_leaves (thing_at n.0 (newest n.0))) (place_of t) n.0 (itself n.0) m.0 n.2 in
    let p = place_of t in
    let u = added s.here t.text p operation s.scopes in
    let us = s.things ++ thing ∷ [] in
    let o = length s.scopes.declared in
    let d = h.scopes.0 in
    let g = attribute_names s.parts.readonly t.text s.type in
    let plain : is_interface thing ≡ false = ap is_interface g.is in
    let now = scope_added true s.here t.text p operation s.scopes s.things thing s.here plain d in
    let more = interfaces_added s.here t.text p operation s.scopes s.things thing w.paired plain (λ x. absurd cc) (clear_free true s.scopes s.things s.here t.text w.names w.keyed q.0 h.interfaces d) h.interfaces in
    let long = added_length s.here t.text p operation s.scopes in
    let last : o ≡ length u.declared - 1 = omega arith in
    let here : s.here ≡ now.at + 1 = now.is in
    let back : s.here - 1 ≡ now.at = omega arith in
    let there : slice_get us o ≡ Some thing = ap (λ (i : ℕ). slice_get us i) (sym w.paired) ∙ get_last s.things thing in
    let known : slice_get (known_in u.declared) o ≡ Some (now.at + 1, t.text)
    = ap (λ (ps : List (ℕ × List ℕ)). slice_get ps o) (known_added s.here t.text p operation s.scopes) ∙ ap (λ (i : ℕ). slice_get (known_in s.scopes.declared ++ (s.here, t.text) ∷ []) i) (sym (length-map s.scopes.declared known))
    ∙ get_last (known_in s.scopes.declared) (s.here, t.text) ∙ ap (λ (i : ℕ). Some (i, t.text)) here in
    let absent : IsAmong o now.os → ⊥ = none_of_held s.scopes s.things ((now.at + 1) ∷ (h.interfaces.each now.at now.bases now.os d.there).scopes) now.os o
    (λ x. let less = slice_get_within s.things o (operations x.given x.leaves) x.there in let pair = w.paired in absurd (omega arith)) (h.interfaces.each now.at now.bases now.os d.there).held in
    let grown = interfaces_gained u us now.at o now.bases now.os now.there now.last
    (λ ss. held_new u us ss (now.at + 1) o t.text thing known name.1 (sort_new s.here t.text p operation s.scopes) there g) absent more in
    let z = interfaces.with_operation s.here (length u.declared - 1) (with_name s.here operation thing t s) in
    let things : z.things ≡ gained now.at o us = ap (λ (i : ℕ). gained i (length u.declared - 1) us) back ∙ ap (λ (i : ℕ). gained now.at i us) (sym last) in
    let y : Held outside true z = record {
      interfaces = subst (AreInterfaces u) (sym things) grown;
      scopes = (
        subst (λ (vs : List Thing). IsOpenAt vs s.here) (sym things) (open_gained us s.here o now),
        unread_read s.here t.text p operation s.scopes [] refl (none_unread (length s.scopes.declared)) h.scopes.1,
      );
    } in
    let f : with_name s.here operation thing t s ≡ n.0 = q.1 in
    held_same outside true (interfaces.with_operation n.0.here (newest n.0) n.0) c
    (subst (λ (x : Built). Same (interfaces.with_operation n.0.here (newest n.0) n.0) x) (ok_is (interfaces.with_operation m.0.here (newest m.0) m.0) c m.2) (operation_same n.0 m.0 k))
    (subst (λ (x : Built). Held outside true (interfaces.with_operation x.here (newest x) x)) f y)

-- an operation ends, and its interface has it
operation_kept : (x c : Built) → Stands inside x → Held inside true x → interfaces.operation_ended x ≡ Ok c → Held outside true c
unfolding scope_set
operation_kept x c wx hx e =
    let o = opened x in
    let thing = interfaces.operation_read x in
    let d = hx.scopes.0 in
    let here : outer x.scopes x.here ≡ d.at + 1 = d.is in
    let back : outer x.scopes x.here - 1 ≡ d.at = omega arith in
    let there = wx.1.there in
    let less = opened_within x wx.0 wx.1 in
    let un = hx.scopes.1.all.0 in
    let u = finished x.scopes o operation in
    let us = set x.things o thing in
    let more = interfaces_set x.scopes x.things o operation thing there un less refl refl hx.interfaces in
    let now = scope_set true x.scopes x.things o operation thing (outer x.scopes x.here) there un refl d in
    let j = hx.interfaces.each d.at d.bases d.os d.there in
    let name = name_at x o in
    let entry = entry_of x.scopes.declared o (slice_get x.scopes.declared o) refl less in
    let known : slice_get (known_in u.declared) o ≡ Some (now.at + 1, name)
    = ap (λ (ps : List (ℕ × List ℕ)). slice_get ps o) (same_known x.scopes o operation) ∙ entry ∙ ap (λ (i : ℕ). Some (i, name)) here in
    let low : begins_low name ≡ false = (wx.0.names.plain o (scope_at x.scopes o, name) entry).1 in
    let absent : IsAmong o now.os → ⊥
    = none_of_held x.scopes x.things ((d.at + 1) ∷ j.scopes) d.os o (λ z. both_ways (is_finished (sort_at x.scopes o)) un (ap is_finished z.sort)) j.held in
    let grown = interfaces_gained u us now.at o now.bases now.os now.there now.last
    (λ ss. held_new u us ss (now.at + 1) o name thing known low (sort_there x.scopes o operation less) (set_there x.things o thing nothing there) (record { given = _; leaves = _; is = refl; names = inl refl })) absent more in
    let apart : d.at ≡ o → ⊥ = λ p. no_interface nothing d.bases d.os refl (same_Some nothing _ (sym there ∙ ap (λ (i : ℕ). slice_get x.things i) (sym p) ∙ d.there)) in
    let a = interface d.bases (d.os ++ o ∷ []) in
    let things : set (gained (outer x.scopes x.here - 1) o x.things) o thing ≡ gained now.at o us
    = ap (λ (i : ℕ). set (gained i o x.things) o thing) back ∙ ap (λ (y : Option Thing). set (set x.things d.at (and_operation o (thing_in y))) o thing) d.there
    ∙ set_comm x.things d.at o a thing apart ∙ ap (λ (y : Option Thing). set us d.at (and_operation o (thing_in y))) (sym now.there) in
    let around : outer u x.here ≡ outer x.scopes x.here = outer_finished x.scopes o operation x.here in
    subst (λ (y : Built). Held outside true y) (ok_is _ c e) (record {
      interfaces = subst (AreInterfaces u) (sym things) grown;
      scopes = (
        subst (λ (n : ℕ). IsOpenAt (set (gained (outer x.scopes x.here - 1) o x.things) o thing) n) (sym around) (subst (λ (vs : List Thing). IsOpenAt vs (outer x.scopes x.here)) (sym things) (open_gained us (outer x.scopes x.here) o now)),
        unread_set x.scopes o operation [] refl (λ z. z) hx.scopes.1,
      );
    })

operation_held : (s c : Built) → Stands inside s → Held inside true s → interfaces.end_operation s ≡ Ok c → Held outside true c
operation_held s c w h e =
    let m = bind_ok (counted (plus s.parts.leaves 1) (place_at s (opened s)) s) interfaces.operation_ended c e in
    let k = leaves_counted s (plus s.parts.leaves 1) (place_at s (opened s)) s (itself s) m.0 m.1 in
    operation_kept m.0 c (stands_same inside s m.0 k w) (held_same inside true s m.0 k h) m.2

-- what each label keeps so at its token
to_there : (n k : Spot) (b d : Bool) (c : Built) → n ≡ k → b ≡ d → Held n b c → Held k d c
to_there n k b d c e f h = subst (λ (x : Bool). Held k x c) f (subst (λ (x : Spot). Held x b c) e h)

held_at : (label : IdlLabel) (m n : Spot) (b d : Bool) → goes label m ≡ Some n → holds_at label b ≡ Some d → (t : Placed Kind) → (declares label ≡ true → IsNameText t.text) → (s c : Built) → Stands m s → NamesAt m s → Held m b s → act label t s ≡ Ok c → Held n d c
held_at l.Module outside n false d e f t p s c w x h a =
    to_there outside n false d c (same_Some outside n e) (same_Some false d f) (module_opened t s c (module_in s.scopes t.text s.here) (λ i q. reopened s.scopes (own s.scopes t.text s.here) i q) w h a)
held_at l.Module outside n true d e f t p s c w x h a = absurd (none-some d f)
held_at l.Module m n b d e f t p s c w x h a = absurd (none-some n e)
held_at l.EndModule outside n false d e f t p s c w x h a = to_there outside n false d c (same_Some outside n e) (same_Some false d f) (module_closed s c w h (ok_is (leave s) c a))
held_at l.EndModule outside n true d e f t p s c w x h a = absurd (none-some d f)
held_at l.EndModule m n b d e f t p s c w x h a = absurd (none-some n e)
held_at l.Interface outside n false d e f t p s c w x h a = to_there heading n false d c (same_Some heading n e) (same_Some false d f) (declared_heading t s c w x h a)
held_at l.Interface outside n true d e f t p s c w x h a = absurd (none-some d f)
held_at l.Interface m n b d e f t p s c w x h a = absurd (none-some n e)
held_at l.OpenInterface based n false d e f t p s c w x h a = to_there outside n true d c (same_Some outside n e) (same_Some true d f) (interface_opened s c w h a)
held_at l.OpenInterface based n true d e f t p s c w x h a = absurd (none-some d f)
held_at l.OpenInterface m n b d e f t p s c w x h a = absurd (none-some n e)
held_at l.EndInterface outside n true d e f t p s c w x h a = to_there outside n false d c (same_Some outside n e) (same_Some false d f) (interface_closed s c w h (ok_is (leave s) c a))
held_at l.EndInterface outside n false d e f t p s c w x h a = absurd (none-some d f)
held_at l.EndInterface m n b d e f t p s c w x h a = absurd (none-some n e)
held_at l.Declare outside n b d e f t p s c w x h a = to_there named n b d c (same_Some named n e) (same_Some b d f) (declared_named b t s c w h a)
held_at l.Declare inside n b d e f t p s c w x h a = to_there part n b d c (same_Some part n e) (same_Some b d f) (declared_part b t s c w h a)
held_at l.Declare m n b d e f t p s c w x h a = absurd (none-some n e)
held_at l.Open outside n b d e f t p s c w x h a = to_there inside n b d c (same_Some inside n e) (same_Some b d f) (declared_open b t s c w h a)
held_at l.Open m n b d e f t p s c w x h a = absurd (none-some n e)
held_at l.EndStruct inside n b d e f t p s c w x h a =
    to_there outside n b d c (same_Some outside n e) (same_Some b d f)
    (closed b s c w h (type_closes (record { kind = structure (bodies.open_id s) (members_of s.parts.members); leaves = s.parts.leaves; levels = plus s.parts.levels 1 }) s c a))
held_at l.EndStruct m n b d e f t p s c w x h a = absurd (none-some n e)
held_at l.EndException inside n b d e f t p s c w x h a = to_there outside n b d c (same_Some outside n e) (same_Some b d f) (closed b s c w h (exception_closes s c a))
held_at l.EndException m n b d e f t p s c w x h a = absurd (none-some n e)
held_at l.EndUnion inside n b d e f t p s c w x h a =
    to_there outside n b d c (same_Some outside n e) (same_Some b d f)
    (closed b s c w h (type_closes (record { kind = union (bodies.open_id s) s.parts.discriminator (cases_of s.parts.cases); leaves = plus s.parts.leaves 1; levels = plus s.parts.levels 1 }) s c a))
held_at l.EndUnion m n b d e f t p s c w x h a = absurd (none-some n e)
held_at l.EndEnum inside n b d e f t p s c w x h a =
    to_there outside n b d c (same_Some outside n e) (same_Some b d f) (closed b s c w h (type_closes (leaf (scalar (enumeration (bodies.open_id s) s.parts.enumerators))) s c a))
held_at l.EndEnum m n b d e f t p s c w x h a = absurd (none-some n e)
held_at l.Enumerator inside n b d e f t p s c w x h a = to_there inside n b d c (same_Some inside n e) (same_Some b d f) (enumerated b t s c w h a)
held_at l.Enumerator m n b d e f t p s c w x h a = absurd (none-some n e)
held_at l.Attribute outside n true d e f t p s c w x h a = to_there outside n true d c (same_Some outside n e) (same_Some true d f) (attribute_held t s c (p refl) w h a)
held_at l.Attribute outside n false d e f t p s c w x h a = absurd (none-some d f)
held_at l.Attribute m n b d e f t p s c w x h a = absurd (none-some n e)
held_at l.Param inside n b d e f t p s c w x h a = to_there inside n b d c (same_Some inside n e) (same_Some b d f) (declared_param b t s c w h a)
held_at l.Param m n b d e f t p s c w x h a = absurd (none-some n e)
held_at (l.Refuse z) m n b d e f t p s c w x h a = absurd cc
held_at label m n b d e f t p s c w x h a = to_there m n b d c (same_Some m n e) (same_Some b d f) (held_same m b s c (quiet_act label t s refl c a) h)

-- and without a token
held_alone : (label : IdlLabel) (m n : Spot) (b d : Bool) → goes_alone label m ≡ Some n → holds_alone label b ≡ Some d → (s c : Built) → Stands m s → Held m b s → judge label s ≡ Ok c → Held n d c
held_alone l.Base heading n false d e f s c w h a = to_there heading n false d c (same_Some heading n e) (same_Some false d f) (base_read s c w h a)
held_alone l.Base heading n true d e f s c w h a = absurd (none-some d f)
held_alone l.Base m n b d e f s c w h a = absurd (none-some n e)
held_alone l.Inherit heading n b d e f s c w h a =
    let k = held_same heading b s c (quiet_judge l.Inherit s refl c a) h in
    to_there based n b d c (same_Some based n e) (same_Some b d f) (record { interfaces = k.interfaces; scopes = k.scopes })
held_alone l.Inherit m n b d e f s c w h a = absurd (none-some n e)
held_alone l.Typedef named n b d e f s c w h a = to_there outside n b d c (same_Some outside n e) (same_Some b d f) (named_finished b s c w h (typedef_finishes s c a))
held_alone l.Typedef m n b d e f s c w h a = absurd (none-some n e)
held_alone l.Member part n b d e f s c w h a = to_there inside n b d c (same_Some inside n e) (same_Some b d f) (part_finished b s c w h (member_finishes s c a))
held_alone l.Member m n b d e f s c w h a = absurd (none-some n e)
held_alone l.CaseMember part n b d e f s c w h a = to_there inside n b d c (same_Some inside n e) (same_Some b d f) (part_finished b s c w h (case_finishes s c a))
held_alone l.CaseMember m n b d e f s c w h a = absurd (none-some n e)
held_alone l.EndConst named n b d e f s c w h a = to_there outside n b d c (same_Some outside n e) (same_Some b d f) (named_finished b s c w h (const_finishes s c a))
held_alone l.EndConst m n b d e f s c w h a = absurd (none-some n e)
held_alone l.EndOperation inside n true d e f s c w h a = to_there outside n true d c (same_Some outside n e) (same_Some true d f) (operation_held s c w h a)
held_alone l.EndOperation inside n false d e f s c w h a = absurd (none-some d f)
held_alone l.EndOperation m n b d e f s c w h a = absurd (none-some n e)
held_alone label m n b d e f s c w h a = to_there m n b d c (same_Some m n e) (same_Some b d f) (held_same m b s c (quiet_judge label s refl c a) h)

nothing_held : Held outside false nothing_built
nothing_held = record {
  interfaces = record { each = λ i bs os e. absurd (none-some _ e); placed = λ k c. absurd cc };
  scopes = (inl refl, record { rest = λ k less. absurd (omega arith); all = tt });
}

abbrev All : HeldSpot → Built → Type 0
All m s = (Stands m.0 s × NamesAt m.0 s) × Held m.0 m.1 s

-- the interfaces of a text
pub interfaces_text : (text : List ℕ) (new : Built) → Declares text new → AreInterfaces new.scopes new.things
interfaces_text text new w =
    (held_text All
    (λ label m n b d e f t p s c h a. ((stands_at label m n e t p s c h.0.0 a, names_at label m n e t s c h.0.0 h.0.1 a), held_at label m n b d e f t p s c h.0.0 h.0.1 h.1 a))
    (λ label m n b d e f s c h a. ((stands_alone label m n e s c h.0.0 a, names_alone label m n e s c h.0.0 h.0.1 a), held_alone label m n b d e f s c h.0.0 h.1 a))
    ((nothing_orderly, refl), nothing_held) text new w).1.interfaces

-- and their bases
pub based_text : (text : List ℕ) (new : Built) → Declares text new → AreBased new.things
based_text text new w i bases os e = let d = (interfaces_text text new w).each i bases os e in (d.stand, d.earlier)
