-- A repository takes each thing that a text declares, after those before it.
use Rattle.std.proofs.Common.{◌≡◌, ℕ, ◌+◌, ◌<◌, true, not, ◌&&◌, List, [], ◌∷◌, ◌++◌, append_assoc, append-nil, length, map, drop, get_or, Option, Some, None, refl, sym, ap, subst, ◌∙◌}
use Rattle.std.specs.Prelude.{nat_le}
use Rattle.std.specs.List.{list_all}
use Rattle.std.specs.Str.{bytes_eq}
use Rattle.std.proofs.lemmas.Bool.{and_from, and_parts, or_left, not_from_false}
use Rattle.cdr_values.specs.Lawful.{differ, is_lawful, are_lawful}
use Rattle.cdr_values.specs.Trees.{Kind, members_of}
use Rattle.idl_types.specs.Apart.{are_apart, is_told_apart, are_told_apart}
use Rattle.idl_types.specs.Counting.{leaves_of, levels_of, leaves_of_members, levels_of_members}
use Rattle.idl_types.specs.Declaring.{is_new, is_derived_in, may_hold}
use Rattle.idl_types.specs.Inherited.{inherits_in}
use Rattle.idl_types.specs.Names.{operation_names}
use Rattle.idl_types.specs.Sound.{is_sound_type, is_sound_result, is_sound_operation, is_sound_thing, is_reserved, is_built_in, is_own, has_bases_in, counted_leaves, file_leaves, most_leaves, most_levels, most_file_leaves}
use Rattle.idl_types.specs.Things.{OperationView, ParamView, Thing, constant, named, exception, interface, id_of}
use Rattle.idl_reader.specs.Accepted.{Each, TextsGive, IsNew, HasEarlierBases, is_small, is_small_kind, HasSmallTypes, has_params_apart, HasParamsApart, is_result_so, has_types_so, HasNamesApart, HasLawfulTypes, HasOperationsApart, HasInheritedFirst, HasLeavesLeft, MayDeclare, Takes}
use Rattle.idl_scopes.specs.Table.{Table}
use Rattle.idl_names.specs.State as names
use Rattle.idl_names.specs.Views.{thing_of}
use Rattle.idl_names.specs.declared.state.Thing as names_declared
use Rattle.idl_reader.specs.Declared.{declared_at, listed, declared_from}
use Rattle.idl_reader.proofs.OneMore.{thing_next}
use Rattle.idl_reader.proofs.ApartThings.{texts_give_apart_params}
use Rattle.idl_reader.proofs.BasedThings.{texts_give_earlier_bases}
use Rattle.idl_reader.proofs.InheritedThings.{texts_give_apart_operations, texts_inherit_first}
use Rattle.idl_reader.proofs.LawfulThings.{texts_give_lawful_types}
use Rattle.idl_reader.proofs.NewIds.{texts_give_new_ids}
use Rattle.idl_reader.proofs.RoomLeft.{texts_leave_room}
use Rattle.idl_reader.proofs.SmallThings.{texts_give_small_types}
use Rattle.idl_reader.proofs.ToldThings.{texts_give_apart_names}

-- a type that is lawful, told apart and small is sound
sound_type : (k : Kind) → is_lawful k ≡ true → is_told_apart k ≡ true → is_small (leaves_of k) (levels_of k) ≡ true → is_sound_type k ≡ true
sound_type k a b c =
    and_from (is_lawful k) (is_told_apart k && (nat_le (leaves_of k) most_leaves && nat_le (levels_of k) most_levels)) a
    (and_from (is_told_apart k) (nat_le (leaves_of k) most_leaves && nat_le (levels_of k) most_levels) b c)

sound_result : (o : Option Kind) → is_result_so is_lawful o ≡ true → is_result_so is_told_apart o ≡ true → is_result_so is_small_kind o ≡ true → is_sound_result o ≡ true
sound_result None a b c = refl
sound_result (Some k) a b c = sound_type k a b c

sound_params : (ps : List ParamView) → list_all (λ p. is_lawful p.kind) ps ≡ true → list_all (λ p. is_told_apart p.kind) ps ≡ true → list_all (λ p. is_small (leaves_of p.kind) (levels_of p.kind)) ps ≡ true
    → list_all (λ p. is_sound_type p.kind) ps ≡ true
sound_params [] a b c = refl
sound_params (p ∷ ps) a b c =
    let x = and_parts (is_lawful p.kind) (list_all (λ q. is_lawful q.kind) ps) a in
    let y = and_parts (is_told_apart p.kind) (list_all (λ q. is_told_apart q.kind) ps) b in
    let z = and_parts (is_small (leaves_of p.kind) (levels_of p.kind)) (list_all (λ q. is_small (leaves_of q.kind) (levels_of q.kind)) ps) c in
    and_from (is_sound_type p.kind) (list_all (λ q. is_sound_type q.kind) ps) (sound_type p.kind x.0 y.0 z.0) (sound_params ps x.1 y.1 z.1)

sound_operations : (os : List OperationView) → list_all (has_types_so is_lawful) os ≡ true → list_all (has_types_so is_told_apart) os ≡ true → list_all (has_types_so is_small_kind) os ≡ true → list_all has_params_apart os ≡ true
    → list_all is_sound_operation os ≡ true
sound_operations [] a b c d = refl
sound_operations (o ∷ os) a b c d =
    let x = and_parts (has_types_so is_lawful o) (list_all (has_types_so is_lawful) os) a in
    let y = and_parts (has_types_so is_told_apart o) (list_all (has_types_so is_told_apart) os) b in
    let z = and_parts (has_types_so is_small_kind o) (list_all (has_types_so is_small_kind) os) c in
    let w = and_parts (has_params_apart o) (list_all has_params_apart os) d in
    let x' = and_parts (is_result_so is_lawful o.result) (list_all (λ p. is_lawful p.kind) o.params) x.0 in
    let y' = and_parts (is_result_so is_told_apart o.result) (list_all (λ p. is_told_apart p.kind) o.params) y.0 in
    let z' = and_parts (is_result_so is_small_kind o.result) (list_all (λ p. is_small (leaves_of p.kind) (levels_of p.kind)) o.params) z.0 in
    and_from (is_sound_operation o) (list_all is_sound_operation os)
    (and_from (is_sound_result o.result) (list_all (λ p. is_sound_type p.kind) o.params && are_apart (map (λ p. p.name) o.params)) (sound_result o.result x'.0 y'.0 z'.0)
    (and_from (list_all (λ p. is_sound_type p.kind) o.params) (are_apart (map (λ p. p.name) o.params)) (sound_params o.params x'.1 y'.1 z'.1) w.0))
    (sound_operations os x.1 y.1 z.1 w.1)

sound_thing : (us : List Thing) (t : Thing) → HasLawfulTypes us t → HasNamesApart us t → HasSmallTypes us t → HasParamsApart us t → HasOperationsApart us t → is_sound_thing t ≡ true
sound_thing us (constant c) l n s p o = sound_type c.kind l n s
sound_thing us (named t) l n s p o = sound_type t.kind l n s
sound_thing us (exception e) l n s p o =
    let ms = members_of e.members in
    let few = nat_le (leaves_of_members ms) most_leaves && nat_le (levels_of_members ms) most_levels in
    and_from (are_lawful ms) (are_told_apart ms && few) l (and_from (are_told_apart ms) few n s)
sound_thing us (interface i) l n s p o =
    and_from (list_all is_sound_operation i.operations) (differ bytes_eq (operation_names i.operations)) (sound_operations i.operations l n s p) o

may_declare_so : (us : List Thing) (t : Thing) → IsNew us t → HasEarlierBases us t → HasSmallTypes us t → HasNamesApart us t → HasLawfulTypes us t → HasParamsApart us t → HasOperationsApart us t → HasInheritedFirst us t → HasLeavesLeft us t
    → MayDeclare us t
may_declare_so us t new bases small names lawful params apart inherits room =
    let free : not (is_reserved (id_of t)) ≡ true = not_from_false (is_reserved (id_of t)) new.1 in
    let left = nat_le (file_leaves us + counted_leaves t) most_file_leaves in
    and_from (not (is_reserved (id_of t))) (may_hold us t) free
    (and_from (is_sound_thing t && is_derived_in us t) ((is_new us t && is_own t) && left)
    (and_from (is_sound_thing t) (is_derived_in us t) (sound_thing us t lawful names small params apart) (and_from (has_bases_in us t) (inherits_in us t) bases inherits))
    (and_from (is_new us t && is_own t) left (and_from (is_new us t) (is_own t) new.0 (or_left (not (is_reserved (id_of t))) (is_built_in (id_of t)) free)) room))

-- so of each
each_taken : (before ts : List Thing) → Each IsNew before ts → Each HasEarlierBases before ts → Each HasSmallTypes before ts → Each HasNamesApart before ts → Each HasLawfulTypes before ts → Each HasParamsApart before ts
    → Each HasOperationsApart before ts → Each HasInheritedFirst before ts → Each HasLeavesLeft before ts → Each MayDeclare before ts
each_taken before [] a b c d e f g h i = tt
each_taken before (t ∷ ts) a b c d e f g h i =
    (may_declare_so before t a.0 b.0 c.0 d.0 e.0 f.0 g.0 h.0 i.0, each_taken (before ++ t ∷ []) ts a.1 b.1 c.1 d.1 e.1 f.1 g.1 h.1 i.1)

pub repositories_take_texts : TextsGive MayDeclare
repositories_take_texts text ts w =
    each_taken [] ts (texts_give_new_ids text ts w) (texts_give_earlier_bases text ts w) (texts_give_small_types text ts w) (texts_give_apart_names text ts w) (texts_give_lawful_types text ts w) (texts_give_apart_params text ts w)
    (texts_give_apart_operations text ts w) (texts_inherit_first text ts w) (texts_leave_room text ts w)

-- the one after those before it
pub each_behind : (P : List Thing → Thing → Type 0) (before old : List Thing) (t : Thing) (rest : List Thing) → Each P before (old ++ t ∷ rest) → P (before ++ old) t
each_behind P before [] t rest h = subst (λ (us : List Thing). P us t) (sym (append-nil before)) h.0
each_behind P before (u ∷ old) t rest h = subst (λ (us : List Thing). P us t) (append_assoc before (u ∷ []) old) (each_behind P (before ++ u ∷ []) old t rest h.1)

taken_of : (old : List Thing) (o : Option Thing) (rest : List Thing) → Each MayDeclare [] (old ++ (listed o ++ rest)) → Takes old o
taken_of old None rest h = tt
taken_of old (Some t) rest h = each_behind MayDeclare [] old t rest h

-- what the next name declares, after what those before it do
pub taken_next : (table : Table) (all : List names.Thing) (ts : List names_declared.Thing) (i : ℕ) (x : names_declared.Thing) (old total : List Thing) → i < length ts → x ≡ get_or ts i x
    → old ++ declared_from table all i (drop i (map thing_of ts)) ≡ total → Each MayDeclare [] total → Takes old (declared_at table all i (thing_of x))
taken_next table all ts i x old total less is so_far h =
    taken_of old (declared_at table all i (thing_of x)) (declared_from table all (i + 1) (drop (i + 1) (map thing_of ts)))
    (subst (Each MayDeclare []) (sym so_far ∙ ap (λ (us : List names.Thing). old ++ declared_from table all i us) (thing_next ts i x less is)) h)
