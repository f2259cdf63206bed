-- What the labels of the grammar do keeps scopes in order.
use Rattle.std.proofs.Common.{◌≡◌, ℕ, ◌-◌, ◌<◌, ◌+◌, arith, Bool, true, false, not, List, length, Option, Some, None, Result, Ok, Err, refl, subst}
use Rattle.std.specs.Prelude.{nat_lt, slice_get}
use Rattle.std.proofs.lemmas.Option.{none-some, cond_some, slice_get_within}
use Rattle.grammar.specs.Language.{Placed}
use Rattle.grammar.specs.Reading.{◌>>=◌}
use Rattle.grammar.proofs.Basics.{bind_ok}
use Rattle.idl_tokens.specs.declared.kind.Kind.{Kind}
use Rattle.idl_grammar.specs.declared.fault.IdlFault.{IdlFault}
use Rattle.idl_grammar.specs.declared.fault.IdlCause.TheVariants as cause
use Rattle.idl_grammar.specs.declared.label.IdlLabel.{IdlLabel}
use Rattle.idl_grammar.specs.declared.label.IdlLabel.TheVariants as l
use Rattle.idl_scopes.specs.Table.{Declared, Table, module_}
use Rattle.idl_scopes.specs.Table as table
use Rattle.idl_scopes.specs.Finding.{outer, own, sort_in, sort_at, is_module, if_module, module_in}
use Rattle.idl_scopes.specs.Taking.{is_taken_part}
use Rattle.idl_scopes.proofs.NotTaken.{part_absent}
use Rattle.idl_constants.specs.Fitting.{fit}
use Rattle.idl_names.specs.Sizes.{Sized, plus, leaf}
use Rattle.cdr_values.specs.Trees.{scalar, structure, union, enumeration, members_of, cases_of}
use Rattle.idl_names.specs.State.{Thing, nothing, interface, type, exception, constant, enumerator, Built, no_parts}
use Rattle.idl_constants.specs.ConstValues.{Value}
use Rattle.idl_names.specs.Changes.{place_of, unless, newest, opened, thing_at, place_at, name_at, with_name, declare_in, declare, enter, become, leave, ends, counted, measured}
use Rattle.idl_names.specs.ScopedNames as names
use Rattle.idl_names.specs.Values as values
use Rattle.idl_names.specs.Bodies as bodies
use Rattle.idl_names.specs.Interfaces as interfaces
use Rattle.idl_names.specs.Labels.{act_in_body, act_on_value, act, judge}
use Rattle.idl_reader.proofs.NameTokens.{IsNameText}
use Rattle.idl_reader.proofs.KeptNames.{IsOrderly, like, Kept, kept_ok, kept_err, kept_then, kept_unless, kept_counted, kept_measured, kept_fitting, unless_ok, added_orderly, kept_declare_in, kept_declare, kept_enter, outer_inside, left_orderly, became_orderly, kept_ends, named_orderly, set_orderly}

-- the labels at whose tokens a name is declared
abbrev pub declares : IdlLabel → Bool
declares l.Module = true
declares l.Interface = true
declares l.Declare = true
declares l.Open = true
declares l.Enumerator = true
declares l.Attribute = true
declares l.Param = true
declares label = false

-- the label of a parameter's name
abbrev pub is_param : IdlLabel → Bool
is_param l.Param = true
is_param label = false

kept_like : (s c : Built) → IsOrderly s → s.scopes ≡ c.scopes → s.here ≡ c.here → s.things ≡ c.things → Kept (Ok c)
kept_like s c o a b d = kept_ok c (like s c o a b d)

kept_typed : (r : Result Sized IdlFault) (s : Built) → IsOrderly s → Kept (names.typed_so r s)
kept_typed (Ok k) s o = kept_like s _ o refl refl refl
kept_typed (Err f) s o = kept_err f

kept_valued : (r : Result Value IdlFault) (s : Built) → IsOrderly s → Kept (names.valued_so r s)
kept_valued (Ok v) s o = kept_like s _ o refl refl refl
kept_valued (Err f) s o = kept_err f

kept_bound : (r : Result ℕ IdlFault) (s : Built) → IsOrderly s → Kept (values.bound_so r s)
kept_bound (Ok n) s o = kept_like s _ o refl refl refl
kept_bound (Err f) s o = kept_err f

kept_length : (r : Result ℕ IdlFault) (s : Built) → IsOrderly s → Kept (values.length_so r s)
kept_length (Ok n) s o = kept_like s _ o refl refl refl
kept_length (Err f) s o = kept_err f

kept_measured_name : (s : Built) → IsOrderly s → Kept (bodies.measured_name s)
kept_measured_name s o = kept_measured (bodies.declared_type s) (place_at s (newest s)) s o

kept_typedef : (s : Built) → IsOrderly s → Kept (bodies.typedef s)
kept_typedef s o =
    let k = bodies.declared_type s in
    let p = place_at s (newest s) in
    kept_then (bodies.measured_name s >>= counted k.leaves p) (bodies.type_named k)
    (kept_then (bodies.measured_name s) (counted k.leaves p) (kept_measured_name s o) (λ x ox. kept_counted k.leaves p x ox))
    (λ x ox. kept_ok (bodies.named (type k) x) (named_orderly (type k) x ox))

kept_member : (s : Built) → IsOrderly s → Kept (bodies.member s)
kept_member s o = kept_then (bodies.measured_name s) bodies.member_named (kept_measured_name s o) (λ x ox.
    let y = record x { parts = bodies.with_member (name_at x (newest x)) (bodies.declared_type x) x.parts } in
    kept_ok (bodies.named nothing y) (named_orderly nothing y (like x y ox refl refl refl)))

kept_case_member : (s : Built) → IsOrderly s → Kept (bodies.case_member s)
kept_case_member s o = kept_then (bodies.measured_name s) bodies.case_named (kept_measured_name s o) (λ x ox.
    let y = record x { parts = bodies.with_case (name_at x (newest x)) (bodies.declared_type x) x.parts } in
    kept_ok (bodies.named nothing y) (named_orderly nothing y (like x y ox refl refl refl)))

kept_ends_type : (k : Sized) (s : Built) → IsOrderly s → Kept (bodies.ends_type k s)
kept_ends_type k s o =
    let p = place_at s (opened s) in
    kept_then (measured k p s >>= counted k.leaves p) (ends table.other (type k))
    (kept_then (measured k p s) (counted k.leaves p) (kept_measured k p s o) (λ x ox. kept_counted k.leaves p x ox))
    (λ x ox. kept_ends table.other (type k) x ox)

kept_base : (thing : Thing) (s : Built) → IsOrderly s → Kept (interfaces.base_named thing s)
kept_base thing s o =
    let f = λ (x : Built). unless (interfaces.base_clashes x) cause.Clash x.last x in
    kept_then (unless (not (interfaces.is_interface thing)) cause.WrongKind s.last s >>= f) interfaces.with_base
    (kept_then (unless (not (interfaces.is_interface thing)) cause.WrongKind s.last s) f (kept_unless _ cause.WrongKind s.last s o) (λ x ox. kept_unless _ cause.Clash x.last x ox))
    (λ x ox. kept_like x _ ox refl refl refl)

kept_switch : (s : Built) → IsOrderly s → Kept (bodies.switch s)
kept_switch s o = kept_then _ _ (kept_unless _ cause.WrongKind s.last s o) (λ x ox. kept_like x _ ox refl refl refl)

kept_labelled : (s : Built) → IsOrderly s → Kept (bodies.labelled s)
kept_labelled s o = kept_then _ _ (kept_unless _ cause.TwiceCase s.value.at s o) (λ x ox. kept_like x _ ox refl refl refl)

kept_end_const : (s : Built) → IsOrderly s → Kept (values.end_const s)
kept_end_const s o =
    let p = place_at s (newest s) in
    kept_then (values.fitting (fit s.type.kind s.value.value) s >>= counted 1 p) values.constant_named
    (kept_then (values.fitting (fit s.type.kind s.value.value) s) (counted 1 p) (kept_fitting (fit s.type.kind s.value.value) s o) (λ x ox. kept_counted 1 p x ox))
    (λ x ox.
    let thing = constant x.type.kind x.value.value in
    kept_ok (become (newest x) table.other thing x) (became_orderly (newest x) table.other thing x ox))

kept_raised : (thing : Thing) (s : Built) → IsOrderly s → Kept (interfaces.raised thing s)
kept_raised thing s o = kept_then _ interfaces.with_raised (kept_unless _ cause.WrongKind s.last s o) (λ x ox. kept_like x _ ox refl refl refl)

with_operation_orderly : (scope i : ℕ) (s : Built) → IsOrderly s → IsOrderly (interfaces.with_operation scope i s)
with_operation_orderly scope i s o = set_orderly (scope - 1) _ s o

kept_end_operation : (s : Built) → IsOrderly s → Kept (interfaces.end_operation s)
kept_end_operation s o =
    kept_then (counted (plus s.parts.leaves 1) (place_at s (opened s)) s) interfaces.operation_ended (kept_counted (plus s.parts.leaves 1) (place_at s (opened s)) s o)
    (λ x ox. kept_ends table.operation (interfaces.operation_read x) (interfaces.with_operation (outer x.scopes x.here) (opened x) x) (with_operation_orderly (outer x.scopes x.here) (opened x) x ox))

-- what is judged without a token
pub kept_judge : (label : IdlLabel) (s : Built) → IsOrderly s → Kept (judge label s)
kept_judge l.Base s o = kept_base (names.meaning s) s o
kept_judge l.Inherit s o = kept_counted (interfaces.leaves_from s.things 0 (interfaces.inherited s)) (place_at s (newest s)) s o
kept_judge l.UseType s o = kept_typed (names.type_in (names.meaning s) s.last) s o
kept_judge l.UseConst s o = kept_valued (names.value_in (names.meaning s) s.last) s o
kept_judge l.Bound s o = kept_bound (values.size_in s.value) s o
kept_judge l.Length s o = kept_length (values.size_in s.value) s o
kept_judge l.Typedef s o = kept_typedef s o
kept_judge l.Member s o = kept_member s o
kept_judge l.CaseMember s o = kept_case_member s o
kept_judge l.Switch s o = kept_switch s o
kept_judge l.CaseLabel s o = kept_then _ bodies.labelled (kept_fitting (fit s.parts.discriminator s.value.value) s o) (λ x ox. kept_labelled x ox)
kept_judge l.ConstType s o = kept_unless _ cause.WrongKind s.last s o
kept_judge l.EndConst s o = kept_end_const s o
kept_judge l.EndAttribute s o = kept_like s _ o refl refl refl
kept_judge l.ResultName s o = kept_then (names.use_type (names.meaning s) s) _ (kept_typed (names.type_in (names.meaning s) s.last) s o) (λ x ox. kept_err _)
kept_judge l.Result s o = kept_like s _ o refl refl refl
kept_judge l.Raised s o = kept_raised (names.meaning s) s o
kept_judge l.EndOperation s o = kept_end_operation s o
kept_judge label s o = kept_ok s o

sort_there : (ds : List Declared) (i : ℕ) (o : Option Declared) → slice_get ds i ≡ o → is_module (sort_in o) ≡ true → i < length ds
sort_there ds i None e h = absurd cc
sort_there ds i (Some d) e h = slice_get_within ds i d e

module_there : (t : Table) (o : Option ℕ) (i : ℕ) → if_module t o ≡ Some i → i < length t.declared
module_there t None i e = absurd (none-some i e)
module_there t (Some j) i e =
    let p = cond_some (is_module (sort_at t j)) j i e in
    subst (λ (n : ℕ). n < length t.declared) p.1 (sort_there t.declared j (slice_get t.declared j) refl p.0)

kept_open_module : (t : Placed Kind) (s : Built) (o : Option ℕ) → ((i : ℕ) → o ≡ Some i → i < length s.scopes.declared) → IsOrderly s → IsNameText t.text
    → Kept (names.open_module t s o)
kept_open_module t s (Some i) there o plain = kept_ok (record s { here = i + 1 }) (let h = there i refl in record { names = o.names; keyed = o.keyed; inside = omega arith; free = o.free; paired = o.paired })
kept_open_module t s None there o plain =
    kept_then (declare_in s.here module_ nothing t s) enter (kept_declare_in s.here module_ nothing t s o o.inside plain) (λ x ox. kept_enter x ox)

kept_part : (t : Placed Kind) (s : Built) (o : Option ℕ) → IsOrderly s → Kept (names.part_found t s o)
kept_part t s None o = kept_err _
kept_part t s (Some i) o = kept_like s _ o refl refl refl

kept_enumerate : (t : Placed Kind) (s : Built) → IsOrderly s → IsNameText t.text → Kept (bodies.enumerate t s)
kept_enumerate t s o plain =
    let thing = enumerator (bodies.open_id s) (length s.parts.enumerators) in
    kept_then (declare_in (outer s.scopes s.here) table.other thing t s) (bodies.label_named t) (kept_declare_in (outer s.scopes s.here) table.other thing t s o (outer_inside s o) plain)
    (λ x ox. kept_like x _ ox refl refl refl)

kept_attribute : (t : Placed Kind) (s : Built) → IsOrderly s → IsNameText t.text → Kept (interfaces.attribute t s)
kept_attribute t s o plain =
    let thing = interfaces.attribute_of s.parts.readonly t.text s.type in
    kept_then (declare_in s.here table.operation thing t s >>= interfaces.attribute_counted t) interfaces.attribute_held
    (kept_then (declare_in s.here table.operation thing t s) (interfaces.attribute_counted t) (kept_declare_in s.here table.operation thing t s o o.inside plain)
    (λ x ox. kept_counted (interfaces.operation_leaves (thing_at x (newest x))) (place_of t) x ox))
    (λ x ox. kept_ok (interfaces.with_operation x.here (newest x) x) (with_operation_orderly x.here (newest x) x ox))

kept_declare_param : (t : Placed Kind) (s : Built) → IsOrderly s → IsNameText t.text → 0 < s.here → Kept (interfaces.declare_param t s)
kept_declare_param t s o plain inner c e =
    let m = bind_ok (unless (is_taken_part s.scopes t.text s.here) cause.Clash (place_of t) s) (λ x. Ok (with_name x.here table.other nothing t x)) c e in
    let u = unless_ok (is_taken_part s.scopes t.text s.here) cause.Clash (place_of t) s m.0 m.1 in
    kept_ok (with_name m.0.here table.other nothing t m.0)
    (subst (λ (x : Built). IsOrderly (with_name x.here table.other nothing t x)) u.1 (added_orderly s.here table.other nothing t s o o.inside plain (part_absent s.scopes t.text s.here u.0) (λ z low. absurd (omega arith)))) c m.2

kept_param : (t : Placed Kind) (s : Built) → IsOrderly s → IsNameText t.text → 0 < s.here → Kept (interfaces.param t s)
kept_param t s o plain inner = kept_then (interfaces.declare_param t s) (interfaces.param_named t) (kept_declare_param t s o plain inner) (λ x ox. kept_like x _ ox refl refl refl)

kept_end_exception : (s : Built) → IsOrderly s → Kept (bodies.end_exception s)
kept_end_exception s o =
    let p = place_at s (opened s) in
    kept_then (unless (nat_lt 65536 s.parts.leaves) cause.TooLarge p s >>= counted s.parts.leaves p) (ends table.other (exception s.parts.members))
    (kept_then (unless (nat_lt 65536 s.parts.leaves) cause.TooLarge p s) (counted s.parts.leaves p) (kept_unless _ cause.TooLarge p s o) (λ x ox. kept_counted s.parts.leaves p x ox))
    (λ x ox. kept_ends table.other (exception s.parts.members) x ox)

kept_in_body : (label : IdlLabel) (t : Placed Kind) (s : Built) → (declares label ≡ true → IsNameText t.text) → (is_param label ≡ true → 0 < s.here) → IsOrderly s → Kept (act_in_body label t s)
kept_in_body l.EndStruct t s plain inner o =
    kept_ends_type (record { kind = structure (bodies.open_id s) (members_of s.parts.members); leaves = s.parts.leaves; levels = plus s.parts.levels 1 }) s o
kept_in_body l.EndException t s plain inner o = kept_end_exception s o
kept_in_body l.DefaultLabel t s plain inner o = kept_then _ _ (kept_unless _ cause.TwiceCase (place_of t) s o) (λ x ox. kept_like x _ ox refl refl refl)
kept_in_body l.EndUnion t s plain inner o =
    kept_ends_type
    (record { kind = union (bodies.open_id s) s.parts.discriminator (cases_of s.parts.cases); leaves = plus s.parts.leaves 1; levels = plus s.parts.levels 1 }) s o
kept_in_body l.Enumerator t s plain inner o = kept_enumerate t s o (plain refl)
kept_in_body l.EndEnum t s plain inner o = kept_ends_type (leaf (scalar (enumeration (bodies.open_id s) s.parts.enumerators))) s o
kept_in_body l.ReadOnly t s plain inner o = kept_like s _ o refl refl refl
kept_in_body l.Attribute t s plain inner o = kept_attribute t s o (plain refl)
kept_in_body l.OneWay t s plain inner o = kept_like s _ o refl refl refl
kept_in_body l.LongResultName t s plain inner o = kept_err _
kept_in_body l.In t s plain inner o = kept_then _ _ (kept_unless _ cause.BadOneway (place_of t) s o) (λ x ox. kept_like x _ ox refl refl refl)
kept_in_body l.Out t s plain inner o = kept_then _ _ (kept_unless _ cause.BadOneway (place_of t) s o) (λ x ox. kept_like x _ ox refl refl refl)
kept_in_body l.InOut t s plain inner o = kept_then _ _ (kept_unless _ cause.BadOneway (place_of t) s o) (λ x ox. kept_like x _ ox refl refl refl)
kept_in_body l.Param t s plain inner o = kept_param t s o (plain refl) (inner refl)
kept_in_body l.Raises t s plain inner o = kept_then _ _ (kept_unless _ cause.BadOneway (place_of t) s o) (λ x ox. kept_like x _ ox refl refl refl)
kept_in_body label t s plain inner o = kept_ok s o

kept_on_value : (label : IdlLabel) (t : Placed Kind) (s : Built) → (declares label ≡ true → IsNameText t.text) → (is_param label ≡ true → 0 < s.here) → IsOrderly s → Kept (act_on_value label t s)
kept_on_value l.Sign t s plain inner o = kept_like s _ o refl refl refl
kept_on_value l.Number t s plain inner o = kept_like s _ o refl refl refl
kept_on_value l.Plus t s plain inner o = kept_like s _ o refl refl refl
kept_on_value l.Minus t s plain inner o = kept_like s _ o refl refl refl
kept_on_value l.Character t s plain inner o = kept_like s _ o refl refl refl
kept_on_value l.Text t s plain inner o = kept_like s _ o refl refl refl
kept_on_value (l.Truth b) t s plain inner o = kept_like s _ o refl refl refl
kept_on_value label t s plain inner o = kept_in_body label t s plain inner o

-- what is done at a token
pub kept_act : (label : IdlLabel) (t : Placed Kind) (s : Built) → (declares label ≡ true → IsNameText t.text) → (is_param label ≡ true → 0 < s.here) → IsOrderly s → Kept (act label t s)
kept_act (l.Refuse c) t s plain inner o = kept_err _
kept_act l.Module t s plain inner o =
    kept_open_module t s (module_in s.scopes t.text s.here) (λ i e. module_there s.scopes (own s.scopes t.text s.here) i e) o (plain refl)
kept_act l.EndModule t s plain inner o = kept_ok (leave s) (left_orderly s o)
kept_act l.Interface t s plain inner o = kept_declare t s o (plain refl)
kept_act l.OpenInterface t s plain inner o =
    let sort = table.interface s.parts.given in
    let thing = interface s.parts.bases (interfaces.inherited s) in
    let y = become (newest s) sort thing s in
    let z = record y { parts = no_parts } in
    kept_enter z (like y z (became_orderly (newest s) sort thing s o) refl refl refl)
kept_act l.EndInterface t s plain inner o = kept_ok (leave s) (left_orderly s o)
kept_act l.Rooted t s plain inner o = kept_like s _ o refl refl refl
kept_act l.NamePart t s plain inner o = kept_part t s (names.find_part t.text s s.search) o
kept_act (l.Basic b) t s plain inner o = kept_like s _ o refl refl refl
kept_act l.AnyText t s plain inner o = kept_like s _ o refl refl refl
kept_act l.BoundedText t s plain inner o = kept_like s _ o refl refl refl
kept_act l.Sequence t s plain inner o = kept_like s _ o refl refl refl
kept_act l.Declare t s plain inner o = kept_declare t s o (plain refl)
kept_act l.Open t s plain inner o = kept_then (declare t s) enter (kept_declare t s o (plain refl)) (λ x ox. kept_enter x ox)
kept_act label t s plain inner o = kept_on_value label t s plain inner o
