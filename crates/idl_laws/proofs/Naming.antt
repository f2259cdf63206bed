-- No name is read but at the labels of scoped names.
use Rattle.std.proofs.Common.{◌≡◌, ℕ, ◌+◌, Bool, true, false, length, Option, Some, None, Result, Ok, Err, refl}
use Rattle.std.specs.Prelude.{nat_lt}
use Rattle.std.proofs.lemmas.Bool.{cond_both}
use Rattle.grammar.specs.Language.{Placed}
use Rattle.grammar.specs.Reading.{◌>>=◌}
use Rattle.cdr_values.specs.Trees.{scalar, structure, union, enumeration, members_of, cases_of}
use Rattle.idl_tokens.specs.declared.kind.Kind.{Kind}
use Rattle.idl_grammar.specs.declared.fault.IdlFault.{IdlFault}
use Rattle.idl_grammar.specs.declared.fault.IdlCause.{IdlCause}
use Rattle.idl_grammar.specs.declared.fault.IdlCause.TheVariants as cause
use Rattle.idl_grammar.specs.declared.label.IdlLabel.{IdlLabel}
use Rattle.idl_grammar.specs.declared.label.IdlLabel.TheVariants as l
use Rattle.idl_scopes.specs.declared.place.Place.{Place}
use Rattle.idl_scopes.specs.Table.{Sort, module_}
use Rattle.idl_scopes.specs.Table as table
use Rattle.idl_scopes.specs.Finding.{outer, module_in}
use Rattle.idl_constants.specs.ConstValues.{Value}
use Rattle.idl_constants.specs.Fitting.{Fit, fit}
use Rattle.idl_names.specs.Sizes.{Sized, plus, leaf}
use Rattle.idl_names.specs.State.{Thing, nothing, exception, enumerator, fresh, Built}
use Rattle.idl_names.specs.Changes.{Done, place_of, refused, unless, newest, opened, thing_at, place_at, declare_in, declare, enter, leave, ended, ends, counted, measured}
use Rattle.idl_names.specs.ScopedNames as names
use Rattle.idl_names.specs.Values as values
use Rattle.idl_names.specs.Bodies as bodies
use Rattle.idl_names.specs.Interfaces as interfaces
use Rattle.idl_names.specs.Labels.{act_in_body, act_on_value, act, judge}
use Rattle.idl_laws.specs.Names.{is_use}
use Rattle.idl_reader.proofs.Steps.{Gives, gives_ok, gives_err, gives_then, gives_unless}

-- no name is read
abbrev pub IsIdle : Built → Type 0
IsIdle s = s.search ≡ fresh

-- and none after a step
abbrev Idle : Done → Type 0
Idle r = Gives IsIdle r

idle_ok : (c : Built) → IsIdle c → Idle (Ok c)
idle_ok c o = gives_ok IsIdle c o

idle_err : (f : IdlFault) → Idle (Err f)
idle_err f = gives_err IsIdle f

idle_then : (r : Done) (f : Built → Done) → Idle r → ((x : Built) → IsIdle x → Idle (f x)) → Idle (r >>= f)
idle_then r f h k = gives_then IsIdle IsIdle r f h k

idle_unless : (d : IdlCause) (p : Place) (s : Built) → IsIdle s → (x : Bool) → Idle (unless x d p s)
idle_unless d p s o x = gives_unless IsIdle x d p s o

idle_counted : (n : ℕ) (p : Place) (s : Built) → IsIdle s → Idle (counted n p s)
idle_counted n p s o =
    cond_both (nat_lt 1048576 (s.leaves + n)) (refused cause.TooLarge p) (Ok (record s { leaves = s.leaves + n })) Idle
    (λ e. idle_err _) (λ e. idle_ok (record s { leaves = s.leaves + n }) o)

idle_fitting : (f : Fit) (s : Built) → IsIdle s → Idle (values.fitting f s)
idle_fitting (Ok x) s o = idle_ok s o
idle_fitting (Err m) s o = idle_err _

idle_declare_in : (scope : ℕ) (sort : Sort) (thing : Thing) (t : Placed Kind) (s : Built) → IsIdle s
    → Idle (declare_in scope sort thing t s)
idle_declare_in scope sort thing t s o = idle_then _ _ (idle_unless cause.Clash (place_of t) s o _) (λ x ox. idle_ok _ ox)

idle_declare : (t : Placed Kind) (s : Built) → IsIdle s → Idle (declare t s)
idle_declare t s o = idle_declare_in s.here table.unfinished nothing t s o

idle_ends : (sort : Sort) (thing : Thing) (s : Built) → IsIdle s → Idle (ends sort thing s)
idle_ends sort thing s o = idle_ok (ended sort thing s) o

idle_measured : (k : Sized) (p : Place) (s : Built) → IsIdle s → Idle (measured k p s)
idle_measured k p s o = idle_unless cause.TooLarge p s o _

idle_measured_name : (s : Built) → IsIdle s → Idle (bodies.measured_name s)
idle_measured_name s o = idle_measured (bodies.declared_type s) (place_at s (newest s)) s o

idle_ends_type : (k : Sized) (s : Built) → IsIdle s → Idle (bodies.ends_type k s)
idle_ends_type k s o =
    let p = place_at s (opened s) in
    idle_then (measured k p s >>= counted k.leaves p) _
    (idle_then (measured k p s) (counted k.leaves p) (idle_measured k p s o) (λ x ox. idle_counted k.leaves p x ox))
    (λ x ox. idle_ends table.other _ x ox)

idle_typedef : (s : Built) → IsIdle s → Idle (bodies.typedef s)
idle_typedef s o =
    let k = bodies.declared_type s in
    let p = place_at s (newest s) in
    idle_then (bodies.measured_name s >>= counted k.leaves p) (bodies.type_named k)
    (idle_then (bodies.measured_name s) (counted k.leaves p) (idle_measured_name s o) (λ x ox. idle_counted k.leaves p x ox))
    (λ x ox. idle_ok _ ox)

idle_end_const : (s : Built) → IsIdle s → Idle (values.end_const s)
idle_end_const s o =
    let p = place_at s (newest s) in
    idle_then (values.fitting (fit s.type.kind s.value.value) s >>= counted 1 p) values.constant_named
    (idle_then (values.fitting (fit s.type.kind s.value.value) s) (counted 1 p) (idle_fitting _ s o) (λ x ox. idle_counted 1 p x ox))
    (λ x ox. idle_ok _ ox)

idle_end_exception : (s : Built) → IsIdle s → Idle (bodies.end_exception s)
idle_end_exception s o =
    let p = place_at s (opened s) in
    let first = unless (nat_lt 65536 s.parts.leaves) cause.TooLarge p s in
    idle_then (first >>= counted s.parts.leaves p) (ends table.other (exception s.parts.members))
    (idle_then first (counted s.parts.leaves p) (idle_unless cause.TooLarge p s o _) (λ x ox. idle_counted s.parts.leaves p x ox))
    (λ x ox. idle_ends table.other (exception s.parts.members) x ox)

idle_attribute : (t : Placed Kind) (s : Built) → IsIdle s → Idle (interfaces.attribute t s)
idle_attribute t s o =
    let thing = interfaces.attribute_of s.parts.readonly t.text s.type in
    idle_then (declare_in s.here table.operation thing t s >>= interfaces.attribute_counted t) interfaces.attribute_held
    (idle_then (declare_in s.here table.operation thing t s) (interfaces.attribute_counted t)
    (idle_declare_in s.here table.operation thing t s o)
    (λ x ox. idle_counted (interfaces.operation_leaves (thing_at x (newest x))) (place_of t) x ox))
    (λ x ox. idle_ok (interfaces.with_operation x.here (newest x) x) ox)

idle_param : (t : Placed Kind) (s : Built) → IsIdle s → Idle (interfaces.param t s)
idle_param t s o =
    idle_then (interfaces.declare_param t s) (interfaces.param_named t)
    (idle_then _ _ (idle_unless cause.Clash (place_of t) s o _) (λ x ox. idle_ok _ ox)) (λ x ox. idle_ok _ ox)

idle_end_operation : (s : Built) → IsIdle s → Idle (interfaces.end_operation s)
idle_end_operation s o =
    let p = place_at s (opened s) in
    idle_then (counted (plus s.parts.leaves 1) p s) interfaces.operation_ended (idle_counted (plus s.parts.leaves 1) p s o)
    (λ x ox. idle_ends table.operation (interfaces.operation_read x) (interfaces.with_operation (outer x.scopes x.here) (opened x) x) ox)

idle_bound : (r : Result ℕ IdlFault) (s : Built) → IsIdle s → Idle (values.bound_so r s)
idle_bound (Ok n) s o = idle_ok _ o
idle_bound (Err f) s o = idle_err f

idle_length : (r : Result ℕ IdlFault) (s : Built) → IsIdle s → Idle (values.length_so r s)
idle_length (Ok n) s o = idle_ok _ o
idle_length (Err f) s o = idle_err f

idle_open_module : (t : Placed Kind) (s : Built) (x : Option ℕ) → IsIdle s → Idle (names.open_module t s x)
idle_open_module t s (Some i) o = idle_ok _ o
idle_open_module t s None o =
    idle_then (declare_in s.here module_ nothing t s) enter (idle_declare_in s.here module_ nothing t s o) (λ x ox. idle_ok _ ox)

-- ---- at tokens

-- the labels of the parts of a scoped name
abbrev pub is_of_name : IdlLabel → Bool
is_of_name l.Rooted = true
is_of_name l.NamePart = true
is_of_name label = false

idle_in_body : (label : IdlLabel) (t : Placed Kind) (s : Built) → IsIdle s → Idle (act_in_body label t s)
idle_in_body l.EndStruct t s o =
    let kind = structure (bodies.open_id s) (members_of s.parts.members) in
    idle_ends_type (record { kind = kind; leaves = s.parts.leaves; levels = plus s.parts.levels 1 }) s o
idle_in_body l.EndException t s o = idle_end_exception s o
idle_in_body l.DefaultLabel t s o = idle_then _ _ (idle_unless cause.TwiceCase (place_of t) s o _) (λ x ox. idle_ok _ ox)
idle_in_body l.EndUnion t s o =
    let kind = union (bodies.open_id s) s.parts.discriminator (cases_of s.parts.cases) in
    idle_ends_type (record { kind = kind; leaves = plus s.parts.leaves 1; levels = plus s.parts.levels 1 }) s o
idle_in_body l.Enumerator t s o =
    let thing = enumerator (bodies.open_id s) (length s.parts.enumerators) in
    idle_then (declare_in (outer s.scopes s.here) table.other thing t s) (bodies.label_named t)
    (idle_declare_in (outer s.scopes s.here) table.other thing t s o) (λ x ox. idle_ok _ ox)
idle_in_body l.EndEnum t s o = idle_ends_type (leaf (scalar (enumeration (bodies.open_id s) s.parts.enumerators))) s o
idle_in_body l.ReadOnly t s o = idle_ok _ o
idle_in_body l.Attribute t s o = idle_attribute t s o
idle_in_body l.OneWay t s o = idle_ok _ o
idle_in_body l.LongResultName t s o = idle_err _
idle_in_body l.In t s o = idle_then _ _ (idle_unless cause.BadOneway (place_of t) s o _) (λ x ox. idle_ok _ ox)
idle_in_body l.Out t s o = idle_then _ _ (idle_unless cause.BadOneway (place_of t) s o _) (λ x ox. idle_ok _ ox)
idle_in_body l.InOut t s o = idle_then _ _ (idle_unless cause.BadOneway (place_of t) s o _) (λ x ox. idle_ok _ ox)
idle_in_body l.Param t s o = idle_param t s o
idle_in_body l.Raises t s o = idle_then _ _ (idle_unless cause.BadOneway (place_of t) s o _) (λ x ox. idle_ok _ ox)
idle_in_body label t s o = idle_ok s o

idle_on_value : (label : IdlLabel) (t : Placed Kind) (s : Built) → IsIdle s → Idle (act_on_value label t s)
idle_on_value l.Sign t s o = idle_ok _ o
idle_on_value l.Number t s o = idle_ok _ o
idle_on_value l.Plus t s o = idle_ok _ o
idle_on_value l.Minus t s o = idle_ok _ o
idle_on_value l.Character t s o = idle_ok _ o
idle_on_value l.Text t s o = idle_ok _ o
idle_on_value (l.Truth b) t s o = idle_ok _ o
idle_on_value label t s o = idle_in_body label t s o

-- no name is read after any other label
pub idle_act : (label : IdlLabel) (t : Placed Kind) (s : Built) → is_of_name label ≡ false → IsIdle s → Idle (act label t s)
idle_act (l.Refuse c) t s n o = idle_err _
idle_act l.Module t s n o = idle_open_module t s (module_in s.scopes t.text s.here) o
idle_act l.EndModule t s n o = idle_ok (leave s) o
idle_act l.Interface t s n o = idle_declare t s o
idle_act l.OpenInterface t s n o = idle_ok _ o
idle_act l.EndInterface t s n o = idle_ok (leave s) o
idle_act l.Rooted t s n o = absurd cc
idle_act l.NamePart t s n o = absurd cc
idle_act (l.Basic b) t s n o = idle_ok _ o
idle_act l.AnyText t s n o = idle_ok _ o
idle_act l.BoundedText t s n o = idle_ok _ o
idle_act l.Sequence t s n o = idle_ok _ o
idle_act l.Declare t s n o = idle_declare t s o
idle_act l.Open t s n o = idle_then (declare t s) enter (idle_declare t s o) (λ x ox. idle_ok _ ox)
idle_act label t s n o = idle_on_value label t s o

-- ---- without a token

idle_typed : (r : Result Sized IdlFault) (s : Built) → Idle (names.typed_so r s)
idle_typed (Ok k) s = idle_ok _ refl
idle_typed (Err f) s = idle_err f

idle_valued : (r : Result Value IdlFault) (s : Built) → Idle (names.valued_so r s)
idle_valued (Ok v) s = idle_ok _ refl
idle_valued (Err f) s = idle_err f

-- after a label that uses it no name is read
pub idle_uses : (label : IdlLabel) (s : Built) → is_use label ≡ true → Idle (judge label s)
idle_uses l.Base s u = gives_then (λ x. Unit {0}) IsIdle _ interfaces.with_base (λ c e. tt) (λ x ox. idle_ok _ refl)
idle_uses l.UseType s u = idle_typed (names.type_in (names.meaning s) s.last) s
idle_uses l.UseConst s u = idle_valued (names.value_in (names.meaning s) s.last) s
idle_uses l.Raised s u = gives_then (λ x. Unit {0}) IsIdle _ interfaces.with_raised (λ c e. tt) (λ x ox. idle_ok _ refl)
idle_uses l.ResultName s u = gives_then (λ x. Unit {0}) IsIdle (names.use_type (names.meaning s) s) _ (λ c e. tt) (λ x ox. idle_err _)
idle_uses label s u = absurd cc

-- and none after any other
pub idle_judge : (label : IdlLabel) (s : Built) → is_use label ≡ false → IsIdle s → Idle (judge label s)
idle_judge l.Base s u o = absurd cc
idle_judge l.UseType s u o = absurd cc
idle_judge l.UseConst s u o = absurd cc
idle_judge l.Raised s u o = absurd cc
idle_judge l.ResultName s u o = absurd cc
idle_judge l.Inherit s u o = idle_counted (interfaces.leaves_from s.things 0 (interfaces.inherited s)) (place_at s (newest s)) s o
idle_judge l.Bound s u o = idle_bound (values.size_in s.value) s o
idle_judge l.Length s u o = idle_length (values.size_in s.value) s o
idle_judge l.Typedef s u o = idle_typedef s o
idle_judge l.Member s u o = idle_then (bodies.measured_name s) bodies.member_named (idle_measured_name s o) (λ x ox. idle_ok _ ox)
idle_judge l.CaseMember s u o = idle_then (bodies.measured_name s) bodies.case_named (idle_measured_name s o) (λ x ox. idle_ok _ ox)
idle_judge l.Switch s u o = idle_then _ _ (idle_unless cause.WrongKind s.last s o _) (λ x ox. idle_ok _ ox)
idle_judge l.CaseLabel s u o =
    idle_then _ bodies.labelled (idle_fitting (fit s.parts.discriminator s.value.value) s o)
    (λ x ox. idle_then _ _ (idle_unless cause.TwiceCase x.value.at x ox _) (λ y oy. idle_ok _ oy))
idle_judge l.ConstType s u o = idle_unless cause.WrongKind s.last s o _
idle_judge l.EndConst s u o = idle_end_const s o
idle_judge l.EndAttribute s u o = idle_ok _ o
idle_judge l.Result s u o = idle_ok _ o
idle_judge l.EndOperation s u o = idle_end_operation s o
idle_judge label s u o = idle_ok s o
