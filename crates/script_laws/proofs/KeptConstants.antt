-- The constants of a text have values that fit their types, at each of its tokens.
use Rattle.std.proofs.Common.{◌≡◌, inl, inr, ℕ, ◌+◌, ◌-◌, Bool, true, false, not, List, [], ◌∷◌, ◌++◌, length, set, Option, Some, None, Result, Ok, Err, refl, sym, ap, subst, ◌∙◌}
use Rattle.std.specs.Prelude.{nat_lt, slice_get}
use Rattle.std.proofs.lemmas.Bool.{cond_both}
use Rattle.std.proofs.lemmas.Option.{none-some}
use Rattle.grammar.specs.Language.{Placed}
use Rattle.grammar.specs.Reading.{◌>>=◌}
use Rattle.cdr_values.specs.Trees.{scalar, structure, union, enumeration, members_of, cases_of}
use Rattle.idl_tokens.specs.declared.kind.Kind.{Kind}
use Rattle.idl_grammar.specs.declared.fault.IdlFault.{IdlFault}
use Rattle.idl_grammar.specs.declared.fault.IdlCause.{IdlCause}
use Rattle.idl_grammar.specs.declared.fault.IdlCause.TheVariants as cause
use Rattle.idl_grammar.specs.declared.label.IdlLabel.{IdlLabel}
use Rattle.idl_grammar.specs.declared.label.IdlLabel.TheVariants as l
use Rattle.idl_scopes.specs.declared.place.Place.{Place}
use Rattle.idl_scopes.specs.Table.{Sort, module_}
use Rattle.idl_scopes.specs.Table as table
use Rattle.idl_scopes.specs.Finding.{outer, module_in}
use Rattle.idl_scopes.specs.Taking.{is_taken, is_taken_part}
use Rattle.idl_constants.specs.ConstValues.{Value, label_of}
use Rattle.idl_constants.specs.Fitting.{Fit, fit}
use Rattle.idl_names.specs.Sizes.{Sized, plus, leaf}
use Rattle.idl_names.specs.State.{Thing, nothing, interface, type, exception, constant, enumerator, operations, no_parts, Built}
use Rattle.idl_names.specs.Changes.{Done, place_of, refused, unless, newest, opened, thing_in, thing_at, place_at, with_name, declare_in, declare, entered, enter, become, leave, ended, ends, counted, measured}
use Rattle.idl_names.specs.ScopedNames as names
use Rattle.idl_names.specs.Values as values
use Rattle.idl_names.specs.Bodies as bodies
use Rattle.idl_names.specs.Interfaces as interfaces
use Rattle.idl_names.specs.Labels.{act, judge}
use Rattle.idl_names.specs.Whole.{Declares}
use Rattle.idl_reader.proofs.Steps.{Gives, gives_ok, gives_err, gives_then, gives_unless}
use Rattle.idl_reader.proofs.Tables.{get_behind}
use Rattle.idl_reader.proofs.ThingLists.{get_set}
use Rattle.idl_reader.proofs.Places.{text_keeps}

-- a constant has a value of its type
abbrev pub HasFitting : Thing → Type 0
HasFitting (constant k v) = fit k v ≡ Ok tt
HasFitting nothing = Unit {0}
HasFitting (interface bs os) = Unit {0}
HasFitting (type k) = Unit {0}
HasFitting (exception ms) = Unit {0}
HasFitting (enumerator id n) = Unit {0}
HasFitting (operations os n) = Unit {0}

-- so of all
abbrev pub AllFit : Built → Type 0
AllFit s = (i : ℕ) (x : Thing) → slice_get s.things i ≡ Some x → HasFitting x

abbrev Kept : Done → Type 0
Kept r = Gives AllFit r

-- a state with the same things
alike : (s c : Built) → AllFit s → s.things ≡ c.things → AllFit c
alike s c h e = subst (λ (ts : List Thing). (i : ℕ) (x : Thing) → slice_get ts i ≡ Some x → HasFitting x) e h

kept_like : (s c : Built) → AllFit s → s.things ≡ c.things → Kept (Ok c)
kept_like s c h e = gives_ok AllFit c (alike s c h e)

kept_then : (r : Done) (f : Built → Done) → Kept r → ((x : Built) → AllFit x → Kept (f x)) → Kept (r >>= f)
kept_then r f h k = gives_then AllFit AllFit r f h k

kept_unless : (b : Bool) (d : IdlCause) (p : Place) (s : Built) → AllFit s → Kept (unless b d p s)
kept_unless b d p s h = gives_unless AllFit b d p s h

kept_counted : (n : ℕ) (p : Place) (s : Built) → AllFit s → Kept (counted n p s)
kept_counted n p s h =
    cond_both (nat_lt 1048576 (s.leaves + n)) (refused cause.TooLarge p) (Ok (record s { leaves = s.leaves + n })) Kept
    (λ e. gives_err AllFit _) (λ e. kept_like s (record s { leaves = s.leaves + n }) h refl)

kept_fitting : (f : Fit) (s : Built) → AllFit s → Kept (values.fitting f s)
kept_fitting (Ok x) s h = gives_ok AllFit s h
kept_fitting (Err m) s h = gives_err AllFit _

kept_so : (b : Bool) (d : IdlCause) (p : Place) (s : Built) (f : Built → Built) → ((x : Built) → x.things ≡ (f x).things) → AllFit s → Kept (unless b d p s >>= (λ x. Ok (f x)))
kept_so b d p s f k h = kept_then (unless b d p s) (λ x. Ok (f x)) (kept_unless b d p s h) (λ x hx. kept_like x (f x) hx (k x))

-- a thing more, and a thing that is set
things_more : (s c : Built) (x : Thing) → AllFit s → c.things ≡ s.things ++ x ∷ [] → HasFitting x → AllFit c
things_more s c x h e m = λ i y g. elim (get_behind s.things x y i (ap (λ (ts : List Thing). slice_get ts i) (sym e) ∙ g)) [ inl q ↦ h i y q | inr q ↦ subst HasFitting q.1 m ]

things_set : (s c : Built) (n : ℕ) (x : Thing) → AllFit s → c.things ≡ set s.things n x → HasFitting x → AllFit c
things_set s c n x h e m = λ i y g. elim (get_set s.things n i x y (ap (λ (ts : List Thing). slice_get ts i) (sym e) ∙ g)) [ inl q ↦ subst HasFitting q.1 m | inr q ↦ h i y q.1 ]

kept_set : (s c : Built) (n : ℕ) (x : Thing) → AllFit s → c.things ≡ set s.things n x → HasFitting x → Kept (Ok c)
kept_set s c n x h e m = gives_ok AllFit c (things_set s c n x h e m)

kept_use_type : (r : Result Sized IdlFault) (s : Built) → AllFit s → Kept (names.typed_so r s)
kept_use_type (Ok k) s h = kept_like s _ h refl
kept_use_type (Err f) s h = gives_err AllFit f

kept_valued : (r : Result Value IdlFault) (s : Built) → AllFit s → Kept (names.valued_so r s)
kept_valued (Ok v) s h = kept_like s _ h refl
kept_valued (Err f) s h = gives_err AllFit f

kept_bound : (r : Result ℕ IdlFault) (s : Built) → AllFit s → Kept (values.bound_so r s)
kept_bound (Ok n) s h = kept_like s _ h refl
kept_bound (Err f) s h = gives_err AllFit f

kept_length : (r : Result ℕ IdlFault) (s : Built) → AllFit s → Kept (values.length_so r s)
kept_length (Ok n) s h = kept_like s _ h refl
kept_length (Err f) s h = gives_err AllFit f

kept_part : (t : Placed Kind) (s : Built) (o : Option ℕ) → AllFit s → Kept (names.part_found t s o)
kept_part t s None h = gives_err AllFit _
kept_part t s (Some i) h = kept_like s _ h refl

kept_declare_in : (scope : ℕ) (sort : Sort) (thing : Thing) (t : Placed Kind) (s : Built) → AllFit s → HasFitting thing → Kept (declare_in scope sort thing t s)
kept_declare_in scope sort thing t s h m =
    kept_then (unless (is_taken s.scopes t.text scope) cause.Clash (place_of t) s) (λ x. Ok (with_name scope sort thing t x)) (kept_unless _ cause.Clash (place_of t) s h)
    (λ x hx. gives_ok AllFit (with_name scope sort thing t x) (things_more x (with_name scope sort thing t x) thing hx refl m))

kept_declare : (t : Placed Kind) (s : Built) → AllFit s → Kept (declare t s)
kept_declare t s h = kept_declare_in s.here table.unfinished nothing t s h tt

kept_enter : (s : Built) → AllFit s → Kept (enter s)
kept_enter s h = kept_like s (entered s) h refl

kept_open_module : (t : Placed Kind) (s : Built) (o : Option ℕ) → AllFit s → Kept (names.open_module t s o)
kept_open_module t s (Some i) h = kept_like s (record s { here = i + 1 }) h refl
kept_open_module t s None h = kept_then (declare_in s.here module_ nothing t s) enter (kept_declare_in s.here module_ nothing t s h tt) (λ x hx. kept_enter x hx)

kept_enumerate : (t : Placed Kind) (s : Built) → AllFit s → Kept (bodies.enumerate t s)
kept_enumerate t s h =
    let thing = enumerator (bodies.open_id s) (length s.parts.enumerators) in
    kept_then (declare_in (outer s.scopes s.here) table.other thing t s) (bodies.label_named t) (kept_declare_in (outer s.scopes s.here) table.other thing t s h tt)
    (λ x hx. kept_like x _ hx refl)

kept_typedef : (s : Built) → AllFit s → Kept (bodies.typedef s)
kept_typedef s h =
    let k = bodies.declared_type s in
    let p = place_at s (newest s) in
    kept_then (bodies.measured_name s >>= counted k.leaves p) (bodies.type_named k)
    (kept_then (bodies.measured_name s) (counted k.leaves p) (kept_unless _ cause.TooLarge p s h) (λ x hx. kept_counted k.leaves p x hx))
    (λ x hx. gives_ok AllFit (bodies.named (type k) x) (things_set x (bodies.named (type k) x) (newest x) (type k) hx refl tt))

kept_member : (s : Built) → AllFit s → Kept (bodies.member s)
kept_member s h =
    kept_then (bodies.measured_name s) bodies.member_named (kept_unless _ cause.TooLarge (place_at s (newest s)) s h)
    (λ x hx. kept_set x _ (newest x) nothing hx refl tt)

kept_case_member : (s : Built) → AllFit s → Kept (bodies.case_member s)
kept_case_member s h =
    kept_then (bodies.measured_name s) bodies.case_named (kept_unless _ cause.TooLarge (place_at s (newest s)) s h)
    (λ x hx. kept_set x _ (newest x) nothing hx refl tt)

kept_ends : (sort : Sort) (thing : Thing) (s : Built) → AllFit s → HasFitting thing → Kept (ends sort thing s)
kept_ends sort thing s h m = gives_ok AllFit (ended sort thing s) (things_set s (ended sort thing s) (opened s) thing h refl m)

kept_ends_type : (k : Sized) (s : Built) → AllFit s → Kept (bodies.ends_type k s)
kept_ends_type k s h =
    let p = place_at s (opened s) in
    kept_then (measured k p s >>= counted k.leaves p) (ends table.other (type k))
    (kept_then (measured k p s) (counted k.leaves p) (kept_unless _ cause.TooLarge p s h) (λ x hx. kept_counted k.leaves p x hx)) (λ x hx. kept_ends table.other (type k) x hx tt)

kept_end_exception : (s : Built) → AllFit s → Kept (bodies.end_exception s)
kept_end_exception s h =
    let p = place_at s (opened s) in
    let thing = exception s.parts.members in
    kept_then (unless (nat_lt 65536 s.parts.leaves) cause.TooLarge p s >>= counted s.parts.leaves p) (ends table.other thing)
    (kept_then (unless (nat_lt 65536 s.parts.leaves) cause.TooLarge p s) (counted s.parts.leaves p) (kept_unless _ cause.TooLarge p s h) (λ x hx. kept_counted s.parts.leaves p x hx))
    (λ x hx. kept_ends table.other thing x hx tt)

-- the newest value fits the newest type
abbrev NowFits : Built → Type 0
NowFits s = AllFit s × (fit s.type.kind s.value.value ≡ Ok tt)

now_fitting : (f : Fit) (s : Built) → fit s.type.kind s.value.value ≡ f → AllFit s → Gives NowFits (values.fitting f s)
now_fitting (Ok x) s e h = gives_ok NowFits s (h, e)
now_fitting (Err m) s e h = gives_err NowFits _

now_counted : (n : ℕ) (p : Place) (s : Built) → NowFits s → Gives NowFits (counted n p s)
now_counted n p s h =
    cond_both (nat_lt 1048576 (s.leaves + n)) (refused cause.TooLarge p) (Ok (record s { leaves = s.leaves + n })) (Gives NowFits)
    (λ e. gives_err NowFits _) (λ e. gives_ok NowFits (record s { leaves = s.leaves + n }) (alike s (record s { leaves = s.leaves + n }) h.0 refl, h.1))

kept_end_const : (s : Built) → AllFit s → Kept (values.end_const s)
kept_end_const s h =
    let p = place_at s (newest s) in
    let f = fit s.type.kind s.value.value in
    gives_then NowFits AllFit (values.fitting f s >>= counted 1 p) values.constant_named
    (gives_then NowFits NowFits (values.fitting f s) (counted 1 p) (now_fitting f s refl h) (λ x hx. now_counted 1 p x hx))
    (λ x hx.
    let thing = constant x.type.kind x.value.value in
    gives_ok AllFit (become (newest x) table.other thing x) (things_set x (become (newest x) table.other thing x) (newest x) thing hx.0 refl hx.1))

kept_base : (thing : Thing) (s : Built) → AllFit s → Kept (interfaces.base_named thing s)
kept_base thing s h =
    let f = λ (x : Built). unless (interfaces.base_clashes x) cause.Clash x.last x in
    kept_then (unless (not (interfaces.is_interface thing)) cause.WrongKind s.last s >>= f) interfaces.with_base
    (kept_then (unless (not (interfaces.is_interface thing)) cause.WrongKind s.last s) f (kept_unless _ cause.WrongKind s.last s h) (λ x hx. kept_unless _ cause.Clash x.last x hx))
    (λ x hx. kept_like x _ hx refl)

kept_open_interface : (s : Built) → AllFit s → Kept (interfaces.open_interface s)
kept_open_interface s h =
    let thing = interface s.parts.bases (interfaces.inherited s) in
    let y = record (become (newest s) (table.interface s.parts.given) thing s) { parts = no_parts } in
    kept_enter y (things_set s y (newest s) thing h refl tt)

gained_fit : (at : ℕ) (ts : List Thing) (i : ℕ) (o : Option Thing) → slice_get ts i ≡ o → ((j : ℕ) (x : Thing) → slice_get ts j ≡ Some x → HasFitting x) → HasFitting (interfaces.and_operation at (thing_in o))
gained_fit at ts i None e h = tt
gained_fit at ts i (Some (interface bs os)) e h = tt
gained_fit at ts i (Some nothing) e h = tt
gained_fit at ts i (Some (type k)) e h = tt
gained_fit at ts i (Some (exception ms)) e h = tt
gained_fit at ts i (Some (constant k v)) e h = h i (constant k v) e
gained_fit at ts i (Some (enumerator id n)) e h = tt
gained_fit at ts i (Some (operations os n)) e h = tt

with_operation_fit : (scope at : ℕ) (s : Built) → AllFit s → AllFit (interfaces.with_operation scope at s)
with_operation_fit scope at s h =
    things_set s (interfaces.with_operation scope at s) (scope - 1) (interfaces.and_operation at (thing_at s (scope - 1))) h refl
    (gained_fit at s.things (scope - 1) (slice_get s.things (scope - 1)) refl h)

kept_end_operation : (s : Built) → AllFit s → Kept (interfaces.end_operation s)
kept_end_operation s h =
    kept_then (counted (plus s.parts.leaves 1) (place_at s (opened s)) s) interfaces.operation_ended (kept_counted (plus s.parts.leaves 1) (place_at s (opened s)) s h)
    (λ x hx.
    let y = interfaces.with_operation (outer x.scopes x.here) (opened x) x in
    gives_ok AllFit (ended table.operation (interfaces.operation_read x) y)
    (things_set y (ended table.operation (interfaces.operation_read x) y) (opened y) (interfaces.operation_read x) (with_operation_fit (outer x.scopes x.here) (opened x) x hx) refl tt))

attribute_fit : (b : Bool) (name : List ℕ) (k : Sized) → HasFitting (interfaces.attribute_of b name k)
attribute_fit true name k = tt
attribute_fit false name k = tt

kept_attribute : (t : Placed Kind) (s : Built) → AllFit s → Kept (interfaces.attribute t s)
kept_attribute t s h =
    let thing = interfaces.attribute_of s.parts.readonly t.text s.type in
    kept_then (declare_in s.here table.operation thing t s >>= interfaces.attribute_counted t) interfaces.attribute_held
    (kept_then (declare_in s.here table.operation thing t s) (interfaces.attribute_counted t) (kept_declare_in s.here table.operation thing t s h (attribute_fit s.parts.readonly t.text s.type))
    (λ x hx. kept_counted (interfaces.operation_leaves (thing_at x (newest x))) (place_of t) x hx))
    (λ x hx. gives_ok AllFit (interfaces.with_operation x.here (newest x) x) (with_operation_fit x.here (newest x) x hx))

kept_param : (t : Placed Kind) (s : Built) → AllFit s → Kept (interfaces.param t s)
kept_param t s h =
    kept_then (interfaces.declare_param t s) (interfaces.param_named t)
    (kept_then (unless (is_taken_part s.scopes t.text s.here) cause.Clash (place_of t) s) (λ x. Ok (with_name x.here table.other nothing t x)) (kept_unless _ cause.Clash (place_of t) s h)
    (λ x hx. gives_ok AllFit (with_name x.here table.other nothing t x) (things_more x (with_name x.here table.other nothing t x) nothing hx refl tt)))
    (λ x hx. kept_like x _ hx refl)

kept_labelled : (s : Built) → AllFit s → Kept (bodies.labelled s)
kept_labelled s h = kept_so _ cause.TwiceCase s.value.at s (λ x. record x { parts = bodies.with_label (label_of x.value.value) x.parts }) (λ x. refl) h

-- what each label keeps so at its token
fit_at : (label : IdlLabel) (t : Placed Kind) (s : Built) → AllFit s → Kept (act label t s)
fit_at (l.Refuse c) t s h = gives_err AllFit _
fit_at l.Module t s h = kept_open_module t s (module_in s.scopes t.text s.here) h
fit_at l.EndModule t s h = kept_like s (leave s) h refl
fit_at l.Interface t s h = kept_declare t s h
fit_at l.OpenInterface t s h = kept_open_interface s h
fit_at l.EndInterface t s h = kept_like s (leave s) h refl
fit_at l.Rooted t s h = kept_like s _ h refl
fit_at l.NamePart t s h = kept_part t s (names.find_part t.text s s.search) h
fit_at (l.Basic b) t s h = kept_like s _ h refl
fit_at l.AnyText t s h = kept_like s _ h refl
fit_at l.BoundedText t s h = kept_like s _ h refl
fit_at l.Sequence t s h = kept_like s _ h refl
fit_at l.Declare t s h = kept_declare t s h
fit_at l.Open t s h = kept_then (declare t s) enter (kept_declare t s h) (λ x hx. kept_enter x hx)
fit_at l.Sign t s h = kept_like s _ h refl
fit_at l.Number t s h = kept_like s _ h refl
fit_at l.Plus t s h = kept_like s _ h refl
fit_at l.Minus t s h = kept_like s _ h refl
fit_at l.Character t s h = kept_like s _ h refl
fit_at l.Text t s h = kept_like s _ h refl
fit_at (l.Truth b) t s h = kept_like s _ h refl
fit_at l.EndStruct t s h = kept_ends_type (record { kind = structure (bodies.open_id s) (members_of s.parts.members); leaves = s.parts.leaves; levels = plus s.parts.levels 1 }) s h
fit_at l.EndException t s h = kept_end_exception s h
fit_at l.DefaultLabel t s h = kept_so _ cause.TwiceCase (place_of t) s (λ x. record x { parts = record x.parts { is_default = true } }) (λ x. refl) h
fit_at l.EndUnion t s h =
    kept_ends_type (record { kind = union (bodies.open_id s) s.parts.discriminator (cases_of s.parts.cases); leaves = plus s.parts.leaves 1; levels = plus s.parts.levels 1 }) s h
fit_at l.Enumerator t s h = kept_enumerate t s h
fit_at l.EndEnum t s h = kept_ends_type (leaf (scalar (enumeration (bodies.open_id s) s.parts.enumerators))) s h
fit_at l.ReadOnly t s h = kept_like s _ h refl
fit_at l.Attribute t s h = kept_attribute t s h
fit_at l.OneWay t s h = kept_like s _ h refl
fit_at l.LongResultName t s h = gives_err AllFit _
fit_at l.In t s h = kept_so _ cause.BadOneway (place_of t) s _ (λ x. refl) h
fit_at l.Out t s h = kept_so _ cause.BadOneway (place_of t) s _ (λ x. refl) h
fit_at l.InOut t s h = kept_so _ cause.BadOneway (place_of t) s _ (λ x. refl) h
fit_at l.Param t s h = kept_param t s h
fit_at l.Raises t s h = kept_so _ cause.BadOneway (place_of t) s _ (λ x. refl) h
fit_at label t s h = gives_ok AllFit s h

-- and without a token
fit_alone : (label : IdlLabel) (s : Built) → AllFit s → Kept (judge label s)
fit_alone l.Base s h = kept_base (names.meaning s) s h
fit_alone l.Inherit s h = kept_counted (interfaces.leaves_from s.things 0 (interfaces.inherited s)) (place_at s (newest s)) s h
fit_alone l.UseType s h = kept_use_type (names.type_in (names.meaning s) s.last) s h
fit_alone l.UseConst s h = kept_valued (names.value_in (names.meaning s) s.last) s h
fit_alone l.Bound s h = kept_bound (values.size_in s.value) s h
fit_alone l.Length s h = kept_length (values.size_in s.value) s h
fit_alone l.Typedef s h = kept_typedef s h
fit_alone l.Member s h = kept_member s h
fit_alone l.CaseMember s h = kept_case_member s h
fit_alone l.Switch s h = kept_so _ cause.WrongKind s.last s (λ x. record x { parts = record x.parts { discriminator = x.type.kind } }) (λ x. refl) h
fit_alone l.CaseLabel s h = kept_then (values.fitting (fit s.parts.discriminator s.value.value) s) bodies.labelled (kept_fitting (fit s.parts.discriminator s.value.value) s h) (λ x hx. kept_labelled x hx)
fit_alone l.ConstType s h = kept_unless _ cause.WrongKind s.last s h
fit_alone l.EndConst s h = kept_end_const s h
fit_alone l.EndAttribute s h = kept_like s _ h refl
fit_alone l.ResultName s h = kept_then (names.use_type (names.meaning s) s) _ (kept_use_type (names.type_in (names.meaning s) s.last) s h) (λ x hx. gives_err AllFit _)
fit_alone l.Result s h = kept_like s _ h refl
fit_alone l.Raised s h = kept_so _ cause.WrongKind s.last s _ (λ x. refl) h
fit_alone l.EndOperation s h = kept_end_operation s h
fit_alone label s h = gives_ok AllFit s h

-- the constants of a text have values of their types
pub constants_fit : (text : List ℕ) (new : Built) → Declares text new → AllFit new
constants_fit text new w = text_keeps (λ m s. AllFit s) (λ label m n e t p s c h a. fit_at label t s h c a) (λ label m n e s c h a. fit_alone label s h c a) (λ i x e. absurd (none-some x e)) text new w
