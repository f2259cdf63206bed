-- No result or parameter of an operation of a text is larger than a type may be.
use Rattle.std.proofs.Common.{◌≡◌, inl, inr, ℕ, ◌+◌, ◌-◌, arith, Bool, true, false, not, List, [], ◌∷◌, ◌++◌, length, set, Option, Some, None, Result, Ok, Err, refl, sym, ap, subst, ◌∙◌}
use Rattle.std.specs.Prelude.{nat_lt, slice_get}
use Rattle.std.proofs.lemmas.Bool.{cond_both}
use Rattle.std.proofs.lemmas.Option.{none-some, same_Some}
use Rattle.grammar.specs.Language.{Placed}
use Rattle.grammar.specs.Reading.{◌>>=◌}
use Rattle.grammar.specs.Grammar.{SpelledInner}
use Rattle.grammar.proofs.Basics.{ok_is}
use Rattle.cdr_values.specs.Trees as trees
use Rattle.cdr_values.specs.Trees.{scalar, structure, union, enumeration, words, members_of, cases_of}
use Rattle.idl_tokens.specs.declared.kind.Kind.{Kind}
use Rattle.idl_grammar.specs.declared.fault.IdlFault.{IdlFault}
use Rattle.idl_grammar.specs.declared.fault.IdlCause.{IdlCause}
use Rattle.idl_grammar.specs.declared.fault.IdlCause.TheVariants as cause
use Rattle.idl_grammar.specs.declared.label.Basic.{Basic}
use Rattle.idl_grammar.specs.declared.label.Basic.TheVariants as basic
use Rattle.idl_grammar.specs.declared.label.IdlLabel.{IdlLabel}
use Rattle.idl_grammar.specs.declared.label.IdlLabel.TheVariants as l
use Rattle.idl_grammar.specs.declared.label.Inner.{Inner}
use Rattle.idl_grammar.specs.declared.label.Inner.TheVariants as inner
use Rattle.idl_grammar.specs.IdlRules.{file}
use Rattle.idl_scopes.specs.declared.place.Place.{Place}
use Rattle.idl_scopes.specs.Table.{Sort, module_}
use Rattle.idl_scopes.specs.Table as table
use Rattle.idl_scopes.specs.Finding.{outer, module_in}
use Rattle.idl_scopes.specs.Taking.{is_taken, is_taken_part}
use Rattle.idl_constants.specs.ConstValues.{Value, label_of}
use Rattle.idl_constants.specs.Fitting.{Fit, fit}
use Rattle.idl_types.specs.Things.{OperationView, ParamView}
use Rattle.idl_names.specs.Sizes.{Sized, plus, leaf, basic_kind}
use Rattle.idl_names.specs.State.{Thing, nothing, interface, type, exception, constant, enumerator, operations, no_parts, Built, nothing_built}
use Rattle.idl_names.specs.Changes.{Done, place_of, refused, unless, newest, opened, thing_in, thing_at, place_at, with_name, declare_in, declare, entered, enter, become, leave, ended, ends, counted, measured}
use Rattle.idl_names.specs.ScopedNames as names
use Rattle.idl_names.specs.Values as values
use Rattle.idl_names.specs.Bodies as bodies
use Rattle.idl_names.specs.Interfaces as interfaces
use Rattle.idl_names.specs.Labels.{act, judge}
use Rattle.idl_names.specs.Declaring.{idl}
use Rattle.idl_names.specs.Whole.{Declares}
use Rattle.idl_reader.proofs.EachToken.{EachToken}
use Rattle.idl_reader.proofs.NameTokens.{IsPlainName, plain_names}
use Rattle.idl_reader.proofs.Modes.{Modes, after, rule_leads, inner_leads}
use Rattle.idl_reader.proofs.Steps.{Gives, gives_ok, gives_err, gives_then, gives_unless}
use Rattle.idl_reader.proofs.Tables.{get_behind}
use Rattle.idl_reader.proofs.ThingLists.{get_set}
use Rattle.idl_reader.proofs.SizedTypes.{IsSmall, small}
use Rattle.idl_reader.proofs.Measured.{IsMeasuredThing, IsMeasured, measured_at, measured_alone, nothing_measured}

-- a result, and parameters
abbrev pub IsSmallResult : Option trees.Kind → Type 0
IsSmallResult None = Unit {0}
IsSmallResult (Some k) = IsSmall k

abbrev pub AreSmallParams : List ParamView → Type 0
AreSmallParams [] = Unit {0}
AreSmallParams (p ∷ ps) = IsSmall p.kind × AreSmallParams ps

abbrev pub AreSmallOperations : List OperationView → Type 0
AreSmallOperations [] = Unit {0}
AreSmallOperations (o ∷ os) = (IsSmallResult o.result × AreSmallParams o.params) × AreSmallOperations os

-- what a declaration stands for
abbrev pub HasSmallOperations : Thing → Type 0
HasSmallOperations (operations os n) = AreSmallOperations os
HasSmallOperations thing = Unit {0}

pub record AreOperationsSmall (s : Built) : Type 0 where
  pub things : (i : ℕ) (x : Thing) → slice_get s.things i ≡ Some x → HasSmallOperations x
  pub result : IsSmallResult s.parts.result
  pub params : AreSmallParams s.parts.params

abbrev Kept : Done → Type 0
Kept r = Gives AreOperationsSmall r

-- a state with the same things, result and parameters
alike : (s c : Built) → AreOperationsSmall s → s.things ≡ c.things → s.parts.result ≡ c.parts.result → s.parts.params ≡ c.parts.params → AreOperationsSmall c
alike s c h a b d = record {
  things = subst (λ (ts : List Thing). (i : ℕ) (x : Thing) → slice_get ts i ≡ Some x → HasSmallOperations x) a h.things;
  result = subst IsSmallResult b h.result;
  params = subst AreSmallParams d h.params;
}

kept_like : (s c : Built) → AreOperationsSmall s → s.things ≡ c.things → s.parts.result ≡ c.parts.result → s.parts.params ≡ c.parts.params → Kept (Ok c)
kept_like s c h a b d = gives_ok AreOperationsSmall c (alike s c h a b d)

kept_then : (r : Done) (f : Built → Done) → Kept r → ((x : Built) → AreOperationsSmall x → Kept (f x)) → Kept (r >>= f)
kept_then r f h k = gives_then AreOperationsSmall AreOperationsSmall r f h k

kept_unless : (b : Bool) (d : IdlCause) (p : Place) (s : Built) → AreOperationsSmall s → Kept (unless b d p s)
kept_unless b d p s h = gives_unless AreOperationsSmall b d p s h

kept_counted : (n : ℕ) (p : Place) (s : Built) → AreOperationsSmall s → Kept (counted n p s)
kept_counted n p s h =
    cond_both (nat_lt 1048576 (s.leaves + n)) (refused cause.TooLarge p) (Ok (record s { leaves = s.leaves + n })) Kept
    (λ e. gives_err AreOperationsSmall _) (λ e. kept_like s (record s { leaves = s.leaves + n }) h refl refl refl)

kept_measured : (k : Sized) (p : Place) (s : Built) → AreOperationsSmall s → Kept (measured k p s)
kept_measured k p s h = kept_unless _ cause.TooLarge p s h

kept_fitting : (f : Fit) (s : Built) → AreOperationsSmall s → Kept (values.fitting f s)
kept_fitting (Ok x) s h = gives_ok AreOperationsSmall s h
kept_fitting (Err m) s h = gives_err AreOperationsSmall _

kept_so : (b : Bool) (d : IdlCause) (p : Place) (s : Built) (f : Built → Built) → ((x : Built) → AreOperationsSmall x → AreOperationsSmall (f x)) → AreOperationsSmall s → Kept (unless b d p s >>= (λ x. Ok (f x)))
kept_so b d p s f k h = kept_then (unless b d p s) (λ x. Ok (f x)) (kept_unless b d p s h) (λ x hx. gives_ok AreOperationsSmall (f x) (k x hx))

-- a thing more, and a thing that is set
things_more : (s c : Built) (x : Thing) → AreOperationsSmall s → c.things ≡ s.things ++ x ∷ [] → HasSmallOperations x → IsSmallResult c.parts.result → AreSmallParams c.parts.params → AreOperationsSmall c
things_more s c x h e m a b = record {
  things = λ i y g. elim (get_behind s.things x y i (ap (λ (ts : List Thing). slice_get ts i) (sym e) ∙ g)) [ inl q ↦ h.things i y q | inr q ↦ subst HasSmallOperations q.1 m ];
  result = a;
  params = b;
}

things_set : (s c : Built) (n : ℕ) (x : Thing) → AreOperationsSmall s → c.things ≡ set s.things n x → HasSmallOperations x → IsSmallResult c.parts.result → AreSmallParams c.parts.params → AreOperationsSmall c
things_set s c n x h e m a b = record {
  things = λ i y g. elim (get_set s.things n i x y (ap (λ (ts : List Thing). slice_get ts i) (sym e) ∙ g)) [ inl q ↦ subst HasSmallOperations q.1 m | inr q ↦ h.things i y q.1 ];
  result = a;
  params = b;
}

kept_typed : (r : Result Sized IdlFault) (s : Built) → AreOperationsSmall s → Kept (names.typed_so r s)
kept_typed (Ok k) s h = kept_like s _ h refl refl refl
kept_typed (Err f) s h = gives_err AreOperationsSmall f

kept_valued : (r : Result Value IdlFault) (s : Built) → AreOperationsSmall s → Kept (names.valued_so r s)
kept_valued (Ok v) s h = kept_like s _ h refl refl refl
kept_valued (Err f) s h = gives_err AreOperationsSmall f

kept_bound : (r : Result ℕ IdlFault) (s : Built) → AreOperationsSmall s → Kept (values.bound_so r s)
kept_bound (Ok n) s h = kept_like s _ h refl refl refl
kept_bound (Err f) s h = gives_err AreOperationsSmall f

kept_length : (r : Result ℕ IdlFault) (s : Built) → AreOperationsSmall s → Kept (values.length_so r s)
kept_length (Ok n) s h = kept_like s _ h refl refl refl
kept_length (Err f) s h = gives_err AreOperationsSmall f

kept_part : (t : Placed Kind) (s : Built) (o : Option ℕ) → AreOperationsSmall s → Kept (names.part_found t s o)
kept_part t s None h = gives_err AreOperationsSmall _
kept_part t s (Some i) h = kept_like s _ h refl refl refl

kept_declare_in : (scope : ℕ) (sort : Sort) (thing : Thing) (t : Placed Kind) (s : Built) → AreOperationsSmall s → HasSmallOperations thing → Kept (declare_in scope sort thing t s)
kept_declare_in scope sort thing t s h m =
    kept_then (unless (is_taken s.scopes t.text scope) cause.Clash (place_of t) s) (λ x. Ok (with_name scope sort thing t x)) (kept_unless _ cause.Clash (place_of t) s h)
    (λ x hx. gives_ok AreOperationsSmall (with_name scope sort thing t x) (things_more x (with_name scope sort thing t x) thing hx refl m hx.result hx.params))

kept_declare : (t : Placed Kind) (s : Built) → AreOperationsSmall s → Kept (declare t s)
kept_declare t s h = kept_declare_in s.here table.unfinished nothing t s h tt

kept_enter : (s : Built) → AreOperationsSmall s → Kept (enter s)
kept_enter s h = kept_like s (entered s) h refl refl refl

kept_leave : (s : Built) → AreOperationsSmall s → Kept (Ok (leave s))
kept_leave s h = gives_ok AreOperationsSmall (leave s) (record { things = h.things; result = tt; params = tt })

kept_open_module : (t : Placed Kind) (s : Built) (o : Option ℕ) → AreOperationsSmall s → Kept (names.open_module t s o)
kept_open_module t s (Some i) h = kept_like s (record s { here = i + 1 }) h refl refl refl
kept_open_module t s None h = kept_then (declare_in s.here module_ nothing t s) enter (kept_declare_in s.here module_ nothing t s h tt) (λ x hx. kept_enter x hx)

kept_enumerate : (t : Placed Kind) (s : Built) → AreOperationsSmall s → Kept (bodies.enumerate t s)
kept_enumerate t s h =
    let thing = enumerator (bodies.open_id s) (length s.parts.enumerators) in
    kept_then (declare_in (outer s.scopes s.here) table.other thing t s) (bodies.label_named t) (kept_declare_in (outer s.scopes s.here) table.other thing t s h tt)
    (λ x hx. kept_like x _ hx refl refl refl)

kept_typedef : (s : Built) → AreOperationsSmall s → Kept (bodies.typedef s)
kept_typedef s h =
    let k = bodies.declared_type s in
    let p = place_at s (newest s) in
    kept_then (bodies.measured_name s >>= counted k.leaves p) (bodies.type_named k)
    (kept_then (bodies.measured_name s) (counted k.leaves p) (kept_measured k p s h) (λ x hx. kept_counted k.leaves p x hx))
    (λ x hx. gives_ok AreOperationsSmall (bodies.named (type k) x) (things_set x (bodies.named (type k) x) (newest x) (type k) hx refl tt hx.result hx.params))

kept_member : (s : Built) → AreOperationsSmall s → Kept (bodies.member s)
kept_member s h =
    kept_then (bodies.measured_name s) bodies.member_named (kept_measured (bodies.declared_type s) (place_at s (newest s)) s h)
    (λ x hx. gives_ok AreOperationsSmall _ (things_set x _ (newest x) nothing hx refl tt hx.result hx.params))

kept_case_member : (s : Built) → AreOperationsSmall s → Kept (bodies.case_member s)
kept_case_member s h =
    kept_then (bodies.measured_name s) bodies.case_named (kept_measured (bodies.declared_type s) (place_at s (newest s)) s h)
    (λ x hx. gives_ok AreOperationsSmall _ (things_set x _ (newest x) nothing hx refl tt hx.result hx.params))

kept_ends : (sort : Sort) (thing : Thing) (s : Built) → AreOperationsSmall s → HasSmallOperations thing → Kept (ends sort thing s)
kept_ends sort thing s h m = gives_ok AreOperationsSmall (ended sort thing s) (things_set s (ended sort thing s) (opened s) thing h refl m tt tt)

kept_ends_type : (k : Sized) (s : Built) → AreOperationsSmall s → Kept (bodies.ends_type k s)
kept_ends_type k s h =
    let p = place_at s (opened s) in
    kept_then (measured k p s >>= counted k.leaves p) (ends table.other (type k))
    (kept_then (measured k p s) (counted k.leaves p) (kept_measured k p s h) (λ x hx. kept_counted k.leaves p x hx)) (λ x hx. kept_ends table.other (type k) x hx tt)

kept_end_exception : (s : Built) → AreOperationsSmall s → Kept (bodies.end_exception s)
kept_end_exception s h =
    let p = place_at s (opened s) in
    let thing = exception s.parts.members in
    kept_then (unless (nat_lt 65536 s.parts.leaves) cause.TooLarge p s >>= counted s.parts.leaves p) (ends table.other thing)
    (kept_then (unless (nat_lt 65536 s.parts.leaves) cause.TooLarge p s) (counted s.parts.leaves p) (kept_unless _ cause.TooLarge p s h) (λ x hx. kept_counted s.parts.leaves p x hx))
    (λ x hx. kept_ends table.other thing x hx tt)

kept_end_const : (s : Built) → AreOperationsSmall s → Kept (values.end_const s)
kept_end_const s h =
    let p = place_at s (newest s) in
    kept_then (values.fitting (fit s.type.kind s.value.value) s >>= counted 1 p) values.constant_named
    (kept_then (values.fitting (fit s.type.kind s.value.value) s) (counted 1 p) (kept_fitting (fit s.type.kind s.value.value) s h) (λ x hx. kept_counted 1 p x hx))
    (λ x hx.
    let thing = constant x.type.kind x.value.value in
    gives_ok AreOperationsSmall (become (newest x) table.other thing x) (things_set x (become (newest x) table.other thing x) (newest x) thing hx refl tt hx.result hx.params))

kept_base : (thing : Thing) (s : Built) → AreOperationsSmall s → Kept (interfaces.base_named thing s)
kept_base thing s h =
    let f = λ (x : Built). unless (interfaces.base_clashes x) cause.Clash x.last x in
    kept_then (unless (not (interfaces.is_interface thing)) cause.WrongKind s.last s >>= f) interfaces.with_base
    (kept_then (unless (not (interfaces.is_interface thing)) cause.WrongKind s.last s) f (kept_unless _ cause.WrongKind s.last s h) (λ x hx. kept_unless _ cause.Clash x.last x hx))
    (λ x hx. kept_like x _ hx refl refl refl)

kept_open_interface : (s : Built) → AreOperationsSmall s → Kept (interfaces.open_interface s)
kept_open_interface s h =
    let thing = interface s.parts.bases (interfaces.inherited s) in
    let y = record (become (newest s) (table.interface s.parts.given) thing s) { parts = no_parts } in
    kept_enter y (things_set s y (newest s) thing h refl tt tt tt)

gained_small : (at : ℕ) (ts : List Thing) (i : ℕ) (o : Option Thing) → slice_get ts i ≡ o → ((j : ℕ) (x : Thing) → slice_get ts j ≡ Some x → HasSmallOperations x) → HasSmallOperations (interfaces.and_operation at (thing_in o))
gained_small at ts i None e h = tt
gained_small at ts i (Some (interface bs os)) e h = tt
gained_small at ts i (Some nothing) e h = tt
gained_small at ts i (Some (type k)) e h = tt
gained_small at ts i (Some (exception ms)) e h = tt
gained_small at ts i (Some (constant k v)) e h = tt
gained_small at ts i (Some (enumerator id n)) e h = tt
gained_small at ts i (Some (operations os n)) e h = h i (operations os n) e

with_operation_small : (scope at : ℕ) (s : Built) → AreOperationsSmall s → AreOperationsSmall (interfaces.with_operation scope at s)
with_operation_small scope at s h =
    things_set s (interfaces.with_operation scope at s) (scope - 1) (interfaces.and_operation at (thing_at s (scope - 1))) h refl
    (gained_small at s.things (scope - 1) (slice_get s.things (scope - 1)) refl h.things) h.result h.params

kept_end_operation : (s : Built) → AreOperationsSmall s → Kept (interfaces.end_operation s)
kept_end_operation s h =
    kept_then (counted (plus s.parts.leaves 1) (place_at s (opened s)) s) interfaces.operation_ended (kept_counted (plus s.parts.leaves 1) (place_at s (opened s)) s h)
    (λ x hx.
    let y = interfaces.with_operation (outer x.scopes x.here) (opened x) x in
    gives_ok AreOperationsSmall (ended table.operation (interfaces.operation_read x) y)
    (things_set y (ended table.operation (interfaces.operation_read x) y) (opened y) (interfaces.operation_read x) (with_operation_small (outer x.scopes x.here) (opened x) x hx) refl ((hx.result, hx.params), tt) tt tt))

attribute_small : (b : Bool) (name : List ℕ) (k : Sized) → IsSmall k.kind → HasSmallOperations (interfaces.attribute_of b name k)
attribute_small true name k m = ((m, tt), tt)
attribute_small false name k m = ((m, tt), ((tt, (m, tt)), tt))

kept_attribute : (t : Placed Kind) (s : Built) → IsSmall s.type.kind → AreOperationsSmall s → Kept (interfaces.attribute t s)
kept_attribute t s m h =
    let thing = interfaces.attribute_of s.parts.readonly t.text s.type in
    kept_then (declare_in s.here table.operation thing t s >>= interfaces.attribute_counted t) interfaces.attribute_held
    (kept_then (declare_in s.here table.operation thing t s) (interfaces.attribute_counted t) (kept_declare_in s.here table.operation thing t s h (attribute_small s.parts.readonly t.text s.type m))
    (λ x hx. kept_counted (interfaces.operation_leaves (thing_at x (newest x))) (place_of t) x hx))
    (λ x hx. gives_ok AreOperationsSmall (interfaces.with_operation x.here (newest x) x) (with_operation_small x.here (newest x) x hx))

params_more : (ps : List ParamView) (p : ParamView) → AreSmallParams ps → IsSmall p.kind → AreSmallParams (ps ++ p ∷ [])
params_more [] p h m = (m, tt)
params_more (q ∷ ps) p h m = (h.0, params_more ps p h.1 m)

kept_param : (t : Placed Kind) (s : Built) → IsSmall s.type.kind → AreOperationsSmall s → Kept (interfaces.param t s)
kept_param t s m h c e =
    let first = unless (is_taken_part s.scopes t.text s.here) cause.Clash (place_of t) s in
    let second : Built → Done = λ x. Ok (with_name x.here table.other nothing t x) in
    let k = λ (x : Built). IsSmall x.type.kind × AreOperationsSmall x in
    gives_then k AreOperationsSmall (interfaces.declare_param t s) (interfaces.param_named t)
    (gives_then k k first second (gives_unless k (is_taken_part s.scopes t.text s.here) cause.Clash (place_of t) s (m, h))
    (λ x hx. gives_ok k (with_name x.here table.other nothing t x) (hx.0, things_more x (with_name x.here table.other nothing t x) nothing hx.1 refl tt hx.1.result hx.1.params)))
    (λ x hx. gives_ok AreOperationsSmall _ (record { things = hx.1.things; result = hx.1.result; params = params_more x.parts.params _ hx.1.params hx.0 })) c e

kept_result : (s : Built) → IsSmall s.type.kind → AreOperationsSmall s → Kept (interfaces.result s)
kept_result s m h = gives_ok AreOperationsSmall _ (record { things = h.things; result = m; params = h.params })

kept_labelled : (s : Built) → AreOperationsSmall s → Kept (bodies.labelled s)
kept_labelled s h = kept_so _ cause.TwiceCase s.value.at s (λ x. record x { parts = bodies.with_label (label_of x.value.value) x.parts }) (λ x hx. alike x _ hx refl refl refl) h

-- labels that use the newest type for an operation
abbrev uses_type : IdlLabel → Bool
uses_type l.Attribute = true
uses_type l.Param = true
uses_type label = false

abbrev judges_type : IdlLabel → Bool
judges_type l.Result = true
judges_type label = false

-- what each other label keeps so at its token
small_at : (label : IdlLabel) (t : Placed Kind) (s : Built) → uses_type label ≡ false → AreOperationsSmall s → Kept (act label t s)
small_at (l.Refuse c) t s q h = gives_err AreOperationsSmall _
small_at l.Module t s q h = kept_open_module t s (module_in s.scopes t.text s.here) h
small_at l.EndModule t s q h = kept_leave s h
small_at l.Interface t s q h = kept_declare t s h
small_at l.OpenInterface t s q h = kept_open_interface s h
small_at l.EndInterface t s q h = kept_leave s h
small_at l.Rooted t s q h = kept_like s _ h refl refl refl
small_at l.NamePart t s q h = kept_part t s (names.find_part t.text s s.search) h
small_at (l.Basic b) t s q h = kept_like s _ h refl refl refl
small_at l.AnyText t s q h = kept_like s _ h refl refl refl
small_at l.BoundedText t s q h = kept_like s _ h refl refl refl
small_at l.Sequence t s q h = kept_like s _ h refl refl refl
small_at l.Declare t s q h = kept_declare t s h
small_at l.Open t s q h = kept_then (declare t s) enter (kept_declare t s h) (λ x hx. kept_enter x hx)
small_at l.Sign t s q h = kept_like s _ h refl refl refl
small_at l.Number t s q h = kept_like s _ h refl refl refl
small_at l.Plus t s q h = kept_like s _ h refl refl refl
small_at l.Minus t s q h = kept_like s _ h refl refl refl
small_at l.Character t s q h = kept_like s _ h refl refl refl
small_at l.Text t s q h = kept_like s _ h refl refl refl
small_at (l.Truth b) t s q h = kept_like s _ h refl refl refl
small_at l.EndStruct t s q h = kept_ends_type (record { kind = structure (bodies.open_id s) (members_of s.parts.members); leaves = s.parts.leaves; levels = plus s.parts.levels 1 }) s h
small_at l.EndException t s q h = kept_end_exception s h
small_at l.DefaultLabel t s q h = kept_so _ cause.TwiceCase (place_of t) s (λ x. record x { parts = record x.parts { is_default = true } }) (λ x hx. alike x _ hx refl refl refl) h
small_at l.EndUnion t s q h =
    kept_ends_type (record { kind = union (bodies.open_id s) s.parts.discriminator (cases_of s.parts.cases); leaves = plus s.parts.leaves 1; levels = plus s.parts.levels 1 }) s h
small_at l.Enumerator t s q h = kept_enumerate t s h
small_at l.EndEnum t s q h = kept_ends_type (leaf (scalar (enumeration (bodies.open_id s) s.parts.enumerators))) s h
small_at l.ReadOnly t s q h = kept_like s _ h refl refl refl
small_at l.Attribute t s q h = absurd cc
small_at l.OneWay t s q h = kept_like s _ h refl refl refl
small_at l.LongResultName t s q h = gives_err AreOperationsSmall _
small_at l.In t s q h = kept_so _ cause.BadOneway (place_of t) s _ (λ x hx. alike x _ hx refl refl refl) h
small_at l.Out t s q h = kept_so _ cause.BadOneway (place_of t) s _ (λ x hx. alike x _ hx refl refl refl) h
small_at l.InOut t s q h = kept_so _ cause.BadOneway (place_of t) s _ (λ x hx. alike x _ hx refl refl refl) h
small_at l.Param t s q h = absurd cc
small_at l.Raises t s q h = kept_so _ cause.BadOneway (place_of t) s _ (λ x hx. alike x _ hx refl refl refl) h
small_at label t s q h = gives_ok AreOperationsSmall s h

-- and without a token
small_alone : (label : IdlLabel) (s : Built) → judges_type label ≡ false → AreOperationsSmall s → Kept (judge label s)
small_alone l.Base s q h = kept_base (names.meaning s) s h
small_alone l.Inherit s q h = kept_counted (interfaces.leaves_from s.things 0 (interfaces.inherited s)) (place_at s (newest s)) s h
small_alone l.UseType s q h = kept_typed (names.type_in (names.meaning s) s.last) s h
small_alone l.UseConst s q h = kept_valued (names.value_in (names.meaning s) s.last) s h
small_alone l.Bound s q h = kept_bound (values.size_in s.value) s h
small_alone l.Length s q h = kept_length (values.size_in s.value) s h
small_alone l.Typedef s q h = kept_typedef s h
small_alone l.Member s q h = kept_member s h
small_alone l.CaseMember s q h = kept_case_member s h
small_alone l.Switch s q h = kept_so _ cause.WrongKind s.last s (λ x. record x { parts = record x.parts { discriminator = x.type.kind } }) (λ x hx. alike x _ hx refl refl refl) h
small_alone l.CaseLabel s q h = kept_then (values.fitting (fit s.parts.discriminator s.value.value) s) bodies.labelled (kept_fitting (fit s.parts.discriminator s.value.value) s h) (λ x hx. kept_labelled x hx)
small_alone l.ConstType s q h = kept_unless _ cause.WrongKind s.last s h
small_alone l.EndConst s q h = kept_end_const s h
small_alone l.EndAttribute s q h = kept_like s _ h refl refl refl
small_alone l.ResultName s q h = kept_then (names.use_type (names.meaning s) s) _ (kept_typed (names.type_in (names.meaning s) s.last) s h) (λ x hx. gives_err AreOperationsSmall _)
small_alone l.Result s q h = absurd cc
small_alone l.Raised s q h = kept_so _ cause.WrongKind s.last s _ (λ x hx. alike x _ hx refl refl refl) h
small_alone l.EndOperation s q h = kept_end_operation s h
small_alone label s q h = gives_ok AreOperationsSmall s h

-- whether the newest type is known to be small
data Known : Type 0 where
  any : Known
  tiny : Known

abbrev below : Known → Known → Bool
below m any = true
below any tiny = false
below tiny tiny = true

-- where the type has to be small
abbrev tiny_only : Known → Known → Option Known
tiny_only to any = None
tiny_only to tiny = Some to

-- where labels lead at their tokens
abbrev known_at : Kind → IdlLabel → Known → Option Known
known_at kind l.Skip m = Some m
known_at kind (l.Basic b) m = Some tiny
known_at kind l.AnyText m = Some tiny
known_at kind l.BoundedText m = Some tiny
known_at kind l.Attribute m = tiny_only tiny m
known_at kind l.Param m = tiny_only any m
known_at kind label m = Some any

-- and without
abbrev known_alone : IdlLabel → Known → Option Known
known_alone l.Skip m = Some m
known_alone l.UseType m = Some tiny
known_alone l.Result m = tiny_only any m
known_alone label m = Some any

abbrev known_within : Inner → Known → Option Known
known_within inner.TextBound m = Some any
known_within inner.ArrayLength m = Some any
known_within r any = Some any
known_within r tiny = None

abbrev knowing : Modes idl
knowing = record { Mode = Known; below = below; at = known_at; alone = known_alone; within = known_within }

inside_known : (r : Inner) (m n : Known) → known_within r m ≡ Some n → after idl knowing (idl.inside r) m ≡ Some n
inside_known inner.TextBound any n e = e
inside_known inner.TextBound tiny n e = e
inside_known inner.ArrayLength any n e = e
inside_known inner.ArrayLength tiny n e = e
inside_known inner.ModuleBody any n e = e
inside_known inner.ModuleBody tiny n e = absurd (none-some n e)
inside_known inner.InterfaceBody any n e = e
inside_known inner.InterfaceBody tiny n e = absurd (none-some n e)
inside_known inner.StructBody any n e = e
inside_known inner.StructBody tiny n e = absurd (none-some n e)
inside_known inner.ExceptionBody any n e = e
inside_known inner.ExceptionBody tiny n e = absurd (none-some n e)
inside_known inner.UnionType any n e = e
inside_known inner.UnionType tiny n e = absurd (none-some n e)
inside_known inner.UnionBody any n e = e
inside_known inner.UnionBody tiny n e = absurd (none-some n e)
inside_known inner.EnumBody any n e = e
inside_known inner.EnumBody tiny n e = absurd (none-some n e)
inside_known inner.Parameters any n e = e
inside_known inner.Parameters tiny n e = absurd (none-some n e)
inside_known inner.Raised any n e = e
inside_known inner.Raised tiny n e = absurd (none-some n e)
inside_known inner.Element any n e = e
inside_known inner.Element tiny n e = absurd (none-some n e)

-- what is so in each mode
abbrev IsSmallAt : Known → Built → Type 0
IsSmallAt any s = IsMeasured s × AreOperationsSmall s
IsSmallAt tiny s = (IsMeasured s × AreOperationsSmall s) × IsSmall s.type.kind

all_at : (m : Known) (s : Built) → IsSmallAt m s → IsMeasured s × AreOperationsSmall s
all_at any s h = h
all_at tiny s h = h.0

below_says : (m n : Known) → below m n ≡ true → (s : Built) → IsSmallAt m s → IsSmallAt n s
below_says any any e s h = h
below_says tiny any e s h = h.0
below_says any tiny e s h = absurd cc
below_says tiny tiny e s h = h

basic_small : (b : Basic) → IsSmall (basic_kind b)
basic_small basic.Boolean = record { leaves = omega arith; levels = omega arith }
basic_small basic.Octet = record { leaves = omega arith; levels = omega arith }
basic_small basic.Char = record { leaves = omega arith; levels = omega arith }
basic_small basic.Short = record { leaves = omega arith; levels = omega arith }
basic_small basic.UShort = record { leaves = omega arith; levels = omega arith }
basic_small basic.Long = record { leaves = omega arith; levels = omega arith }
basic_small basic.ULong = record { leaves = omega arith; levels = omega arith }
basic_small basic.LongLong = record { leaves = omega arith; levels = omega arith }
basic_small basic.ULongLong = record { leaves = omega arith; levels = omega arith }

-- the type that a thing is
type_small : (ts : List Thing) (i : ℕ) (o : Option Thing) (last : Place) (k : Sized) → slice_get ts i ≡ o → ((j : ℕ) (x : Thing) → slice_get ts j ≡ Some x → IsMeasuredThing x) → names.type_in (thing_in o) last ≡ Ok k → IsSmall k.kind
type_small ts i None last k e h q = absurd cc
type_small ts i (Some (type m)) last k e h q = let same : m ≡ k = cc in let p = h i (type m) e in subst (λ (z : Sized). IsSmall z.kind) same (small m p.0 p.1)
type_small ts i (Some nothing) last k e h q = absurd cc
type_small ts i (Some (interface bs os)) last k e h q = absurd cc
type_small ts i (Some (exception ms)) last k e h q = absurd cc
type_small ts i (Some (constant kind v)) last k e h q = absurd cc
type_small ts i (Some (enumerator id n)) last k e h q = absurd cc
type_small ts i (Some (operations os n)) last k e h q = absurd cc

typed_small : (r : Result Sized IdlFault) (s : Built) → ((k : Sized) → r ≡ Ok k → IsSmall k.kind) → Gives (λ c. IsSmall c.type.kind) (names.typed_so r s)
typed_small (Ok k) s m = gives_ok (λ c. IsSmall c.type.kind) _ (m k refl)
typed_small (Err f) s m = gives_err (λ c. IsSmall c.type.kind) f

-- an attribute leaves the newest type as it is
attribute_type : (t : Placed Kind) (s : Built) → Gives (λ c. s.type ≡ c.type) (interfaces.attribute t s)
attribute_type t s =
    let thing = interfaces.attribute_of s.parts.readonly t.text s.type in
    let k = λ (x : Built). s.type ≡ x.type in
    gives_then k k (declare_in s.here table.operation thing t s >>= interfaces.attribute_counted t) interfaces.attribute_held
    (gives_then k k (declare_in s.here table.operation thing t s) (interfaces.attribute_counted t)
    (gives_then k k (unless (is_taken s.scopes t.text s.here) cause.Clash (place_of t) s) (λ x. Ok (with_name s.here table.operation thing t x))
    (gives_unless k (is_taken s.scopes t.text s.here) cause.Clash (place_of t) s refl) (λ x h. gives_ok k (with_name s.here table.operation thing t x) h))
    (λ x h. counted_type s (interfaces.operation_leaves (thing_at x (newest x))) (place_of t) x h))
    (λ x h. gives_ok k (interfaces.with_operation x.here (newest x) x) h)
  where
    counted_type : (s : Built) (n : ℕ) (p : Place) (x : Built) → s.type ≡ x.type → Gives (λ c. s.type ≡ c.type) (counted n p x)
    counted_type s n p x h =
        cond_both (nat_lt 1048576 (x.leaves + n)) (refused cause.TooLarge p) (Ok (record x { leaves = x.leaves + n })) (Gives (λ c. s.type ≡ c.type))
        (λ e. gives_err (λ c. s.type ≡ c.type) _) (λ e. gives_ok (λ c. s.type ≡ c.type) (record x { leaves = x.leaves + n }) h)

-- what each label keeps so
both_at : (label : IdlLabel) (m : Known) (t : Placed Kind) (s c : Built) → uses_type label ≡ false → IsSmallAt m s → act label t s ≡ Ok c → IsMeasured c × AreOperationsSmall c
both_at label m t s c q i a = let h = all_at m s i in (measured_at label t s h.0 c a, small_at label t s q h.1 c a)

both_alone : (label : IdlLabel) (m : Known) (s c : Built) → judges_type label ≡ false → IsSmallAt m s → judge label s ≡ Ok c → IsMeasured c × AreOperationsSmall c
both_alone label m s c q i a = let h = all_at m s i in (measured_alone label s h.0 c a, small_alone label s q h.1 c a)

words_small : (bound : ℕ) → IsSmall (words bound)
words_small bound = record { leaves = omega arith; levels = omega arith }

step_at : (kind : Kind) (label : IdlLabel) (m n : Known) → known_at kind label m ≡ Some n → (t : Placed Kind) → (s c : Built) → IsSmallAt m s → act label t s ≡ Ok c → IsSmallAt n c
step_at kind l.Skip m n e t s c i a = subst (λ (z : Known). IsSmallAt z c) (same_Some m n e) (subst (IsSmallAt m) (ok_is s c a) i)
step_at kind (l.Basic b) m n e t s c i a =
    subst (λ (z : Known). IsSmallAt z c) (same_Some tiny n e) (both_at (l.Basic b) m t s c refl i a, gives_ok (λ x. IsSmall x.type.kind) (record s { type = leaf (basic_kind b) }) (basic_small b) c a)
step_at kind l.AnyText m n e t s c i a =
    subst (λ (z : Known). IsSmallAt z c) (same_Some tiny n e) (both_at l.AnyText m t s c refl i a, gives_ok (λ x. IsSmall x.type.kind) (record s { type = leaf (words 0) }) (words_small 0) c a)
step_at kind l.BoundedText m n e t s c i a =
    subst (λ (z : Known). IsSmallAt z c) (same_Some tiny n e)
    (both_at l.BoundedText m t s c refl i a, gives_ok (λ x. IsSmall x.type.kind) (record s { type = leaf (words s.bound); bound = 0 }) (words_small s.bound) c a)
step_at kind l.Attribute any n e t s c i a = absurd (none-some n e)
step_at kind l.Attribute tiny n e t s c i a =
    subst (λ (z : Known). IsSmallAt z c) (same_Some tiny n e)
    ((measured_at l.Attribute t s i.0.0 c a, kept_attribute t s i.1 i.0.1 c a), subst (λ (k : Sized). IsSmall k.kind) (attribute_type t s c a) i.1)
step_at kind l.Param any n e t s c i a = absurd (none-some n e)
step_at kind l.Param tiny n e t s c i a = subst (λ (z : Known). IsSmallAt z c) (same_Some any n e) (measured_at l.Param t s i.0.0 c a, kept_param t s i.1 i.0.1 c a)
step_at kind label m n e t s c i a = subst (λ (z : Known). IsSmallAt z c) (same_Some any n e) (both_at label m t s c refl i a)

step_alone : (label : IdlLabel) (m n : Known) → known_alone label m ≡ Some n → (s c : Built) → IsSmallAt m s → judge label s ≡ Ok c → IsSmallAt n c
step_alone l.Skip m n e s c i a = subst (λ (z : Known). IsSmallAt z c) (same_Some m n e) (subst (IsSmallAt m) (ok_is s c a) i)
step_alone l.UseType m n e s c i a =
    let h = all_at m s i in
    subst (λ (z : Known). IsSmallAt z c) (same_Some tiny n e) (
      both_alone l.UseType m s c refl i a,
      typed_small (names.type_in (names.meaning s) s.last) s (λ k q. type_small s.things (names.meant s) (slice_get s.things (names.meant s)) s.last k refl h.0.things q) c a,
    )
step_alone l.Result any n e s c i a = absurd (none-some n e)
step_alone l.Result tiny n e s c i a = subst (λ (z : Known). IsSmallAt z c) (same_Some any n e) (measured_alone l.Result s i.0.0 c a, kept_result s i.1 i.0.1 c a)
step_alone label m n e s c i a = subst (λ (z : Known). IsSmallAt z c) (same_Some any n e) (both_alone label m s c refl i a)

nothing_small : IsSmallAt any nothing_built
nothing_small = (nothing_measured, record { things = λ i x e. absurd (none-some x e); result = tt; params = tt })

-- the operations of a text are small
pub small_text : (text : List ℕ) (new : Built) → Declares text new → AreOperationsSmall new
small_text text new w =
    (rule_leads idl knowing IsPlainName IsSmallAt below_says (λ k label m n e t same p s c i a. step_at k label m n e t s c i a) step_alone (SpelledInner idl 64)
    (inner_leads idl knowing IsPlainName IsSmallAt below_says (λ k label m n e t same p s c i a. step_at k label m n e t s c i a) step_alone inside_known 64) file any any refl
    w.marks w.is (subst (EachToken IsPlainName) w.tokens_are (plain_names text)) nothing_built new nothing_small w.acts_are).1
