-- Which bodies of a text have what a lawful type needs: a struct a member, and a union a type that it may switch on, labels that
-- differ, and at most one default.
use Rattle.std.proofs.Common.{◌≡◌, ℕ, ℤ, ◌+◌, ◌≤◌, arith, Bool, true, false, cond, not, ◌&&◌, List, [], ◌∷◌, ◌++◌, append_assoc, append-nil, length, count_by, Option, Some, None, Result, Ok, Err, refl, sym, ap, subst, ◌∙◌}
use Rattle.std.specs.Prelude.{◌==◌, nat_lt, nat_le}
use Rattle.std.specs.List.{list_any}
use Rattle.std.specs.Ordering.{int_eq}
use Rattle.std.proofs.lemmas.Bool.{and_from, and_parts, or_parts, not-true, not_from_false, cond_both, le-leb, not-false}
use Rattle.std.proofs.lemmas.List.Folds.{list_any-append}
use Rattle.std.proofs.lemmas.List.Sums.{sum_by-cons}
use Rattle.std.proofs.lemmas.Option.{none-some, same_Some}
use Rattle.grammar.specs.Language.{Placed}
use Rattle.grammar.specs.Grammar.{SpelledInner}
use Rattle.grammar.specs.Reading.{◌>>=◌}
use Rattle.grammar.proofs.Basics.{bind_ok, ok_is}
use Rattle.cdr_values.specs.Choice.{branches}
use Rattle.cdr_values.specs.Lawful.{differ, all_labels, has_one_default, is_tag, has_member}
use Rattle.cdr_values.specs.Trees as trees
use Rattle.cdr_values.specs.Trees.{structure, union, members_of, cases_of, Branch}
use Rattle.idl_tokens.specs.declared.kind.Kind.{Kind}
use Rattle.idl_grammar.specs.declared.fault.IdlFault.{IdlFault}
use Rattle.idl_grammar.specs.declared.fault.IdlCause.{IdlCause}
use Rattle.idl_grammar.specs.declared.fault.IdlCause.TheVariants as cause
use Rattle.idl_grammar.specs.declared.label.Basic.{Basic}
use Rattle.idl_grammar.specs.declared.label.Basic.TheVariants as basic
use Rattle.idl_grammar.specs.declared.label.IdlLabel.{IdlLabel}
use Rattle.idl_grammar.specs.declared.label.IdlLabel.TheVariants as l
use Rattle.idl_grammar.specs.declared.label.Inner.{Inner}
use Rattle.idl_grammar.specs.declared.label.Inner.TheVariants as inner
use Rattle.idl_grammar.specs.IdlRules.{file}
use Rattle.idl_scopes.specs.declared.place.Place.{Place}
use Rattle.idl_scopes.specs.Table as table
use Rattle.idl_scopes.specs.Table.{Sort, module_}
use Rattle.idl_scopes.specs.Finding.{outer, module_in}
use Rattle.idl_scopes.specs.Taking.{is_taken, is_taken_part}
use Rattle.idl_constants.specs.ConstValues.{Value, label_of}
use Rattle.idl_constants.specs.Fitting.{Fit, fit}
use Rattle.idl_constants.specs.Standing.{may_switch}
use Rattle.idl_names.specs.Sizes.{Sized, plus, basic_kind}
use Rattle.idl_names.specs.State.{Thing, nothing, exception, enumerator, Parts, no_parts, Built, nothing_built}
use Rattle.idl_names.specs.Changes.{Done, place_of, refused, unless, newest, opened, thing_at, place_at, name_at, with_name, declare_in, declare, entered, enter, leave, ended, ends, counted}
use Rattle.idl_names.specs.ScopedNames as names
use Rattle.idl_names.specs.Values as values
use Rattle.idl_names.specs.Bodies as bodies
use Rattle.idl_names.specs.Interfaces as interfaces
use Rattle.idl_names.specs.Labels.{act, judge}
use Rattle.idl_names.specs.Declaring.{idl}
use Rattle.idl_names.specs.Whole.{Declares}
use Rattle.idl_reader.proofs.EachToken.{EachToken}
use Rattle.idl_reader.proofs.NameTokens.{IsPlainName, plain_names}
use Rattle.idl_reader.proofs.Modes.{Modes, after, rule_leads, inner_leads}
use Rattle.idl_reader.proofs.Steps.{Gives, gives_ok, gives_err, gives_then, gives_unless}
use Rattle.idl_reader.proofs.KeptNames.{unless_ok}
use Rattle.idl_reader.proofs.ParamsApart.{any_append}
use Rattle.idl_reader.proofs.SizedTypes.{sum_more}
use Rattle.idl_reader.proofs.KeptTypes.{AreSoMembers, AreSoCases, AreTypesSo, EndsWell, so_at, so_alone, nothing_so}
use Rattle.idl_reader.proofs.LawfulTypes.{is_formed, parts_are_formed, cases_are_formed}

-- what is formed of members
abbrev pub formed_members : List (List ℕ × trees.Kind) → Bool
formed_members ms = parts_are_formed (members_of ms)

abbrev pub AreTypesFormed : Built → Type 0
AreTypesFormed s = AreTypesSo is_formed formed_members s

-- the members, cases, discriminator and labels that were read
abbrev View : Type 0
View = List (List ℕ × trees.Kind) × List Branch × trees.Kind × List ℤ × List ℤ × Bool

abbrev view_of : Parts → View
view_of p = (p.members, p.cases, p.discriminator, p.taken, p.labels, p.is_default)

-- how many cases are the default
abbrev defaults : List Branch → ℕ
defaults cs = count_by (λ c. c.1) cs

abbrev one_if : Bool → ℕ
one_if b = cond b 1 0

-- labels differ, and are those of the cases and of the one that is read; at most one of these is the default
record AreLabelsOnce (v : View) : Type 0 where
  once : differ int_eq v.3 ≡ true
  all : v.3 ≡ all_labels (cases_of v.1) ++ v.4
  default : defaults v.1 + one_if v.5 ≤ 1

differ_more : (xs : List ℤ) (z : ℤ) → differ int_eq xs ≡ true → list_any (int_eq z) xs ≡ false → differ int_eq (xs ++ z ∷ []) ≡ true
differ_more [] z h k = refl
differ_more (x ∷ xs) z h k =
    let p = and_parts (not (list_any (λ y. int_eq y x) xs)) (differ int_eq xs) h in
    let q = or_parts (int_eq z x) (list_any (int_eq z) xs) k in
    and_from (not (list_any (λ y. int_eq y x) (xs ++ z ∷ []))) (differ int_eq (xs ++ z ∷ []))
    (not_from_false (list_any (λ y. int_eq y x) (xs ++ z ∷ [])) (any_append (λ y. int_eq y x) xs z (not-true (list_any (λ y. int_eq y x) xs) p.0) q.0)) (differ_more xs z p.1 q.1)

differ_front : (xs ys : List ℤ) → differ int_eq (xs ++ ys) ≡ true → differ int_eq xs ≡ true
differ_front [] ys h = refl
differ_front (x ∷ xs) ys h =
    let p = and_parts (not (list_any (λ y. int_eq y x) (xs ++ ys))) (differ int_eq (xs ++ ys)) h in
    let q = or_parts (list_any (λ y. int_eq y x) xs) (list_any (λ y. int_eq y x) ys) (sym (list_any-append (λ y. int_eq y x) xs ys) ∙ not-true (list_any (λ y. int_eq y x) (xs ++ ys)) p.0) in
    and_from (not (list_any (λ y. int_eq y x) xs)) (differ int_eq xs) (not_from_false (list_any (λ y. int_eq y x) xs) q.0) (differ_front xs ys p.1)

labels_more : (cs : List Branch) (c : Branch) → all_labels (cases_of (cs ++ c ∷ [])) ≡ all_labels (cases_of cs) ++ c.0
labels_more [] c = append-nil c.0
labels_more (x ∷ cs) c = ap (λ (ls : List ℤ). x.0 ++ ls) (labels_more cs c) ∙ sym (append_assoc x.0 (all_labels (cases_of cs)) c.0)

none_default : (cs : List Branch) → list_any (λ c. c.1) cs ≡ false → defaults cs ≡ 0
none_default [] h = refl
none_default (c ∷ cs) h =
    let p = or_parts c.1 (list_any (λ d. d.1) cs) h in
    let r = none_default cs p.1 in
    let e = sum_by-cons (λ (d : Branch). one_if d.1) c cs in
    let z : one_if c.1 ≡ 0 = ap one_if p.0 in
    omega arith

branches_are : (cs : List Branch) → branches (cases_of cs) ≡ cs
branches_are [] = refl
branches_are (c ∷ cs) = ap (λ (ds : List Branch). c ∷ ds) (branches_are cs)

none_labelled : AreLabelsOnce (view_of no_parts)
none_labelled = record { once = refl; all = refl; default = omega arith }

-- one more label
label_once : (ms : List (List ℕ × trees.Kind)) (cs : List Branch) (d : trees.Kind) (taken labels : List ℤ) (b : Bool) (z : ℤ) → list_any (int_eq z) taken ≡ false
    → AreLabelsOnce (ms, cs, d, taken, labels, b) → AreLabelsOnce (ms, cs, d, taken ++ z ∷ [], labels ++ z ∷ [], b)
label_once ms cs d taken labels b z new h = record {
  once = differ_more taken z h.once new;
  all = ap (λ (ls : List ℤ). ls ++ z ∷ []) h.all ∙ append_assoc (all_labels (cases_of cs)) labels (z ∷ []);
  default = h.default;
}

-- one more case
case_once : (ms : List (List ℕ × trees.Kind)) (cs : List Branch) (d : trees.Kind) (taken labels : List ℤ) (b : Bool) (name : List ℕ) (k : trees.Kind)
    → AreLabelsOnce (ms, cs, d, taken, labels, b) → AreLabelsOnce (ms, cs ++ (labels, b, name, k) ∷ [], d, taken, [], false)
case_once ms cs d taken labels b name k h =
    let c : Branch = (labels, b, name, k) in
    let e = sum_more (λ (x : Branch). one_if x.1) cs c in
    let f = h.default in
    record {
      once = h.once;
      all = h.all ∙ sym (labels_more cs c) ∙ sym (append-nil (all_labels (cases_of (cs ++ c ∷ []))));
      default = omega arith;
    }

-- what is known of the body that is read
data Fill : Type 0 where
  any : Fill
  -- a member
  filled : Fill
  -- a type that a union may switch on
  switched : Fill
  -- the text has ended
  over : Fill

abbrev no_less : Fill → Fill → Bool
no_less over n = true
no_less m any = true
no_less filled filled = true
no_less switched switched = true
no_less m n = false

abbrev IsFilled : Fill → View → Type 0
IsFilled any v = Unit {0}
IsFilled filled v = has_member (members_of v.0) ≡ true
IsFilled switched v = is_tag v.2 ≡ true
IsFilled over v = ⊥

abbrev from_filled : Fill → Option Fill
from_filled filled = Some any
from_filled m = None

abbrev from_switched : Fill → Option Fill
from_switched switched = Some any
from_switched m = None

-- where labels lead at their tokens
abbrev fills : IdlLabel → Fill → Option Fill
fills (l.Refuse c) m = Some over
fills l.EndModule m = Some any
fills l.OpenInterface m = Some any
fills l.EndInterface m = Some any
fills l.Open m = Some any
fills l.EndStruct m = from_filled m
fills l.EndException m = Some any
fills l.EndUnion m = from_switched m
fills l.EndEnum m = Some any
fills label m = Some m

-- and without
abbrev fills_alone : IdlLabel → Fill → Option Fill
fills_alone l.Member m = Some filled
fills_alone l.Switch m = Some switched
fills_alone l.EndOperation m = Some any
fills_alone label m = Some m

abbrev from_any : Fill → Fill → Option Fill
from_any to any = Some to
from_any to m = None

abbrev keeps_switched : Fill → Option Fill
keeps_switched switched = Some switched
keeps_switched m = None

abbrev fills_within : Inner → Fill → Option Fill
fills_within inner.StructBody m = from_any filled m
fills_within inner.UnionType m = from_any switched m
fills_within inner.UnionBody m = keeps_switched m
fills_within inner.Element m = Some m
fills_within inner.TextBound m = Some m
fills_within inner.ArrayLength m = Some m
fills_within r m = from_any any m

abbrev filling : Modes idl
filling = record { Mode = Fill; below = no_less; at = λ kind label m. fills label m; alone = fills_alone; within = fills_within }

inside_filled : (r : Inner) (m n : Fill) → fills_within r m ≡ Some n → after idl filling (idl.inside r) m ≡ Some n
inside_filled inner.ModuleBody any n e = e
inside_filled inner.ModuleBody m n e = absurd (none-some n e)
inside_filled inner.InterfaceBody any n e = e
inside_filled inner.InterfaceBody m n e = absurd (none-some n e)
inside_filled inner.StructBody any n e = e
inside_filled inner.StructBody m n e = absurd (none-some n e)
inside_filled inner.ExceptionBody any n e = e
inside_filled inner.ExceptionBody m n e = absurd (none-some n e)
inside_filled inner.UnionType any n e = e
inside_filled inner.UnionType m n e = absurd (none-some n e)
inside_filled inner.UnionBody switched n e = e
inside_filled inner.UnionBody m n e = absurd (none-some n e)
inside_filled inner.EnumBody any n e = e
inside_filled inner.EnumBody m n e = absurd (none-some n e)
inside_filled inner.Parameters any n e = e
inside_filled inner.Parameters m n e = absurd (none-some n e)
inside_filled inner.Raised any n e = e
inside_filled inner.Raised m n e = absurd (none-some n e)
inside_filled inner.Element any n e = e
inside_filled inner.Element filled n e = e
inside_filled inner.Element switched n e = e
inside_filled inner.Element over n e = e
inside_filled inner.TextBound any n e = e
inside_filled inner.TextBound filled n e = e
inside_filled inner.TextBound switched n e = e
inside_filled inner.TextBound over n e = e
inside_filled inner.ArrayLength any n e = e
inside_filled inner.ArrayLength filled n e = e
inside_filled inner.ArrayLength switched n e = e
inside_filled inner.ArrayLength over n e = e

-- the members and the discriminator tell it
fill_same : (m : Fill) (v w : View) → v.0 ≡ w.0 → v.2 ≡ w.2 → IsFilled m v → IsFilled m w
fill_same any v w a b i = tt
fill_same filled v w a b i = subst (λ (ms : List (List ℕ × trees.Kind)). has_member (members_of ms) ≡ true) a i
fill_same switched v w a b i = subst (λ (k : trees.Kind). is_tag k ≡ true) b i
fill_same over v w a b i = i

-- what is so of a body in each mode
abbrev Fills : Fill → View → Type 0
Fills m v = AreLabelsOnce v × IsFilled m v

no_less_says : (m n : Fill) → no_less m n ≡ true → (v : View) → Fills m v → Fills n v
no_less_says over n e v h = absurd h.1
no_less_says any any e v h = h
no_less_says filled any e v h = (h.0, tt)
no_less_says switched any e v h = (h.0, tt)
no_less_says filled filled e v h = h
no_less_says switched switched e v h = h
no_less_says any filled e v h = absurd cc
no_less_says any switched e v h = absurd cc
no_less_says any over e v h = absurd cc
no_less_says filled switched e v h = absurd cc
no_less_says filled over e v h = absurd cc
no_less_says switched filled e v h = absurd cc
no_less_says switched over e v h = absurd cc

-- steps that leave it, and steps that end it
abbrev Leaves : Built → Built → Type 0
Leaves s c = view_of c.parts ≡ view_of s.parts

abbrev IsOver : Built → Type 0
IsOver c = view_of c.parts ≡ view_of no_parts

leaves_unless : (s : Built) (b : Bool) (d : IdlCause) (p : Place) → Gives (Leaves s) (unless b d p s)
leaves_unless s b d p = gives_unless (Leaves s) b d p s refl

leaves_then : (s : Built) (r : Done) (f : Built → Done) → Gives (Leaves s) r → ((x : Built) → Gives (Leaves x) (f x)) → Gives (Leaves s) (r >>= f)
leaves_then s r f h k = gives_then (Leaves s) (Leaves s) r f h (λ x e c q. k x c q ∙ e)

leaves_ok : (s c : Built) → Leaves s c → Gives (Leaves s) (Ok c)
leaves_ok s c e = gives_ok (Leaves s) c e

leaves_counted : (n : ℕ) (p : Place) (s : Built) → Gives (Leaves s) (counted n p s)
leaves_counted n p s =
    cond_both (nat_lt 1048576 (s.leaves + n)) (refused cause.TooLarge p) (Ok (record s { leaves = s.leaves + n })) (Gives (Leaves s))
    (λ e. gives_err (Leaves s) _) (λ e. leaves_ok s (record s { leaves = s.leaves + n }) refl)

leaves_so : (s : Built) (b : Bool) (d : IdlCause) (p : Place) (f : Built → Built) → ((x : Built) → Leaves x (f x)) → Gives (Leaves s) (unless b d p s >>= (λ x. Ok (f x)))
leaves_so s b d p f k = leaves_then s (unless b d p s) (λ x. Ok (f x)) (leaves_unless s b d p) (λ x. leaves_ok x (f x) (k x))

leaves_fitting : (f : Fit) (s : Built) → Gives (Leaves s) (values.fitting f s)
leaves_fitting (Ok x) s = leaves_ok s s refl
leaves_fitting (Err m) s = gives_err (Leaves s) _

leaves_typed : (s : Built) (r : Result Sized IdlFault) → Gives (Leaves s) (names.typed_so r s)
leaves_typed s (Ok k) = leaves_ok s _ refl
leaves_typed s (Err f) = gives_err (Leaves s) f

leaves_valued : (s : Built) (r : Result Value IdlFault) → Gives (Leaves s) (names.valued_so r s)
leaves_valued s (Ok v) = leaves_ok s _ refl
leaves_valued s (Err f) = gives_err (Leaves s) f

leaves_bound : (s : Built) (r : Result ℕ IdlFault) → Gives (Leaves s) (values.bound_so r s)
leaves_bound s (Ok n) = leaves_ok s _ refl
leaves_bound s (Err f) = gives_err (Leaves s) f

leaves_length : (s : Built) (r : Result ℕ IdlFault) → Gives (Leaves s) (values.length_so r s)
leaves_length s (Ok n) = leaves_ok s _ refl
leaves_length s (Err f) = gives_err (Leaves s) f

leaves_part : (s : Built) (t : Placed Kind) (o : Option ℕ) → Gives (Leaves s) (names.part_found t s o)
leaves_part s t None = gives_err (Leaves s) _
leaves_part s t (Some i) = leaves_ok s _ refl

leaves_declare_in : (scope : ℕ) (sort : Sort) (thing : Thing) (t : Placed Kind) (s : Built) → Gives (Leaves s) (declare_in scope sort thing t s)
leaves_declare_in scope sort thing t s = leaves_so s (is_taken s.scopes t.text scope) cause.Clash (place_of t) (λ x. with_name scope sort thing t x) (λ x. refl)

leaves_module : (t : Placed Kind) (s : Built) (o : Option ℕ) → Gives (Leaves s) (names.open_module t s o)
leaves_module t s (Some i) = leaves_ok s (record s { here = i + 1 }) refl
leaves_module t s None = leaves_then s (declare_in s.here module_ nothing t s) enter (leaves_declare_in s.here module_ nothing t s) (λ x. leaves_ok x (entered x) refl)

leaves_attribute : (t : Placed Kind) (s : Built) → Gives (Leaves s) (interfaces.attribute t s)
leaves_attribute t s =
    let thing = interfaces.attribute_of s.parts.readonly t.text s.type in
    leaves_then s (declare_in s.here table.operation thing t s >>= interfaces.attribute_counted t) interfaces.attribute_held
    (leaves_then s (declare_in s.here table.operation thing t s) (interfaces.attribute_counted t) (leaves_declare_in s.here table.operation thing t s)
    (λ x. leaves_counted (interfaces.operation_leaves (thing_at x (newest x))) (place_of t) x))
    (λ x. leaves_ok x (interfaces.with_operation x.here (newest x) x) refl)

leaves_param : (t : Placed Kind) (s : Built) → Gives (Leaves s) (interfaces.param t s)
leaves_param t s =
    leaves_then s (interfaces.declare_param t s) (interfaces.param_named t)
    (leaves_so s (is_taken_part s.scopes t.text s.here) cause.Clash (place_of t) (λ x. with_name x.here table.other nothing t x) (λ x. refl)) (λ x. leaves_ok x _ refl)

leaves_typedef : (s : Built) → Gives (Leaves s) (bodies.typedef s)
leaves_typedef s =
    let k = bodies.declared_type s in
    let p = place_at s (newest s) in
    leaves_then s (bodies.measured_name s >>= counted k.leaves p) (bodies.type_named k)
    (leaves_then s (bodies.measured_name s) (counted k.leaves p) (leaves_unless s _ cause.TooLarge p) (λ x. leaves_counted k.leaves p x)) (λ x. leaves_ok x _ refl)

leaves_const : (s : Built) → Gives (Leaves s) (values.end_const s)
leaves_const s =
    let p = place_at s (newest s) in
    leaves_then s (values.fitting (fit s.type.kind s.value.value) s >>= counted 1 p) values.constant_named
    (leaves_then s (values.fitting (fit s.type.kind s.value.value) s) (counted 1 p) (leaves_fitting (fit s.type.kind s.value.value) s) (λ x. leaves_counted 1 p x)) (λ x. leaves_ok x _ refl)

leaves_base : (thing : Thing) (s : Built) → Gives (Leaves s) (interfaces.base_named thing s)
leaves_base thing s =
    let f = λ (x : Built). unless (interfaces.base_clashes x) cause.Clash x.last x in
    leaves_then s (unless (not (interfaces.is_interface thing)) cause.WrongKind s.last s >>= f) interfaces.with_base
    (leaves_then s (unless (not (interfaces.is_interface thing)) cause.WrongKind s.last s) f (leaves_unless s _ cause.WrongKind s.last) (λ x. leaves_unless x (interfaces.base_clashes x) cause.Clash x.last))
    (λ x. leaves_ok x _ refl)

anything : (r : Done) → Gives (λ x. Unit {0}) r
anything r c e = tt

over_ends : (r : Done) (sort : Sort) (thing : Thing) → Gives IsOver (r >>= ends sort thing)
over_ends r sort thing = gives_then (λ x. Unit {0}) IsOver r (ends sort thing) (anything r) (λ x h. gives_ok IsOver (ended sort thing x) refl)

-- labels at whose tokens a body ends, or changes, or the text ends
abbrev is_other : IdlLabel → Bool
is_other (l.Refuse c) = true
is_other l.EndModule = true
is_other l.OpenInterface = true
is_other l.EndInterface = true
is_other l.EndStruct = true
is_other l.EndException = true
is_other l.EndUnion = true
is_other l.EndEnum = true
is_other l.DefaultLabel = true
is_other label = false

left_at : (label : IdlLabel) (t : Placed Kind) (s : Built) → is_other label ≡ false → Gives (Leaves s) (act label t s)
left_at (l.Refuse c) t s q = absurd cc
left_at l.EndModule t s q = absurd cc
left_at l.OpenInterface t s q = absurd cc
left_at l.EndInterface t s q = absurd cc
left_at l.EndStruct t s q = absurd cc
left_at l.EndException t s q = absurd cc
left_at l.EndUnion t s q = absurd cc
left_at l.EndEnum t s q = absurd cc
left_at l.DefaultLabel t s q = absurd cc
left_at l.Module t s q = leaves_module t s (module_in s.scopes t.text s.here)
left_at l.Interface t s q = leaves_declare_in s.here table.unfinished nothing t s
left_at l.Rooted t s q = leaves_ok s _ refl
left_at l.NamePart t s q = leaves_part s t (names.find_part t.text s s.search)
left_at (l.Basic b) t s q = leaves_ok s _ refl
left_at l.AnyText t s q = leaves_ok s _ refl
left_at l.BoundedText t s q = leaves_ok s _ refl
left_at l.Sequence t s q = leaves_ok s _ refl
left_at l.Declare t s q = leaves_declare_in s.here table.unfinished nothing t s
left_at l.Open t s q = leaves_then s (declare t s) enter (leaves_declare_in s.here table.unfinished nothing t s) (λ x. leaves_ok x (entered x) refl)
left_at l.Sign t s q = leaves_ok s _ refl
left_at l.Number t s q = leaves_ok s _ refl
left_at l.Plus t s q = leaves_ok s _ refl
left_at l.Minus t s q = leaves_ok s _ refl
left_at l.Character t s q = leaves_ok s _ refl
left_at l.Text t s q = leaves_ok s _ refl
left_at (l.Truth b) t s q = leaves_ok s _ refl
left_at l.Enumerator t s q =
    let thing = enumerator (bodies.open_id s) (length s.parts.enumerators) in
    leaves_then s (declare_in (outer s.scopes s.here) table.other thing t s) (bodies.label_named t) (leaves_declare_in (outer s.scopes s.here) table.other thing t s) (λ x. leaves_ok x _ refl)
left_at l.ReadOnly t s q = leaves_ok s _ refl
left_at l.Attribute t s q = leaves_attribute t s
left_at l.OneWay t s q = leaves_ok s _ refl
left_at l.LongResultName t s q = gives_err (Leaves s) _
left_at l.In t s q = leaves_so s _ cause.BadOneway (place_of t) _ (λ x. refl)
left_at l.Out t s q = leaves_so s _ cause.BadOneway (place_of t) _ (λ x. refl)
left_at l.InOut t s q = leaves_so s _ cause.BadOneway (place_of t) _ (λ x. refl)
left_at l.Param t s q = leaves_param t s
left_at l.Raises t s q = leaves_so s _ cause.BadOneway (place_of t) _ (λ x. refl)
left_at label t s q = leaves_ok s s refl

abbrev is_other_alone : IdlLabel → Bool
is_other_alone l.Member = true
is_other_alone l.CaseMember = true
is_other_alone l.Switch = true
is_other_alone l.CaseLabel = true
is_other_alone l.EndOperation = true
is_other_alone label = false

left_alone : (label : IdlLabel) (s : Built) → is_other_alone label ≡ false → Gives (Leaves s) (judge label s)
left_alone l.Member s q = absurd cc
left_alone l.CaseMember s q = absurd cc
left_alone l.Switch s q = absurd cc
left_alone l.CaseLabel s q = absurd cc
left_alone l.EndOperation s q = absurd cc
left_alone l.Base s q = leaves_base (names.meaning s) s
left_alone l.Inherit s q = leaves_counted (interfaces.leaves_from s.things 0 (interfaces.inherited s)) (place_at s (newest s)) s
left_alone l.UseType s q = leaves_typed s (names.type_in (names.meaning s) s.last)
left_alone l.UseConst s q = leaves_valued s (names.value_in (names.meaning s) s.last)
left_alone l.Bound s q = leaves_bound s (values.size_in s.value)
left_alone l.Length s q = leaves_length s (values.size_in s.value)
left_alone l.Typedef s q = leaves_typedef s
left_alone l.ConstType s q = leaves_unless s _ cause.WrongKind s.last
left_alone l.EndConst s q = leaves_const s
left_alone l.EndAttribute s q = leaves_ok s _ refl
left_alone l.ResultName s q = leaves_then s (names.use_type (names.meaning s) s) _ (leaves_typed s (names.type_in (names.meaning s) s.last)) (λ x. gives_err (Leaves x) _)
left_alone l.Result s q = leaves_ok s _ refl
left_alone l.Raised s q = leaves_so s _ cause.WrongKind s.last _ (λ x. refl)
left_alone label s q = leaves_ok s s refl

-- the labels that change a body
default_set : (t : Placed Kind) (m : Fill) (s c : Built) → act l.DefaultLabel t s ≡ Ok c → Fills m (view_of s.parts) → Fills m (view_of c.parts)
default_set t m s c a h =
    let q = bind_ok (unless (bodies.has_default s.parts) cause.TwiceCase (place_of t) s) (λ x. Ok (record x { parts = record x.parts { is_default = true } })) c a in
    let u = unless_ok (bodies.has_default s.parts) cause.TwiceCase (place_of t) s q.0 q.1 in
    let p = or_parts s.parts.is_default (list_any (λ d. d.1) s.parts.cases) u.0 in
    let z = none_default s.parts.cases p.1 in
    let e : record s { parts = record s.parts { is_default = true } } ≡ c = ap (λ (x : Built). record x { parts = record x.parts { is_default = true } }) u.1 ∙ ok_is _ c q.2 in
    subst (λ (x : Built). Fills m (view_of x.parts)) e (record { once = h.0.once; all = h.0.all; default = omega arith }, fill_same m (view_of s.parts) _ refl refl h.1)

has_last : (ms : List (List ℕ × trees.Kind)) (m : List ℕ × trees.Kind) → has_member (members_of (ms ++ m ∷ [])) ≡ true
has_last [] m = refl
has_last (x ∷ ms) m = refl

member_set : (s c : Built) → bodies.member s ≡ Ok c → AreLabelsOnce (view_of s.parts) → Fills filled (view_of c.parts)
member_set s c a h =
    let q = bind_ok (bodies.measured_name s) bodies.member_named c a in
    let u = unless_ok _ cause.TooLarge (place_at s (newest s)) s q.0 q.1 in
    let e = subst (λ (x : Built). bodies.member_named x ≡ Ok c) (sym u.1) q.2 in
    subst (λ (x : Built). Fills filled (view_of x.parts)) (ok_is _ c e)
    (record { once = h.once; all = h.all; default = h.default }, has_last s.parts.members (name_at s (newest s), (bodies.declared_type s).kind))

case_set : (m : Fill) (s c : Built) → bodies.case_member s ≡ Ok c → Fills m (view_of s.parts) → Fills m (view_of c.parts)
case_set m s c a h =
    let q = bind_ok (bodies.measured_name s) bodies.case_named c a in
    let u = unless_ok _ cause.TooLarge (place_at s (newest s)) s q.0 q.1 in
    let e = subst (λ (x : Built). bodies.case_named x ≡ Ok c) (sym u.1) q.2 in
    let p = s.parts in
    let k = (bodies.declared_type s).kind in
    subst (λ (x : Built). Fills m (view_of x.parts)) (ok_is _ c e)
    (case_once p.members p.cases p.discriminator p.taken p.labels p.is_default (name_at s (newest s)) k h.0, fill_same m (view_of s.parts) _ refl refl h.1)

switch_set : (s c : Built) → bodies.switch s ≡ Ok c → AreLabelsOnce (view_of s.parts) → Fills switched (view_of c.parts)
switch_set s c a h =
    let q = bind_ok (unless (not (may_switch s.type.kind)) cause.WrongKind s.last s) (λ x. Ok (record x { parts = record x.parts { discriminator = x.type.kind } })) c a in
    let u = unless_ok (not (may_switch s.type.kind)) cause.WrongKind s.last s q.0 q.1 in
    let e : record s { parts = record s.parts { discriminator = s.type.kind } } ≡ c = ap (λ (x : Built). record x { parts = record x.parts { discriminator = x.type.kind } }) u.1 ∙ ok_is _ c q.2 in
    subst (λ (x : Built). Fills switched (view_of x.parts)) e (record { once = h.once; all = h.all; default = h.default }, not-false (may_switch s.type.kind) u.0)

label_set : (m : Fill) (s c : Built) → bodies.labelled s ≡ Ok c → Fills m (view_of s.parts) → Fills m (view_of c.parts)
label_set m s c a h =
    let z = label_of s.value.value in
    let q = bind_ok (unless (bodies.is_twice z s.parts) cause.TwiceCase s.value.at s) (λ x. Ok (record x { parts = bodies.with_label (label_of x.value.value) x.parts })) c a in
    let u = unless_ok (bodies.is_twice z s.parts) cause.TwiceCase s.value.at s q.0 q.1 in
    let e : record s { parts = bodies.with_label z s.parts } ≡ c = ap (λ (x : Built). record x { parts = bodies.with_label (label_of x.value.value) x.parts }) u.1 ∙ ok_is _ c q.2 in
    let p = s.parts in
    subst (λ (x : Built). Fills m (view_of x.parts)) e (label_once p.members p.cases p.discriminator p.taken p.labels p.is_default z u.0 h.0, fill_same m (view_of s.parts) _ refl refl h.1)

case_label_set : (m : Fill) (s c : Built) → bodies.case_label s ≡ Ok c → Fills m (view_of s.parts) → Fills m (view_of c.parts)
case_label_set m s c a h =
    let q = bind_ok (values.fitting (fit s.parts.discriminator s.value.value) s) bodies.labelled c a in
    label_set m q.0 c q.2 (subst (Fills m) (sym (leaves_fitting (fit s.parts.discriminator s.value.value) s q.0 q.1)) h)

-- what a lawful type needs, at the end of each body
parts_formed : (ms : List (List ℕ × trees.Kind)) → AreSoMembers is_formed formed_members ms → parts_are_formed (members_of ms) ≡ true
parts_formed [] h = refl
parts_formed (m ∷ ms) h = and_from (is_formed m.1) (parts_are_formed (members_of ms)) h.0 (parts_formed ms h.1)

cases_formed : (cs : List Branch) → AreSoCases is_formed formed_members cs → cases_are_formed (cases_of cs) ≡ true
cases_formed [] h = refl
cases_formed (c ∷ cs) h = and_from (is_formed c.3) (cases_are_formed (cases_of cs)) h.0 (cases_formed cs h.1)

ends_formed : (label : IdlLabel) (m n : Fill) → fills label m ≡ Some n → (s : Built) → Fills m (view_of s.parts) → EndsWell is_formed formed_members label s
ends_formed l.EndStruct filled n e s h = λ ms. and_from (has_member (members_of s.parts.members)) (parts_are_formed (members_of s.parts.members)) h.1 (parts_formed s.parts.members ms)
ends_formed l.EndStruct m n e s h = absurd (none-some n e)
ends_formed l.EndException m n e s h = λ ms. parts_formed s.parts.members ms
ends_formed l.EndUnion switched n e s h = λ cs d.
    let k = s.parts.discriminator in
    let bs = cases_of s.parts.cases in
    let few = h.0.default in
    let one : defaults s.parts.cases ≤ 1 = omega arith in
    and_from (is_tag k && is_formed k) (differ int_eq (all_labels bs) && (has_one_default bs && cases_are_formed bs)) (and_from (is_tag k) (is_formed k) h.1 d)
    (and_from (differ int_eq (all_labels bs)) (has_one_default bs && cases_are_formed bs)
    (differ_front (all_labels bs) s.parts.labels (subst (λ (ls : List ℤ). differ int_eq ls ≡ true) h.0.all h.0.once))
    (and_from (has_one_default bs) (cases_are_formed bs) (ap (λ (cs : List Branch). nat_le (defaults cs) 1) (branches_are s.parts.cases) ∙ le-leb (defaults s.parts.cases) 1 one) (cases_formed s.parts.cases cs)))
ends_formed l.EndUnion m n e s h = absurd (none-some n e)
ends_formed l.EndEnum m n e s h = refl
ends_formed label m n e s h = tt

-- what each label keeps so at its token
fills_at : (label : IdlLabel) (m n : Fill) → fills label m ≡ Some n → (t : Placed Kind) (s c : Built) → Fills m (view_of s.parts) → act label t s ≡ Ok c → Fills n (view_of c.parts)
fills_at (l.Refuse d) m n e t s c h a = absurd cc
fills_at l.EndModule m n e t s c h a = subst (λ (k : Fill). Fills k (view_of c.parts)) (same_Some any n e) (subst (Fills any) (sym (gives_ok IsOver (leave s) refl c a)) (none_labelled, tt))
fills_at l.OpenInterface m n e t s c h a = subst (λ (k : Fill). Fills k (view_of c.parts)) (same_Some any n e) (subst (Fills any) (sym (gives_ok IsOver _ refl c a)) (none_labelled, tt))
fills_at l.EndInterface m n e t s c h a = subst (λ (k : Fill). Fills k (view_of c.parts)) (same_Some any n e) (subst (Fills any) (sym (gives_ok IsOver (leave s) refl c a)) (none_labelled, tt))
fills_at l.Open m n e t s c h a = subst (λ (k : Fill). Fills k (view_of c.parts)) (same_Some any n e) (subst (Fills any) (sym (left_at l.Open t s refl c a)) (h.0, tt))
fills_at l.EndStruct filled n e t s c h a = subst (λ (k : Fill). Fills k (view_of c.parts)) (same_Some any n e) (subst (Fills any) (sym (over_ends _ table.other _ c a)) (none_labelled, tt))
fills_at l.EndStruct m n e t s c h a = absurd (none-some n e)
fills_at l.EndException m n e t s c h a = subst (λ (k : Fill). Fills k (view_of c.parts)) (same_Some any n e) (subst (Fills any) (sym (over_ends _ table.other (exception s.parts.members) c a)) (none_labelled, tt))
fills_at l.EndUnion switched n e t s c h a = subst (λ (k : Fill). Fills k (view_of c.parts)) (same_Some any n e) (subst (Fills any) (sym (over_ends _ table.other _ c a)) (none_labelled, tt))
fills_at l.EndUnion m n e t s c h a = absurd (none-some n e)
fills_at l.EndEnum m n e t s c h a = subst (λ (k : Fill). Fills k (view_of c.parts)) (same_Some any n e) (subst (Fills any) (sym (over_ends _ table.other _ c a)) (none_labelled, tt))
fills_at l.DefaultLabel m n e t s c h a = subst (λ (k : Fill). Fills k (view_of c.parts)) (same_Some m n e) (default_set t m s c a h)
fills_at label m n e t s c h a = subst (λ (k : Fill). Fills k (view_of c.parts)) (same_Some m n e) (subst (Fills m) (sym (left_at label t s refl c a)) h)

-- and without a token
filled_alone : (label : IdlLabel) (m n : Fill) → fills_alone label m ≡ Some n → (s c : Built) → Fills m (view_of s.parts) → judge label s ≡ Ok c → Fills n (view_of c.parts)
filled_alone l.Member m n e s c h a = subst (λ (k : Fill). Fills k (view_of c.parts)) (same_Some filled n e) (member_set s c a h.0)
filled_alone l.CaseMember m n e s c h a = subst (λ (k : Fill). Fills k (view_of c.parts)) (same_Some m n e) (case_set m s c a h)
filled_alone l.Switch m n e s c h a = subst (λ (k : Fill). Fills k (view_of c.parts)) (same_Some switched n e) (switch_set s c a h.0)
filled_alone l.CaseLabel m n e s c h a = subst (λ (k : Fill). Fills k (view_of c.parts)) (same_Some m n e) (case_label_set m s c a h)
filled_alone l.EndOperation m n e s c h a =
    subst (λ (k : Fill). Fills k (view_of c.parts)) (same_Some any n e)
    (subst (Fills any) (sym (gives_then (λ x. Unit {0}) IsOver (counted (plus s.parts.leaves 1) (place_at s (opened s)) s) interfaces.operation_ended (anything _) (λ x k. gives_ok IsOver _ refl) c a)) (none_labelled, tt))
filled_alone label m n e s c h a = subst (λ (k : Fill). Fills k (view_of c.parts)) (same_Some m n e) (subst (Fills m) (sym (left_alone label s refl c a)) h)

basic_formed : (b : Basic) → is_formed (basic_kind b) ≡ true
basic_formed basic.Boolean = refl
basic_formed basic.Octet = refl
basic_formed basic.Char = refl
basic_formed basic.Short = refl
basic_formed basic.UShort = refl
basic_formed basic.Long = refl
basic_formed basic.ULong = refl
basic_formed basic.LongLong = refl
basic_formed basic.ULongLong = refl

array_formed : (k : trees.Kind) (n : ℕ) → (n == 0) ≡ false → is_formed k ≡ true → is_formed (trees.array k n) ≡ true
array_formed k n z h = and_from (not (n == 0)) (is_formed k) (not_from_false (n == 0) z) h

abbrev FormedAt : Fill → Built → Type 0
FormedAt m s = AreTypesFormed s × Fills m (view_of s.parts)

formed_says : (m n : Fill) → no_less m n ≡ true → (s : Built) → FormedAt m s → FormedAt n s
formed_says m n e s h = (h.0, no_less_says m n e (view_of s.parts) h.1)

formed_at : (label : IdlLabel) (m n : Fill) → fills label m ≡ Some n → (t : Placed Kind) (s c : Built) → FormedAt m s → act label t s ≡ Ok c → FormedAt n c
formed_at label m n e t s c h a =
    (so_at is_formed formed_members basic_formed (λ k. refl) (λ k i q. q) array_formed label t s (ends_formed label m n e s h.1) h.0 c a, fills_at label m n e t s c h.1 a)

formed_alone : (label : IdlLabel) (m n : Fill) → fills_alone label m ≡ Some n → (s c : Built) → FormedAt m s → judge label s ≡ Ok c → FormedAt n c
formed_alone label m n e s c h a =
    (so_alone is_formed formed_members basic_formed (λ k. refl) (λ k i q. q) array_formed label s h.0 c a, filled_alone label m n e s c h.1 a)

nothing_formed : FormedAt any nothing_built
nothing_formed = (nothing_so is_formed formed_members basic_formed (λ k. refl) (λ k i q. q) array_formed, (none_labelled, tt))

-- the types of a text are formed
pub formed_text : (text : List ℕ) (new : Built) → Declares text new → AreTypesFormed new
formed_text text new w =
    (rule_leads idl filling IsPlainName FormedAt formed_says (λ k label m n e t same p s c i a. formed_at label m n e t s c i a) formed_alone (SpelledInner idl 64)
    (inner_leads idl filling IsPlainName FormedAt formed_says (λ k label m n e t same p s c i a. formed_at label m n e t s c i a) formed_alone inside_filled 64) file any any refl
    w.marks w.is (subst (EachToken IsPlainName) w.tokens_are (plain_names text)) nothing_built new nothing_formed w.acts_are).0
