-- The parameters of an operation of a text are told apart, case aside.
use Rattle.std.proofs.Common.{◌≡◌, ◌⊎◌, inl, inr, ℕ, ◌+◌, ◌-◌, Bool, true, false, not, ◌||◌, List, [], ◌∷◌, ◌++◌, append-nil, length, map, set, Option, Some, None, Ok, refl, sym, ap, subst, ◌∙◌}
use Rattle.std.specs.Prelude.{◌==◌, nat_lt, slice_get}
use Rattle.std.specs.List.{list_any}
use Rattle.std.specs.Str.{bytes_eq, str_eq_ignore_ascii_case}
use Rattle.std.proofs.lemmas.Bool.{and_from, and_parts, or_from, or_left, or_right, or_parts, both_ways, not-true, not_from_false, false_from_ne_true, eq-eqb}
use Rattle.std.proofs.lemmas.Option.{none-some, same_Some}
use Rattle.std.proofs.lemmas.Slice.Eq.{bytes_eq-Decides}
use Rattle.grammar.specs.Language.{Placed}
use Rattle.grammar.specs.Reading.{◌>>=◌}
use Rattle.grammar.proofs.Basics.{bind_ok, ok_is}
use Rattle.cdr_values.specs.Trees.{scalar, structure, union, enumeration, members_of, cases_of}
use Rattle.idl_tokens.specs.declared.kind.Kind.{Kind}
use Rattle.idl_grammar.specs.declared.fault.IdlCause.TheVariants as cause
use Rattle.idl_grammar.specs.declared.label.IdlLabel.{IdlLabel}
use Rattle.idl_grammar.specs.declared.label.IdlLabel.TheVariants as l
use Rattle.idl_scopes.specs.declared.place.Place.{Place}
use Rattle.idl_scopes.specs.Table as table
use Rattle.idl_scopes.specs.Table.{Sort, module_}
use Rattle.idl_scopes.specs.Finding.{lowered, is_at, outer, module_in}
use Rattle.idl_scopes.specs.Taking.{is_taken, is_taken_part}
use Rattle.idl_scopes.proofs.NotTaken.{part_absent}
use Rattle.idl_constants.specs.Fitting.{fit}
use Rattle.idl_types.specs.Things.{OperationView, ParamView}
use Rattle.idl_types.specs.Apart.{are_apart}
use Rattle.idl_names.specs.Sizes.{Sized, plus, leaf}
use Rattle.idl_names.specs.State.{Thing, nothing, interface, type, exception, constant, enumerator, operations, Parts, Built}
use Rattle.idl_names.specs.Changes.{Done, place_of, unless, newest, opened, thing_in, thing_at, place_at, with_name, declare_in, declare, entered, open_body, leave, ended, ends, counted, measured}
use Rattle.idl_names.specs.ScopedNames as names
use Rattle.idl_names.specs.Values as values
use Rattle.idl_names.specs.Bodies as bodies
use Rattle.idl_names.specs.Interfaces as interfaces
use Rattle.idl_names.specs.Labels.{act, judge}
use Rattle.idl_names.specs.Whole.{Declares}
use Rattle.idl_reader.proofs.Steps.{Gives, gives_ok, gives_then}
use Rattle.idl_reader.proofs.Tables.{get_behind}
use Rattle.idl_reader.proofs.ThingLists.{get_set}
use Rattle.idl_reader.proofs.KeptNames.{unless_ok}
use Rattle.idl_reader.proofs.QuietLabels.{Same, itself, leaves_then, leaves_unless, leaves_counted, leaves_measured, leaves_fitting, quiet_act, quiet_judge}
use Rattle.idl_reader.proofs.Shapes.{gained, declare_adds, open_opens, enumerate_adds, param_adds, typedef_sets, member_sets, case_member_sets, end_const_sets, type_ends, exception_ends, attribute_adds, operation_ends, interface_opens, base_adds, module_opens}
use Rattle.idl_reader.proofs.Places.{Spot, outside, heading, based, named, inside, part, goes, goes_alone}
use Rattle.idl_reader.proofs.Standing.{Stands, standing_keeps}

-- the names of parameters
abbrev pub names_of : List ParamView → List (List ℕ)
names_of ps = map (λ (p : ParamView). p.name) ps

-- so of each operation
abbrev pub AreApart : List OperationView → Type 0
AreApart [] = Unit {0}
AreApart (o ∷ os) = (are_apart (names_of o.params) ≡ true) × AreApart os

-- and of what a declaration stands for
abbrev pub HasParamsApart : Thing → Type 0
HasParamsApart (operations os n) = AreApart os
HasParamsApart thing = Unit {0}

abbrev pub AllApart : List Thing → Type 0
AllApart ts = (i : ℕ) (x : Thing) → slice_get ts i ≡ Some x → HasParamsApart x

-- names are declared in a scope
abbrev pub AreKeys : List (ℕ × List ℕ) → ℕ → List (List ℕ) → Type 0
AreKeys ks scope [] = Unit {0}
AreKeys ks scope (n ∷ ns) = (list_any (is_at scope (lowered n)) ks ≡ true) × AreKeys ks scope ns

any_before : {X : Type 0} (f : X → Bool) (xs ys : List X) → list_any f xs ≡ true → list_any f (xs ++ ys) ≡ true
any_before f [] ys h = absurd cc
any_before f (x ∷ xs) ys h = elim (either (f x) (list_any f xs) h) [ inl a ↦ or_left (f x) (list_any f (xs ++ ys)) a | inr b ↦ or_right (f x) (list_any f (xs ++ ys)) (any_before f xs ys b) ]
  where
    either : (a b : Bool) → (a || b) ≡ true → (a ≡ true) ⊎ (b ≡ true)
    either true b h = inl refl
    either false b h = inr h

pub keys_more : (ks more : List (ℕ × List ℕ)) (scope : ℕ) (ns : List (List ℕ)) → AreKeys ks scope ns → AreKeys (ks ++ more) scope ns
keys_more ks more scope [] h = tt
keys_more ks more scope (n ∷ ns) h = (any_before (is_at scope (lowered n)) ks more h.0, keys_more ks more scope ns h.1)

-- a name that isn't declared there is none of them
none_same : (ks : List (ℕ × List ℕ)) (scope : ℕ) (name : List ℕ) (ns : List (List ℕ)) → list_any (is_at scope (lowered name)) ks ≡ false → AreKeys ks scope ns
    → (x : List ℕ) → list_any (is_at scope (lowered x)) ks ≡ true → str_eq_ignore_ascii_case name x ≡ false
none_same ks scope name ns absent h x there =
    false_from_ne_true (str_eq_ignore_ascii_case name x) (λ same.
    let low : lowered name ≡ lowered x = (bytes_eq-Decides (lowered name) (lowered x)).0 same in
    both_ways (list_any (is_at scope (lowered name)) ks) absent (subst (λ (n : List ℕ). list_any (is_at scope n) ks ≡ true) (sym low) there))

pub any_append : {X : Type 0} (f : X → Bool) (xs : List X) (y : X) → list_any f xs ≡ false → f y ≡ false → list_any f (xs ++ y ∷ []) ≡ false
any_append f [] y h k = or_from (f y) false k refl
any_append f (x ∷ xs) y h k = let p = or_parts (f x) (list_any f xs) h in or_from (f x) (list_any f (xs ++ y ∷ [])) p.0 (any_append f xs y p.1 k)

pub apart_more : (ks : List (ℕ × List ℕ)) (scope : ℕ) (name : List ℕ) (ns : List (List ℕ)) → list_any (is_at scope (lowered name)) ks ≡ false → AreKeys ks scope ns → are_apart ns ≡ true → are_apart (ns ++ name ∷ []) ≡ true
apart_more ks scope name [] absent h a = refl
apart_more ks scope name (x ∷ ns) absent h a =
    let f = λ (y : List ℕ). str_eq_ignore_ascii_case y x in
    let p = and_parts (not (list_any f ns)) (are_apart ns) a in
    and_from (not (list_any f (ns ++ name ∷ []))) (are_apart (ns ++ name ∷ []))
    (not_from_false (list_any f (ns ++ name ∷ [])) (any_append f ns name (not-true (list_any f ns) p.0) (none_same ks scope name ns absent h.1 x h.0)))
    (apart_more ks scope name ns absent h.1 p.1)

names_more : (ps : List ParamView) (p : ParamView) → names_of (ps ++ p ∷ []) ≡ names_of ps ++ p.name ∷ []
names_more [] p = refl
names_more (q ∷ ps) p = ap (λ (ns : List (List ℕ)). q.name ∷ ns) (names_more ps p)

pub keys_last : (ks : List (ℕ × List ℕ)) (scope : ℕ) (name : List ℕ) → list_any (is_at scope (lowered name)) (ks ++ (scope, lowered name) ∷ []) ≡ true
keys_last [] scope name = or_left (is_at scope (lowered name) (scope, lowered name)) false (itself_at scope (lowered name))
  where
    itself_at : (scope : ℕ) (n : List ℕ) → is_at scope n (scope, n) ≡ true
    itself_at scope n = and_from (scope == scope) (bytes_eq n n) (eq-eqb scope scope refl) ((bytes_eq-Decides n n).1 refl)
keys_last (k ∷ ks) scope name = or_right (is_at scope (lowered name) k) (list_any (is_at scope (lowered name)) (ks ++ (scope, lowered name) ∷ [])) (keys_last ks scope name)

pub keys_behind : (ks : List (ℕ × List ℕ)) (scope : ℕ) (ns : List (List ℕ)) (n : List ℕ) → AreKeys ks scope ns → list_any (is_at scope (lowered n)) ks ≡ true → AreKeys ks scope (ns ++ n ∷ [])
keys_behind ks scope [] n h k = (k, tt)
keys_behind ks scope (m ∷ ns) n h k = (h.0, keys_behind ks scope ns n h.1 k)

-- names are declared after others, and the parameters are the same
record Grows (s c : Built) : Type 0 where
  more : List (ℕ × List ℕ)
  keys : c.scopes.keys ≡ s.scopes.keys ++ more
  params : c.parts.params ≡ s.parts.params

grows_same : (s c : Built) → Same s c → Grows s c
grows_same s c k = record { more = []; keys = ap (λ (t : table.Table). t.keys) (sym k.scopes) ∙ sym (append-nil s.scopes.keys); params = sym k.params }

-- where only the keys and the parameters are the same
grows_as : (s x c : Built) → Grows s x → x.scopes.keys ≡ c.scopes.keys → x.parts.params ≡ c.parts.params → Grows s c
grows_as s x c g a b = record { more = g.more; keys = sym a ∙ g.keys; params = sym b ∙ g.params }

declare_in_grows : (scope : ℕ) (sort : Sort) (thing : Thing) (t : Placed Kind) (s : Built) → Gives (Grows s) (declare_in scope sort thing t s)
declare_in_grows scope sort thing t s =
    gives_then (Same s) (Grows s) (unless (is_taken s.scopes t.text scope) cause.Clash (place_of t) s) (λ x. Ok (with_name scope sort thing t x))
    (leaves_unless s (is_taken s.scopes t.text scope) cause.Clash (place_of t) s (itself s))
    (λ x h. gives_ok (Grows s) (with_name scope sort thing t x)
    (record { more = (scope, lowered t.text) ∷ []; keys = ap (λ (u : table.Table). u.keys ++ (scope, lowered t.text) ∷ []) (sym h.scopes); params = sym h.params }))

grows_then_as : (s : Built) (r : Done) (f : Built → Built) → Gives (Grows s) r → ((x : Built) → x.scopes.keys ≡ (f x).scopes.keys) → ((x : Built) → x.parts.params ≡ (f x).parts.params) → Gives (Grows s) (r >>= (λ x. Ok (f x)))
grows_then_as s r f h a b = gives_then (Grows s) (Grows s) r (λ x. Ok (f x)) h (λ x g. gives_ok (Grows s) (f x) (grows_as s x (f x) g (a x) (b x)))

-- parameters at each spot: none, or names that are told apart and declared in the open scope
record AreDeclared (s : Built) : Type 0 where
  apart : are_apart (names_of s.parts.params) ≡ true
  keys : AreKeys s.scopes.keys s.here (names_of s.parts.params)

abbrev ParamsAt : Spot → Built → Type 0
ParamsAt inside s = AreDeclared s
ParamsAt part s = AreDeclared s
ParamsAt outside s = s.parts.params ≡ []
ParamsAt heading s = s.parts.params ≡ []
ParamsAt based s = s.parts.params ≡ []
ParamsAt named s = s.parts.params ≡ []

abbrev IsApart : Spot → Built → Type 0
IsApart m s = AllApart s.things × ParamsAt m s

all_as : (ts us : List Thing) → us ≡ ts → AllApart ts → AllApart us
all_as ts us e h = subst AllApart (sym e) h

all_more : (s c : Built) (x : Thing) → c.things ≡ s.things ++ x ∷ [] → HasParamsApart x → AllApart s.things → AllApart c.things
all_more s c x e m h i y g = elim (get_behind s.things x y i (ap (λ (ts : List Thing). slice_get ts i) (sym e) ∙ g)) [ inl q ↦ h i y q | inr q ↦ subst HasParamsApart q.1 m ]

all_set : (ts us : List Thing) (n : ℕ) (x : Thing) → us ≡ set ts n x → HasParamsApart x → AllApart ts → AllApart us
all_set ts us n x e m h i y g = elim (get_set ts n i x y (ap (λ (zs : List Thing). slice_get zs i) (sym e) ∙ g)) [ inl q ↦ subst HasParamsApart q.1 m | inr q ↦ h i y q.1 ]

declared_grows : (s c : Built) → Grows s c → c.here ≡ s.here → AreDeclared s → AreDeclared c
declared_grows s c g e h = record {
  apart = subst (λ (ps : List ParamView). are_apart (names_of ps) ≡ true) (sym g.params) h.apart;
  keys = subst (λ (ps : List ParamView). AreKeys c.scopes.keys c.here (names_of ps)) (sym g.params)
      (subst (λ (n : ℕ). AreKeys c.scopes.keys n (names_of s.parts.params)) (sym e)
      (subst (λ (ks : List (ℕ × List ℕ)). AreKeys ks s.here (names_of s.parts.params)) (sym g.keys) (keys_more s.scopes.keys g.more s.here (names_of s.parts.params) h.keys)));
}

none_declared : (c : Built) → c.parts.params ≡ [] → AreDeclared c
none_declared c e = record {
  apart = subst (λ (ps : List ParamView). are_apart (names_of ps) ≡ true) (sym e) refl;
  keys = subst (λ (ps : List ParamView). AreKeys c.scopes.keys c.here (names_of ps)) (sym e) tt;
}

apart_same : (m : Spot) (s c : Built) → Same s c → IsApart m s → IsApart m c
apart_same inside s c k h = (all_as s.things c.things (sym k.things) h.0, declared_grows s c (grows_same s c k) (sym k.here) h.1)
apart_same part s c k h = (all_as s.things c.things (sym k.things) h.0, declared_grows s c (grows_same s c k) (sym k.here) h.1)
apart_same outside s c k h = (all_as s.things c.things (sym k.things) h.0, sym k.params ∙ h.1)
apart_same heading s c k h = (all_as s.things c.things (sym k.things) h.0, sym k.params ∙ h.1)
apart_same based s c k h = (all_as s.things c.things (sym k.things) h.0, sym k.params ∙ h.1)
apart_same named s c k h = (all_as s.things c.things (sym k.things) h.0, sym k.params ∙ h.1)

-- what the labels leave of the parameters
counted_same : (s : Built) (n : ℕ) (p : Place) (r : Done) → Gives (Same s) r → Gives (Same s) (r >>= counted n p)
counted_same s n p r h = leaves_then s r (counted n p) h (λ x k. leaves_counted s n p x k)

abbrev Keeps : Built → Done → Type 0
Keeps s r = Gives (Grows s) r

-- after steps that leave all as it is
keeps_behind : (s : Built) (r : Done) (f : Built → Built) → Gives (Same s) r → ((x : Built) → x.scopes.keys ≡ (f x).scopes.keys) → ((x : Built) → x.parts.params ≡ (f x).parts.params) → Keeps s (r >>= (λ x. Ok (f x)))
keeps_behind s r f h a b = gives_then (Same s) (Grows s) r (λ x. Ok (f x)) h (λ x k. gives_ok (Grows s) (f x) (grows_as s x (f x) (grows_same s x k) (a x) (b x)))

declare_keeps : (t : Placed Kind) (s : Built) → Keeps s (declare t s)
declare_keeps t s = declare_in_grows s.here table.unfinished nothing t s

open_keeps : (t : Placed Kind) (s : Built) → Keeps s (open_body t s)
open_keeps t s = grows_then_as s (declare t s) entered (declare_keeps t s) (λ x. refl) (λ x. refl)

enumerate_keeps : (t : Placed Kind) (s : Built) → Keeps s (bodies.enumerate t s)
enumerate_keeps t s =
    grows_then_as s (declare_in (outer s.scopes s.here) table.other (enumerator (bodies.open_id s) (length s.parts.enumerators)) t s) _
    (declare_in_grows (outer s.scopes s.here) table.other (enumerator (bodies.open_id s) (length s.parts.enumerators)) t s) (λ x. refl) (λ x. refl)

module_keeps : (t : Placed Kind) (s : Built) (o : Option ℕ) → Keeps s (names.open_module t s o)
module_keeps t s (Some i) = gives_ok (Grows s) (record s { here = i + 1 }) (record { more = []; keys = sym (append-nil s.scopes.keys); params = refl })
module_keeps t s None = grows_then_as s (declare_in s.here module_ nothing t s) entered (declare_in_grows s.here module_ nothing t s) (λ x. refl) (λ x. refl)

attribute_keeps : (t : Placed Kind) (s : Built) → Keeps s (interfaces.attribute t s)
attribute_keeps t s =
    let thing = interfaces.attribute_of s.parts.readonly t.text s.type in
    grows_then_as s (declare_in s.here table.operation thing t s >>= interfaces.attribute_counted t) (λ x. interfaces.with_operation x.here (newest x) x)
    (gives_then (Grows s) (Grows s) (declare_in s.here table.operation thing t s) (interfaces.attribute_counted t) (declare_in_grows s.here table.operation thing t s)
    (λ x g y e. let k = leaves_counted x (interfaces.operation_leaves (thing_at x (newest x))) (place_of t) x (itself x) y e in grows_as s x y g (ap (λ (u : table.Table). u.keys) k.scopes) k.params))
    (λ x. refl) (λ x. refl)

measured_name_same : (s : Built) → Gives (Same s) (bodies.measured_name s)
measured_name_same s = leaves_measured s (bodies.declared_type s) (place_at s (newest s)) s (itself s)

typedef_keeps : (s : Built) → Keeps s (bodies.typedef s)
typedef_keeps s =
    let k = bodies.declared_type s in
    let p = place_at s (newest s) in
    keeps_behind s (bodies.measured_name s >>= counted k.leaves p) (bodies.named (type k)) (counted_same s k.leaves p (bodies.measured_name s) (measured_name_same s)) (λ x. refl) (λ x. refl)

member_keeps : (s : Built) → Keeps s (bodies.member s)
member_keeps s = keeps_behind s (bodies.measured_name s) _ (measured_name_same s) (λ x. refl) (λ x. refl)

case_member_keeps : (s : Built) → Keeps s (bodies.case_member s)
case_member_keeps s = keeps_behind s (bodies.measured_name s) _ (measured_name_same s) (λ x. refl) (λ x. refl)

const_keeps : (s : Built) → Keeps s (values.end_const s)
const_keeps s =
    let p = place_at s (newest s) in
    keeps_behind s (values.fitting (fit s.type.kind s.value.value) s >>= counted 1 p) _
    (counted_same s 1 p (values.fitting (fit s.type.kind s.value.value) s) (leaves_fitting s (fit s.type.kind s.value.value) s (itself s))) (λ x. refl) (λ x. refl)

base_keeps : (thing : Thing) (s : Built) → Keeps s (interfaces.base_named thing s)
base_keeps thing s =
    let f = λ (x : Built). unless (interfaces.base_clashes x) cause.Clash x.last x in
    let first = unless (not (interfaces.is_interface thing)) cause.WrongKind s.last s in
    keeps_behind s (first >>= f) _
    (leaves_then s first f (leaves_unless s (not (interfaces.is_interface thing)) cause.WrongKind s.last s (itself s)) (λ x h. leaves_unless s (interfaces.base_clashes x) cause.Clash x.last x h))
    (λ x. refl) (λ x. refl)

-- a body that ends leaves none
abbrev IsEmpty : Built → Type 0
IsEmpty s = s.parts.params ≡ []

ends_empty : (s : Built) (r : Done) (sort : Sort) (thing : Thing) → Gives (Same s) r → Gives IsEmpty (r >>= ends sort thing)
ends_empty s r sort thing h = gives_then (Same s) IsEmpty r (ends sort thing) h (λ x k. gives_ok IsEmpty (ended sort thing x) refl)

type_empty : (k : Sized) (s : Built) → Gives IsEmpty (bodies.ends_type k s)
type_empty k s =
    let p = place_at s (opened s) in
    ends_empty s (measured k p s >>= counted k.leaves p) table.other (type k) (counted_same s k.leaves p (measured k p s) (leaves_measured s k p s (itself s)))

exception_empty : (s : Built) → Gives IsEmpty (bodies.end_exception s)
exception_empty s =
    let p = place_at s (opened s) in
    let first = unless (nat_lt 65536 s.parts.leaves) cause.TooLarge p s in
    ends_empty s (first >>= counted s.parts.leaves p) table.other (exception s.parts.members) (counted_same s s.parts.leaves p first (leaves_unless s (nat_lt 65536 s.parts.leaves) cause.TooLarge p s (itself s)))

operation_empty : (s : Built) → Gives IsEmpty (interfaces.end_operation s)
operation_empty s =
    gives_then (Same s) IsEmpty (counted (plus s.parts.leaves 1) (place_at s (opened s)) s) interfaces.operation_ended (leaves_counted s (plus s.parts.leaves 1) (place_at s (opened s)) s (itself s))
    (λ x k. gives_ok IsEmpty _ refl)

-- one more parameter, whose name wasn't declared there
param_declared : (t : Placed Kind) (s c : Built) → interfaces.param t s ≡ Ok c → AreDeclared s → AreDeclared c
param_declared t s c e h =
    let first = unless (is_taken_part s.scopes t.text s.here) cause.Clash (place_of t) s in
    let second : Built → Done = λ x. Ok (with_name x.here table.other nothing t x) in
    let m = bind_ok (interfaces.declare_param t s) (interfaces.param_named t) c e in
    let n = bind_ok first second m.0 m.1 in
    let u = unless_ok (is_taken_part s.scopes t.text s.here) cause.Clash (place_of t) s n.0 n.1 in
    let y : with_name s.here table.other nothing t s ≡ m.0 = ap (λ (x : Built). with_name x.here table.other nothing t x) u.1 ∙ ok_is _ m.0 n.2 in
    let z = ap (λ (x : Built). record x { parts = interfaces.with_param t.text x.type x.parts }) y ∙ ok_is _ c m.2 in
    let absent = part_absent s.scopes t.text s.here u.0 in
    let one : ParamView = record { way = s.parts.way; name = t.text; kind = s.type.kind } in
    subst AreDeclared z (record {
      apart = ap are_apart (names_more s.parts.params one) ∙ apart_more s.scopes.keys s.here t.text (names_of s.parts.params) absent h.keys h.apart;
      keys = subst (AreKeys (s.scopes.keys ++ (s.here, lowered t.text) ∷ []) s.here) (sym (names_more s.parts.params one))
          (keys_behind (s.scopes.keys ++ (s.here, lowered t.text) ∷ []) s.here (names_of s.parts.params) t.text
          (keys_more s.scopes.keys ((s.here, lowered t.text) ∷ []) s.here (names_of s.parts.params) h.keys) (keys_last s.scopes.keys s.here t.text));
    })

attribute_apart : (b : Bool) (name : List ℕ) (k : Sized) → HasParamsApart (interfaces.attribute_of b name k)
attribute_apart true name k = (refl, tt)
attribute_apart false name k = (refl, (refl, tt))

gained_apart : (at : ℕ) (ts : List Thing) (i : ℕ) (o : Option Thing) → slice_get ts i ≡ o → AllApart ts → HasParamsApart (interfaces.and_operation at (thing_in o))
gained_apart at ts i None e h = tt
gained_apart at ts i (Some (interface bs os)) e h = tt
gained_apart at ts i (Some nothing) e h = tt
gained_apart at ts i (Some (type k)) e h = tt
gained_apart at ts i (Some (exception ms)) e h = tt
gained_apart at ts i (Some (constant k v)) e h = tt
gained_apart at ts i (Some (enumerator id n)) e h = tt
gained_apart at ts i (Some (operations os n)) e h = h i (operations os n) e

all_gained : (ts : List Thing) (n at : ℕ) → AllApart ts → AllApart (gained n at ts)
all_gained ts n at h = all_set ts (gained n at ts) n (interfaces.and_operation at (thing_in (slice_get ts n))) refl (gained_apart at ts n (slice_get ts n) refl h) h

-- what each label keeps so at its token
apart_at : (label : IdlLabel) (m n : Spot) → goes label m ≡ Some n → (t : Placed Kind) → (s c : Built) → Stands m s → IsApart m s → act label t s ≡ Ok c → IsApart n c
apart_at l.Module outside n e t s c w h a =
    let o = module_in s.scopes t.text s.here in
    let d = module_opens t s o c a in
    subst (λ (k : Spot). IsApart k c) (same_Some outside n e)
    (elim d.things [ inl x ↦ all_as s.things c.things x h.0 | inr x ↦ all_more s c nothing x tt h.0 ], (module_keeps t s o c a).params ∙ h.1)
apart_at l.Module m n e t s c w h a = absurd (none-some n e)
apart_at l.EndModule outside n e t s c w h a = subst (λ (k : Spot). IsApart k c) (same_Some outside n e) (subst (IsApart outside) (ok_is (leave s) c a) (h.0, refl))
apart_at l.EndModule m n e t s c w h a = absurd (none-some n e)
apart_at l.EndInterface outside n e t s c w h a = subst (λ (k : Spot). IsApart k c) (same_Some outside n e) (subst (IsApart outside) (ok_is (leave s) c a) (h.0, refl))
apart_at l.EndInterface m n e t s c w h a = absurd (none-some n e)
apart_at l.Interface outside n e t s c w h a =
    subst (λ (k : Spot). IsApart k c) (same_Some heading n e) (all_more s c nothing (declare_adds t s c a).things tt h.0, (declare_keeps t s c a).params ∙ h.1)
apart_at l.Interface m n e t s c w h a = absurd (none-some n e)
apart_at l.OpenInterface based n e t s c w h a =
    let d = interface_opens s c a in
    subst (λ (k : Spot). IsApart k c) (same_Some outside n e) (all_set s.things c.things (newest s) _ d.things tt h.0, gives_ok IsEmpty _ refl c a)
apart_at l.OpenInterface m n e t s c w h a = absurd (none-some n e)
apart_at l.Declare outside n e t s c w h a =
    subst (λ (k : Spot). IsApart k c) (same_Some named n e) (all_more s c nothing (declare_adds t s c a).things tt h.0, (declare_keeps t s c a).params ∙ h.1)
apart_at l.Declare inside n e t s c w h a =
    let d = declare_adds t s c a in
    subst (λ (k : Spot). IsApart k c) (same_Some part n e) (all_more s c nothing d.things tt h.0, declared_grows s c (declare_keeps t s c a) d.here h.1)
apart_at l.Declare m n e t s c w h a = absurd (none-some n e)
apart_at l.Open outside n e t s c w h a =
    subst (λ (k : Spot). IsApart k c) (same_Some inside n e) (all_more s c nothing (open_opens t s c a).things tt h.0, none_declared c ((open_keeps t s c a).params ∙ h.1))
apart_at l.Open m n e t s c w h a = absurd (none-some n e)
apart_at l.EndStruct inside n e t s c w h a =
    let z : Sized = record { kind = structure (bodies.open_id s) (members_of s.parts.members); leaves = s.parts.leaves; levels = plus s.parts.levels 1 } in
    subst (λ (k : Spot). IsApart k c) (same_Some outside n e) (all_set s.things c.things (opened s) (type z) (type_ends z s c a).things tt h.0, type_empty z s c a)
apart_at l.EndStruct m n e t s c w h a = absurd (none-some n e)
apart_at l.EndException inside n e t s c w h a =
    subst (λ (k : Spot). IsApart k c) (same_Some outside n e) (all_set s.things c.things (opened s) (exception s.parts.members) (exception_ends s c a).things tt h.0, exception_empty s c a)
apart_at l.EndException m n e t s c w h a = absurd (none-some n e)
apart_at l.EndUnion inside n e t s c w h a =
    let z : Sized = record { kind = union (bodies.open_id s) s.parts.discriminator (cases_of s.parts.cases); leaves = plus s.parts.leaves 1; levels = plus s.parts.levels 1 } in
    subst (λ (k : Spot). IsApart k c) (same_Some outside n e) (all_set s.things c.things (opened s) (type z) (type_ends z s c a).things tt h.0, type_empty z s c a)
apart_at l.EndUnion m n e t s c w h a = absurd (none-some n e)
apart_at l.EndEnum inside n e t s c w h a =
    let z = leaf (scalar (enumeration (bodies.open_id s) s.parts.enumerators)) in
    subst (λ (k : Spot). IsApart k c) (same_Some outside n e) (all_set s.things c.things (opened s) (type z) (type_ends z s c a).things tt h.0, type_empty z s c a)
apart_at l.EndEnum m n e t s c w h a = absurd (none-some n e)
apart_at l.Enumerator inside n e t s c w h a =
    let d = enumerate_adds t s c a in
    subst (λ (k : Spot). IsApart k c) (same_Some inside n e) (all_more s c _ d.things tt h.0, declared_grows s c (enumerate_keeps t s c a) d.here h.1)
apart_at l.Enumerator m n e t s c w h a = absurd (none-some n e)
apart_at l.Attribute outside n e t s c w h a =
    let x = interfaces.attribute_of s.parts.readonly t.text s.type in
    let ts = s.things ++ x ∷ [] in
    let more : AllApart ts = λ i y g. elim (get_behind s.things x y i g) [ inl q ↦ h.0 i y q | inr q ↦ subst HasParamsApart q.1 (attribute_apart s.parts.readonly t.text s.type) ] in
    subst (λ (k : Spot). IsApart k c) (same_Some outside n e)
    (all_as (gained (s.here - 1) (length s.scopes.declared) ts) c.things (attribute_adds t s c a).things (all_gained ts (s.here - 1) (length s.scopes.declared) more), (attribute_keeps t s c a).params ∙ h.1)
apart_at l.Attribute m n e t s c w h a = absurd (none-some n e)
apart_at l.Param inside n e t s c w h a =
    subst (λ (k : Spot). IsApart k c) (same_Some inside n e) (all_more s c nothing (param_adds t s c a).things tt h.0, param_declared t s c a h.1)
apart_at l.Param m n e t s c w h a = absurd (none-some n e)
apart_at (l.Refuse d) m n e t s c w h a = absurd cc
apart_at label m n e t s c w h a = subst (λ (k : Spot). IsApart k c) (same_Some m n e) (apart_same m s c (quiet_act label t s refl c a) h)

-- and without a token
apart_alone : (label : IdlLabel) (m n : Spot) → goes_alone label m ≡ Some n → (s c : Built) → Stands m s → IsApart m s → judge label s ≡ Ok c → IsApart n c
apart_alone l.Base heading n e s c w h a =
    subst (λ (k : Spot). IsApart k c) (same_Some heading n e) (all_as s.things c.things (base_adds s c a).things h.0, (base_keeps (names.meaning s) s c a).params ∙ h.1)
apart_alone l.Base m n e s c w h a = absurd (none-some n e)
apart_alone l.Inherit heading n e s c w h a = subst (λ (k : Spot). IsApart k c) (same_Some based n e) (apart_same heading s c (quiet_judge l.Inherit s refl c a) h)
apart_alone l.Inherit m n e s c w h a = absurd (none-some n e)
apart_alone l.Typedef named n e s c w h a =
    subst (λ (k : Spot). IsApart k c) (same_Some outside n e) (all_set s.things c.things (newest s) _ (typedef_sets s c a).things tt h.0, (typedef_keeps s c a).params ∙ h.1)
apart_alone l.Typedef m n e s c w h a = absurd (none-some n e)
apart_alone l.Member part n e s c w h a =
    let d = member_sets s c a in
    subst (λ (k : Spot). IsApart k c) (same_Some inside n e) (all_set s.things c.things (newest s) nothing d.things tt h.0, declared_grows s c (member_keeps s c a) d.here h.1)
apart_alone l.Member m n e s c w h a = absurd (none-some n e)
apart_alone l.CaseMember part n e s c w h a =
    let d = case_member_sets s c a in
    subst (λ (k : Spot). IsApart k c) (same_Some inside n e) (all_set s.things c.things (newest s) nothing d.things tt h.0, declared_grows s c (case_member_keeps s c a) d.here h.1)
apart_alone l.CaseMember m n e s c w h a = absurd (none-some n e)
apart_alone l.EndConst named n e s c w h a =
    let d = end_const_sets s c a in
    subst (λ (k : Spot). IsApart k c) (same_Some outside n e) (all_set s.things c.things (newest s) (constant d.kind d.value) d.sets.things tt h.0, (const_keeps s c a).params ∙ h.1)
apart_alone l.EndConst m n e s c w h a = absurd (none-some n e)
apart_alone l.EndOperation inside n e s c w h a =
    let d = operation_ends s c a in
    let g = gained d.around (opened s) s.things in
    let own : are_apart (names_of d.read.parts.params) ≡ true = subst (λ (p : Parts). are_apart (names_of p.params) ≡ true) (sym d.read_parts) h.1.apart in
    subst (λ (k : Spot). IsApart k c) (same_Some outside n e)
    (all_set g c.things (opened s) (interfaces.operation_read d.read) d.things (own, tt) (all_gained s.things d.around (opened s) h.0), operation_empty s c a)
apart_alone l.EndOperation m n e s c w h a = absurd (none-some n e)
apart_alone label m n e s c w h a = subst (λ (k : Spot). IsApart k c) (same_Some m n e) (apart_same m s c (quiet_judge label s refl c a) h)

-- the operations of a text
pub apart_text : (text : List ℕ) (new : Built) → Declares text new → AllApart new.things
apart_text text new w = (standing_keeps IsApart apart_at apart_alone (λ i x e. absurd (none-some x e), refl) text new w).0
