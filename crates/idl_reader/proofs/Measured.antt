-- What is counted of the types of a text is no less than they have, and none is too large.
use Rattle.std.proofs.Common.{◌≡◌, inl, inr, ℕ, ◌+◌, ◌-◌, ◌≤◌, arith, Bool, true, false, not, List, [], ◌∷◌, ◌++◌, length, set, Option, Some, None, Result, Ok, Err, refl, sym, ap, subst, ◌∙◌, sum_by}
use Rattle.std.specs.Prelude.{nat_lt, slice_get}
use Rattle.std.proofs.lemmas.Bool.{cond_both}
use Rattle.std.proofs.lemmas.Bool.Decides.{nat_tests}
use Rattle.std.proofs.lemmas.Option.{none-some}
use Rattle.grammar.specs.Language.{Placed}
use Rattle.grammar.specs.Reading.{◌>>=◌}
use Rattle.grammar.proofs.Basics.{bind_ok, ok_is}
use Rattle.cdr_values.specs.Trees as trees
use Rattle.cdr_values.specs.Trees.{scalar, structure, union, enumeration, words, members_of, cases_of, Branch}
use Rattle.idl_tokens.specs.declared.kind.Kind.{Kind}
use Rattle.idl_grammar.specs.declared.fault.IdlFault.{IdlFault}
use Rattle.idl_grammar.specs.declared.fault.IdlCause.{IdlCause}
use Rattle.idl_grammar.specs.declared.fault.IdlCause.TheVariants as cause
use Rattle.idl_grammar.specs.declared.label.Basic.{Basic}
use Rattle.idl_grammar.specs.declared.label.Basic.TheVariants as basic
use Rattle.idl_grammar.specs.declared.label.IdlLabel.{IdlLabel}
use Rattle.idl_grammar.specs.declared.label.IdlLabel.TheVariants as l
use Rattle.idl_scopes.specs.declared.place.Place.{Place}
use Rattle.idl_scopes.specs.Table.{Sort, module_}
use Rattle.idl_scopes.specs.Table as table
use Rattle.idl_scopes.specs.Finding.{outer, module_in}
use Rattle.idl_scopes.specs.Taking.{is_taken, is_taken_part}
use Rattle.idl_constants.specs.ConstValues.{Value, label_of}
use Rattle.idl_constants.specs.Fitting.{Fit, fit}
use Rattle.idl_types.specs.Things.{ParamView}
use Rattle.idl_types.specs.Counting as counting
use Rattle.idl_types.specs.Counting.{leaves_of, levels_of, leaves_of_members, leaves_of_cases, levels_of_members, levels_of_cases, result_leaves}
use Rattle.idl_names.specs.Sizes.{Sized, plus, leaf, is_large, basic_kind}
use Rattle.idl_names.specs.State.{Thing, nothing, interface, type, exception, constant, enumerator, operations, Parts, no_parts, Built, nothing_built}
use Rattle.idl_names.specs.Changes.{Done, place_of, refused, unless, newest, opened, thing_in, thing_at, place_at, name_at, with_name, declare_in, declare, entered, enter, become, leave, ended, ends, counted, measured}
use Rattle.idl_names.specs.ScopedNames as names
use Rattle.idl_names.specs.Values as values
use Rattle.idl_names.specs.Bodies as bodies
use Rattle.idl_names.specs.Interfaces as interfaces
use Rattle.idl_names.specs.Labels.{act, judge}
use Rattle.idl_names.specs.Whole.{Declares}
use Rattle.idl_reader.proofs.Steps.{Gives, gives_ok, gives_err, gives_then, gives_unless}
use Rattle.idl_reader.proofs.Tables.{get_behind}
use Rattle.idl_reader.proofs.ThingLists.{get_set}
use Rattle.idl_reader.proofs.KeptNames.{unless_ok}
use Rattle.idl_reader.proofs.Places.{text_keeps}
use Rattle.idl_reader.proofs.SizedTypes.{AtMost, IsSized, plus_at_most, leaf_sized, sequence_sized, arrays_sized, small, leaves_more, levels_more, case_leaves_more, case_levels_more, sum_more}

-- the leaves of parameters
abbrev pub param_leaves : List ParamView → ℕ
param_leaves ps = sum_by (λ (p : ParamView). leaves_of p.kind) ps

-- what a declaration stands for is counted so
abbrev pub IsMeasuredThing : Thing → Type 0
IsMeasuredThing (type k) = IsSized k × (is_large k ≡ false)
IsMeasuredThing (exception ms) = (leaves_of_members (members_of ms) ≤ 65536) × (levels_of_members (members_of ms) ≤ 64)
IsMeasuredThing (constant kind v) = (leaves_of kind ≡ 1) × (levels_of kind ≡ 0)
IsMeasuredThing (operations os n) = AtMost (sum_by counting.operation_leaves os) n
IsMeasuredThing thing = Unit {0}

-- and the parts that were read; no member has too many levels
pub record ArePartsMeasured (p : Parts) : Type 0 where
  pub leaves : AtMost (leaves_of_members (members_of p.members) + (leaves_of_cases (cases_of p.cases) + (result_leaves p.result + param_leaves p.params))) p.leaves
  pub levels : AtMost (levels_of_members (members_of p.members)) p.levels
  pub case_levels : AtMost (levels_of_cases (cases_of p.cases)) p.levels
  pub shallow : levels_of_members (members_of p.members) ≤ 64

pub record IsMeasured (s : Built) : Type 0 where
  pub type_is : IsSized s.type
  pub things : (i : ℕ) (x : Thing) → slice_get s.things i ≡ Some x → IsMeasuredThing x
  pub parts : ArePartsMeasured s.parts

abbrev Kept : Done → Type 0
Kept r = Gives IsMeasured r

none_measured : ArePartsMeasured no_parts
none_measured = record { leaves = λ h. omega arith; levels = λ h. omega arith; case_levels = λ h. omega arith; shallow = omega arith }

-- the same types, things and sizes of parts
kept_like : (s c : Built) → IsMeasured s → s.type ≡ c.type → s.things ≡ c.things → ArePartsMeasured c.parts → Kept (Ok c)
kept_like s c h a b p = gives_ok IsMeasured c (record { type_is = subst IsSized a h.type_is; things = subst (λ (ts : List Thing). (i : ℕ) (x : Thing) → slice_get ts i ≡ Some x → IsMeasuredThing x) b h.things; parts = p })

-- parts of the same sizes
sizes_same : (p q : Parts) → ArePartsMeasured p → p.members ≡ q.members → p.cases ≡ q.cases → p.result ≡ q.result → p.params ≡ q.params → p.leaves ≡ q.leaves → p.levels ≡ q.levels → ArePartsMeasured q
sizes_same p q h a b c d e f = record {
  leaves = subst (λ (n : ℕ). AtMost (leaves_of_members (members_of q.members) + (leaves_of_cases (cases_of q.cases) + (result_leaves q.result + param_leaves q.params))) n) e
      (subst (λ (ps : List ParamView). AtMost (leaves_of_members (members_of q.members) + (leaves_of_cases (cases_of q.cases) + (result_leaves q.result + param_leaves ps))) p.leaves) d
      (subst (λ (r : Option trees.Kind). AtMost (leaves_of_members (members_of q.members) + (leaves_of_cases (cases_of q.cases) + (result_leaves r + param_leaves p.params))) p.leaves) c
      (subst (λ (cs : List Branch). AtMost (leaves_of_members (members_of q.members) + (leaves_of_cases (cases_of cs) + (result_leaves p.result + param_leaves p.params))) p.leaves) b
      (subst (λ (ms : List (List ℕ × trees.Kind)). AtMost (leaves_of_members (members_of ms) + (leaves_of_cases (cases_of p.cases) + (result_leaves p.result + param_leaves p.params))) p.leaves) a h.leaves))));
  levels = subst (λ (n : ℕ). AtMost (levels_of_members (members_of q.members)) n) f (subst (λ (ms : List (List ℕ × trees.Kind)). AtMost (levels_of_members (members_of ms)) p.levels) a h.levels);
  case_levels = subst (λ (n : ℕ). AtMost (levels_of_cases (cases_of q.cases)) n) f (subst (λ (cs : List Branch). AtMost (levels_of_cases (cases_of cs)) p.levels) b h.case_levels);
  shallow = subst (λ (ms : List (List ℕ × trees.Kind)). levels_of_members (members_of ms) ≤ 64) a h.shallow;
}

-- a state that differs in parts without types, or elsewhere
abbrev Alike : Built → Built → Type 0
Alike s c = (s.type ≡ c.type) × (s.things ≡ c.things) × (s.parts.members ≡ c.parts.members) × (s.parts.cases ≡ c.parts.cases) × (s.parts.result ≡ c.parts.result) × (s.parts.params ≡ c.parts.params) × (s.parts.leaves ≡ c.parts.leaves) × (s.parts.levels ≡ c.parts.levels)

abbrev alike : (s c : Built) → IsMeasured s → Alike s c → Kept (Ok c)
alike s c h e = kept_like s c h e.0 e.1 (sizes_same s.parts c.parts h.parts e.2 e.3 e.4 e.5 e.6 e.7)

kept_unless : (b : Bool) (d : IdlCause) (p : Place) (s : Built) → IsMeasured s → Kept (unless b d p s)
kept_unless b d p s h = gives_unless IsMeasured b d p s h

kept_then : (r : Done) (f : Built → Done) → Kept r → ((x : Built) → IsMeasured x → Kept (f x)) → Kept (r >>= f)
kept_then r f h k = gives_then IsMeasured IsMeasured r f h k

kept_counted : (n : ℕ) (p : Place) (s : Built) → IsMeasured s → Kept (counted n p s)
kept_counted n p s h =
    cond_both (nat_lt 1048576 (s.leaves + n)) (refused cause.TooLarge p) (Ok (record s { leaves = s.leaves + n })) Kept
    (λ e. gives_err IsMeasured _) (λ e. alike s (record s { leaves = s.leaves + n }) h (refl, refl, refl, refl, refl, refl, refl, refl))

kept_fitting : (f : Fit) (s : Built) → IsMeasured s → Kept (values.fitting f s)
kept_fitting (Ok x) s h = gives_ok IsMeasured s h
kept_fitting (Err m) s h = gives_err IsMeasured _

-- a thing more
things_more : (s c : Built) (x : Thing) → IsMeasured s → c.type ≡ s.type → c.things ≡ s.things ++ x ∷ [] → ArePartsMeasured c.parts → IsMeasuredThing x → IsMeasured c
things_more s c x h a e p m = record {
  type_is = subst IsSized (sym a) h.type_is;
  things = λ i y g. elim (get_behind s.things x y i (ap (λ (ts : List Thing). slice_get ts i) (sym e) ∙ g)) [ inl q ↦ h.things i y q | inr q ↦ subst IsMeasuredThing q.1 m ];
  parts = p;
}

-- a thing that is set
things_set : (s c : Built) (n : ℕ) (x : Thing) → IsMeasured s → c.type ≡ s.type → c.things ≡ set s.things n x → ArePartsMeasured c.parts → IsMeasuredThing x → IsMeasured c
things_set s c n x h a e p m = record {
  type_is = subst IsSized (sym a) h.type_is;
  things = λ i y g. elim (get_set s.things n i x y (ap (λ (ts : List Thing). slice_get ts i) (sym e) ∙ g)) [ inl q ↦ subst IsMeasuredThing q.1 m | inr q ↦ h.things i y q.1 ];
  parts = p;
}

-- what a type is that a name means, or words spell
kept_typed : (k : Sized) (s : Built) → IsMeasured s → IsSized k → Kept (names.typed k s)
kept_typed k s h m = gives_ok IsMeasured (record s { type = k }) (record { type_is = m; things = h.things; parts = h.parts })

basic_sized : (b : Basic) → IsSized (leaf (basic_kind b))
basic_sized basic.Boolean = leaf_sized _ refl refl
basic_sized basic.Octet = leaf_sized _ refl refl
basic_sized basic.Char = leaf_sized _ refl refl
basic_sized basic.Short = leaf_sized _ refl refl
basic_sized basic.UShort = leaf_sized _ refl refl
basic_sized basic.Long = leaf_sized _ refl refl
basic_sized basic.ULong = leaf_sized _ refl refl
basic_sized basic.LongLong = leaf_sized _ refl refl
basic_sized basic.ULongLong = leaf_sized _ refl refl

-- the type that a thing is
type_sized : (ts : List Thing) (i : ℕ) (o : Option Thing) (last : Place) (k : Sized) → slice_get ts i ≡ o → ((j : ℕ) (x : Thing) → slice_get ts j ≡ Some x → IsMeasuredThing x) → names.type_in (thing_in o) last ≡ Ok k → IsSized k
type_sized ts i None last k e h q = absurd cc
type_sized ts i (Some (type m)) last k e h q = let same : m ≡ k = cc in subst IsSized same (h i (type m) e).0
type_sized ts i (Some nothing) last k e h q = absurd cc
type_sized ts i (Some (interface bs os)) last k e h q = absurd cc
type_sized ts i (Some (exception ms)) last k e h q = absurd cc
type_sized ts i (Some (constant kind v)) last k e h q = absurd cc
type_sized ts i (Some (enumerator id n)) last k e h q = absurd cc
type_sized ts i (Some (operations os n)) last k e h q = absurd cc

kept_use_type : (r : Result Sized IdlFault) (s : Built) → IsMeasured s → ((k : Sized) → r ≡ Ok k → IsSized k) → Kept (names.typed_so r s)
kept_use_type (Ok k) s h m = gives_ok IsMeasured _ (record { type_is = m k refl; things = h.things; parts = h.parts })
kept_use_type (Err f) s h m = gives_err IsMeasured f

use_type_measured : (s : Built) → IsMeasured s → Kept (names.use_type (names.meaning s) s)
use_type_measured s h =
    kept_use_type (names.type_in (names.meaning s) s.last) s h (λ k e. type_sized s.things (names.meant s) (slice_get s.things (names.meant s)) s.last k refl h.things e)

kept_valued : (r : Result Value IdlFault) (s : Built) → IsMeasured s → Kept (names.valued_so r s)
kept_valued (Ok v) s h = alike s _ h (refl, refl, refl, refl, refl, refl, refl, refl)
kept_valued (Err f) s h = gives_err IsMeasured f

kept_bound : (r : Result ℕ IdlFault) (s : Built) → IsMeasured s → Kept (values.bound_so r s)
kept_bound (Ok n) s h = alike s _ h (refl, refl, refl, refl, refl, refl, refl, refl)
kept_bound (Err f) s h = gives_err IsMeasured f

kept_length : (r : Result ℕ IdlFault) (s : Built) → IsMeasured s → Kept (values.length_so r s)
kept_length (Ok n) s h = alike s _ h (refl, refl, refl, refl, refl, refl, refl, refl)
kept_length (Err f) s h = gives_err IsMeasured f

kept_part : (t : Placed Kind) (s : Built) (o : Option ℕ) → IsMeasured s → Kept (names.part_found t s o)
kept_part t s None h = gives_err IsMeasured _
kept_part t s (Some i) h = alike s _ h (refl, refl, refl, refl, refl, refl, refl, refl)

-- a condition, and then parts without types
kept_so : (b : Bool) (d : IdlCause) (p : Place) (s : Built) (f : Built → Built) → ((x : Built) → Alike x (f x)) → IsMeasured s → Kept (unless b d p s >>= (λ x. Ok (f x)))
kept_so b d p s f k h = kept_then (unless b d p s) (λ x. Ok (f x)) (kept_unless b d p s h) (λ x hx. alike x (f x) hx (k x))

-- declarations
kept_declare_in : (scope : ℕ) (sort : Sort) (thing : Thing) (t : Placed Kind) (s : Built) → IsMeasured s → IsMeasuredThing thing → Kept (declare_in scope sort thing t s)
kept_declare_in scope sort thing t s h m =
    kept_then (unless (is_taken s.scopes t.text scope) cause.Clash (place_of t) s) (λ x. Ok (with_name scope sort thing t x)) (kept_unless _ cause.Clash (place_of t) s h)
    (λ x hx. gives_ok IsMeasured (with_name scope sort thing t x) (things_more x (with_name scope sort thing t x) thing hx refl refl hx.parts m))

kept_declare : (t : Placed Kind) (s : Built) → IsMeasured s → Kept (declare t s)
kept_declare t s h = kept_declare_in s.here table.unfinished nothing t s h tt

kept_enter : (s : Built) → IsMeasured s → Kept (enter s)
kept_enter s h = alike s (entered s) h (refl, refl, refl, refl, refl, refl, refl, refl)

kept_leave : (s : Built) → IsMeasured s → Kept (Ok (leave s))
kept_leave s h = kept_like s (leave s) h refl refl none_measured

kept_open_module : (t : Placed Kind) (s : Built) (o : Option ℕ) → IsMeasured s → Kept (names.open_module t s o)
kept_open_module t s (Some i) h = alike s (record s { here = i + 1 }) h (refl, refl, refl, refl, refl, refl, refl, refl)
kept_open_module t s None h = kept_then (declare_in s.here module_ nothing t s) enter (kept_declare_in s.here module_ nothing t s h tt) (λ x hx. kept_enter x hx)

kept_enumerate : (t : Placed Kind) (s : Built) → IsMeasured s → Kept (bodies.enumerate t s)
kept_enumerate t s h =
    let thing = enumerator (bodies.open_id s) (length s.parts.enumerators) in
    kept_then (declare_in (outer s.scopes s.here) table.other thing t s) (bodies.label_named t) (kept_declare_in (outer s.scopes s.here) table.other thing t s h tt)
    (λ x hx. alike x _ hx (refl, refl, refl, refl, refl, refl, refl, refl))

-- a type that was measured
measured_ok : (k : Sized) (p : Place) (s x : Built) → measured k p s ≡ Ok x → (is_large k ≡ false) × (s ≡ x)
measured_ok k p s x e = unless_ok (is_large k) cause.TooLarge p s x e

declared_sized : (s : Built) → IsMeasured s → IsSized (bodies.declared_type s)
declared_sized s h = arrays_sized (bodies.inner_lengths s) s.type h.type_is

kept_typedef : (s : Built) → IsMeasured s → Kept (bodies.typedef s)
kept_typedef s h c e =
    let k = bodies.declared_type s in
    let p = place_at s (newest s) in
    let m = bind_ok (bodies.measured_name s >>= counted k.leaves p) (bodies.type_named k) c e in
    let n = bind_ok (bodies.measured_name s) (counted k.leaves p) m.0 m.1 in
    let u = measured_ok k p s n.0 n.1 in
    let hx = kept_counted k.leaves p n.0 (subst IsMeasured u.1 h) m.0 n.2 in
    gives_ok IsMeasured (bodies.named (type k) m.0) (things_set m.0 (bodies.named (type k) m.0) (newest m.0) (type k) hx refl refl hx.parts (declared_sized s h, u.0)) c m.2

-- one member more
member_measured : (name : List ℕ) (k : Sized) (p : Parts) → ArePartsMeasured p → IsSized k → is_large k ≡ false → ArePartsMeasured (bodies.with_member name k p)
member_measured name k p h m fits =
    let q = small k m fits in
    let a = leaves_more p.members (name, k.kind) in
    let b = levels_more p.members (name, k.kind) in
    let rest = leaves_of_cases (cases_of p.cases) + (result_leaves p.result + param_leaves p.params) in
    record {
      leaves = λ less. let x = plus_at_most (leaves_of_members (members_of p.members) + rest) (leaves_of k.kind) p.leaves k.leaves h.leaves m.leaves less in omega arith;
      levels = λ less. let x = h.levels (omega arith) in let y = m.levels (omega arith) in omega arith;
      case_levels = λ less. let x = h.case_levels (omega arith) in omega arith;
      shallow = let x = h.shallow in let y = q.levels in omega arith;
    }

case_measured : (name : List ℕ) (k : Sized) (p : Parts) → ArePartsMeasured p → IsSized k → ArePartsMeasured (bodies.with_case name k p)
case_measured name k p h m =
    let c : Branch = (p.labels, p.is_default, name, k.kind) in
    let a = case_leaves_more p.cases c in
    let b = case_levels_more p.cases c in
    let rest = result_leaves p.result + param_leaves p.params in
    record {
      leaves = λ less. let x = plus_at_most (leaves_of_members (members_of p.members) + (leaves_of_cases (cases_of p.cases) + rest)) (leaves_of k.kind) p.leaves k.leaves h.leaves m.leaves less in omega arith;
      levels = λ less. let x = h.levels (omega arith) in omega arith;
      case_levels = λ less. let x = h.case_levels (omega arith) in let y = m.levels (omega arith) in omega arith;
      shallow = h.shallow;
    }

kept_member : (s : Built) → IsMeasured s → Kept (bodies.member s)
kept_member s h c e =
    let k = bodies.declared_type s in
    let m = bind_ok (bodies.measured_name s) bodies.member_named c e in
    let u = measured_ok k (place_at s (newest s)) s m.0 m.1 in
    let q = subst (λ (x : Built). bodies.member_named x ≡ Ok c) (sym u.1) m.2 in
    let y = record s { parts = bodies.with_member (name_at s (newest s)) k s.parts } in
    gives_ok IsMeasured (bodies.named nothing y)
    (things_set s (bodies.named nothing y) (newest s) nothing h refl refl (member_measured (name_at s (newest s)) k s.parts h.parts (declared_sized s h) u.0) tt) c q

kept_case_member : (s : Built) → IsMeasured s → Kept (bodies.case_member s)
kept_case_member s h c e =
    let k = bodies.declared_type s in
    let m = bind_ok (bodies.measured_name s) bodies.case_named c e in
    let u = measured_ok k (place_at s (newest s)) s m.0 m.1 in
    let q = subst (λ (x : Built). bodies.case_named x ≡ Ok c) (sym u.1) m.2 in
    let y = record s { parts = bodies.with_case (name_at s (newest s)) k s.parts } in
    gives_ok IsMeasured (bodies.named nothing y)
    (things_set s (bodies.named nothing y) (newest s) nothing h refl refl (case_measured (name_at s (newest s)) k s.parts h.parts (declared_sized s h)) tt) c q

-- a type with a body
kept_ends_type : (k : Sized) (s : Built) → IsMeasured s → IsSized k → Kept (bodies.ends_type k s)
kept_ends_type k s h sized c e =
    let p = place_at s (opened s) in
    let m = bind_ok (measured k p s >>= counted k.leaves p) (ends table.other (type k)) c e in
    let n = bind_ok (measured k p s) (counted k.leaves p) m.0 m.1 in
    let u = measured_ok k p s n.0 n.1 in
    let hx = kept_counted k.leaves p n.0 (subst IsMeasured u.1 h) m.0 n.2 in
    gives_ok IsMeasured (ended table.other (type k) m.0) (things_set m.0 (ended table.other (type k) m.0) (opened m.0) (type k) hx refl refl none_measured (sized, u.0)) c m.2

struct_sized : (id : List ℕ) (p : Parts) → ArePartsMeasured p → IsSized (record { kind = structure id (members_of p.members); leaves = p.leaves; levels = plus p.levels 1 })
struct_sized id p h = record { leaves = λ less. let x = h.leaves less in omega arith; levels = plus_at_most (levels_of_members (members_of p.members)) 1 p.levels 1 h.levels (λ x. omega arith) }

union_sized : (id : List ℕ) (p : Parts) → ArePartsMeasured p → IsSized (record { kind = union id p.discriminator (cases_of p.cases); leaves = plus p.leaves 1; levels = plus p.levels 1 })
union_sized id p h = record {
  leaves = plus_at_most (leaves_of_cases (cases_of p.cases)) 1 p.leaves 1 (λ less. let x = h.leaves less in omega arith) (λ x. omega arith);
  levels = plus_at_most (levels_of_cases (cases_of p.cases)) 1 p.levels 1 h.case_levels (λ x. omega arith);
}

kept_end_exception : (s : Built) → IsMeasured s → Kept (bodies.end_exception s)
kept_end_exception s h c e =
    let p = place_at s (opened s) in
    let thing = exception s.parts.members in
    let first = unless (nat_lt 65536 s.parts.leaves) cause.TooLarge p s in
    let m = bind_ok (first >>= counted s.parts.leaves p) (ends table.other thing) c e in
    let n = bind_ok first (counted s.parts.leaves p) m.0 m.1 in
    let u = unless_ok (nat_lt 65536 s.parts.leaves) cause.TooLarge p s n.0 n.1 in
    let hx = kept_counted s.parts.leaves p n.0 (subst IsMeasured u.1 h) m.0 n.2 in
    let few : s.parts.leaves ≤ 65536 = let q = u.0 in grind (arith, nat_tests) in
    let x = h.parts.leaves (omega arith) in
    gives_ok IsMeasured (ended table.other thing m.0) (things_set m.0 (ended table.other thing m.0) (opened m.0) thing hx refl refl none_measured (omega arith, h.parts.shallow)) c m.2

-- a value fits a type of one leaf alone
fits_leaf : (k : trees.Kind) (v : Value) (x : Unit {0}) → fit k v ≡ Ok x → (leaves_of k ≡ 1) × (levels_of k ≡ 0)
fits_leaf (scalar k) v x e = (refl, refl)
fits_leaf (words n) v x e = (refl, refl)
fits_leaf (trees.sequence k n) v x e = absurd cc
fits_leaf (trees.array k n) v x e = absurd cc
fits_leaf (structure id ms) v x e = absurd cc
fits_leaf (union id d cs) v x e = absurd cc

fitting_ok : (f : Fit) (s x : Built) → values.fitting f s ≡ Ok x → (f ≡ Ok tt) × (s ≡ x)
fitting_ok (Ok tt) s x e = (refl, ok_is s x e)
fitting_ok (Err m) s x e = absurd cc

counted_same : (n : ℕ) (p : Place) (s x : Built) → counted n p s ≡ Ok x → record s { leaves = s.leaves + n } ≡ x
counted_same n p s x e = cond_both (nat_lt 1048576 (s.leaves + n)) (refused cause.TooLarge p) (Ok (record s { leaves = s.leaves + n })) (λ (r : Done). r ≡ Ok x → record s { leaves = s.leaves + n } ≡ x) (λ q f. absurd cc) (λ q f. ok_is _ x f) e

kept_end_const : (s : Built) → IsMeasured s → Kept (values.end_const s)
kept_end_const s h c e =
    let p = place_at s (newest s) in
    let first = values.fitting (fit s.type.kind s.value.value) s in
    let m = bind_ok (first >>= counted 1 p) values.constant_named c e in
    let n = bind_ok first (counted 1 p) m.0 m.1 in
    let u = fitting_ok (fit s.type.kind s.value.value) s n.0 n.1 in
    let hx = kept_counted 1 p n.0 (subst IsMeasured u.1 h) m.0 n.2 in
    let same : record n.0 { leaves = n.0.leaves + 1 } ≡ m.0 = counted_same 1 p n.0 m.0 n.2 in
    let kinds : s.type.kind ≡ m.0.type.kind = ap (λ (x : Built). x.type.kind) u.1 ∙ ap (λ (x : Built). x.type.kind) same in
    let one = subst (λ (k : trees.Kind). (leaves_of k ≡ 1) × (levels_of k ≡ 0)) kinds (fits_leaf s.type.kind s.value.value tt u.0) in
    let thing = constant m.0.type.kind m.0.value.value in
    gives_ok IsMeasured (become (newest m.0) table.other thing m.0) (things_set m.0 (become (newest m.0) table.other thing m.0) (newest m.0) thing hx refl refl hx.parts one) c m.2

-- results and parameters
result_measured : (k : Sized) (p : Parts) → ArePartsMeasured p → IsSized k → ArePartsMeasured (bodies.with_part k (record p { result = Some k.kind }))
result_measured k p h m =
    let all = leaves_of_members (members_of p.members) + (leaves_of_cases (cases_of p.cases) + (result_leaves p.result + param_leaves p.params)) in
    record {
      leaves = λ less. let x = plus_at_most all (leaves_of k.kind) p.leaves k.leaves h.leaves m.leaves less in omega arith;
      levels = λ less. let x = h.levels (omega arith) in omega arith;
      case_levels = λ less. let x = h.case_levels (omega arith) in omega arith;
      shallow = h.shallow;
    }

param_measured : (name : List ℕ) (k : Sized) (p : Parts) → ArePartsMeasured p → IsSized k → ArePartsMeasured (interfaces.with_param name k p)
param_measured name k p h m =
    let all = leaves_of_members (members_of p.members) + (leaves_of_cases (cases_of p.cases) + (result_leaves p.result + param_leaves p.params)) in
    let one : ParamView = record { way = p.way; name = name; kind = k.kind } in
    let a = sum_more (λ (q : ParamView). leaves_of q.kind) p.params one in
    record {
      leaves = λ less. let x = plus_at_most all (leaves_of k.kind) p.leaves k.leaves h.leaves m.leaves less in omega arith;
      levels = λ less. let x = h.levels (omega arith) in omega arith;
      case_levels = λ less. let x = h.case_levels (omega arith) in omega arith;
      shallow = h.shallow;
    }

kept_result : (s : Built) → IsMeasured s → Kept (interfaces.result s)
kept_result s h = kept_like s _ h refl refl (result_measured s.type s.parts h.parts h.type_is)

kept_param : (t : Placed Kind) (s : Built) → IsMeasured s → Kept (interfaces.param t s)
kept_param t s h =
    kept_then (interfaces.declare_param t s) (interfaces.param_named t)
    (kept_then (unless (is_taken_part s.scopes t.text s.here) cause.Clash (place_of t) s) (λ x. Ok (with_name x.here table.other nothing t x)) (kept_unless _ cause.Clash (place_of t) s h)
    (λ x hx. gives_ok IsMeasured (with_name x.here table.other nothing t x) (things_more x (with_name x.here table.other nothing t x) nothing hx refl refl hx.parts tt)))
    (λ x hx. kept_like x _ hx refl refl (param_measured t.text x.type x.parts hx.parts hx.type_is))

-- an interface has one operation more
gained_measured : (at : ℕ) (ts : List Thing) (i : ℕ) (o : Option Thing) → slice_get ts i ≡ o → ((j : ℕ) (x : Thing) → slice_get ts j ≡ Some x → IsMeasuredThing x) → IsMeasuredThing (interfaces.and_operation at (thing_in o))
gained_measured at ts i None e h = tt
gained_measured at ts i (Some (interface bs os)) e h = tt
gained_measured at ts i (Some nothing) e h = tt
gained_measured at ts i (Some (type k)) e h = h i (type k) e
gained_measured at ts i (Some (exception ms)) e h = h i (exception ms) e
gained_measured at ts i (Some (constant k v)) e h = h i (constant k v) e
gained_measured at ts i (Some (enumerator id n)) e h = tt
gained_measured at ts i (Some (operations os n)) e h = h i (operations os n) e

with_operation_measured : (scope at : ℕ) (s : Built) → IsMeasured s → IsMeasured (interfaces.with_operation scope at s)
with_operation_measured scope at s h =
    things_set s (interfaces.with_operation scope at s) (scope - 1) (interfaces.and_operation at (thing_at s (scope - 1))) h refl refl h.parts
    (gained_measured at s.things (scope - 1) (slice_get s.things (scope - 1)) refl h.things)

read_measured : (name : List ℕ) (p : Parts) → ArePartsMeasured p → IsMeasuredThing (operations (interfaces.operation_of name p ∷ []) (plus p.leaves 1))
read_measured name p h = λ less. let x = h.leaves (omega arith) in omega arith

kept_end_operation : (s : Built) → IsMeasured s → Kept (interfaces.end_operation s)
kept_end_operation s h =
    kept_then (counted (plus s.parts.leaves 1) (place_at s (opened s)) s) interfaces.operation_ended (kept_counted (plus s.parts.leaves 1) (place_at s (opened s)) s h)
    (λ x hx.
    let y = interfaces.with_operation (outer x.scopes x.here) (opened x) x in
    let hy = with_operation_measured (outer x.scopes x.here) (opened x) x hx in
    gives_ok IsMeasured (ended table.operation (interfaces.operation_read x) y)
    (things_set y (ended table.operation (interfaces.operation_read x) y) (opened y) (interfaces.operation_read x) hy refl refl none_measured (read_measured (name_at x (opened x)) x.parts hx.parts)))

pub attribute_measured : (b : Bool) (name : List ℕ) (k : Sized) → IsSized k → IsMeasuredThing (interfaces.attribute_of b name k)
attribute_measured true name k m = λ less. let x = m.leaves (omega arith) in omega arith
attribute_measured false name k m = λ less. let x = m.leaves (omega arith) in omega arith

kept_attribute : (t : Placed Kind) (s : Built) → IsMeasured s → Kept (interfaces.attribute t s)
kept_attribute t s h =
    let thing = interfaces.attribute_of s.parts.readonly t.text s.type in
    kept_then (declare_in s.here table.operation thing t s >>= interfaces.attribute_counted t) interfaces.attribute_held
    (kept_then (declare_in s.here table.operation thing t s) (interfaces.attribute_counted t) (kept_declare_in s.here table.operation thing t s h (attribute_measured s.parts.readonly t.text s.type h.type_is))
    (λ x hx. kept_counted (interfaces.operation_leaves (thing_at x (newest x))) (place_of t) x hx))
    (λ x hx. gives_ok IsMeasured (interfaces.with_operation x.here (newest x) x) (with_operation_measured x.here (newest x) x hx))

kept_open_interface : (s : Built) → IsMeasured s → Kept (interfaces.open_interface s)
kept_open_interface s h =
    let thing = interface s.parts.bases (interfaces.inherited s) in
    let y = record (become (newest s) (table.interface s.parts.given) thing s) { parts = no_parts } in
    kept_enter y (things_set s y (newest s) thing h refl refl none_measured tt)

kept_base : (thing : Thing) (s : Built) → IsMeasured s → Kept (interfaces.base_named thing s)
kept_base thing s h =
    let f = λ (x : Built). unless (interfaces.base_clashes x) cause.Clash x.last x in
    kept_then (unless (not (interfaces.is_interface thing)) cause.WrongKind s.last s >>= f) interfaces.with_base
    (kept_then (unless (not (interfaces.is_interface thing)) cause.WrongKind s.last s) f (kept_unless _ cause.WrongKind s.last s h) (λ x hx. kept_unless _ cause.Clash x.last x hx))
    (λ x hx. alike x _ hx (refl, refl, refl, refl, refl, refl, refl, refl))

kept_labelled : (s : Built) → IsMeasured s → Kept (bodies.labelled s)
kept_labelled s h = kept_so _ cause.TwiceCase s.value.at s (λ x. record x { parts = bodies.with_label (label_of x.value.value) x.parts }) (λ x. (refl, refl, refl, refl, refl, refl, refl, refl)) h

-- what each label keeps so at its token
pub measured_at : (label : IdlLabel) (t : Placed Kind) (s : Built) → IsMeasured s → Kept (act label t s)
measured_at (l.Refuse c) t s h = gives_err IsMeasured _
measured_at l.Module t s h = kept_open_module t s (module_in s.scopes t.text s.here) h
measured_at l.EndModule t s h = kept_leave s h
measured_at l.Interface t s h = kept_declare t s h
measured_at l.OpenInterface t s h = kept_open_interface s h
measured_at l.EndInterface t s h = kept_leave s h
measured_at l.Rooted t s h = alike s _ h (refl, refl, refl, refl, refl, refl, refl, refl)
measured_at l.NamePart t s h = kept_part t s (names.find_part t.text s s.search) h
measured_at (l.Basic b) t s h = kept_typed (leaf (basic_kind b)) s h (basic_sized b)
measured_at l.AnyText t s h = kept_typed (leaf (words 0)) s h (leaf_sized (words 0) refl refl)
measured_at l.BoundedText t s h = gives_ok IsMeasured _ (record { type_is = leaf_sized (words s.bound) refl refl; things = h.things; parts = h.parts })
measured_at l.Sequence t s h = gives_ok IsMeasured _ (record { type_is = sequence_sized s.bound s.type h.type_is; things = h.things; parts = h.parts })
measured_at l.Declare t s h = kept_declare t s h
measured_at l.Open t s h = kept_then (declare t s) enter (kept_declare t s h) (λ x hx. kept_enter x hx)
measured_at l.Sign t s h = alike s _ h (refl, refl, refl, refl, refl, refl, refl, refl)
measured_at l.Number t s h = alike s _ h (refl, refl, refl, refl, refl, refl, refl, refl)
measured_at l.Plus t s h = alike s _ h (refl, refl, refl, refl, refl, refl, refl, refl)
measured_at l.Minus t s h = alike s _ h (refl, refl, refl, refl, refl, refl, refl, refl)
measured_at l.Character t s h = alike s _ h (refl, refl, refl, refl, refl, refl, refl, refl)
measured_at l.Text t s h = alike s _ h (refl, refl, refl, refl, refl, refl, refl, refl)
measured_at (l.Truth b) t s h = alike s _ h (refl, refl, refl, refl, refl, refl, refl, refl)
measured_at l.EndStruct t s h =
    kept_ends_type (record { kind = structure (bodies.open_id s) (members_of s.parts.members); leaves = s.parts.leaves; levels = plus s.parts.levels 1 }) s h (struct_sized (bodies.open_id s) s.parts h.parts)
measured_at l.EndException t s h = kept_end_exception s h
measured_at l.DefaultLabel t s h = kept_so _ cause.TwiceCase (place_of t) s (λ x. record x { parts = record x.parts { is_default = true } }) (λ x. (refl, refl, refl, refl, refl, refl, refl, refl)) h
measured_at l.EndUnion t s h =
    kept_ends_type (record { kind = union (bodies.open_id s) s.parts.discriminator (cases_of s.parts.cases); leaves = plus s.parts.leaves 1; levels = plus s.parts.levels 1 }) s h (union_sized (bodies.open_id s) s.parts h.parts)
measured_at l.Enumerator t s h = kept_enumerate t s h
measured_at l.EndEnum t s h = kept_ends_type (leaf (scalar (enumeration (bodies.open_id s) s.parts.enumerators))) s h (leaf_sized _ refl refl)
measured_at l.ReadOnly t s h = alike s _ h (refl, refl, refl, refl, refl, refl, refl, refl)
measured_at l.Attribute t s h = kept_attribute t s h
measured_at l.OneWay t s h = alike s _ h (refl, refl, refl, refl, refl, refl, refl, refl)
measured_at l.LongResultName t s h = gives_err IsMeasured _
measured_at l.In t s h = kept_so _ cause.BadOneway (place_of t) s _ (λ x. (refl, refl, refl, refl, refl, refl, refl, refl)) h
measured_at l.Out t s h = kept_so _ cause.BadOneway (place_of t) s _ (λ x. (refl, refl, refl, refl, refl, refl, refl, refl)) h
measured_at l.InOut t s h = kept_so _ cause.BadOneway (place_of t) s _ (λ x. (refl, refl, refl, refl, refl, refl, refl, refl)) h
measured_at l.Param t s h = kept_param t s h
measured_at l.Raises t s h = kept_so _ cause.BadOneway (place_of t) s _ (λ x. (refl, refl, refl, refl, refl, refl, refl, refl)) h
measured_at label t s h = gives_ok IsMeasured s h

-- and without a token
pub measured_alone : (label : IdlLabel) (s : Built) → IsMeasured s → Kept (judge label s)
measured_alone l.Base s h = kept_base (names.meaning s) s h
measured_alone l.Inherit s h = kept_counted (interfaces.leaves_from s.things 0 (interfaces.inherited s)) (place_at s (newest s)) s h
measured_alone l.UseType s h = use_type_measured s h
measured_alone l.UseConst s h = kept_valued (names.value_in (names.meaning s) s.last) s h
measured_alone l.Bound s h = kept_bound (values.size_in s.value) s h
measured_alone l.Length s h = kept_length (values.size_in s.value) s h
measured_alone l.Typedef s h = kept_typedef s h
measured_alone l.Member s h = kept_member s h
measured_alone l.CaseMember s h = kept_case_member s h
measured_alone l.Switch s h = kept_so _ cause.WrongKind s.last s (λ x. record x { parts = record x.parts { discriminator = x.type.kind } }) (λ x. (refl, refl, refl, refl, refl, refl, refl, refl)) h
measured_alone l.CaseLabel s h = kept_then (values.fitting (fit s.parts.discriminator s.value.value) s) bodies.labelled (kept_fitting (fit s.parts.discriminator s.value.value) s h) (λ x hx. kept_labelled x hx)
measured_alone l.ConstType s h = kept_unless _ cause.WrongKind s.last s h
measured_alone l.EndConst s h = kept_end_const s h
measured_alone l.EndAttribute s h = alike s _ h (refl, refl, refl, refl, refl, refl, refl, refl)
measured_alone l.ResultName s h = kept_then (names.use_type (names.meaning s) s) _ (use_type_measured s h) (λ x hx. gives_err IsMeasured _)
measured_alone l.Result s h = kept_result s h
measured_alone l.Raised s h = kept_so _ cause.WrongKind s.last s _ (λ x. (refl, refl, refl, refl, refl, refl, refl, refl)) h
measured_alone l.EndOperation s h = kept_end_operation s h
measured_alone label s h = gives_ok IsMeasured s h

pub nothing_measured : IsMeasured nothing_built
nothing_measured = record { type_is = leaf_sized _ refl refl; things = λ i x e. absurd (none-some x e); parts = none_measured }

-- the things of a text are measured
pub measured_text : (text : List ℕ) (new : Built) → Declares text new → IsMeasured new
measured_text text new w = text_keeps (λ m s. IsMeasured s) (λ label m n e t p s c h a. measured_at label t s h c a) (λ label m n e s c h a. measured_alone label s h c a) nothing_measured text new w
