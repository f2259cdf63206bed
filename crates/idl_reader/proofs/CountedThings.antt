-- The leaves of what is declared are counted, and no more than a file may have.
use Rattle.std.proofs.Common.{◌≡◌, inl, inr, ℕ, ◌+◌, ◌-◌, ◌<◌, ◌≤◌, arith, Bool, true, false, List, [], ◌∷◌, ◌++◌, length, set, Option, Some, None, Ok, refl, sym, ap, subst, ◌∙◌}
use Rattle.std.specs.Prelude.{slice_get, ◌==◌}
use Rattle.std.specs.List.{list_any}
use Rattle.std.proofs.lemmas.Bool.{cases_eq, cond_both}
use Rattle.std.proofs.lemmas.Option.{none-some, same_Some}
use Rattle.grammar.specs.Language.{Placed}
use Rattle.grammar.proofs.Basics.{ok_is}
use Rattle.idl_tokens.specs.declared.kind.Kind.{Kind}
use Rattle.idl_grammar.specs.declared.label.IdlLabel.{IdlLabel}
use Rattle.idl_grammar.specs.declared.label.IdlLabel.TheVariants as l
use Rattle.cdr_values.specs.Trees.{scalar, structure, union, enumeration, members_of, cases_of}
use Rattle.idl_types.specs.Things.{OperationView}
use Rattle.idl_scopes.specs.Finding.{module_in}
use Rattle.idl_names.specs.Each.{and_new, and_each}
use Rattle.idl_names.specs.Sizes.{Sized, most, plus, leaf}
use Rattle.idl_names.specs.State.{Thing, nothing, interface, type, exception, constant, enumerator, operations, Parts, Built, nothing_built}
use Rattle.idl_names.specs.Changes.{Done, leave, newest, opened, thing_in, place_at}
use Rattle.idl_names.specs.Bodies as bodies
use Rattle.idl_names.specs.Interfaces.{operations_in, operations_from, inherited, leaves_from, operation_leaves, attribute_of, and_operation}
use Rattle.idl_names.specs.Labels.{act, judge}
use Rattle.idl_names.specs.Whole.{Declares}
use Rattle.idl_reader.proofs.ThingLists.{get_last, set_elsewhere, set_there}
use Rattle.idl_reader.proofs.QuietLabels.{Counts, same_leaves, Same, itself, counted_counts, quiet_act, quiet_judge}
use Rattle.idl_reader.proofs.Shapes.{gained, declare_adds, open_opens, enumerate_adds, param_adds, typedef_sets, member_sets, case_member_sets, end_const_sets, type_ends, exception_ends, attribute_adds, operation_ends, interface_opens, base_adds, module_opens}
use Rattle.idl_reader.proofs.Places.{Spot, outside, heading, based, named, inside, part, goes, goes_alone}
use Rattle.idl_reader.proofs.Standing.{Stands, standing_keeps, newest_there}
use Rattle.idl_reader.proofs.SizedTypes.{AtMost}
use Rattle.idl_reader.proofs.Measured.{IsMeasuredThing, IsMeasured, measured_at, measured_alone, attribute_measured, nothing_measured}
use Rattle.idl_reader.proofs.FileLeaves.{own_leaves, held_leaves, declared_leaves, all_leaves, IsHeld, AreHeld, HasHeld, AllHeld, HeldSame, are_held_same, are_held_more, held_leaves_same, all_same, all_held_same, all_set, all_held_set, held_in, nothing_free, set_same, leaves_added, held_added, leaves_set, held_set, gained_same, leaves_gained, held_gained}

-- what stands for nothing goes on to, where an interface has one operation more
gained_nothing : (ts : List Thing) (n at i : ℕ) → slice_get ts i ≡ Some nothing → slice_get (gained n at ts) i ≡ Some nothing
gained_nothing ts n at i e = elim (cases_eq n i) [
  | inl p ↦ subst (λ (k : ℕ). slice_get (gained k at ts) i ≡ Some nothing) (sym p)
      (ap (λ (o : Option Thing). slice_get (set ts i (and_operation at (thing_in o))) i) e ∙ set_there ts i nothing nothing e)
  | inr p ↦ set_elsewhere ts n i _ p ∙ e
]

-- what an interface inherits are operations
and_new_held : (ts : List Thing) (is : List ℕ) (i : ℕ) → AreHeld ts is → IsHeld ts i → AreHeld ts (and_new is i)
and_new_held ts is i h k = cond_both (list_any (λ y. i == y) is) is (is ++ i ∷ []) (AreHeld ts) (λ e. h) (λ e. are_held_more ts is i h k)

and_each_held : (ts : List Thing) (is js : List ℕ) → AreHeld ts is → AreHeld ts js → AreHeld ts (and_each is js)
and_each_held ts is [] h k = h
and_each_held ts is (j ∷ js) h k = and_each_held ts (and_new is j) js (and_new_held ts is j h k.0) k.1

in_held : (ts : List Thing) (x : Thing) → HasHeld ts x → AreHeld ts (operations_in x)
in_held ts (interface bs os) h = h
in_held ts nothing h = tt
in_held ts (type k) h = tt
in_held ts (exception ms) h = tt
in_held ts (constant k v) h = tt
in_held ts (enumerator id n) h = tt
in_held ts (operations os n) h = tt

from_held : (ts : List Thing) → AllHeld ts ts → (is bases : List ℕ) → AreHeld ts is → AreHeld ts (operations_from ts is bases)
from_held ts h is [] k = k
from_held ts h is (b ∷ bases) k =
    from_held ts h (and_each is (operations_in (thing_in (slice_get ts b)))) bases
    (and_each_held ts is (operations_in (thing_in (slice_get ts b))) k (in_held ts (thing_in (slice_get ts b)) (held_in ts ts b (slice_get ts b) refl h)))

-- what is counted of operations is no less than they have
own_measured : (x : Thing) → IsMeasuredThing x → AtMost (own_leaves x) (operation_leaves x)
own_measured (operations os n) h = h
own_measured nothing h = λ q. omega arith
own_measured (interface bs os) h = λ q. omega arith
own_measured (type k) h = λ q. omega arith
own_measured (exception ms) h = λ q. omega arith
own_measured (constant k v) h = λ q. omega arith
own_measured (enumerator id n) h = λ q. omega arith

own_measured_in : (ts : List Thing) → ((i : ℕ) (x : Thing) → slice_get ts i ≡ Some x → IsMeasuredThing x) → (i : ℕ) (o : Option Thing) → slice_get ts i ≡ o → AtMost (own_leaves (thing_in o)) (operation_leaves (thing_in o))
own_measured_in ts h i None e = λ q. omega arith
own_measured_in ts h i (Some x) e = own_measured x (h i x e)

leaves_from_counts : (ts : List Thing) → ((i : ℕ) (x : Thing) → slice_get ts i ≡ Some x → IsMeasuredThing x) → (total : ℕ) (is : List ℕ) → leaves_from ts total is < most
    → total + held_leaves ts is ≤ leaves_from ts total is
leaves_from_counts ts h total [] less = omega arith
leaves_from_counts ts h total (i ∷ is) less =
    let n = operation_leaves (thing_in (slice_get ts i)) in
    let rest = leaves_from_counts ts h (plus total n) is less in
    let own = own_measured_in ts h i (slice_get ts i) refl (omega arith) in
    omega arith

-- all is counted
pub record IsCounted (s : Built) : Type 0 where
  pub held : AllHeld s.things s.things
  pub counted : all_leaves s.things s.things ≤ s.leaves
  pub within : s.leaves ≤ 1048576
  pub measured : IsMeasured s

-- and after the bases of an interface what it inherits too
pub record IsReserved (s : Built) : Type 0 where
  pub all : IsCounted s
  pub inherited_held : AreHeld s.things (inherited s)
  pub counted : all_leaves s.things s.things + held_leaves s.things (inherited s) ≤ s.leaves

abbrev CountedAt : Spot → Built → Type 0
CountedAt based s = IsReserved s
CountedAt outside s = IsCounted s
CountedAt heading s = IsCounted s
CountedAt named s = IsCounted s
CountedAt inside s = IsCounted s
CountedAt part s = IsCounted s

-- where the same things are declared
counted_same : (s c : Built) → c.things ≡ s.things → Counts 0 s c → IsMeasured c → IsCounted s → IsCounted c
counted_same s c e k m h =
    let a = k.more in
    let b = h.counted in
    record {
      held = subst (λ (ts : List Thing). AllHeld ts ts) (sym e) h.held;
      counted = subst (λ (ts : List Thing). all_leaves ts ts ≤ c.leaves) (sym e) (omega arith);
      within = k.within h.within;
      measured = m;
    }

reserved_same : (s c : Built) → Same s c → IsMeasured c → IsReserved s → IsReserved c
reserved_same s c k m h =
    let a = k.counts.more in
    let b = h.counted in
    let from : inherited s ≡ inherited c = ap (λ (ts : List Thing). operations_from ts [] s.parts.bases) k.things ∙ ap (λ (bs : List ℕ). operations_from c.things [] bs) k.bases in
    record {
      all = counted_same s c (sym k.things) k.counts m h.all;
      inherited_held = subst (AreHeld c.things) from (subst (λ (ts : List Thing). AreHeld ts (inherited s)) k.things h.inherited_held);
      counted = subst (λ (is : List ℕ). all_leaves c.things c.things + held_leaves c.things is ≤ c.leaves) from
          (subst (λ (ts : List Thing). all_leaves ts ts + held_leaves ts (inherited s) ≤ c.leaves) k.things (omega arith));
    }

counted_quiet : (m : Spot) (s c : Built) → Same s c → IsMeasured c → CountedAt m s → CountedAt m c
counted_quiet based s c k m h = reserved_same s c k m h
counted_quiet outside s c k m h = counted_same s c (sym k.things) k.counts m h
counted_quiet heading s c k m h = counted_same s c (sym k.things) k.counts m h
counted_quiet named s c k m h = counted_same s c (sym k.things) k.counts m h
counted_quiet inside s c k m h = counted_same s c (sym k.things) k.counts m h
counted_quiet part s c k m h = counted_same s c (sym k.things) k.counts m h

measured_of : (m : Spot) (s : Built) → CountedAt m s → IsMeasured s
measured_of based s h = h.all.measured
measured_of outside s h = h.measured
measured_of heading s h = h.measured
measured_of named s h = h.measured
measured_of inside s h = h.measured
measured_of part s h = h.measured

-- one thing more, which declares nothing
counted_adds : (s c : Built) (x : Thing) → c.things ≡ s.things ++ x ∷ [] → Counts 0 s c → declared_leaves (s.things ++ x ∷ []) x ≡ 0 → HasHeld (s.things ++ x ∷ []) x → IsMeasured c → IsCounted s → IsCounted c
counted_adds s c x e k none free m h =
    let a = k.more in
    let b = h.counted in
    let q = leaves_added s.things x none h.held in
    record {
      held = subst (λ (ts : List Thing). AllHeld ts ts) (sym e) (held_added s.things x free h.held);
      counted = subst (λ (ts : List Thing). all_leaves ts ts ≤ c.leaves) (sym e) (omega arith);
      within = k.within h.within;
      measured = m;
    }

-- a thing that is set where nothing was, with its leaves
counted_set : (n i : ℕ) (s c : Built) (x : Thing) → c.things ≡ set s.things i x → Counts n s c → slice_get s.things i ≡ Some nothing → HasHeld (set s.things i x) x
    → AtMost (declared_leaves (set s.things i x) x) n → IsMeasured c → IsCounted s → IsCounted c
counted_set n i s c x e k there free few m h =
    let a = k.more in
    let b = h.counted in
    let w = k.within h.within in
    let q = leaves_set s.things i x there h.held in
    let r = few (omega arith) in
    record {
      held = subst (λ (ts : List Thing). AllHeld ts ts) (sym e) (held_set s.things i x there free h.held);
      counted = subst (λ (ts : List Thing). all_leaves ts ts ≤ c.leaves) (sym e) (omega arith);
      within = w;
      measured = m;
    }

-- a type that is set is measured
type_counted : (i : ℕ) (s c : Built) (k : Sized) → c.things ≡ set s.things i (type k) → Counts k.leaves s c → slice_get s.things i ≡ Some nothing → IsMeasured c → IsCounted s → IsCounted c
type_counted i s c k e n there m h =
    let at : slice_get c.things i ≡ Some (type k) = ap (λ (ts : List Thing). slice_get ts i) e ∙ set_there s.things i (type k) nothing there in
    counted_set k.leaves i s c (type k) e n there tt (m.things i (type k) at).0.leaves m h

-- the interface after its bases
interface_counted : (i : ℕ) (s c : Built) → c.things ≡ set s.things i (interface s.parts.bases (inherited s)) → Counts 0 s c → slice_get s.things i ≡ Some nothing → IsMeasured c → IsReserved s → IsCounted c
interface_counted i s c e k there m h =
    let x = interface s.parts.bases (inherited s) in
    let us = set s.things i x in
    let same = set_same s.things i nothing x there nothing_free in
    let a = k.more in
    let b = h.counted in
    let q = leaves_set s.things i x there h.all.held in
    let r = held_leaves_same s.things us same (inherited s) h.inherited_held in
    record {
      held = subst (λ (ts : List Thing). AllHeld ts ts) (sym e) (held_set s.things i x there (are_held_same s.things us same (inherited s) h.inherited_held) h.all.held);
      counted = subst (λ (ts : List Thing). all_leaves ts ts ≤ c.leaves) (sym e) (omega arith);
      within = k.within h.all.within;
      measured = m;
    }

-- what an interface inherits is counted
inherit_counted : (s c : Built) → Same s c → Counts (leaves_from s.things 0 (inherited s)) s c → IsMeasured c → IsCounted s → IsReserved c
inherit_counted s c k n m h =
    let a = n.more in
    let b = h.counted in
    let w = k.counts.within h.within in
    let q = leaves_from_counts s.things h.measured.things 0 (inherited s) (omega arith) in
    let from : inherited s ≡ inherited c = ap (λ (ts : List Thing). operations_from ts [] s.parts.bases) k.things ∙ ap (λ (bs : List ℕ). operations_from c.things [] bs) k.bases in
    record {
      all = counted_same s c (sym k.things) k.counts m h;
      inherited_held = subst (AreHeld c.things) from (subst (λ (ts : List Thing). AreHeld ts (inherited s)) k.things (from_held s.things h.held [] s.parts.bases tt));
      counted = subst (λ (is : List ℕ). all_leaves c.things c.things + held_leaves c.things is ≤ c.leaves) from
          (subst (λ (ts : List Thing). all_leaves ts ts + held_leaves ts (inherited s) ≤ c.leaves) k.things (omega arith));
    }

-- an attribute is an operation or two
record IsOperations (x : Thing) : Type 0 where
  os : List OperationView
  n : ℕ
  is : x ≡ operations os n

attribute_is : (b : Bool) (name : List ℕ) (k : Sized) → IsOperations (attribute_of b name k)
attribute_is true name k = record { os = _; n = _; is = refl }
attribute_is false name k = record { os = _; n = _; is = refl }

-- operations that are added, and gained by their interface
gained_counted : (n at : ℕ) (s c : Built) (x : Thing) → IsOperations x → at ≡ length s.things → c.things ≡ gained n at (s.things ++ x ∷ []) → Counts (operation_leaves (thing_in (slice_get (s.things ++ x ∷ []) at))) s c
    → AtMost (own_leaves x) (operation_leaves x) → IsMeasured c → IsCounted s → IsCounted c
gained_counted n at s c x o last e k few m h =
    let ts = s.things ++ x ∷ [] in
    let us = gained n at ts in
    let there : slice_get ts at ≡ Some x = ap (λ (i : ℕ). slice_get ts i) last ∙ get_last s.things x in
    let is : IsHeld ts at = record { os = o.os; n = o.n; there = there ∙ ap (λ (y : Thing). Some y) o.is } in
    let same = gained_same ts n at in
    let now : thing_in (slice_get us at) ≡ x = ap thing_in (same at is ∙ there) in
    let old : thing_in (slice_get ts at) ≡ x = ap thing_in there in
    let own : own_leaves (thing_in (slice_get us at)) ≡ own_leaves x = ap own_leaves now in
    let count : operation_leaves (thing_in (slice_get ts at)) ≡ operation_leaves x = ap operation_leaves old in
    let none : declared_leaves ts x ≡ 0 = subst (λ (y : Thing). declared_leaves ts y ≡ 0) (sym o.is) refl in
    let free : HasHeld ts x = subst (HasHeld ts) (sym o.is) tt in
    let held = held_added s.things x free h.held in
    let p = leaves_added s.things x none h.held in
    let q = leaves_gained us ts n at in
    let r = all_same ts us same ts held in
    let a = k.more in
    let b = h.counted in
    let w = k.within h.within in
    let f = few (omega arith) in
    record {
      held = subst (λ (zs : List Thing). AllHeld zs zs) (sym e) (held_gained us ts n at (all_held_same ts us same ts held) (record { os = o.os; n = o.n; there = same at is ∙ is.there }));
      counted = subst (λ (zs : List Thing). all_leaves zs zs ≤ c.leaves) (sym e) (omega arith);
      within = w;
      measured = m;
    }

-- an operation that ends, and is gained by its interface
ended_counted : (n around at count : ℕ) (os : List OperationView) (s c : Built) → c.things ≡ set (gained around at s.things) at (operations os n) → Counts count s c → n ≡ count → slice_get s.things at ≡ Some nothing
    → IsMeasured c → IsCounted s → IsCounted c
ended_counted n around at count os s c e k same_count there m h =
    let x = operations os n in
    let ts = s.things in
    let g = gained around at ts in
    let us = set g at x in
    let clear = gained_nothing ts around at at there in
    let first = gained_same ts around at in
    let second = set_same g at nothing x clear nothing_free in
    let same : HeldSame ts us = λ i q. second i (record { os = q.os; n = q.n; there = first i q ∙ q.there }) ∙ first i q in
    let now : slice_get us at ≡ Some x = set_there g at x nothing clear in
    let own : own_leaves (thing_in (slice_get us at)) ≡ own_leaves x = ap (λ (o : Option Thing). own_leaves (thing_in o)) now in
    let in_c : slice_get c.things at ≡ Some x = ap (λ (zs : List Thing). slice_get zs at) e ∙ now in
    let few = m.things at x in_c in
    let p = all_set us g at x in
    let q = leaves_gained us ts around at in
    let r = all_same ts us same ts h.held in
    let a = k.more in
    let b = h.counted in
    let w = k.within h.within in
    let f = few (omega arith) in
    record {
      held = subst (λ (zs : List Thing). AllHeld zs zs) (sym e)
          (all_held_set us g at x (held_gained us ts around at (all_held_same ts us same ts h.held) (record { os = os; n = n; there = now })) tt);
      counted = subst (λ (zs : List Thing). all_leaves zs zs ≤ c.leaves) (sym e) (omega arith);
      within = w;
      measured = m;
    }

-- a body that ends counts nothing
left_counts : (s c : Built) → ◌≡◌ {A = Done} (Ok (leave s)) (Ok c) → Counts 0 s c
left_counts s c a = same_leaves s c (ap (λ (z : Built). z.leaves) (ok_is (leave s) c a))

-- what each label keeps so at its token
counted_at : (label : IdlLabel) (m n : Spot) → goes label m ≡ Some n → (t : Placed Kind) → (s c : Built) → Stands m s → CountedAt m s → act label t s ≡ Ok c → IsMeasured c → CountedAt n c
counted_at l.Module outside n e t s c w h a k =
    let d = module_opens t s (module_in s.scopes t.text s.here) c a in
    subst (λ (z : Spot). CountedAt z c) (same_Some outside n e)
    (elim d.things [ inl x ↦ counted_same s c x d.counts k h | inr x ↦ counted_adds s c nothing x d.counts refl tt k h ])
counted_at l.Module m n e t s c w h a k = absurd (none-some n e)
counted_at l.EndModule outside n e t s c w h a k = subst (λ (z : Spot). CountedAt z c) (same_Some outside n e) (counted_same s c (ap (λ (z : Built). z.things) (sym (ok_is (leave s) c a))) (left_counts s c a) k h)
counted_at l.EndModule m n e t s c w h a k = absurd (none-some n e)
counted_at l.EndInterface outside n e t s c w h a k = subst (λ (z : Spot). CountedAt z c) (same_Some outside n e) (counted_same s c (ap (λ (z : Built). z.things) (sym (ok_is (leave s) c a))) (left_counts s c a) k h)
counted_at l.EndInterface m n e t s c w h a k = absurd (none-some n e)
counted_at l.Interface outside n e t s c w h a k =
    let d = declare_adds t s c a in
    subst (λ (z : Spot). CountedAt z c) (same_Some heading n e) (counted_adds s c nothing d.things d.counts refl tt k h)
counted_at l.Interface m n e t s c w h a k = absurd (none-some n e)
counted_at l.OpenInterface based n e t s c w h a k =
    let d = interface_opens s c a in
    subst (λ (z : Spot). CountedAt z c) (same_Some outside n e) (interface_counted (newest s) s c d.things d.counts (newest_there s w.0 w.1) k h)
counted_at l.OpenInterface m n e t s c w h a k = absurd (none-some n e)
counted_at l.Declare outside n e t s c w h a k =
    let d = declare_adds t s c a in
    subst (λ (z : Spot). CountedAt z c) (same_Some named n e) (counted_adds s c nothing d.things d.counts refl tt k h)
counted_at l.Declare inside n e t s c w h a k =
    let d = declare_adds t s c a in
    subst (λ (z : Spot). CountedAt z c) (same_Some part n e) (counted_adds s c nothing d.things d.counts refl tt k h)
counted_at l.Declare m n e t s c w h a k = absurd (none-some n e)
counted_at l.Open outside n e t s c w h a k =
    let d = open_opens t s c a in
    subst (λ (z : Spot). CountedAt z c) (same_Some inside n e) (counted_adds s c nothing d.things d.counts refl tt k h)
counted_at l.Open m n e t s c w h a k = absurd (none-some n e)
counted_at l.EndStruct inside n e t s c w h a k =
    let z : Sized = record { kind = structure (bodies.open_id s) (members_of s.parts.members); leaves = s.parts.leaves; levels = plus s.parts.levels 1 } in
    let d = type_ends z s c a in
    subst (λ (y : Spot). CountedAt y c) (same_Some outside n e) (type_counted (opened s) s c z d.things d.counts w.1.there k h)
counted_at l.EndStruct m n e t s c w h a k = absurd (none-some n e)
counted_at l.EndException inside n e t s c w h a k =
    let d = exception_ends s c a in
    subst (λ (y : Spot). CountedAt y c) (same_Some outside n e)
    (counted_set s.parts.leaves (opened s) s c (exception s.parts.members) d.things d.counts w.1.there tt (λ q. let x = h.measured.parts.leaves q in omega arith) k h)
counted_at l.EndException m n e t s c w h a k = absurd (none-some n e)
counted_at l.EndUnion inside n e t s c w h a k =
    let z : Sized = record { kind = union (bodies.open_id s) s.parts.discriminator (cases_of s.parts.cases); leaves = plus s.parts.leaves 1; levels = plus s.parts.levels 1 } in
    let d = type_ends z s c a in
    subst (λ (y : Spot). CountedAt y c) (same_Some outside n e) (type_counted (opened s) s c z d.things d.counts w.1.there k h)
counted_at l.EndUnion m n e t s c w h a k = absurd (none-some n e)
counted_at l.EndEnum inside n e t s c w h a k =
    let z = leaf (scalar (enumeration (bodies.open_id s) s.parts.enumerators)) in
    let d = type_ends z s c a in
    subst (λ (y : Spot). CountedAt y c) (same_Some outside n e) (type_counted (opened s) s c z d.things d.counts w.1.there k h)
counted_at l.EndEnum m n e t s c w h a k = absurd (none-some n e)
counted_at l.Enumerator inside n e t s c w h a k =
    let d = enumerate_adds t s c a in
    subst (λ (z : Spot). CountedAt z c) (same_Some inside n e) (counted_adds s c _ d.things d.counts refl tt k h)
counted_at l.Enumerator m n e t s c w h a k = absurd (none-some n e)
counted_at l.Attribute outside n e t s c w h a k =
    let d = attribute_adds t s c a in
    let x = attribute_of s.parts.readonly t.text s.type in
    subst (λ (z : Spot). CountedAt z c) (same_Some outside n e)
    (gained_counted (s.here - 1) (length s.scopes.declared) s c x (attribute_is s.parts.readonly t.text s.type) (sym w.paired) d.things d.counts
    (own_measured x (attribute_measured s.parts.readonly t.text s.type h.measured.type_is)) k h)
counted_at l.Attribute m n e t s c w h a k = absurd (none-some n e)
counted_at l.Param inside n e t s c w h a k =
    let d = param_adds t s c a in
    subst (λ (z : Spot). CountedAt z c) (same_Some inside n e) (counted_adds s c nothing d.things d.counts refl tt k h)
counted_at l.Param m n e t s c w h a k = absurd (none-some n e)
counted_at (l.Refuse d) m n e t s c w h a k = absurd cc
counted_at label m n e t s c w h a k = subst (λ (z : Spot). CountedAt z c) (same_Some m n e) (counted_quiet m s c (quiet_act label t s refl c a) k h)

-- and without a token
counted_alone : (label : IdlLabel) (m n : Spot) → goes_alone label m ≡ Some n → (s c : Built) → Stands m s → CountedAt m s → judge label s ≡ Ok c → IsMeasured c → CountedAt n c
counted_alone l.Base heading n e s c w h a k =
    let d = base_adds s c a in
    subst (λ (z : Spot). CountedAt z c) (same_Some heading n e) (counted_same s c d.things d.counts k h)
counted_alone l.Base m n e s c w h a k = absurd (none-some n e)
counted_alone l.Inherit heading n e s c w h a k =
    let d = counted_counts s (leaves_from s.things 0 (inherited s)) (place_at s (newest s)) s (itself s) c a in
    subst (λ (z : Spot). CountedAt z c) (same_Some based n e) (inherit_counted s c d.0 d.1 k h)
counted_alone l.Inherit m n e s c w h a k = absurd (none-some n e)
counted_alone l.Typedef named n e s c w h a k =
    let d = typedef_sets s c a in
    subst (λ (z : Spot). CountedAt z c) (same_Some outside n e) (type_counted (newest s) s c (bodies.declared_type s) d.things d.counts (newest_there s w.0 w.1) k h)
counted_alone l.Typedef m n e s c w h a k = absurd (none-some n e)
counted_alone l.Member part n e s c w h a k =
    let d = member_sets s c a in
    subst (λ (z : Spot). CountedAt z c) (same_Some inside n e)
    (counted_set 0 (newest s) s c nothing d.things d.counts (newest_there s w.0.0 w.1.0) tt (λ q. omega arith) k h)
counted_alone l.Member m n e s c w h a k = absurd (none-some n e)
counted_alone l.CaseMember part n e s c w h a k =
    let d = case_member_sets s c a in
    subst (λ (z : Spot). CountedAt z c) (same_Some inside n e)
    (counted_set 0 (newest s) s c nothing d.things d.counts (newest_there s w.0.0 w.1.0) tt (λ q. omega arith) k h)
counted_alone l.CaseMember m n e s c w h a k = absurd (none-some n e)
counted_alone l.EndConst named n e s c w h a k =
    let d = end_const_sets s c a in
    subst (λ (z : Spot). CountedAt z c) (same_Some outside n e)
    (counted_set 1 (newest s) s c (constant d.kind d.value) d.sets.things d.sets.counts (newest_there s w.0 w.1) tt (λ q. omega arith) k h)
counted_alone l.EndConst m n e s c w h a k = absurd (none-some n e)
counted_alone l.EndOperation inside n e s c w h a k =
    let d = operation_ends s c a in
    subst (λ (z : Spot). CountedAt z c) (same_Some outside n e)
    (ended_counted (plus d.read.parts.leaves 1) d.around (opened s) (plus s.parts.leaves 1) _ s c d.things d.counts (ap (λ (p : Parts). plus p.leaves 1) d.read_parts) w.1.there k h)
counted_alone l.EndOperation m n e s c w h a k = absurd (none-some n e)
counted_alone label m n e s c w h a k = subst (λ (z : Spot). CountedAt z c) (same_Some m n e) (counted_quiet m s c (quiet_judge label s refl c a) k h)

nothing_counted : IsCounted nothing_built
nothing_counted = record { held = tt; counted = omega arith; within = omega arith; measured = nothing_measured }

-- all that a text declares is counted
pub counted_text : (text : List ℕ) (new : Built) → Declares text new → IsCounted new
counted_text text new w =
    standing_keeps CountedAt (λ label m n e t s c st h a. counted_at label m n e t s c st h a (measured_at label t s (measured_of m s h) c a))
    (λ label m n e s c st h a. counted_alone label m n e s c st h a (measured_alone label s (measured_of m s h) c a)) nothing_counted text new w
