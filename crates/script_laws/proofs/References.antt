-- References to types reach the parts that they are made for.
use Rattle.std.proofs.Common.{◌≡◌, ◌<◌, ◌^◌, ℕ, zero, suc, ◌+◌, List, [], ◌∷◌, Option, Some, None, refl, sym, ap, ◌∙◌, slice_get, add-one, arith}
use Rattle.std.proofs.Math.Nat.{min-eq_left}
use Rattle.std.specs.Option.{option_map, option_and_then}
use Rattle.std.proofs.lemmas.Option.{none-some, same_Some}
use Rattle.cdr_values.specs.Trees.{Name, Kind, scalar, words, sequence, array, structure, union, members_of}
use Rattle.idl_types.specs.declared.type_ref.Part.TheVariants as part
use Rattle.idl_types.specs.declared.type_ref.TypeRef.{TypeRef}
use Rattle.idl_types.specs.Things.{Thing, named, exception, interface, TypeView, ExceptionView, InterfaceView, OperationView, ParamView}
use Rattle.idl_types.specs.References.{member_kind, members_in, part_kind, element_kind, kind_at}
use Rattle.script_checks.specs.Kinds.{element_of}
use Rattle.script_checks.specs.Dues.{short, member_due, element_due, result_due, param_due}
use Rattle.script_laws.specs.Things.{IsSound, steps_in}

pub short_is : (n : ℕ) → n < 2 ^ 32 → short n ≡ n
short_is n h = min-eq_left (omega (arith, h))

first_step : (o : Option Kind) → option_and_then (element_kind 0) o ≡ o
first_step None = refl
first_step (Some k) = refl

pub then_some : {A B : Type 0} (f : A → Option B) (o : Option A) (y : B) → option_and_then f o ≡ Some y → (x : A) × (o ≡ Some x) × (f x ≡ Some y)
then_some f None y e = absurd (none-some y e)
then_some f (Some x) y e = (x, refl, e)

-- the type of a member
pub member_ref : (ts : List Thing) (place n : ℕ) (t : TypeView) → slice_get ts place ≡ Some (named t) → place < 2 ^ 32 → n < 2 ^ 32
    → kind_at ts (member_due place n) ≡ member_kind n (members_in t.kind)
member_ref ts place n t at near few =
    ap (λ (i : ℕ). kind_at ts (record { place = i; part = part.Member (short n); steps = 0 })) (short_is place near)
    ∙ ap (λ (m : ℕ). kind_at ts (record { place = place; part = part.Member m; steps = 0 })) (short_is n few)
    ∙ ap (λ (o : Option Thing). option_and_then (element_kind 0) (option_and_then (part_kind (part.Member n)) o)) at
    ∙ first_step (member_kind n (members_in t.kind))

-- the members of a list by their places
pub member_of_list : (ms : List (Name × Kind)) (n : ℕ) → member_kind n (members_of ms) ≡ option_map (λ m. m.1) (slice_get ms n)
member_of_list [] n = refl
member_of_list (m ∷ ms) zero = refl
member_of_list (m ∷ ms) (suc n) = member_of_list ms n

pub field_ref : (ts : List Thing) (place n : ℕ) (e : ExceptionView) → slice_get ts place ≡ Some (exception e) → place < 2 ^ 32 → n < 2 ^ 32
    → kind_at ts (member_due place n) ≡ member_kind n (members_of e.members)
field_ref ts place n e at near few =
    ap (λ (i : ℕ). kind_at ts (record { place = i; part = part.Member (short n); steps = 0 })) (short_is place near)
    ∙ ap (λ (m : ℕ). kind_at ts (record { place = place; part = part.Member m; steps = 0 })) (short_is n few)
    ∙ ap (λ (o : Option Thing). option_and_then (element_kind 0) (option_and_then (part_kind (part.Member n)) o)) at
    ∙ first_step (option_map (λ m. m.1) (slice_get e.members n))
    ∙ sym (member_of_list e.members n)

-- the type of a result
pub result_ref : (ts : List Thing) (place o : ℕ) (x : InterfaceView) (op : OperationView) → slice_get ts place ≡ Some (interface x) → slice_get x.operations o ≡ Some op
    → place < 2 ^ 32 → o < 2 ^ 32 → kind_at ts (result_due place o) ≡ op.result
result_ref ts place o x op at is near few =
    ap (λ (i : ℕ). kind_at ts (record { place = i; part = part.Outcome (short o); steps = 0 })) (short_is place near)
    ∙ ap (λ (m : ℕ). kind_at ts (record { place = place; part = part.Outcome m; steps = 0 })) (short_is o few)
    ∙ ap (λ (t : Option Thing). option_and_then (element_kind 0) (option_and_then (part_kind (part.Outcome o)) t)) at
    ∙ first_step (option_and_then (λ p. p.result) (slice_get x.operations o))
    ∙ ap (option_and_then (λ (p : OperationView). p.result)) is

-- the type of a parameter
pub param_ref : (ts : List Thing) (place o n : ℕ) (x : InterfaceView) (op : OperationView) (q : ParamView) → slice_get ts place ≡ Some (interface x) → slice_get x.operations o ≡ Some op
    → slice_get op.params n ≡ Some q → place < 2 ^ 32 → o < 2 ^ 32 → n < 2 ^ 32 → kind_at ts (param_due place o n) ≡ Some q.kind
param_ref ts place o n x op q at is here near few less =
    ap (λ (i : ℕ). kind_at ts (record { place = i; part = part.Parameter (short o) (short n); steps = 0 })) (short_is place near)
    ∙ ap (λ (m : ℕ). kind_at ts (record { place = place; part = part.Parameter m (short n); steps = 0 })) (short_is o few)
    ∙ ap (λ (m : ℕ). kind_at ts (record { place = place; part = part.Parameter o m; steps = 0 })) (short_is n less)
    ∙ ap (λ (t : Option Thing). option_and_then (element_kind 0) (option_and_then (part_kind (part.Parameter o n)) t)) at
    ∙ first_step (option_and_then (λ p. option_map (λ a. a.kind) (slice_get p.params n)) (slice_get x.operations o))
    ∙ ap (option_and_then (λ (p : OperationView). option_map (λ (a : ParamView). a.kind) (slice_get p.params n))) is
    ∙ ap (option_map (λ (a : ParamView). a.kind)) here

-- ---- elements

element_next : (n : ℕ) (d k e : Kind) → element_kind n d ≡ Some k → element_of k ≡ Some e → (element_kind (suc n) d ≡ Some e) × (n < steps_in d)
element_next zero (sequence j b) k e h is = (ap element_of (same_Some (sequence j b) k h) ∙ is, omega arith)
element_next zero (array j m) k e h is = (ap element_of (same_Some (array j m) k h) ∙ is, omega arith)
element_next zero (scalar s) k e h is = absurd (none-some e (ap element_of (same_Some (scalar s) k h) ∙ is))
element_next zero (words b) k e h is = absurd (none-some e (ap element_of (same_Some (words b) k h) ∙ is))
element_next zero (structure name ms) k e h is = absurd (none-some e (ap element_of (same_Some (structure name ms) k h) ∙ is))
element_next zero (union name d cs) k e h is = absurd (none-some e (ap element_of (same_Some (union name d cs) k h) ∙ is))
element_next (suc n) (sequence j b) k e h is = let g = element_next n j k e h is in (g.0, (let l = g.1 in omega (arith, l)))
element_next (suc n) (array j m) k e h is = let g = element_next n j k e h is in (g.0, (let l = g.1 in omega (arith, l)))
element_next (suc n) (scalar s) k e h is = absurd (none-some k h)
element_next (suc n) (words b) k e h is = absurd (none-some k h)
element_next (suc n) (structure name ms) k e h is = absurd (none-some k h)
element_next (suc n) (union name d cs) k e h is = absurd (none-some k h)

-- the type of the elements of a list type
pub element_ref : (ts : List Thing) → IsSound ts → (due : TypeRef) (k e : Kind) → kind_at ts due ≡ Some k → element_of k ≡ Some e → kind_at ts (element_due due) ≡ Some e
element_ref ts sound due k e at is =
    let a = then_some (element_kind due.steps) (option_and_then (part_kind due.part) (slice_get ts due.place)) k at in
    let b = then_some (part_kind due.part) (slice_get ts due.place) a.0 a.1 in
    let deep : steps_in a.0 < 2 ^ 32 = sound.steps due.place b.0 due.part a.0 b.1 b.2 in
    let g = element_next due.steps a.0 k e a.2 is in
    let l : due.steps < steps_in a.0 = g.1 in
    let few : short (due.steps + 1) ≡ due.steps + 1 = short_is (due.steps + 1) (omega (arith, l, deep)) in
    ap (λ (n : ℕ). option_and_then (element_kind n) (option_and_then (part_kind due.part) (slice_get ts due.place))) (few ∙ add-one due.steps)
    ∙ ap (option_and_then (element_kind (suc due.steps))) a.1
    ∙ g.0
