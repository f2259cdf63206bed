-- How many parts a sound thing has.
use Rattle.std.proofs.Common.{◌≡◌, ◌<◌, ◌≤◌, ◌^◌, ℕ, zero, suc, ◌+◌, ◌*◌, ◌==◌, ◌&&◌, max, not, nat_le, Bool, true, List, [], ◌∷◌, map, length, Option, Some, None, refl, ap, ◌∙◌, subst, slice_get, sum_by, mul-suc, arith}
use Rattle.std.proofs.lemmas.Bool.{and_parts, leb-true}
use Rattle.std.proofs.lemmas.List.Sums.{sum_by-cons}
use Rattle.std.proofs.Math.Nat.{le-max_left, le-max_right}
use Rattle.std.specs.List.{list_all}
use Rattle.std.specs.Str.{bytes_eq}
use Rattle.std.specs.Option.{option_map}
use Rattle.std.proofs.lemmas.Option.{none-some, same_Some}
use Rattle.cdr_values.specs.Trees.{Name, Kind, scalar, words, sequence, array, structure, union, Members, no_members, member, members_of}
use Rattle.cdr_values.specs.Lawful.{is_lawful, are_lawful, has_member, member_names, differ}
use Rattle.idl_types.specs.declared.type_ref.Part.{Part}
use Rattle.idl_types.specs.declared.type_ref.Part.TheVariants as part
use Rattle.idl_types.specs.Apart.{are_apart, is_told_apart, are_told_apart}
use Rattle.idl_types.specs.Counting.{leaves_of, leaves_of_members, levels_of, levels_of_members, operation_leaves, thing_leaves}
use Rattle.idl_types.specs.References.{member_kind, members_in, part_kind}
use Rattle.idl_types.specs.Sound.{most_leaves, most_levels, is_sound_type, is_sound_result, is_sound_operation, are_sound_members, is_sound_thing}
use Rattle.idl_types.specs.Things.{Thing, constant, named, exception, interface, ParamView, OperationView, ExceptionView, InterfaceView, TypeView}
use Rattle.script_checks.specs.Built.{members_len}
use Rattle.script_laws.specs.Kinds.{Every}
use Rattle.script_laws.specs.Things.{steps_in}
use Rattle.script_laws.proofs.Shapes.{every_at}
use Rattle.script_laws.proofs.Snoc.{every_weaker}
use Rattle.script_laws.proofs.References.{then_some, member_of_list}
use Rattle.script_laws.proofs.Blocks.{members_count}

-- ---- leaves and levels

lawful_leaf : (k : Kind) → is_lawful k ≡ true → 1 ≤ leaves_of k
lawful_leaf (scalar s) l = omega arith
lawful_leaf (words b) l = omega arith
lawful_leaf (sequence k b) l = omega arith
lawful_leaf (array k zero) l = absurd cc
lawful_leaf (array k (suc n)) l =
    let h = lawful_leaf k (and_parts (not (suc n == 0)) (is_lawful k) l).1 in
    let e : leaves_of k * suc n ≡ leaves_of k * n + leaves_of k = mul-suc (leaves_of k) n in
    omega (arith, h, e)
lawful_leaf (structure name no_members) l = absurd cc
lawful_leaf (structure name (member m k ms)) l =
    let a = and_parts (differ bytes_eq (member_names (member m k ms))) (are_lawful (member m k ms)) l in
    let h = lawful_leaf k (and_parts (is_lawful k) (are_lawful ms) a.1).0 in
    omega (arith, h)
lawful_leaf (union name d cs) l = omega arith

members_leaf : (ms : Members) → are_lawful ms ≡ true → members_len ms ≤ leaves_of_members ms
members_leaf no_members l = omega arith
members_leaf (member name k ms) l =
    let a = and_parts (is_lawful k) (are_lawful ms) l in
    let h = lawful_leaf k a.0 in
    let g = members_leaf ms a.1 in
    omega (arith, h, g)

steps_deep : (k : Kind) → steps_in k ≤ levels_of k
steps_deep (scalar s) = omega arith
steps_deep (words b) = omega arith
steps_deep (sequence k b) = let h = steps_deep k in omega (arith, h)
steps_deep (array k n) = let h = steps_deep k in omega (arith, h)
steps_deep (structure name ms) = omega arith
steps_deep (union name d cs) = omega arith

member_deep : (ms : Members) (i : ℕ) (k : Kind) → member_kind i ms ≡ Some k → levels_of k ≤ levels_of_members ms
member_deep no_members i k e = absurd (none-some k e)
member_deep (member name d ms) zero k e = subst (λ (j : Kind). levels_of j ≤ max (levels_of d) (levels_of_members ms)) (same_Some d k e) (le-max_left (levels_of d) (levels_of_members ms))
member_deep (member name d ms) (suc i) k e = let h = member_deep ms i k e in let g : levels_of_members ms ≤ max (levels_of d) (levels_of_members ms) = le-max_right (levels_of d) (levels_of_members ms) in omega (arith, h, g)

-- ---- sound types

pub record SoundType (k : Kind) : Type 0 where
  pub lawful : is_lawful k ≡ true
  pub leaves : leaves_of k ≤ 65536
  pub levels : levels_of k ≤ 64

pub sound_type : (k : Kind) → is_sound_type k ≡ true → SoundType k
sound_type k e =
    let a = and_parts (is_lawful k) (is_told_apart k && (nat_le (leaves_of k) most_leaves && nat_le (levels_of k) most_levels)) e in
    let b = and_parts (is_told_apart k) (nat_le (leaves_of k) most_leaves && nat_le (levels_of k) most_levels) a.1 in
    let c = and_parts (nat_le (leaves_of k) most_leaves) (nat_le (levels_of k) most_levels) b.1 in
    record { lawful = a.0; leaves = leb-true (leaves_of k) 65536 c.0; levels = leb-true (levels_of k) 64 c.1 }

record SoundMembers (ms : Members) : Type 0 where
  lawful : are_lawful ms ≡ true
  leaves : leaves_of_members ms ≤ 65536
  levels : levels_of_members ms ≤ 64

sound_members : (ms : List (Name × Kind)) → are_sound_members ms ≡ true → SoundMembers (members_of ms)
sound_members ms e =
    let m = members_of ms in
    let a = and_parts (are_lawful m) (are_told_apart m && (nat_le (leaves_of_members m) most_leaves && nat_le (levels_of_members m) most_levels)) e in
    let b = and_parts (are_told_apart m) (nat_le (leaves_of_members m) most_leaves && nat_le (levels_of_members m) most_levels) a.1 in
    let c = and_parts (nat_le (leaves_of_members m) most_leaves) (nat_le (levels_of_members m) most_levels) b.1 in
    record { lawful = a.0; leaves = leb-true (leaves_of_members m) 65536 c.0; levels = leb-true (levels_of_members m) 64 c.1 }

pub all_every : {A : Type 0} (p : A → Bool) (xs : List A) → list_all p xs ≡ true → Every (λ (x : A). p x ≡ true) xs
all_every p [] e = tt
all_every p (x ∷ xs) e = let h = and_parts (p x) (list_all p xs) e in (h.0, all_every p xs h.1)

pub record SoundOperation (op : OperationView) : Type 0 where
  pub result : is_sound_result op.result ≡ true
  pub params : Every (λ (p : ParamView). is_sound_type p.kind ≡ true) op.params

pub sound_operation : (x : InterfaceView) (o : ℕ) (op : OperationView) → is_sound_thing (interface x) ≡ true → slice_get x.operations o ≡ Some op → SoundOperation op
sound_operation x o op e at =
    let a = and_parts (list_all is_sound_operation x.operations) (differ bytes_eq (map (λ (p : OperationView). p.name) x.operations)) e in
    let h = every_at (λ (p : OperationView). is_sound_operation p ≡ true) x.operations o op (all_every is_sound_operation x.operations a.0) at in
    let b = and_parts (is_sound_result op.result) (list_all (λ (p : ParamView). is_sound_type p.kind) op.params && are_apart (map (λ (p : ParamView). p.name) op.params)) h in
    let c = and_parts (list_all (λ (p : ParamView). is_sound_type p.kind) op.params) (are_apart (map (λ (p : ParamView). p.name) op.params)) b.1 in
    record { result = b.0; params = all_every (λ (p : ParamView). is_sound_type p.kind) op.params c.0 }

-- ---- counts of things

few : (k : Kind) → SoundType k → members_len (members_in k) ≤ 2 ^ 32
few (structure name ms) s =
    let l = and_parts (has_member ms) (differ bytes_eq (member_names ms) && are_lawful ms) s.lawful in
    let m = and_parts (differ bytes_eq (member_names ms)) (are_lawful ms) l.1 in
    let a = members_leaf ms m.1 in
    let b = s.leaves in
    omega (arith, a, b)
few (scalar t) s = omega arith
few (words n) s = omega arith
few (sequence k n) s = omega arith
few (array k n) s = omega arith
few (union name d cs) s = omega arith

pub members_few : (t : TypeView) → is_sound_thing (named t) ≡ true → members_len (members_in t.kind) ≤ 2 ^ 32
members_few t e = few t.kind (sound_type t.kind e)

pub fields_few : (e : ExceptionView) → is_sound_thing (exception e) ≡ true → length e.members ≤ 2 ^ 32
fields_few e s =
    let h = sound_members e.members s in
    let a = members_leaf (members_of e.members) h.lawful in
    let b = h.leaves in
    let c = members_count e.members in
    omega (arith, a, b, c)

count_sum : {A : Type 0} (f : A → ℕ) (xs : List A) → Every (λ (x : A). 1 ≤ f x) xs → length xs ≤ sum_by f xs
count_sum f [] h = omega arith
count_sum f (x ∷ xs) h =
    let a = h.0 in
    let b = count_sum f xs h.1 in
    let c = sum_by-cons f x xs in
    omega (arith, a, b, c)

one_sum : {A : Type 0} (f : A → ℕ) (xs : List A) (i : ℕ) (x : A) → slice_get xs i ≡ Some x → f x ≤ sum_by f xs
one_sum f [] i x e = absurd (none-some x e)
one_sum f (y ∷ ys) zero x e =
    let c = sum_by-cons f y ys in
    let d : f y ≡ f x = ap f (same_Some y x e) in
    omega (arith, c, d)
one_sum f (y ∷ ys) (suc i) x e =
    let c = sum_by-cons f y ys in
    let d = one_sum f ys i x e in
    omega (arith, c, d)

each_counts : (xs : List OperationView) → Every (λ (op : OperationView). 1 ≤ operation_leaves op) xs
each_counts [] = tt
each_counts (x ∷ xs) = (omega arith, each_counts xs)

pub operations_few : (x : InterfaceView) → thing_leaves (interface x) ≤ 1048576 → length x.operations ≤ 2 ^ 32
operations_few x l = let a = count_sum operation_leaves x.operations (each_counts x.operations) in omega (arith, a, l)

pub params_few : (x : InterfaceView) (o : ℕ) (op : OperationView) → is_sound_thing (interface x) ≡ true → thing_leaves (interface x) ≤ 1048576 → slice_get x.operations o ≡ Some op → length op.params ≤ 2 ^ 32
params_few x o op e l at =
    let s = sound_operation x o op e at in
    let a = one_sum operation_leaves x.operations o op at in
    let b = count_sum (λ (p : ParamView). leaves_of p.kind) op.params
    (every_weaker (λ (p : ParamView). is_sound_type p.kind ≡ true) (λ (p : ParamView). 1 ≤ leaves_of p.kind) op.params (λ p t. lawful_leaf p.kind (sound_type p.kind t).lawful) s.params) in
    omega (arith, a, b, l)

-- ---- how deep its types are

option_some : {A B : Type 0} (f : A → B) (o : Option A) (y : B) → option_map f o ≡ Some y → (x : A) × (o ≡ Some x) × (f x ≡ y)
option_some f (Some x) y e = (x, refl, same_Some (f x) y e)
option_some f None y e = absurd (none-some y e)

type_near : (k : Kind) → is_sound_type k ≡ true → steps_in k < 2 ^ 32
type_near k e = let a = steps_deep k in let b = (sound_type k e).levels in omega (arith, a, b)

result_near : (r : Option Kind) (k : Kind) → is_sound_result r ≡ true → r ≡ Some k → steps_in k < 2 ^ 32
result_near None k e h = absurd (none-some k h)
result_near (Some d) k e h = subst (λ (j : Kind). steps_in j < 2 ^ 32) (same_Some d k h) (type_near d e)

struct_near : (d k : Kind) (i : ℕ) → is_sound_type d ≡ true → member_kind i (members_in d) ≡ Some k → steps_in k < 2 ^ 32
struct_near (structure name ms) k i e h =
    let a = steps_deep k in
    let b = member_deep ms i k h in
    let c = (sound_type (structure name ms) e).levels in
    omega (arith, a, b, c)
struct_near (scalar s) k i e h = absurd (none-some k h)
struct_near (words n) k i e h = absurd (none-some k h)
struct_near (sequence j n) k i e h = absurd (none-some k h)
struct_near (array j n) k i e h = absurd (none-some k h)
struct_near (union name d cs) k i e h = absurd (none-some k h)

pub part_near : (r : Part) (t : Thing) (k : Kind) → is_sound_thing t ≡ true → part_kind r t ≡ Some k → steps_in k < 2 ^ 32
part_near part.Whole (constant c) k e h = subst (λ (j : Kind). steps_in j < 2 ^ 32) (same_Some c.kind k h) (type_near c.kind e)
part_near part.Whole (named t) k e h = subst (λ (j : Kind). steps_in j < 2 ^ 32) (same_Some t.kind k h) (type_near t.kind e)
part_near part.Whole (exception x) k e h = absurd (none-some k h)
part_near part.Whole (interface x) k e h = absurd (none-some k h)
part_near (part.Member i) (constant c) k e h = absurd (none-some k h)
part_near (part.Member i) (named t) k e h = struct_near t.kind k i e h
part_near (part.Member i) (exception x) k e h =
    let a = steps_deep k in
    let b = member_deep (members_of x.members) i k (member_of_list x.members i ∙ h) in
    let c = (sound_members x.members e).levels in
    omega (arith, a, b, c)
part_near (part.Member i) (interface x) k e h = absurd (none-some k h)
part_near (part.Outcome o) (constant c) k e h = absurd (none-some k h)
part_near (part.Outcome o) (named t) k e h = absurd (none-some k h)
part_near (part.Outcome o) (exception x) k e h = absurd (none-some k h)
part_near (part.Outcome o) (interface x) k e h =
    let a = then_some (λ (op : OperationView). op.result) (slice_get x.operations o) k h in
    result_near a.0.result k (sound_operation x o a.0 e a.1).result a.2
part_near (part.Parameter o p) (constant c) k e h = absurd (none-some k h)
part_near (part.Parameter o p) (named t) k e h = absurd (none-some k h)
part_near (part.Parameter o p) (exception x) k e h = absurd (none-some k h)
part_near (part.Parameter o p) (interface x) k e h =
    let a = then_some (λ (op : OperationView). option_map (λ (q : ParamView). q.kind) (slice_get op.params p)) (slice_get x.operations o) k h in
    let b = option_some (λ (q : ParamView). q.kind) (slice_get a.0.params p) k a.2 in
    let s = every_at (λ (q : ParamView). is_sound_type q.kind ≡ true) a.0.params p b.0 (sound_operation x o a.0 e a.1).params b.1 in
    subst (λ (j : Kind). steps_in j < 2 ^ 32) b.2 (type_near b.0.kind s)
