-- Values of kinds, and those that fit a type.
use Rattle.std.proofs.Common.{◌≡◌, ◌⊎◌, inl, inr, ⊎_elim, ◌<◌, ℕ, ℤ, zero, suc, ◌+◌, Bool, true, false, cond, List, [], ◌∷◌, length, Option, Some, None, refl, sym, ap, ◌∙◌, subst, slice_get, is_some, ◌==◌, w32, arith}
use Rattle.std.specs.Str.{bytes_eq}
use Rattle.std.proofs.lemmas.Option.{none-some, same_Some}
use Rattle.cdr_core.specs.Field.{Field}
use Rattle.cdr_core.specs.Field as core
use Rattle.cdr_values.specs.Trees.{Name, boolean, char, unsigned, signed, enumeration, Kind, scalar, words, sequence, array, structure, union, Members, no_members, member, Value, truth, number, letter, text, items, chosen, label, Values, no_values, value, values_len, list_of, values_of}
use Rattle.cdr_values.specs.Spelling.{fields_of, fields_each, fields_members, both, behind, is_count}
use Rattle.cdr_values.specs.Fitting.{is_of}
use Rattle.idl_types.specs.References.{member_kind, members_in}
use Rattle.script_values.proofs.Lists.{list_of_values}
use Rattle.script_checks.specs.Kinds.{same_kind, number_kind, truth_kind, element_of}
use Rattle.script_checks.specs.Naming.{as_struct}
use Rattle.script_checks.specs.Operators.{find_member}
use Rattle.script_checks.specs.Built.{members_len}
use Rattle.script_laws.specs.Kinds.{Every, HasKind, HaveKinds}

pub is_number : (k : Kind) (v : Value) → same_kind number_kind k ≡ true → HasKind k v → (z : ℤ) × (v ≡ number z)
is_number (scalar (unsigned s)) v e h = h
is_number (scalar (signed s)) v e h = h
is_number (scalar boolean) v e h = absurd cc
is_number (scalar char) v e h = absurd cc
is_number (scalar (enumeration name labels)) v e h = absurd cc
is_number (words bound) v e h = absurd cc
is_number (sequence k bound) v e h = absurd cc
is_number (array k n) v e h = absurd cc
is_number (structure name ms) v e h = absurd cc
is_number (union name d cs) v e h = absurd cc

pub is_truth : (k : Kind) (v : Value) → same_kind truth_kind k ≡ true → HasKind k v → (b : Bool) × (v ≡ truth b)
is_truth (scalar boolean) v e h = h
is_truth (scalar (unsigned s)) v e h = absurd cc
is_truth (scalar (signed s)) v e h = absurd cc
is_truth (scalar char) v e h = absurd cc
is_truth (scalar (enumeration name labels)) v e h = absurd cc
is_truth (words bound) v e h = absurd cc
is_truth (sequence k bound) v e h = absurd cc
is_truth (array k n) v e h = absurd cc
is_truth (structure name ms) v e h = absurd cc
is_truth (union name d cs) v e h = absurd cc

-- ---- lists

pub every_at : {A : Type 0} (P : A → Type 0) (xs : List A) (n : ℕ) (x : A) → Every P xs → slice_get xs n ≡ Some x → P x
every_at P [] n x h e = absurd (none-some x e)
every_at P (y ∷ ys) zero x h e = subst P (same_Some y x e) h.0
every_at P (y ∷ ys) (suc n) x h e = every_at P ys n x h.1 e

pub every_from : {A : Type 0} (P : A → Type 0) (xs : List A) → ((n : ℕ) (x : A) → slice_get xs n ≡ Some x → P x) → Every P xs
every_from P [] f = tt
every_from P (x ∷ xs) f = (f 0 x refl, every_from P xs (λ n y e. f (suc n) y e))

-- the elements of a list are of the kind of elements
pub elements_are : (k e : Kind) (v : Value) → element_of k ≡ Some e → HasKind k v → (vs : Values) × (v ≡ items vs) × Every (HasKind e) (list_of vs)
elements_are (sequence k bound) e v is h = subst (λ (d : Kind). (vs : Values) × (v ≡ items vs) × Every (HasKind d) (list_of vs)) (same_Some k e is) h
elements_are (array k n) e v is h = subst (λ (d : Kind). (vs : Values) × (v ≡ items vs) × Every (HasKind d) (list_of vs)) (same_Some k e is) h
elements_are (scalar s) e v is h = absurd (none-some e is)
elements_are (words bound) e v is h = absurd (none-some e is)
elements_are (structure name ms) e v is h = absurd (none-some e is)
elements_are (union name d cs) e v is h = absurd (none-some e is)

pub list_is : (k e : Kind) (vs : List Value) → element_of k ≡ Some e → Every (HasKind e) vs → HasKind k (items (values_of vs))
list_is (sequence k bound) e vs is h = (values_of vs, refl, subst (λ (d : Kind). Every (HasKind d) (list_of (values_of vs))) (sym (same_Some k e is)) (subst (Every (HasKind e)) (sym (list_of_values vs)) h))
list_is (array k n) e vs is h = (values_of vs, refl, subst (λ (d : Kind). Every (HasKind d) (list_of (values_of vs))) (sym (same_Some k e is)) (subst (Every (HasKind e)) (sym (list_of_values vs)) h))
list_is (scalar s) e vs is h = absurd (none-some e is)
list_is (words bound) e vs is h = absurd (none-some e is)
list_is (structure name ms) e vs is h = absurd (none-some e is)
list_is (union name d cs) e vs is h = absurd (none-some e is)

-- ---- structs

pub members_are : (k s : Kind) (v : Value) → as_struct k ≡ Some s → HasKind k v → (vs : Values) × (v ≡ items vs) × HaveKinds (members_in s) (list_of vs)
members_are (structure name ms) s v is h = subst (λ (d : Kind). (vs : Values) × (v ≡ items vs) × HaveKinds (members_in d) (list_of vs)) (same_Some (structure name ms) s is) h
members_are (scalar t) s v is h = absurd (none-some s is)
members_are (words bound) s v is h = absurd (none-some s is)
members_are (sequence k bound) s v is h = absurd (none-some s is)
members_are (array k n) s v is h = absurd (none-some s is)
members_are (union name d cs) s v is h = absurd (none-some s is)

pub struct_is : (k s : Kind) (vs : List Value) → as_struct k ≡ Some s → HaveKinds (members_in s) vs → HasKind s (items (values_of vs))
struct_is (structure name ms) s vs is h =
    let e : structure name ms ≡ s = same_Some (structure name ms) s is in
    let g : HaveKinds ms vs = subst (λ (d : Kind). HaveKinds (members_in d) vs) (sym e) h in
    subst (λ (d : Kind). HasKind d (items (values_of vs))) e (values_of vs, refl, subst (HaveKinds ms) (sym (list_of_values vs)) g)
struct_is (scalar t) s vs is h = absurd (none-some s is)
struct_is (words bound) s vs is h = absurd (none-some s is)
struct_is (sequence k bound) s vs is h = absurd (none-some s is)
struct_is (array k n) s vs is h = absurd (none-some s is)
struct_is (union name d cs) s vs is h = absurd (none-some s is)

found_here : (b : Bool) (n : ℕ) (k : Kind) (o : Option (ℕ × Kind)) (r : ℕ × Kind) → cond b (Some (n, k)) o ≡ Some r → (b ≡ true) × (r ≡ (n, k)) ⊎ (o ≡ Some r)
found_here true n k o r e = inl (refl, sym (same_Some (n, k) r e))
found_here false n k o r e = inr e

-- where a member was found
pub found_member : (n : ℕ) (ms : Members) (name : Name) (r : ℕ × Kind) → find_member n ms name ≡ Some r → (i : ℕ) × (r.0 ≡ n + i) × (member_kind i ms ≡ Some r.1)
found_member n no_members name r e = absurd (none-some r e)
found_member n (member m k ms) name r e = ⊎_elim (λ h. (0, ap (λ (x : ℕ × Kind). x.0) h.1 ∙ (omega arith), ap (λ (x : ℕ × Kind). Some x.1) (sym h.1)))
    (λ h. let g = found_member (n + 1) ms name r h in (suc g.0, (let p = g.1 in omega (arith, p)), g.2))
    (found_here (bytes_eq m name) n k (find_member (n + 1) ms name) r e)

pub have_kind : (ms : Members) (vs : List Value) (i : ℕ) (k : Kind) → HaveKinds ms vs → member_kind i ms ≡ Some k → (v : Value) × (slice_get vs i ≡ Some v) × HasKind k v
have_kind no_members vs i k h e = absurd (none-some k e)
have_kind (member name d ms) [] i k h e = absurd h
have_kind (member name d ms) (v ∷ vs) zero k h e = (v, refl, subst (λ (x : Kind). HasKind x v) (same_Some d k e) h.0)
have_kind (member name d ms) (v ∷ vs) (suc i) k h e = have_kind ms vs i k h.1 e

pub member_within : (ms : Members) (i : ℕ) (k : Kind) → member_kind i ms ≡ Some k → i < members_len ms
member_within no_members i k e = absurd (none-some k e)
member_within (member name d ms) zero k e = omega arith
member_within (member name d ms) (suc i) k e = let h = member_within ms i k e in omega (arith, h)

-- ---- what fits a type is of its kind

cond_some : {A : Type 0} (b : Bool) (o : Option A) → is_some (cond b o None) ≡ true → is_some o ≡ true
cond_some true o e = e
cond_some false o e = absurd cc

behind_some : (fs : List Field) (o : Option (List Field)) → is_some (behind fs o) ≡ true → is_some o ≡ true
behind_some fs (Some gs) e = refl
behind_some fs None e = absurd cc

both_some : (a b : Option (List Field)) → is_some (both a b) ≡ true → (is_some a ≡ true) × (is_some b ≡ true)
both_some (Some fs) b e = (refl, behind_some fs b e)
both_some None b e = absurd cc

mutual
  pub fits_kind : (v : Value) (k : Kind) → is_some (fields_of v k) ≡ true → HasKind k v
  fits_kind (truth b) (scalar boolean) e = (b, refl)
  fits_kind (truth b) (scalar char) e = absurd cc
  fits_kind (truth b) (scalar (unsigned s)) e = absurd cc
  fits_kind (truth b) (scalar (signed s)) e = absurd cc
  fits_kind (truth b) (scalar (enumeration name labels)) e = absurd cc
  fits_kind (truth b) (words bound) e = absurd cc
  fits_kind (truth b) (sequence k bound) e = absurd cc
  fits_kind (truth b) (array k n) e = absurd cc
  fits_kind (truth b) (structure name ms) e = absurd cc
  fits_kind (truth b) (union name d cs) e = tt
  fits_kind (number z) (scalar boolean) e = absurd cc
  fits_kind (number z) (scalar char) e = absurd cc
  fits_kind (number z) (scalar (unsigned s)) e = (z, refl)
  fits_kind (number z) (scalar (signed s)) e = (z, refl)
  fits_kind (number z) (scalar (enumeration name labels)) e = absurd cc
  fits_kind (number z) (words bound) e = absurd cc
  fits_kind (number z) (sequence k bound) e = absurd cc
  fits_kind (number z) (array k n) e = absurd cc
  fits_kind (number z) (structure name ms) e = absurd cc
  fits_kind (number z) (union name d cs) e = tt
  fits_kind (letter n) (scalar boolean) e = absurd cc
  fits_kind (letter n) (scalar char) e = (n, refl)
  fits_kind (letter n) (scalar (unsigned s)) e = absurd cc
  fits_kind (letter n) (scalar (signed s)) e = absurd cc
  fits_kind (letter n) (scalar (enumeration name labels)) e = absurd cc
  fits_kind (letter n) (words bound) e = absurd cc
  fits_kind (letter n) (sequence k bound) e = absurd cc
  fits_kind (letter n) (array k m) e = absurd cc
  fits_kind (letter n) (structure name ms) e = absurd cc
  fits_kind (letter n) (union name d cs) e = tt
  fits_kind (label n) (scalar boolean) e = absurd cc
  fits_kind (label n) (scalar char) e = absurd cc
  fits_kind (label n) (scalar (unsigned s)) e = absurd cc
  fits_kind (label n) (scalar (signed s)) e = absurd cc
  fits_kind (label n) (scalar (enumeration name labels)) e = (n, refl)
  fits_kind (label n) (words bound) e = absurd cc
  fits_kind (label n) (sequence k bound) e = absurd cc
  fits_kind (label n) (array k m) e = absurd cc
  fits_kind (label n) (structure name ms) e = absurd cc
  fits_kind (label n) (union name d cs) e = tt
  fits_kind (text t) (scalar s) e = absurd cc
  fits_kind (text t) (words bound) e = (t, refl)
  fits_kind (text t) (sequence k bound) e = absurd cc
  fits_kind (text t) (array k n) e = absurd cc
  fits_kind (text t) (structure name ms) e = absurd cc
  fits_kind (text t) (union name d cs) e = tt
  fits_kind (items vs) (scalar s) e = absurd cc
  fits_kind (items vs) (words bound) e = absurd cc
  fits_kind (items vs) (sequence k bound) e = (vs, refl, each_kind vs k (behind_some (core.number w32 (values_len vs) ∷ []) (fields_each vs k) (cond_some (is_count bound (values_len vs)) (behind (core.number w32 (values_len vs) ∷ []) (fields_each vs k)) e)))
  fits_kind (items vs) (array k n) e = (vs, refl, each_kind vs k (cond_some (values_len vs == n) (fields_each vs k) e))
  fits_kind (items vs) (structure name ms) e = (vs, refl, members_kind vs ms e)
  fits_kind (items vs) (union name d cs) e = tt
  fits_kind (chosen z vs) (scalar s) e = absurd cc
  fits_kind (chosen z vs) (words bound) e = absurd cc
  fits_kind (chosen z vs) (sequence k bound) e = absurd cc
  fits_kind (chosen z vs) (array k n) e = absurd cc
  fits_kind (chosen z vs) (structure name ms) e = absurd cc
  fits_kind (chosen z vs) (union name d cs) e = tt

  each_kind : (vs : Values) (k : Kind) → is_some (fields_each vs k) ≡ true → Every (HasKind k) (list_of vs)
  each_kind no_values k e = tt
  each_kind (value v vs) k e = let h = both_some (fields_of v k) (fields_each vs k) e in (fits_kind v k h.0, each_kind vs k h.1)

  members_kind : (vs : Values) (ms : Members) → is_some (fields_members vs ms) ≡ true → HaveKinds ms (list_of vs)
  members_kind no_values no_members e = refl
  members_kind no_values (member name k ms) e = absurd cc
  members_kind (value v vs) no_members e = absurd cc
  members_kind (value v vs) (member name k ms) e = let h = both_some (fields_of v k) (fields_members vs ms) e in (fits_kind v k h.0, members_kind vs ms h.1)

-- as many values as members, each of its type
pub members_all : (ms : Members) (vs : List Value) → length vs ≡ members_len ms → ((m : ℕ) (v : Value) → slice_get vs m ≡ Some v → (k : Kind) × (member_kind m ms ≡ Some k) × (is_of v k ≡ true))
    → HaveKinds ms vs
members_all no_members [] n f = refl
members_all no_members (v ∷ vs) n f = absurd (omega (arith, n))
members_all (member name k ms) [] n f = absurd (omega (arith, n))
members_all (member name k ms) (v ∷ vs) n f =
    let h = f 0 v refl in
    (fits_kind v k (subst (λ (d : Kind). is_of v d ≡ true) (sym (same_Some k h.0 h.1)) h.2), members_all ms vs (omega (arith, n)) (λ m w e. f (suc m) w e))
