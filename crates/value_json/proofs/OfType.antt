-- What is read of a type is of that type.
use Rattle.std.proofs.Common.{◌≡◌, ◌∙◌, ℕ, ℤ, pos, negsuc, zero, suc, ◌<◌, ◌^◌, ◌==◌, ◌&&◌, min, Bool, true, false, true≢false, List, [], ◌∷◌, length, Option, Some, None, option_map, option_and_then, refl, sym, ap, subst, arith, ltb-true, lt-ltb, le-leb, bytes_eq, chars, codes, is_some, if◌then◌else◌}
use Rattle.std.specs.Prelude.{nat_lt, nat_le, int_le, int_lt, position, unwrap_or}
use Rattle.std.proofs.lemmas.List.Quantifiers.{position-Some}
use Rattle.std.specs.Int.{w32, from_bool}
use Rattle.std.proofs.lemmas.Bool.{and_from, and_parts}
use Rattle.cdr_core.specs.Field as core
use Rattle.serde_json.specs.Data.{Data, Items, no_items, item, Members as JsonMembers}
use Rattle.serde_json.specs.Events.{items_len, members_len}
use Rattle.serde_json.specs.Find.{get_member, as_bool, as_str, as_number, as_integer, as_array, as_object}
use Rattle.cdr_values.specs.Choice.{choose, kind_at}
use Rattle.cdr_values.specs.Lawful.{member_names}
use Rattle.cdr_values.specs.Reading.{value_at}
use Rattle.cdr_values.specs.Spelling.{lowest, limit, width_of, number_field, tag_field, one_field, is_text, is_count, fields_of, fields_each, fields_members, fields_chosen}
use Rattle.cdr_values.specs.Trees.{Name, Scalar, boolean, char, unsigned, signed, enumeration, Kind, scalar, words, sequence, array, structure, union, Members, no_members, member, Cases, no_cases, case, Value, text, items, chosen, Values, no_values, value, values_of, values_len}
use Rattle.value_json.specs.Laws.{MeansOfType}
use Rattle.value_json.specs.Meant.{meant, meant_members, meant_choice, bounded, with_first, each_in, array_of, object_of, then_choice, without_member}
use Rattle.value_json.specs.Numerals.{numeral_in, number_in, integer_in, only, as_code, as_label}
use Rattle.value_json.specs.Texts.{is_byte, codes_in, text_of, where_so}
use Rattle.value_json.proofs.Fields.{some_one, some_behind, some_both, some_ranged}
use Rattle.value_json.proofs.NumbersBack.{in_range, two_only}

-- ---- what a value that is there came from

pub never : {A : Type 0} (x : A) (P : Type 0) → None ≡ Some x → P
never x P e = absurd (cc)

pub same_some : {A : Type 0} (x y : A) → Some x ≡ Some y → x ≡ y
same_some x y e = ap (λ o. unwrap_or o x) e

pub from_map : {A B : Type 0} (f : A → B) (o : Option A) (y : B) → option_map f o ≡ Some y → (x : A) × (o ≡ Some x) × (f x ≡ y)
from_map f (Some x) y e = (x, refl, same_some (f x) y e)
from_map f None y e = never y _ e

pub from_then : {A B : Type 0} (f : A → Option B) (o : Option A) (y : B) → option_and_then f o ≡ Some y → (x : A) × (o ≡ Some x) × (f x ≡ Some y)
from_then f (Some x) y e = (x, refl, e)
from_then f None y e = never y _ e

from_if : {A : Type 0} (b : Bool) (o : Option A) (y : A) → (if b then o else None) ≡ Some y → (b ≡ true) × (o ≡ Some y)
from_if true o y e = (refl, e)
from_if false o y e = never y _ e

pub from_first : {A : Type 0} (o : Option A) (more : Option (List A)) (ys : List A) → with_first o more ≡ Some ys
    → (x : A) × (xs : List A) × (o ≡ Some x) × (more ≡ Some xs) × (x ∷ xs ≡ ys)
from_first None more ys e = never ys _ e
from_first (Some x) None ys e = never ys _ e
from_first (Some x) (Some xs) ys e = (x, xs, refl, refl, same_some (x ∷ xs) ys e)

-- ---- numbers

code_fits : (c : ℕ) (z : ℤ) → as_code c ≡ Some z → in_range char z ≡ true
code_fits c z e =
    let p = from_if (is_byte c) (Some (pos c)) z e in
    subst (λ (y : ℤ). in_range char y ≡ true) (same_some (pos c) z p.1) (and_from (nat_le 0 c) (is_byte c) (le-leb 0 c (omega arith)) p.0)

bit_fits : (b : Bool) (z : ℤ) → pos (from_bool b) ≡ z → in_range boolean z ≡ true
bit_fits true z e = subst (λ (y : ℤ). in_range boolean y ≡ true) e refl
bit_fits false z e = subst (λ (y : ℤ). in_range boolean y ≡ true) e refl

integer_fits : (low high : ℤ) (d : Data) (z : ℤ) → integer_in low high d ≡ Some z → (int_le low z && int_lt z high) ≡ true
integer_fits low high d z e =
    let p = from_then (where_so (λ y. int_le low y && int_lt y high)) (option_and_then as_integer (as_number d)) z e in
    let q = from_if (int_le low p.0 && int_lt p.0 high) (Some p.0) z p.2 in
    subst (λ (y : ℤ). (int_le low y && int_lt y high) ≡ true) (same_some p.0 z q.1) q.0

label_fits : (labels : List Name) (n : ℕ) (z : ℤ) (name : Name) → n < length labels → as_label n ≡ Some z → in_range (enumeration name labels) z ≡ true
label_fits labels n z name inside e =
    let p = from_if (nat_lt n (2 ^ 32)) (Some (pos n)) z e in
    let low : n < 2 ^ 32 = ltb-true n (2 ^ 32) p.0 in
    subst (λ (y : ℤ). in_range (enumeration name labels) y ≡ true) (same_some (pos n) z p.1)
    (and_from (nat_le 0 n) (nat_lt n (min (length labels) (2 ^ 32))) (le-leb 0 n (omega arith)) (lt-ltb n (min (length labels) (2 ^ 32)) (omega arith)))

numeral_fits : (s : Scalar) (d : Data) (z : ℤ) → numeral_in s d ≡ Some z → in_range s z ≡ true
unfolding numeral_in
numeral_fits boolean d z e = let p = from_map (λ b. pos (from_bool b)) (as_bool d) z e in bit_fits p.0 z p.2
numeral_fits char d z e = let p = from_then as_code (option_and_then (λ s. only (chars s)) (as_str d)) z e in code_fits p.0 z p.2
numeral_fits (unsigned s) d z e = integer_fits (lowest (unsigned s)) (limit (unsigned s)) d z e
numeral_fits (signed s) d z e = integer_fits (lowest (signed s)) (limit (signed s)) d z e
numeral_fits (enumeration name labels) d z e =
    let p = from_then (λ s. option_and_then as_label (position (λ l. bytes_eq (text_of l) s) labels)) (as_str d) z e in
    let q = from_then as_label (position (λ l. bytes_eq (text_of l) p.0) labels) z p.2 in
    label_fits labels q.0 z name (position-Some (λ l. bytes_eq (text_of l) p.0) labels q.0 [] q.1).0 q.2

value_fits : (s : Scalar) (z : ℤ) → in_range s z ≡ true → is_some (fields_of (value_at s z) (scalar s)) ≡ true
value_fits boolean (pos zero) h = refl
value_fits boolean (pos (suc zero)) h = refl
value_fits boolean (pos (suc (suc n))) h = absurd (two_only n (and_parts (int_le (pos 0) (pos (suc (suc n)))) _ h).1)
value_fits boolean (negsuc n) h = absurd (true≢false (sym h))
value_fits char (pos c) h = some_one (number_field char (pos c)) (some_ranged (lowest char) (limit char) (width_of char) (pos c) h)
value_fits char (negsuc c) h = absurd (true≢false (sym h))
value_fits (unsigned s) z h = some_one (number_field (unsigned s) z) (some_ranged (lowest (unsigned s)) (limit (unsigned s)) (width_of (unsigned s)) z h)
value_fits (signed s) z h = some_one (number_field (signed s) z) (some_ranged (lowest (signed s)) (limit (signed s)) (width_of (signed s)) z h)
value_fits (enumeration name labels) (pos n) h =
    some_one (number_field (enumeration name labels) (pos n))
    (some_ranged (lowest (enumeration name labels)) (limit (enumeration name labels)) (width_of (enumeration name labels)) (pos n) h)
value_fits (enumeration name labels) (negsuc n) h = absurd (true≢false (sym h))

tag_fits : (k : Kind) (d : Data) (z : ℤ) → number_in k d ≡ Some z → is_some (tag_field k z) ≡ true
unfolding number_in
tag_fits (scalar s) d z e = some_ranged (lowest s) (limit s) (width_of s) z (numeral_fits s d z e)
tag_fits (words bound) d z e = never z _ e
tag_fits (sequence k bound) d z e = never z _ e
tag_fits (array k n) d z e = never z _ e
tag_fits (structure name ms) d z e = never z _ e
tag_fits (union name t cs) d z e = never z _ e

-- ---- lists

-- values of a type, as many as there are items
abbrev Fit : Kind → ℕ → List Value → Type 0
Fit k n vs = (is_some (fields_each (values_of vs) k) ≡ true) × (values_len (values_of vs) ≡ n)

each_fits : (k : Kind) (one : Data → Option Value) → ((d : Data) (v : Value) → one d ≡ Some v → is_some (fields_of v k) ≡ true)
    → (ds : Items) (vs : List Value) → each_in one ds ≡ Some vs → Fit k (items_len ds) vs
each_fits k one ih no_items vs e = subst (Fit k 0) (same_some [] vs e) (refl, refl)
each_fits k one ih (item d ds) vs e =
    let p = from_first (one d) (each_in one ds) vs e in
    let more = each_fits k one ih ds p.1 p.3 in
    subst (Fit k (suc (items_len ds))) p.4 (some_both (fields_of p.0 k) (fields_each (values_of p.1) k) (ih d p.0 p.2) more.0, ap suc more.1)

abbrev Fits : Kind → Value → Type 0
Fits k v = is_some (fields_of v k) ≡ true

list_fits : (k : Kind) (allowed : ℕ → Bool) (d : Data) (vs : List Value) (ds : Items) → array_of allowed d ≡ Some ds → Fit k (items_len ds) vs
    → (allowed (values_len (values_of vs)) ≡ true) × (is_some (fields_each (values_of vs) k) ≡ true)
list_fits k allowed d vs ds e f =
    let p = from_then (where_so (λ es. allowed (items_len es))) (as_array d) ds e in
    let q = from_if (allowed (items_len p.0)) (Some p.0) ds p.2 in
    let count : allowed (items_len ds) ≡ true = subst (λ (es : Items). allowed (items_len es) ≡ true) (same_some p.0 ds q.1) q.0 in
    (rw f.1 count, f.0)

-- ---- any type

-- a union by its number, with the values that its member is
abbrev IsChosen : Cases → Option ℕ → ℤ → Value → Type 0
IsChosen cs o z v = (vs : Values) × (chosen z vs ≡ v) × (is_some (fields_chosen vs (kind_at o cs)) ≡ true)

abbrev list_value : List Value → Value
list_value vs = items (values_of vs)

abbrev chosen_value : ℤ → Value → Value
chosen_value z v = chosen z (value v no_values)

without_fits : (z : ℤ) (os : JsonMembers) (v : Value) → without_member z os ≡ Some v → chosen z no_values ≡ v
without_fits z os v e = same_some (chosen z no_values) v (from_if (members_len os == 1) (Some (chosen z no_values)) v e).1

mutual
  unfolding meant

  fits : (k : Kind) (d : Data) (v : Value) → meant k d ≡ Some v → Fits k v
  fits (scalar s) d v e =
      let p = from_map (value_at s) (numeral_in s d) v e in
      subst (Fits (scalar s)) p.2 (value_fits s p.0 (numeral_fits s d p.0 p.1))
  fits (words bound) d v e =
      let p = from_then (bounded bound) (codes_in d) v e in
      let q = from_map text (where_so (is_text bound) p.0) v p.2 in
      let r = from_if (is_text bound p.0) (Some p.0) q.0 q.1 in
      let here : Fits (words bound) (text p.0) = rw r.0 refl in
      subst (Fits (words bound)) (ap text (same_some p.0 q.0 r.1) ∙ q.2) here
  fits (sequence k bound) d v e =
      let p = from_map list_value (option_and_then (each_in (meant k)) (array_of (is_count bound) d)) v e in
      let q = from_then (each_in (meant k)) (array_of (is_count bound) d) p.0 p.1 in
      let r = list_fits k (is_count bound) d p.0 q.0 q.1 (each_fits k (meant k) (λ d v. fits k d v) q.0 p.0 q.2) in
      let here : Fits (sequence k bound) (items (values_of p.0)) =
      rw r.0 (some_behind (core.number w32 (values_len (values_of p.0)) ∷ []) (fields_each (values_of p.0) k) r.1) in
      subst (Fits (sequence k bound)) p.2 here
  fits (array k n) d v e =
      let p = from_map list_value (option_and_then (each_in (meant k)) (array_of (λ m. m == n) d)) v e in
      let q = from_then (each_in (meant k)) (array_of (λ m. m == n) d) p.0 p.1 in
      let r = list_fits k (λ m. m == n) d p.0 q.0 q.1 (each_fits k (meant k) (λ d v. fits k d v) q.0 p.0 q.2) in
      let here : Fits (array k n) (items (values_of p.0)) = rw r.0 r.1 in
      subst (Fits (array k n)) p.2 here
  fits (structure name ms) d v e =
      let p = from_map list_value (option_and_then (meant_members ms) (object_of (length (member_names ms)) d)) v e in
      let q = from_then (meant_members ms) (object_of (length (member_names ms)) d) p.0 p.1 in
      subst (Fits (structure name ms)) p.2 (members_fit ms q.0 p.0 q.2)
  fits (union name t cs) d v e =
      let p = from_then (then_choice (λ z. meant_choice cs (choose z cs) z) (number_in t)) (as_object d) v e in
      let q = from_then (λ z. meant_choice cs (choose z cs) z p.0) (option_and_then (number_in t) (get_member (codes "case") p.0)) v p.2 in
      let r = from_then (number_in t) (get_member (codes "case") p.0) q.0 q.1 in
      let s = choice_fits cs (choose q.0 cs) q.0 p.0 v q.2 in
      subst (Fits (union name t cs)) s.1
      (some_both (one_field (tag_field t q.0)) (fields_chosen s.0 (kind_at (choose q.0 cs) cs)) (some_one (tag_field t q.0) (tag_fits t r.0 q.0 r.2)) s.2)

  members_fit : (ms : Members) (os : JsonMembers) (vs : List Value) → meant_members ms os ≡ Some vs → is_some (fields_members (values_of vs) ms) ≡ true
  members_fit no_members os vs e = subst (λ (ws : List Value). is_some (fields_members (values_of ws) no_members) ≡ true) (same_some [] vs e) refl
  members_fit (member name k ms) os vs e =
      let p = from_first (option_and_then (meant k) (get_member (text_of name) os)) (meant_members ms os) vs e in
      let q = from_then (meant k) (get_member (text_of name) os) p.0 p.2 in
      subst (λ (ws : List Value). is_some (fields_members (values_of ws) (member name k ms)) ≡ true) p.4
      (some_both (fields_of p.0 k) (fields_members (values_of p.1) ms) (fits k q.0 p.0 q.2) (members_fit ms os p.1 p.3))

  choice_fits : (cs : Cases) (o : Option ℕ) (z : ℤ) (os : JsonMembers) (v : Value) → meant_choice cs o z os ≡ Some v → IsChosen cs o z v
  choice_fits cs None z os v e = (no_values, without_fits z os v e, refl)
  choice_fits no_cases (Some i) z os v e = (no_values, without_fits z os v e, refl)
  choice_fits (case labels is_default name k cs) (Some zero) z os v e =
      let p = from_if (members_len os == 2) (option_map (chosen_value z) (option_and_then (meant k) (get_member (codes "value") os))) v e in
      let q = from_map (chosen_value z) (option_and_then (meant k) (get_member (codes "value") os)) v p.1 in
      let r = from_then (meant k) (get_member (codes "value") os) q.0 q.1 in
      (value q.0 no_values, q.2, fits k r.0 q.0 r.2)
  choice_fits (case labels is_default name k cs) (Some (suc i)) z os v e = choice_fits cs (Some i) z os v e

pub means_of_type : MeansOfType
means_of_type k d v e = fits k d v e
