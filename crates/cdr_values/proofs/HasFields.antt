-- When a value has fields.
use Rattle.std.proofs.Common.{◌≡◌, ℕ, ℤ, zero, suc, ◌-◌, ◌<◌, Bool, true, false, ◌&&◌, cond, eqb, List, [], ◌∷◌, length, Option, Some, None, refl, sym, ap, ◌∙◌, arith, is_some, is_none, option_map}
use Rattle.std.specs.Prelude.{IfSome}
use Rattle.std.proofs.lemmas.Bool.{eq-eqb}
use Rattle.cdr_core.specs.Field.{Field, string_fields}
use Rattle.cdr_core.specs.Field as core
use Rattle.std.specs.Int.{w32}
use Rattle.cdr_values.specs.Trees.{Scalar, boolean, char, unsigned, signed, enumeration, Kind, scalar, words, sequence, array, union, member, Cases, Value, truth, number, letter, text, items, chosen, label, Values, no_values, value, values_of, values_len, cases_of}
use Rattle.cdr_values.specs.Numerals.{plain_field}
use Rattle.cdr_values.specs.Spelling.{is_text, is_count, behind, both, one_field, tag_field, fields_of, fields_each, fields_chosen}
use Rattle.cdr_values.specs.Choice.{choose, nth_kind, kind_at}
use Rattle.cdr_values.specs.Kinds.{cases_view}
use Rattle.cdr_values.specs.Values.{value_of, values_view}
use Rattle.cdr_values.specs.declared.kind.Case.{Case}
use Rattle.cdr_values.specs.declared.value.IdlValue.{IdlValue}
use Rattle.std.proofs.lemmas.List.{length-map}

-- the fields of a value of a scalar type are the field of its number
pub plain_is : (s : Scalar) (v : Value) → one_field (plain_field (scalar s) v) ≡ fields_of v (scalar s)
plain_is boolean (truth b) = refl
plain_is char (truth b) = refl
plain_is (unsigned s) (truth b) = refl
plain_is (signed s) (truth b) = refl
plain_is (enumeration n l) (truth b) = refl
plain_is boolean (number z) = refl
plain_is char (number z) = refl
plain_is (unsigned s) (number z) = refl
plain_is (signed s) (number z) = refl
plain_is (enumeration n l) (number z) = refl
plain_is boolean (letter c) = refl
plain_is char (letter c) = refl
plain_is (unsigned s) (letter c) = refl
plain_is (signed s) (letter c) = refl
plain_is (enumeration n l) (letter c) = refl
plain_is boolean (label c) = refl
plain_is char (label c) = refl
plain_is (unsigned s) (label c) = refl
plain_is (signed s) (label c) = refl
plain_is (enumeration n l) (label c) = refl
plain_is boolean (text t) = refl
plain_is char (text t) = refl
plain_is (unsigned s) (text t) = refl
plain_is (signed s) (text t) = refl
plain_is (enumeration n l) (text t) = refl
plain_is boolean (items vs) = refl
plain_is char (items vs) = refl
plain_is (unsigned s) (items vs) = refl
plain_is (signed s) (items vs) = refl
plain_is (enumeration n l) (items vs) = refl
plain_is boolean (chosen z vs) = refl
plain_is char (chosen z vs) = refl
plain_is (unsigned s) (chosen z vs) = refl
plain_is (signed s) (chosen z vs) = refl
plain_is (enumeration n l) (chosen z vs) = refl

one_some : (o : Option Field) → is_some o ≡ is_some (one_field o)
one_some (Some f) = refl
one_some None = refl

pub plain_fits : (s : Scalar) (v : Value) → is_some (plain_field (scalar s) v) ≡ is_some (fields_of v (scalar s))
plain_fits s v = one_some (plain_field (scalar s) v) ∙ ap is_some (plain_is s v)

by_test : (b : Bool) (fs : List Field) → b ≡ is_some (cond b (Some fs) None)
by_test true fs = refl
by_test false fs = refl

pub text_fits : (bound : ℕ) (t : List ℕ) → is_text bound t ≡ is_some (fields_of (text t) (words bound))
text_fits bound t = by_test (is_text bound t) (string_fields t)

pub mapped : {A B : Type 0} (f : A → B) (o : Option A) (p : Option B) → option_map f o ≡ p → is_some o ≡ is_some p
mapped f (Some x) p e = ap is_some e
mapped f None p e = ap is_some e

pub len_of : (vs : List Value) → values_len (values_of vs) ≡ length vs
len_of [] = refl
len_of (v ∷ vs) = ap suc (len_of vs)

-- as many elements as there are values
pub so_many : (vs : List IdlValue) → values_len (values_of (values_view vs)) ≡ length vs
so_many vs = len_of (values_view vs) ∙ length-map vs value_of

behind_some : (front : List Field) (o : Option (List Field)) → is_some (behind front o) ≡ is_some o
behind_some front (Some fs) = refl
behind_some front None = refl

pub both_some : (a b : Option (List Field)) → is_some (both a b) ≡ (is_some a && is_some b)
both_some None b = refl
both_some (Some fs) b = behind_some fs b

pub counted_fits : (vs : List IdlValue) (k : Kind) (bound : ℕ) → is_count bound (length vs) ≡ true
    → is_some (fields_each (values_of (values_view vs)) k) ≡ is_some (fields_of (items (values_of (values_view vs))) (sequence k bound))
counted_fits vs k bound ok =
    rw (so_many vs, ok) (sym (behind_some (core.number w32 (length vs) ∷ []) (fields_each (values_of (values_view vs)) k)))

pub uncounted : (vs : List IdlValue) (k : Kind) (bound : ℕ) → is_count bound (length vs) ≡ false
    → false ≡ is_some (fields_of (items (values_of (values_view vs))) (sequence k bound))
uncounted vs k bound bad = rw (so_many vs, bad) refl

pub full_fits : (vs : List IdlValue) (k : Kind) (n : ℕ) → length vs ≡ n
    → is_some (fields_each (values_of (values_view vs)) k) ≡ is_some (fields_of (items (values_of (values_view vs))) (array k n))
full_fits vs k n len = rw (so_many vs, len, eq-eqb n n refl) refl

pub unfull : (vs : List IdlValue) (k : Kind) (n : ℕ) → eqb (length vs) n ≡ false
    → false ≡ is_some (fields_of (items (values_of (values_view vs))) (array k n))
unfull vs k n bad = rw (so_many vs, bad) refl

no_kind : (a : Option (List Field)) (o : Option Kind) → is_some (both a (fields_chosen no_values o)) ≡ (is_some a && is_none o)
no_kind None o = refl
no_kind (Some fs) (Some k) = refl
no_kind (Some fs) None = refl

pub bare_fits : (f : Option Field) (o : Option Kind) → (is_some f && is_none o) ≡ is_some (both (one_field f) (fields_chosen no_values o))
bare_fits f o = sym (no_kind (one_field f) o ∙ ap (λ (b : Bool). b && is_none o) (sym (one_some f)))

-- a union's value without a member, whose number is one of its discriminator
pub bare_number : (d : Kind) (cs : Cases) (z y : ℤ) (i : Option ℕ) (n r : Bool) → y ≡ z → n ≡ is_some (tag_field d y) → n ≡ true → i ≡ choose y cs
    → r ≡ is_none (kind_at i cs) → r ≡ is_some (both (one_field (tag_field d z)) (fields_chosen no_values (kind_at (choose z cs) cs)))
bare_number d cs z y i n r same tag ok index told =
    let o = kind_at (choose z cs) cs in
    let some : is_some (tag_field d z) ≡ true = rw (← same) (sym tag ∙ ok) in
    let is : is_none o ≡ is_some (both (one_field (tag_field d z)) (fields_chosen no_values o))
    = ap (λ (b : Bool). b && is_none o) (sym some) ∙ bare_fits (tag_field d z) o in
    told ∙ rw (index, same) is

pub tagged_fits : (f : Option Field) (more : Option (List Field)) → is_some f ≡ true → is_some more ≡ is_some (both (one_field f) more)
tagged_fits f more ok = rw (both_some (one_field f) more, ← one_some f, ok) refl

-- a union's value with a member, whose number is one of its discriminator
pub with_number : (d : Kind) (cs : Cases) (v : Value) (z y : ℤ) (i : Option ℕ) (n r : Bool) → y ≡ z → n ≡ is_some (tag_field d y) → n ≡ true → i ≡ choose y cs
    → r ≡ is_some (fields_chosen (value v no_values) (kind_at i cs)) → r ≡ is_some (both (one_field (tag_field d z)) (fields_chosen (value v no_values) (kind_at (choose z cs) cs)))
with_number d cs v z y i n r same tag ok index told =
    let some : is_some (tag_field d z) ≡ true = rw (← same) (sym tag ∙ ok) in
    told ∙ rw (index, same) (tagged_fits (tag_field d z) (fields_chosen (value v no_values) (kind_at (choose z cs) cs)) some)

pub untagged : (f : Option Field) (more : Option (List Field)) → is_some f ≡ false → false ≡ is_some (both (one_field f) more)
untagged f more bad = rw (both_some (one_field f) more, ← one_some f, bad) refl

-- whether a union's value fits is told of its number and its member
pub union_fits : (name : List ℕ) (d : Kind) (cs : Cases) (z y : ℤ) (v : Value) (vs : Values) (r : Bool) → y ≡ z → v ≡ chosen z vs
    → r ≡ is_some (both (one_field (tag_field d y)) (fields_chosen vs (kind_at (choose y cs) cs))) → r ≡ is_some (fields_of v (union name d cs))
union_fits name d cs z y v vs r same is told = told ∙ rw (is, same) refl

nth_there : (cs : List Case) (i : ℕ) → i < length cs → is_none (nth_kind i (cases_of (cases_view cs))) ≡ false
nth_there [] i lt = absurd (omega arith)
nth_there (c ∷ cs) zero lt = refl
nth_there (c ∷ cs) (suc i) lt = nth_there cs i (omega arith)

pub nth_none : (o : Option ℕ) (cs : List Case) → IfSome o (λ i. i < length cs) → is_none o ≡ is_none (kind_at o (cases_of (cases_view cs)))
nth_none None cs h = refl
nth_none (Some i) cs h = sym (nth_there cs i h)
