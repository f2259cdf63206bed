-- A value of a lawful type has a byte, so a count never counts more of them than there are bytes.
use Rattle.std.proofs.Common.{◌≡◌, ℕ, ℤ, zero, suc, ◌+◌, ◌<◌, ◌≤◌, Bool, true, false, not, ◌&&◌, cond, eqb, List, [], ◌∷◌, ◌++◌, length, Option, Some, None, refl, sym, subst, ◌∙◌, arith, length-append}
use Rattle.std.proofs.lemmas.Option.{same_Some}
use Rattle.std.specs.Prelude.{IsTrue, option_and_then, int_le, int_lt}
use Rattle.std.specs.Int.{Width, w32, byte_len, cast_unsigned}
use Rattle.std.proofs.lemmas.Bool.{and_parts, not-true, eqb-true, eq-eqb}
use Rattle.cdr_core.specs.Cursor.{Cursor}
use Rattle.cdr_core.specs.Field.{Field, field_end, fields_end, string_fields}
use Rattle.cdr_core.specs.Field as core
use Rattle.cdr_core.specs.Passing.{Spans}
use Rattle.cdr_core.proofs.CallerLemmas.{fields_end-append, length-spelled}
use Rattle.cdr_values.specs.Trees.{Size, size1, size2, size4, size8, wide, Scalar, boolean, char, unsigned, signed, enumeration, Kind, scalar, words, sequence, array, structure, union, Members, no_members, member, Cases, Value, truth, number, letter, text, items, chosen, label, Values, no_values, value, values_len}
use Rattle.cdr_values.specs.Choice.{choose, kind_at}
use Rattle.cdr_values.specs.Lawful.{is_lawful, are_lawful, has_member}
use Rattle.cdr_values.specs.Numerals.{numeral, plain_field}
use Rattle.cdr_values.specs.Spelling.{width_of, lowest, limit, is_text, is_count, behind, both, one_field, number_field, tag_field, fields_of, fields_each, fields_members, fields_chosen}
use Rattle.cdr_values.proofs.HasFields.{plain_is}

-- ---- what fields that are asked for are made of

pub test_parts : {A : Type 0} (b : Bool) (o : Option A) (x : A) → cond b o None ≡ Some x → (b ≡ true) × (o ≡ Some x)
test_parts true o x e = (refl, e)
test_parts false o x e = absurd cc

pub one_parts : (o : Option Field) (fs : List Field) → one_field o ≡ Some fs → (f : Field) × (o ≡ Some f) × (fs ≡ f ∷ [])
one_parts (Some f) fs e = (f, refl, sym (same_Some (f ∷ []) fs e))
one_parts None fs e = absurd cc

pub then_parts : (g : ℤ → Option Field) (o : Option ℤ) (f : Field) → option_and_then g o ≡ Some f → (z : ℤ) × (o ≡ Some z) × (g z ≡ Some f)
then_parts g (Some z) f e = (z, refl, e)
then_parts g None f e = absurd cc

pub behind_parts : (front : List Field) (o : Option (List Field)) (fs : List Field) → behind front o ≡ Some fs → (gs : List Field) × (o ≡ Some gs) × (fs ≡ front ++ gs)
behind_parts front (Some gs) fs e = (gs, refl, sym (same_Some (front ++ gs) fs e))
behind_parts front None fs e = absurd cc

-- one value's fields and those after them
pub record Halves (a b : Option (List Field)) (fs : List Field) : Type 0 where
  pub front : List Field
  pub back : List Field
  pub first : a ≡ Some front
  pub others : b ≡ Some back
  pub parts : fs ≡ front ++ back

pub halves : (a b : Option (List Field)) (fs : List Field) → both a b ≡ Some fs → Halves a b fs
halves None b fs e = absurd cc
halves (Some x) b fs e = let h = behind_parts x b fs e in record { front = x; back = h.0; first = refl; others = h.1; parts = h.2 }

-- ---- fields with a byte

-- after the fields one is further on
abbrev pub Grows : List Field → Type 0
Grows fs = (place : ℕ) → place < fields_end place fs

pub never_back : (fs : List Field) (place : ℕ) → place ≤ fields_end place fs
never_back [] place = omega arith
never_back (f ∷ fs) place = omega (arith, never_back fs (field_end place f))

pub number_grows : (w : Width) (n : ℕ) (fs : List Field) → 0 < byte_len w → Grows (core.number w n ∷ fs)
number_grows w n fs some place = omega (arith, some, never_back fs (field_end place (core.number w n)))

pub front_grows : (a b : List Field) → Grows a → Grows (a ++ b)
front_grows a b g place = omega (arith, g place, never_back b (fields_end place a), fields_end-append place a b)

wide_some : (s : Size) → 0 < byte_len (wide s)
wide_some size1 = omega arith
wide_some size2 = omega arith
wide_some size4 = omega arith
wide_some size8 = omega arith

width_some : (s : Scalar) → 0 < byte_len (width_of s)
width_some boolean = omega arith
width_some char = omega arith
width_some (unsigned s) = wide_some s
width_some (signed s) = wide_some s
width_some (enumeration name labels) = omega arith

scalar_grows : (s : Scalar) (z : ℤ) (f : Field) (fs : List Field) → number_field s z ≡ Some f → Grows (f ∷ fs)
scalar_grows s z f fs e =
    let n : ℕ = cast_unsigned (width_of s) z in
    let here : Field = core.number (width_of s) n in
    let t = test_parts (int_le (lowest s) z && int_lt z (limit s)) (Some here) f e in
    subst (λ (g : Field). Grows (g ∷ fs)) (same_Some here f t.1) (number_grows (width_of s) n fs (width_some s))

tag_grows : (k : Kind) (z : ℤ) (fs : List Field) → one_field (tag_field k z) ≡ Some fs → Grows fs
tag_grows (scalar s) z fs e = let a = one_parts (number_field s z) fs e in subst Grows (sym a.2) (scalar_grows s z a.0 [] a.1)
tag_grows (words bound) z fs e = absurd cc
tag_grows (sequence k bound) z fs e = absurd cc
tag_grows (array k n) z fs e = absurd cc
tag_grows (structure name ms) z fs e = absurd cc
tag_grows (union name d cs) z fs e = absurd cc

plain_grows : (s : Scalar) (v : Value) (fs : List Field) → fields_of v (scalar s) ≡ Some fs → Grows fs
plain_grows s v fs e =
    let a = one_parts (plain_field (scalar s) v) fs (plain_is s v ∙ e) in
    let b = then_parts (number_field s) (numeral s v) a.0 a.1 in
    subst Grows (sym a.2) (scalar_grows s b.0 a.0 [] b.2)

-- an array of no elements is not lawful
not_empty : (n : ℕ) → eqb 0 n ≡ true → not (eqb n 0) ≡ true → ⊥
not_empty n a b =
    let h : 0 ≡ n = eqb-true 0 n a in
    let k : eqb n 0 ≡ true = eq-eqb n 0 (sym h) in
    let l : eqb n 0 ≡ false = not-true (eqb n 0) b in
    let m : true ≡ false = sym k ∙ l in
    cc

mutual
  pub type_grows : (k : Kind) → IsTrue (is_lawful k) → (v : Value) (fs : List Field) → fields_of v k ≡ Some fs → Grows fs
  type_grows (scalar s) l v fs e = plain_grows s v fs e
  type_grows (words bound) l (text t) fs e =
      let h = test_parts (is_text bound t) (Some (string_fields t)) fs e in
      subst Grows (same_Some (string_fields t) fs h.1) (number_grows w32 (length t + 1) (core.run 1 (t ++ 0 ∷ []) ∷ []) (omega arith))
  type_grows (words bound) l v fs e = absurd cc
  type_grows (sequence k bound) l (items vs) fs e =
      let h = test_parts (is_count bound (values_len vs)) (behind (core.number w32 (values_len vs) ∷ []) (fields_each vs k)) fs e in
      let g = behind_parts (core.number w32 (values_len vs) ∷ []) (fields_each vs k) fs h.1 in
      subst Grows (sym g.2) (number_grows w32 (values_len vs) g.0 (omega arith))
  type_grows (sequence k bound) l v fs e = absurd cc
  type_grows (array k n) l (items no_values) fs e =
      let h = test_parts (eqb 0 n) (Some []) fs e in
      let a = and_parts (not (eqb n 0)) (is_lawful k) l in
      absurd (not_empty n h.0 a.0)
  type_grows (array k n) l (items (value v vs)) fs e =
      let t = test_parts (eqb (suc (values_len vs)) n) (both (fields_of v k) (fields_each vs k)) fs e in
      let a = and_parts (not (eqb n 0)) (is_lawful k) l in
      let h = halves (fields_of v k) (fields_each vs k) fs t.1 in
      subst Grows (sym h.parts) (front_grows h.front h.back (type_grows k a.1 v h.front h.first))
  type_grows (array k n) l v fs e = absurd cc
  type_grows (structure name ms) l (items vs) fs e =
      let a = and_parts (has_member ms) _ l in
      let b = and_parts _ (are_lawful ms) a.1 in
      members_grow ms a.0 b.1 vs fs e
  type_grows (structure name ms) l v fs e = absurd cc
  type_grows (union name d cs) l (chosen z vs) fs e =
      let h = halves (one_field (tag_field d z)) (fields_chosen vs (kind_at (choose z cs) cs)) fs e in
      subst Grows (sym h.parts) (front_grows h.front h.back (tag_grows d z h.front h.first))
  type_grows (union name d cs) l v fs e = absurd cc

  members_grow : (ms : Members) → IsTrue (has_member ms) → IsTrue (are_lawful ms) → (vs : Values) (fs : List Field) → fields_members vs ms ≡ Some fs → Grows fs
  members_grow no_members some l vs fs e = absurd cc
  members_grow (member name k ms) some l no_values fs e = absurd cc
  members_grow (member name k ms) some l (value v vs) fs e =
      let a = and_parts (is_lawful k) (are_lawful ms) l in
      let h = halves (fields_of v k) (fields_members vs ms) fs e in
      subst Grows (sym h.parts) (front_grows h.front h.back (type_grows k a.0 v h.front h.first))

-- ---- several values

-- each value of the type has a byte
abbrev pub HasByte : Kind → Type 0
HasByte k = (v : Value) (fs : List Field) → fields_of v k ≡ Some fs → Grows fs

each_grows : (k : Kind) → HasByte k → (vs : Values) (fs : List Field) (place : ℕ) → fields_each vs k ≡ Some fs → place + values_len vs ≤ fields_end place fs
each_grows k has no_values fs place e = omega (arith, never_back fs place)
each_grows k has (value v vs) fs place e =
    let h = halves (fields_of v k) (fields_each vs k) fs e in
    let first = has v h.front h.first place in
    let others = each_grows k has vs h.back (fields_end place h.front) h.others in
    let all : place + suc (values_len vs) ≤ fields_end place (h.front ++ h.back) = omega (arith, first, others, fields_end-append place h.front h.back) in
    subst (λ (gs : List Field). place + suc (values_len vs) ≤ fields_end place gs) (sym h.parts) all

pub each_room : (k : Kind) → HasByte k → (vs : Values) (fs : List Field) (c d : Cursor) → fields_each vs k ≡ Some fs → Spans c d fs → values_len vs ≤ length c.rest
each_room k has vs fs c d e p =
    let far = each_grows k has vs fs c.place e in
    let end = length-spelled c.order c.place fs p.spelling p.spelled in
    let some : values_len vs ≤ length (p.spelling ++ d.rest) = omega (arith, far, end, length-append p.spelling d.rest) in
    subst (λ (x : List ℕ). values_len vs ≤ length x) (sym p.parts) some
