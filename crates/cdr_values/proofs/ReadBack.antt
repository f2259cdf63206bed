-- What is spelled is read back.
use Rattle.std.proofs.Common.{◌≡◌, ℕ, ℤ, zero, suc, pos, negsuc, ◌+◌, ◌*◌, ◌-◌, ◌^◌, ◌<◌, ◌≤◌, Bool, true, false, not, ◌&&◌, cond, ltb, leb, eqb, List, [], ◌∷◌, ◌++◌, length, Option, Some, None, Result, Ok, Err, refl, sym, ap, subst, ◌∙◌, arith, inl, inr}
use Rattle.std.proofs.lemmas.Option.{same_Some}
use Rattle.std.specs.Prelude.{IsTrue, is_none}
use Rattle.std.specs.Int.{Width, w8, w16, w32, w64, byte_len, cast_signed, cast_unsigned}
use Rattle.std.specs.Ordering.{int_eq}
use Rattle.std.specs.Str.{bytes_eq}
use Rattle.std.proofs.Math.Facts.{to_z-neg}
use Rattle.std.proofs.lemmas.Bool.{cases_lt, lt-ltb, le-ltb, le-leb, lt-leb, eqb-true, and_parts, not-true}
use Rattle.std.proofs.lemmas.Int.{to_z_pos}
use Rattle.orb_base.specs.NulFree.{nul_at}
use Rattle.cdr_core.specs.Cursor.{Cursor, Reads}
use Rattle.cdr_core.specs.Sequence.{◌>>=◌}
use Rattle.cdr_core.specs.Field.{Field, string_fields}
use Rattle.cdr_core.specs.Field as core
use Rattle.cdr_core.specs.Passing.{Spans}
use Rattle.cdr_core.proofs.CallerLemmas.{spans_split, same_cursor, number_reads, bool_reads, count_reads, string_reads}
use Rattle.cdr_values.specs.Trees.{Size, size1, size2, size4, size8, wide, Scalar, boolean, char, unsigned, signed, enumeration, Kind, scalar, words, sequence, array, structure, union, Members, no_members, member, Cases, no_cases, case, Value, truth, number, letter, text, items, chosen, label, Values, no_values, value, values_of, list_of, values_len}
use Rattle.cdr_values.specs.Choice.{choose, nth_kind, kind_at}
use Rattle.cdr_values.specs.Lawful.{differ, member_names, all_labels, has_one_default, is_tag, has_member, is_lawful, are_lawful, cases_are_lawful, is_lawful_struct, is_lawful_union}
use Rattle.cdr_values.specs.Numerals.{numeral, plain_field}
use Rattle.cdr_values.specs.Spelling.{is_above, is_text, is_count, behind, one_field, number_field, tag_field, fields_of, fields_each, fields_members, fields_chosen}
use Rattle.cdr_values.specs.Reading.{label_at, scalar_at, value_at, tag_at, text_at, bounded_count_at, times, read, read_members, read_chosen}
use Rattle.cdr_values.proofs.HasFields.{plain_is}
use Rattle.cdr_values.proofs.Labels.{out_of_range, too_great}
use Rattle.cdr_values.proofs.Members.{chosen_read}
use Rattle.cdr_values.proofs.Taking.{small, unsigned_in, labelled_in, letter_in, truth_in}
use Rattle.cdr_values.proofs.Growing.{test_parts, one_parts, then_parts, behind_parts, halves, type_grows, each_room}

-- ---- numbers

not_out : (o : Option Field) (f : Field) → o ≡ Some f → o ≡ None → ⊥
not_out o f e n = cc

in_field : (o : Option Field) (g f : Field) (c d : Cursor) → o ≡ Some g → o ≡ Some f → Spans c d (f ∷ []) → Spans c d (g ∷ [])
in_field o g f c d a b p = let same : f ≡ g = same_Some f g (sym b ∙ a) in subst (λ (x : Field). Spans c d (x ∷ [])) same p

-- a signed number of a width: its bits, and back
record Signs (w : Width) (z : ℤ) (o : Option Field) : Type 0 where
  pub asks : o ≡ Some (core.number w (cast_unsigned w z))
  pub fits : cast_unsigned w z < 2 ^ (8 * byte_len w)
  pub back : cast_signed w (cast_unsigned w z) ≡ z

signs_size1 : (z : ℤ) (f : Field) → number_field (signed size1) z ≡ Some f → Signs w8 z (number_field (signed size1) z)
signs_size1 (pos n) f e =
    elim (cases_lt n (2 ^ 7)) [
      | inl lt ↦ record { asks = rw (lt-ltb n (2 ^ 7) lt) refl; fits = omega arith; back = to_z_pos w8 n lt }
      | inr le ↦ absurd (not_out _ f e (rw (le-ltb n (2 ^ 7) le) refl))
    ]
signs_size1 (negsuc k) f e =
    elim (cases_lt k (2 ^ 7)) [
      | inl lt ↦ record { asks = rw (le-leb k (2 ^ 7 - 1) (omega arith)) refl; fits = omega arith; back = to_z-neg w8 k lt }
      | inr le ↦ absurd (not_out _ f e (rw (lt-leb k (2 ^ 7 - 1) (omega arith)) refl))
    ]

signs_size2 : (z : ℤ) (f : Field) → number_field (signed size2) z ≡ Some f → Signs w16 z (number_field (signed size2) z)
signs_size2 (pos n) f e =
    elim (cases_lt n (2 ^ 15)) [
      | inl lt ↦ record { asks = rw (lt-ltb n (2 ^ 15) lt) refl; fits = omega arith; back = to_z_pos w16 n lt }
      | inr le ↦ absurd (not_out _ f e (rw (le-ltb n (2 ^ 15) le) refl))
    ]
signs_size2 (negsuc k) f e =
    elim (cases_lt k (2 ^ 15)) [
      | inl lt ↦ record { asks = rw (le-leb k (2 ^ 15 - 1) (omega arith)) refl; fits = omega arith; back = to_z-neg w16 k lt }
      | inr le ↦ absurd (not_out _ f e (rw (lt-leb k (2 ^ 15 - 1) (omega arith)) refl))
    ]

signs_size4 : (z : ℤ) (f : Field) → number_field (signed size4) z ≡ Some f → Signs w32 z (number_field (signed size4) z)
signs_size4 (pos n) f e =
    elim (cases_lt n (2 ^ 31)) [
      | inl lt ↦ record { asks = rw (lt-ltb n (2 ^ 31) lt) refl; fits = omega arith; back = to_z_pos w32 n lt }
      | inr le ↦ absurd (not_out _ f e (rw (le-ltb n (2 ^ 31) le) refl))
    ]
signs_size4 (negsuc k) f e =
    elim (cases_lt k (2 ^ 31)) [
      | inl lt ↦ record { asks = rw (le-leb k (2 ^ 31 - 1) (omega arith)) refl; fits = omega arith; back = to_z-neg w32 k lt }
      | inr le ↦ absurd (not_out _ f e (rw (lt-leb k (2 ^ 31 - 1) (omega arith)) refl))
    ]

signs_size8 : (z : ℤ) (f : Field) → number_field (signed size8) z ≡ Some f → Signs w64 z (number_field (signed size8) z)
signs_size8 (pos n) f e =
    elim (cases_lt n (2 ^ 63)) [
      | inl lt ↦ record { asks = rw (lt-ltb n (2 ^ 63) lt) refl; fits = omega arith; back = to_z_pos w64 n lt }
      | inr le ↦ absurd (not_out _ f e (rw (le-ltb n (2 ^ 63) le) refl))
    ]
signs_size8 (negsuc k) f e =
    elim (cases_lt k (2 ^ 63)) [
      | inl lt ↦ record { asks = rw (le-leb k (2 ^ 63 - 1) (omega arith)) refl; fits = omega arith; back = to_z-neg w64 k lt }
      | inr le ↦ absurd (not_out _ f e (rw (lt-leb k (2 ^ 63 - 1) (omega arith)) refl))
    ]

signs : (s : Size) (z : ℤ) (f : Field) → number_field (signed s) z ≡ Some f → Signs (wide s) z (number_field (signed s) z)
signs size1 z f e = signs_size1 z f e
signs size2 z f e = signs_size2 z f e
signs size4 z f e = signs_size4 z f e
signs size8 z f e = signs_size8 z f e

unsigned_out : (s : Size) (n : ℕ) → 2 ^ (8 * byte_len (wide s)) ≤ n → number_field (unsigned s) (pos n) ≡ None
unsigned_out s n le = rw (le-leb 0 n (omega arith), le-ltb n (2 ^ (8 * byte_len (wide s))) le) refl

letter_out : (n : ℕ) → 2 ^ 8 ≤ n → number_field char (pos n) ≡ None
letter_out n le = rw (le-leb 0 n (omega arith), le-ltb n 256 le) refl

truth_out : (n : ℕ) → 2 ≤ n → number_field boolean (pos n) ≡ None
truth_out n le = rw (le-leb 0 n (omega arith), le-ltb n 2 le) refl

label_out : (name : List ℕ) (labels : List (List ℕ)) (n : ℕ) → length labels ≤ n → number_field (enumeration name labels) (pos n) ≡ None
label_out name labels n le = rw (le-leb 0 n (omega arith), out_of_range n (length labels) le) refl

label_high : (name : List ℕ) (labels : List (List ℕ)) (n : ℕ) → 2 ^ 32 ≤ n → number_field (enumeration name labels) (pos n) ≡ None
label_high name labels n le = rw (le-leb 0 n (omega arith), too_great n (length labels) le) refl

label_reads : (len n : ℕ) (c d : Cursor) → n < 2 ^ 32 → n < len → Spans c d (core.number w32 n ∷ []) → label_at len c ≡ Ok (n, d)
unfolding label_at
label_reads len n c d few less p = rw (number_reads w32 c d n (omega arith) few p, lt-ltb n len less) refl

scalar_reads : (s : Scalar) (z : ℤ) (f : Field) (c d : Cursor) → number_field s z ≡ Some f → Spans c d (f ∷ []) → scalar_at s c ≡ Ok (z, d)
unfolding scalar_at
scalar_reads boolean (pos zero) f c d e p = rw (bool_reads c d false (in_field _ _ f c d (truth_in false) e p)) refl
scalar_reads boolean (pos (suc zero)) f c d e p = rw (bool_reads c d true (in_field _ _ f c d (truth_in true) e p)) refl
scalar_reads boolean (pos (suc (suc n))) f c d e p = absurd (not_out _ f e (truth_out (suc (suc n)) (omega arith)))
scalar_reads boolean (negsuc n) f c d e p = absurd cc
scalar_reads char (pos n) f c d e p =
    elim (cases_lt n (2 ^ 8)) [
      | inl lt ↦ rw (number_reads w8 c d n (omega arith) lt (in_field _ _ f c d (letter_in n lt) e p)) refl
      | inr le ↦ absurd (not_out _ f e (letter_out n le))
    ]
scalar_reads char (negsuc n) f c d e p = absurd cc
scalar_reads (unsigned s) (pos n) f c d e p =
    elim (cases_lt n (2 ^ (8 * byte_len (wide s)))) [
      | inl lt ↦ rw (number_reads (wide s) c d n (small s) lt (in_field _ _ f c d (unsigned_in s n lt) e p)) refl
      | inr le ↦ absurd (not_out _ f e (unsigned_out s n le))
    ]
scalar_reads (unsigned s) (negsuc n) f c d e p = absurd cc
scalar_reads (signed s) z f c d e p =
    let h = signs s z f e in
    rw (number_reads (wide s) c d (cast_unsigned (wide s) z) (small s) h.fits (in_field _ _ f c d h.asks e p)) (ap (λ (y : ℤ). Ok (y, d)) h.back)
scalar_reads (enumeration name labels) (pos n) f c d e p =
    elim (cases_lt n (length labels)) [
      | inl less ↦ elim (cases_lt n (2 ^ 32)) [
        | inl few ↦ rw (label_reads (length labels) n c d few less (in_field _ _ f c d (labelled_in name labels n few less) e p)) refl
        | inr high ↦ absurd (not_out _ f e (label_high name labels n high))
      ]
      | inr out ↦ absurd (not_out _ f e (label_out name labels n out))
    ]
scalar_reads (enumeration name labels) (negsuc n) f c d e p = absurd cc

pub tag_reads : (k : Kind) (z : ℤ) (fs : List Field) (c d : Cursor) → one_field (tag_field k z) ≡ Some fs → Spans c d fs → tag_at k c ≡ Ok (z, d)
unfolding tag_at
tag_reads (scalar s) z fs c d e p =
    let a = one_parts (number_field s z) fs e in
    scalar_reads s z a.0 c d a.1 (subst (λ (gs : List Field). Spans c d gs) a.2 p)
tag_reads (words bound) z fs c d e p = absurd cc
tag_reads (sequence k bound) z fs c d e p = absurd cc
tag_reads (array k n) z fs c d e p = absurd cc
tag_reads (structure name ms) z fs c d e p = absurd cc
tag_reads (union name k cs) z fs c d e p = absurd cc

-- a value is told by its number
value_back : (s : Scalar) (v : Value) (z : ℤ) → numeral s v ≡ Some z → value_at s z ≡ v
value_back boolean (truth true) z e = subst (λ (y : ℤ). value_at boolean y ≡ truth true) (same_Some (pos 1) z e) refl
value_back boolean (truth false) z e = subst (λ (y : ℤ). value_at boolean y ≡ truth false) (same_Some (pos 0) z e) refl
value_back boolean v z e = absurd cc
value_back char (letter n) z e = subst (λ (y : ℤ). value_at char y ≡ letter n) (same_Some (pos n) z e) refl
value_back char v z e = absurd cc
value_back (unsigned s) (number y) z e = ap number (sym (same_Some y z e))
value_back (unsigned s) v z e = absurd cc
value_back (signed s) (number y) z e = ap number (sym (same_Some y z e))
value_back (signed s) v z e = absurd cc
value_back (enumeration name labels) (label n) z e = subst (λ (y : ℤ). value_at (enumeration name labels) y ≡ label n) (same_Some (pos n) z e) refl
value_back (enumeration name labels) v z e = absurd cc

plain_reads : (s : Scalar) (v : Value) (fs : List Field) (c d : Cursor) → fields_of v (scalar s) ≡ Some fs → Spans c d fs → read (scalar s) c ≡ Ok (v, d)
unfolding read
plain_reads s v fs c d e p =
    let a = one_parts (plain_field (scalar s) v) fs (plain_is s v ∙ e) in
    let b = then_parts (number_field s) (numeral s v) a.0 a.1 in
    let q : Spans c d (a.0 ∷ []) = subst (λ (gs : List Field). Spans c d gs) a.2 p in
    rw (scalar_reads s b.0 a.0 c d b.2 q) (ap (λ (w : Value). Ok (w, d)) (value_back s v b.0 b.1))

-- ---- texts and counts

none_is : (o : Option ℕ) → is_none o ≡ true → o ≡ None
none_is None e = refl
none_is (Some n) e = absurd cc

pub text_reads : (bound : ℕ) (t : List ℕ) (fs : List Field) (c d : Cursor) → fields_of (text t) (words bound) ≡ Some fs → Spans c d fs → text_at bound c ≡ Ok (t, d)
unfolding text_at
text_reads bound t fs c d e p =
    let h = test_parts (is_text bound t) (Some (string_fields t)) fs e in
    let a = and_parts (is_none (nul_at t)) (not (is_above bound (length t)) && ltb (length t + 1) (2 ^ 32)) h.0 in
    let b = and_parts (not (is_above bound (length t))) (ltb (length t + 1) (2 ^ 32)) a.1 in
    let few : length t + 1 < 2 ^ 32 = grind (arith, b.1) in
    let q : Spans c d (string_fields t) = subst (λ (gs : List Field). Spans c d gs) (sym (same_Some (string_fields t) fs h.1)) p in
    rw (string_reads c d t (none_is (nul_at t) a.0) few q, not-true (is_above bound (length t)) b.0) refl

pub bounded_reads : (bound n : ℕ) (c d : Cursor) → is_count bound n ≡ true → n ≤ length d.rest → Spans c d (core.number w32 n ∷ []) → bounded_count_at bound c ≡ Ok (n, d)
unfolding bounded_count_at
bounded_reads bound n c d h room p =
    let a = and_parts (not (is_above bound n)) (ltb n (2 ^ 32)) h in
    let few : n < 2 ^ 32 = grind (arith, a.1) in
    rw (count_reads c d n few room p, not-true (is_above bound n) a.0) refl

-- ---- one after the other

pub values_back : (vs : Values) → values_of (list_of vs) ≡ vs
values_back no_values = refl
values_back (value v vs) = ap (value v) (values_back vs)

-- what spells a value of the type is read as that value
abbrev pub Again : (Cursor → Reads Value) → Kind → Type 0
Again one k = (v : Value) (fs : List Field) (c d : Cursor) → fields_of v k ≡ Some fs → Spans c d fs → one c ≡ Ok (v, d)

-- between no fields one is where one was
pub no_fields : (fs : List Field) (c d : Cursor) → ◌≡◌ {A = Option (List Field)} (Some []) (Some fs) → Spans c d fs → c ≡ d
no_fields fs c d e p = same_cursor c d (subst (λ (gs : List Field). Spans c d gs) (sym (same_Some [] fs e)) p)

pub each_reads : (one : Cursor → Reads Value) (k : Kind) → Again one k → (vs : Values) (fs : List Field) (c d : Cursor) → fields_each vs k ≡ Some fs → Spans c d fs
    → times one (values_len vs) c ≡ Ok (list_of vs, d)
unfolding times
each_reads one k again no_values fs c d e p = ap (λ (x : Cursor). Ok ([], x)) (no_fields fs c d e p)
each_reads one k again (value v vs) fs c d e p =
    let h = halves (fields_of v k) (fields_each vs k) fs e in
    let s = spans_split c d h.front h.back (subst (λ (gs : List Field). Spans c d gs) h.parts p) in
    let first = again v h.front c s.middle h.first s.first in
    let others = each_reads one k again vs h.back s.middle d h.others s.others in
    rw (first, others) refl

abbrev given : Values × Cursor → Reads Values
given x = Ok x

bare_reads : (vs : Values) (fs : List Field) (c d : Cursor) → fields_chosen vs None ≡ Some fs → Spans c d fs → given (no_values, c) ≡ given (vs, d)
bare_reads no_values fs c d e p = ap (λ (x : Cursor). given (no_values, x)) (no_fields fs c d e p)
bare_reads (value v no_values) fs c d e p = absurd cc
bare_reads (value v (value w vs)) fs c d e p = absurd cc

-- the members of a lawful struct, and the cases of a lawful union, are lawful
pub struct_lawful : (ms : Members) → IsTrue (is_lawful_struct ms) → IsTrue (are_lawful ms)
struct_lawful ms l =
    let a = and_parts (has_member ms) (differ bytes_eq (member_names ms) && are_lawful ms) l in
    let b = and_parts (differ bytes_eq (member_names ms)) (are_lawful ms) a.1 in
    b.1

pub choice_lawful : (d : Kind) (cs : Cases) → IsTrue (is_lawful_union d cs) → IsTrue (cases_are_lawful cs)
choice_lawful d cs l =
    let a = and_parts (is_tag d && is_lawful d) (differ int_eq (all_labels cs) && (has_one_default cs && cases_are_lawful cs)) l in
    let b = and_parts (differ int_eq (all_labels cs)) (has_one_default cs && cases_are_lawful cs) a.1 in
    let g = and_parts (has_one_default cs) (cases_are_lawful cs) b.1 in
    g.1

mutual
  unfolding read read_members read_chosen

  pub read_again : (k : Kind) → IsTrue (is_lawful k) → Again (read k) k
  read_again (scalar s) l v fs c d e p = plain_reads s v fs c d e p
  read_again (words bound) l (text t) fs c d e p = rw (text_reads bound t fs c d e p) refl
  read_again (words bound) l v fs c d e p = absurd cc
  read_again (sequence k bound) l (items vs) fs c d e p =
      let front : List Field = core.number w32 (values_len vs) ∷ [] in
      let t = test_parts (is_count bound (values_len vs)) (behind front (fields_each vs k)) fs e in
      let h = behind_parts front (fields_each vs k) fs t.1 in
      let s = spans_split c d front h.0 (subst (λ (gs : List Field). Spans c d gs) h.2 p) in
      let room = each_room k (type_grows k l) vs h.0 s.middle d h.1 s.others in
      let count = bounded_reads bound (values_len vs) c s.middle t.0 room s.first in
      let each = each_reads (read k) k (read_again k l) vs h.0 s.middle d h.1 s.others in
      rw (count, each, values_back vs) refl
  read_again (sequence k bound) l v fs c d e p = absurd cc
  read_again (array k n) l (items vs) fs c d e p =
      let a = and_parts (not (eqb n 0)) (is_lawful k) l in
      let t = test_parts (eqb (values_len vs) n) (fields_each vs k) fs e in
      let each = each_reads (read k) k (read_again k a.1) vs fs c d t.1 p in
      let all : times (read k) n c ≡ Ok (list_of vs, d) = subst (λ (m : ℕ). times (read k) m c ≡ Ok (list_of vs, d)) (eqb-true _ _ t.0) each in
      rw (all, values_back vs) refl
  read_again (array k n) l v fs c d e p = absurd cc
  read_again (structure name ms) l (items vs) fs c d e p =
      rw (members_again ms (struct_lawful ms l) vs fs c d e p, values_back vs) refl
  read_again (structure name ms) l v fs c d e p = absurd cc
  read_again (union name k cs) l (chosen z vs) fs c d e p =
      let good = choice_lawful k cs l in
      let h = halves (one_field (tag_field k z)) (fields_chosen vs (kind_at (choose z cs) cs)) fs e in
      let s = spans_split c d h.front h.back (subst (λ (gs : List Field). Spans c d gs) h.parts p) in
      chosen_read name k cs c s.middle d z vs (tag_reads k z h.front c s.middle h.first s.first) (chosen_again cs good (choose z cs) vs h.back s.middle d h.others s.others)
  read_again (union name k cs) l v fs c d e p = absurd cc

  pub members_again : (ms : Members) → IsTrue (are_lawful ms) → (vs : Values) (fs : List Field) (c d : Cursor) → fields_members vs ms ≡ Some fs → Spans c d fs
      → read_members ms c ≡ Ok (list_of vs, d)
  members_again no_members l no_values fs c d e p = ap (λ (x : Cursor). Ok ([], x)) (no_fields fs c d e p)
  members_again no_members l (value v vs) fs c d e p = absurd cc
  members_again (member name k ms) l no_values fs c d e p = absurd cc
  members_again (member name k ms) l (value v vs) fs c d e p =
      let a = and_parts (is_lawful k) (are_lawful ms) l in
      let h = halves (fields_of v k) (fields_members vs ms) fs e in
      let s = spans_split c d h.front h.back (subst (λ (gs : List Field). Spans c d gs) h.parts p) in
      let first = read_again k a.0 v h.front c s.middle h.first s.first in
      let others = members_again ms a.1 vs h.back s.middle d h.others s.others in
      rw (first, others) refl

  pub chosen_again : (cs : Cases) → IsTrue (cases_are_lawful cs) → (i : Option ℕ) (vs : Values) (fs : List Field) (c d : Cursor) → fields_chosen vs (kind_at i cs) ≡ Some fs → Spans c d fs
      → read_chosen cs i c ≡ Ok (vs, d)
  chosen_again no_cases l None vs fs c d e p = bare_reads vs fs c d e p
  chosen_again no_cases l (Some i) vs fs c d e p = bare_reads vs fs c d e p
  chosen_again (case labels x name k cs) l None vs fs c d e p = bare_reads vs fs c d e p
  chosen_again (case labels x name k cs) l (Some zero) no_values fs c d e p = absurd cc
  chosen_again (case labels x name k cs) l (Some zero) (value v no_values) fs c d e p =
      let a = and_parts (is_lawful k) (cases_are_lawful cs) l in
      rw (read_again k a.0 v fs c d e p) refl
  chosen_again (case labels x name k cs) l (Some zero) (value v (value w vs)) fs c d e p = absurd cc
  chosen_again (case labels x name k cs) l (Some (suc i)) vs fs c d e p =
      let a = and_parts (is_lawful k) (cases_are_lawful cs) l in
      chosen_again cs a.1 (Some i) vs fs c d e p
