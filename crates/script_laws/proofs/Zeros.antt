-- The zero of a lawful type is of the type, where each enum in it has a label.
use Rattle.std.proofs.Common.{◌≡◌, ◌<◌, ◌^◌, ℕ, zero, suc, pos, ◌==◌, ◌&&◌, min, not, nat_lt, Bool, true, false, cond, leb, List, [], ◌∷◌, length, replicate, Option, Some, None, refl, sym, ◌∙◌, subst, is_some, int_eq, w32, arith}
use Rattle.std.proofs.lemmas.Bool.{lt-ltb, le-ltb, leb-true, leb-false, and_parts, and_right, eq-eqb}
use Rattle.std.proofs.lemmas.List.{length-replicate}
use Rattle.std.proofs.Math.Nat.{min-eq_left, min-eq_right}
use Rattle.std.specs.Str.{bytes_eq}
use Rattle.cdr_core.specs.Field.{Field}
use Rattle.cdr_values.specs.Trees.{size1, size2, size4, size8, Scalar, boolean, char, unsigned, signed, enumeration, Kind, scalar, words, sequence, array, structure, union, Members, no_members, member, Cases, no_cases, case, Value, values_of, values_len}
use Rattle.cdr_values.specs.Spelling.{fields_of, fields_each, fields_members, fields_chosen, both, number_field, ranged, tag_field, one_field, is_above}
use Rattle.cdr_values.specs.Choice.{choose, kind_at}
use Rattle.cdr_values.specs.Lawful.{is_lawful, are_lawful, cases_are_lawful, is_tag, has_member, member_names, all_labels, has_one_default, differ}
use Rattle.cdr_values.proofs.HasFields.{len_of}
use Rattle.dynamic_servants.specs.Zeros.{zero_number, zero_of, zeros_of, zero_case}
use Rattle.script_laws.specs.Held.{has_labels_scalar, has_labels, have_labels, cases_have_labels}

above_none : (b : ℕ) → is_above b 0 ≡ false
above_none b = and_right (not (b == 0)) (nat_lt b 0) (le-ltb b 0 (omega arith))

both_there : (a b : Option (List Field)) → is_some a ≡ true → is_some b ≡ true → is_some (both a b) ≡ true
both_there (Some x) (Some y) e g = refl
both_there (Some x) None e g = absurd cc
both_there None b e g = absurd cc

low_min : (m n : ℕ) (b : Bool) → leb m n ≡ b → 0 < m → 0 < n → 0 < min m n
low_min m n true e h g = subst (λ (k : ℕ). 0 < k) (sym (min-eq_left (leb-true m n e))) h
low_min m n false e h g = subst (λ (k : ℕ). 0 < k) (sym (min-eq_right (let l = leb-false m n e in omega (arith, l)))) g

enum_zero : (m : ℕ) → 0 < m → is_some (one_field (ranged (pos 0) (pos m) w32 (pos 0))) ≡ true
enum_zero m h = rw (lt-ltb 0 m h) refl

scalar_tag : (s : Scalar) → has_labels_scalar s ≡ true → is_some (one_field (number_field s (pos 0))) ≡ true
scalar_tag boolean e = refl
scalar_tag char e = refl
scalar_tag (unsigned size1) e = refl
scalar_tag (unsigned size2) e = refl
scalar_tag (unsigned size4) e = refl
scalar_tag (unsigned size8) e = refl
scalar_tag (signed size1) e = refl
scalar_tag (signed size2) e = refl
scalar_tag (signed size4) e = refl
scalar_tag (signed size8) e = refl
scalar_tag (enumeration name []) e = absurd cc
scalar_tag (enumeration name (l ∷ ls)) e = enum_zero (min (suc (length ls)) (2 ^ 32)) (low_min (suc (length ls)) (2 ^ 32) (leb (suc (length ls)) (2 ^ 32)) refl (omega arith) (omega arith))

scalar_zero : (s : Scalar) → has_labels_scalar s ≡ true → is_some (fields_of (zero_number s) (scalar s)) ≡ true
scalar_zero boolean e = refl
scalar_zero char e = refl
scalar_zero (unsigned s) e = scalar_tag (unsigned s) e
scalar_zero (signed s) e = scalar_tag (signed s) e
scalar_zero (enumeration name labels) e = scalar_tag (enumeration name labels) e

tag_zero : (d : Kind) → is_tag d ≡ true → has_labels d ≡ true → is_some (one_field (tag_field d (pos 0))) ≡ true
tag_zero (scalar s) t e = scalar_tag s e
tag_zero (words b) t e = absurd cc
tag_zero (sequence k b) t e = absurd cc
tag_zero (array k n) t e = absurd cc
tag_zero (structure name ms) t e = absurd cc
tag_zero (union name k cs) t e = absurd cc

each_zero : (k : Kind) (v : Value) (n : ℕ) → is_some (fields_of v k) ≡ true → is_some (fields_each (values_of (replicate n v)) k) ≡ true
each_zero k v zero e = refl
each_zero k v (suc n) e = both_there (fields_of v k) (fields_each (values_of (replicate n v)) k) e (each_zero k v n e)

mutual
  unfolding zero_of zeros_of zero_case

  pub zero_fits : (k : Kind) → is_lawful k ≡ true → has_labels k ≡ true → is_some (fields_of (zero_of k) k) ≡ true
  zero_fits (scalar s) l h = scalar_zero s h
  zero_fits (words b) l h = rw (above_none b) refl
  zero_fits (sequence k b) l h = rw (above_none b) refl
  zero_fits (array k n) l h =
      let count : values_len (values_of (replicate n (zero_of k))) ≡ n = len_of (replicate n (zero_of k)) ∙ length-replicate n (zero_of k) in
      let q = and_parts (not (n == 0)) (is_lawful k) l in
      subst (λ (b : Bool). is_some (cond b (fields_each (values_of (replicate n (zero_of k))) k) None) ≡ true) (sym (eq-eqb (values_len (values_of (replicate n (zero_of k)))) n count))
      (each_zero k (zero_of k) n (zero_fits k q.1 h))
  zero_fits (structure name ms) l h =
      let q = and_parts (has_member ms) (differ bytes_eq (member_names ms) && are_lawful ms) l in
      zeros_fit ms (and_parts (differ bytes_eq (member_names ms)) (are_lawful ms) q.1).1 h
  zero_fits (union name d cs) l h =
      let a = and_parts (is_tag d && is_lawful d) (differ int_eq (all_labels cs) && (has_one_default cs && cases_are_lawful cs)) l in
      let b = and_parts (is_tag d) (is_lawful d) a.0 in
      let c = and_parts (differ int_eq (all_labels cs)) (has_one_default cs && cases_are_lawful cs) a.1 in
      let e = and_parts (has_one_default cs) (cases_are_lawful cs) c.1 in
      let g = and_parts (has_labels d) (cases_have_labels cs) h in
      both_there (one_field (tag_field d (pos 0))) (fields_chosen (zero_case cs (choose (pos 0) cs)) (kind_at (choose (pos 0) cs) cs)) (tag_zero d b.0 g.0) (case_fits cs (choose (pos 0) cs) e.1 g.1)

  zeros_fit : (ms : Members) → are_lawful ms ≡ true → have_labels ms ≡ true → is_some (fields_members (values_of (zeros_of ms)) ms) ≡ true
  zeros_fit no_members l h = refl
  zeros_fit (member name k ms) l h =
      let a = and_parts (is_lawful k) (are_lawful ms) l in
      let b = and_parts (has_labels k) (have_labels ms) h in
      both_there (fields_of (zero_of k) k) (fields_members (values_of (zeros_of ms)) ms) (zero_fits k a.0 b.0) (zeros_fit ms a.1 b.1)

  case_fits : (cs : Cases) (o : Option ℕ) → cases_are_lawful cs ≡ true → cases_have_labels cs ≡ true → is_some (fields_chosen (zero_case cs o) (kind_at o cs)) ≡ true
  case_fits no_cases None l h = refl
  case_fits (case labels is_default name k cs) None l h = refl
  case_fits no_cases (Some i) l h = refl
  case_fits (case labels is_default name k cs) (Some zero) l h = zero_fits k (and_parts (is_lawful k) (cases_are_lawful cs) l).0 (and_parts (has_labels k) (cases_have_labels cs) h).0
  case_fits (case labels is_default name k cs) (Some (suc i)) l h = case_fits cs (Some i) (and_parts (is_lawful k) (cases_are_lawful cs) l).1 (and_parts (has_labels k) (cases_have_labels cs) h).1
