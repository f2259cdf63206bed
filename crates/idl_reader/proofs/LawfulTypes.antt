-- What makes a type lawful beside its names, and that a type is lawful whose names are told apart.
use Rattle.std.proofs.Common.{◌≡◌, ℕ, Bool, true, false, not, ◌&&◌, List, [], ◌∷◌, refl, ap}
use Rattle.std.specs.Prelude.{◌==◌}
use Rattle.std.specs.List.{list_any}
use Rattle.std.specs.Ordering.{int_eq}
use Rattle.std.specs.Str.{bytes_eq, str_eq_ignore_ascii_case}
use Rattle.std.proofs.lemmas.Bool.{and_from, and_parts, or_from, or_parts, not-true, not_from_false, false_from_ne_true, both_ways}
use Rattle.std.proofs.lemmas.Slice.Eq.{bytes_eq-Decides}
use Rattle.cdr_values.specs.Lawful.{differ, member_names, all_labels, has_one_default, is_tag, is_lawful_scalar, has_member, is_lawful, are_lawful, cases_are_lawful}
use Rattle.cdr_values.specs.Trees.{Scalar, boolean, char, unsigned, signed, enumeration, Kind, scalar, words, sequence, array, structure, union, Members, no_members, member, Cases, no_cases, case}
use Rattle.idl_scopes.specs.Finding.{lowered}
use Rattle.idl_types.specs.Apart.{are_apart, case_names, has_labels_apart, is_told_apart, parts_are_told_apart, cases_are_told_apart, are_told_apart}

-- a type is lawful but for its names
abbrev mutual
  pub is_formed : Kind → Bool
  is_formed (scalar s) = true
  is_formed (words bound) = true
  is_formed (sequence k bound) = is_formed k
  is_formed (array k n) = not (n == 0) && is_formed k
  is_formed (structure name ms) = has_member ms && parts_are_formed ms
  is_formed (union name d cs) = (is_tag d && is_formed d) && (differ int_eq (all_labels cs) && (has_one_default cs && cases_are_formed cs))

  pub parts_are_formed : Members → Bool
  parts_are_formed no_members = true
  parts_are_formed (member name k ms) = is_formed k && parts_are_formed ms

  pub cases_are_formed : Cases → Bool
  cases_are_formed no_cases = true
  cases_are_formed (case labels is_default name k cs) = is_formed k && cases_are_formed cs

-- names that are told apart, case aside, differ
none_spelled : (x : List ℕ) (ns : List (List ℕ)) → list_any (λ y. str_eq_ignore_ascii_case y x) ns ≡ false → list_any (λ y. bytes_eq y x) ns ≡ false
none_spelled x [] h = refl
none_spelled x (y ∷ ns) h =
    let p = or_parts (str_eq_ignore_ascii_case y x) (list_any (λ z. str_eq_ignore_ascii_case z x) ns) h in
    or_from (bytes_eq y x) (list_any (λ z. bytes_eq z x) ns)
    (false_from_ne_true (bytes_eq y x) (λ e.
    both_ways (str_eq_ignore_ascii_case y x) p.0 ((bytes_eq-Decides (lowered y) (lowered x)).1 (ap lowered ((bytes_eq-Decides y x).0 e)))))
    (none_spelled x ns p.1)

pub apart_differ : (ns : List (List ℕ)) → are_apart ns ≡ true → differ bytes_eq ns ≡ true
apart_differ [] h = refl
apart_differ (x ∷ ns) h =
    let p = and_parts (not (list_any (λ y. str_eq_ignore_ascii_case y x) ns)) (are_apart ns) h in
    and_from (not (list_any (λ y. bytes_eq y x) ns)) (differ bytes_eq ns)
    (not_from_false (list_any (λ y. bytes_eq y x) ns) (none_spelled x ns (not-true (list_any (λ y. str_eq_ignore_ascii_case y x) ns) p.0))) (apart_differ ns p.1)

lawful_scalar : (s : Scalar) → has_labels_apart s ≡ true → is_lawful_scalar s ≡ true
lawful_scalar boolean h = refl
lawful_scalar char h = refl
lawful_scalar (unsigned s) h = refl
lawful_scalar (signed s) h = refl
lawful_scalar (enumeration name labels) h = apart_differ labels h

mutual
  pub lawful_from : (k : Kind) → is_told_apart k ≡ true → is_formed k ≡ true → is_lawful k ≡ true
  lawful_from (scalar s) a f = lawful_scalar s a
  lawful_from (words bound) a f = refl
  lawful_from (sequence k bound) a f = lawful_from k a f
  lawful_from (array k n) a f =
      let p = and_parts (not (n == 0)) (is_formed k) f in
      and_from (not (n == 0)) (is_lawful k) p.0 (lawful_from k a p.1)
  lawful_from (structure name ms) a f =
      let p = and_parts (are_apart (member_names ms)) (parts_are_told_apart ms) a in
      let q = and_parts (has_member ms) (parts_are_formed ms) f in
      and_from (has_member ms) (differ bytes_eq (member_names ms) && are_lawful ms) q.0
      (and_from (differ bytes_eq (member_names ms)) (are_lawful ms) (apart_differ (member_names ms) p.0) (members_from ms p.1 q.1))
  lawful_from (union name d cs) a f =
      let p = and_parts (is_told_apart d) (are_apart (case_names cs) && cases_are_told_apart cs) a in
      let r = and_parts (are_apart (case_names cs)) (cases_are_told_apart cs) p.1 in
      let q = and_parts (is_tag d && is_formed d) (differ int_eq (all_labels cs) && (has_one_default cs && cases_are_formed cs)) f in
      let u = and_parts (is_tag d) (is_formed d) q.0 in
      let v = and_parts (differ int_eq (all_labels cs)) (has_one_default cs && cases_are_formed cs) q.1 in
      let w = and_parts (has_one_default cs) (cases_are_formed cs) v.1 in
      and_from (is_tag d && is_lawful d) (differ int_eq (all_labels cs) && (has_one_default cs && cases_are_lawful cs))
      (and_from (is_tag d) (is_lawful d) u.0 (lawful_from d p.0 u.1))
      (and_from (differ int_eq (all_labels cs)) (has_one_default cs && cases_are_lawful cs) v.0
      (and_from (has_one_default cs) (cases_are_lawful cs) w.0 (cases_from cs r.1 w.1)))

  members_from : (ms : Members) → parts_are_told_apart ms ≡ true → parts_are_formed ms ≡ true → are_lawful ms ≡ true
  members_from no_members a f = refl
  members_from (member name k ms) a f =
      let p = and_parts (is_told_apart k) (parts_are_told_apart ms) a in
      let q = and_parts (is_formed k) (parts_are_formed ms) f in
      and_from (is_lawful k) (are_lawful ms) (lawful_from k p.0 q.0) (members_from ms p.1 q.1)

  cases_from : (cs : Cases) → cases_are_told_apart cs ≡ true → cases_are_formed cs ≡ true → cases_are_lawful cs ≡ true
  cases_from no_cases a f = refl
  cases_from (case labels is_default name k cs) a f =
      let p = and_parts (is_told_apart k) (cases_are_told_apart cs) a in
      let q = and_parts (is_formed k) (cases_are_formed cs) f in
      and_from (is_lawful k) (cases_are_lawful cs) (lawful_from k p.0 q.0) (cases_from cs p.1 q.1)

-- and so are members whose names are
pub lawful_members : (ms : Members) → are_told_apart ms ≡ true → parts_are_formed ms ≡ true → are_lawful ms ≡ true
lawful_members ms a f = members_from ms (and_parts (are_apart (member_names ms)) (parts_are_told_apart ms) a).1 f
