-- Names that are told apart, case aside: CORBA 3.0.3, section 3.2.3.
use Rattle.std.specs.Prelude.{◌&&◌, Bool, true, List, [], ◌∷◌}
use Rattle.std.specs.Str.{str_eq_ignore_ascii_case}
use Rattle.cdr_values.specs.Trees.{Name, Scalar, boolean, char, unsigned, signed, enumeration, Kind, scalar, words, sequence, array, structure, union, Members, no_members, member, Cases, no_cases, case}
use Rattle.cdr_values.specs.Lawful.{differ, member_names}

-- whether names are told apart
abbrev pub are_apart : List Name → Bool
are_apart names = differ str_eq_ignore_ascii_case names

-- the names of the members of cases
abbrev pub case_names : Cases → List Name
case_names no_cases = []
case_names (case labels is_default name k cs) = name ∷ case_names cs

-- whether the labels of an enum are
abbrev pub has_labels_apart : Scalar → Bool
has_labels_apart boolean = true
has_labels_apart char = true
has_labels_apart (unsigned s) = true
has_labels_apart (signed s) = true
has_labels_apart (enumeration name labels) = are_apart labels

-- whether the names in a type are, in all its parts: members of a struct or a union, and labels of an enum
abbrev mutual
  pub is_told_apart : Kind → Bool
  is_told_apart (scalar s) = has_labels_apart s
  is_told_apart (words bound) = true
  is_told_apart (sequence k bound) = is_told_apart k
  is_told_apart (array k n) = is_told_apart k
  is_told_apart (structure name ms) = are_apart (member_names ms) && parts_are_told_apart ms
  is_told_apart (union name d cs) = is_told_apart d && (are_apart (case_names cs) && cases_are_told_apart cs)

  -- whether those in the types of all members are
  pub parts_are_told_apart : Members → Bool
  parts_are_told_apart no_members = true
  parts_are_told_apart (member name k ms) = is_told_apart k && parts_are_told_apart ms

  -- whether those in the types of the members of all cases are
  pub cases_are_told_apart : Cases → Bool
  cases_are_told_apart no_cases = true
  cases_are_told_apart (case labels is_default name k cs) = is_told_apart k && cases_are_told_apart cs

-- whether the names of members are, and those in their types
abbrev pub are_told_apart : Members → Bool
are_told_apart ms = are_apart (member_names ms) && parts_are_told_apart ms
