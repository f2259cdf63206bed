-- Which types are lawful: what IDL asks of them (CORBA 3.0.3, section 3.11), and that a value of each has a byte.
use Rattle.std.specs.Prelude.{ℕ, ℤ, ◌==◌, ◌&&◌, nat_le, not, count_by, Bool, true, false, List, [], ◌∷◌, ◌++◌}
use Rattle.std.specs.List.{list_any}
use Rattle.std.specs.Ordering.{int_eq}
use Rattle.std.specs.Str.{bytes_eq}
use Rattle.cdr_values.specs.Choice.{branches}
use Rattle.cdr_values.specs.Trees.{Name, Size, size1, size2, size4, size8, Scalar, boolean, char, unsigned, signed, enumeration, Kind, scalar, words, sequence, array, structure, union, Members, no_members, member, Cases, no_cases, case}

-- whether no two of a list are the same
abbrev pub differ : {A : Type 0} → (A → A → Bool) → List A → Bool
differ same [] = true
differ same (x ∷ xs) = not (list_any (λ y. same y x) xs) && differ same xs

-- the names of members
abbrev pub member_names : Members → List Name
member_names no_members = []
member_names (member name k ms) = name ∷ member_names ms

-- the labels of all cases
abbrev pub all_labels : Cases → List ℤ
all_labels no_cases = []
all_labels (case labels is_default name k cs) = labels ++ all_labels cs

-- whether labels differ from one another and from those after them
abbrev pub are_new : List ℤ → List ℤ → Bool
are_new [] behind = true
are_new (x ∷ xs) behind = not (list_any (λ y. int_eq y x) (xs ++ behind)) && are_new xs behind

-- whether at most one case is the default
abbrev pub has_one_default : Cases → Bool
has_one_default cs = nat_le (count_by (λ b. b.1) (branches cs)) 1

-- whether an integer has more than a byte
abbrev pub is_wide : Size → Bool
is_wide size1 = false
is_wide size2 = true
is_wide size4 = true
is_wide size8 = true

-- a discriminator is a short, a long or a long long, signed or not, a char, a boolean or an enum
abbrev pub is_tag : Kind → Bool
is_tag (scalar boolean) = true
is_tag (scalar char) = true
is_tag (scalar (unsigned s)) = is_wide s
is_tag (scalar (signed s)) = true
is_tag (scalar (enumeration name labels)) = true
is_tag (words bound) = false
is_tag (sequence k bound) = false
is_tag (array k n) = false
is_tag (structure name ms) = false
is_tag (union name d cs) = false

-- the labels of an enum differ
abbrev pub is_lawful_scalar : Scalar → Bool
is_lawful_scalar boolean = true
is_lawful_scalar char = true
is_lawful_scalar (unsigned s) = true
is_lawful_scalar (signed s) = true
is_lawful_scalar (enumeration name labels) = differ bytes_eq labels

-- whether a struct has a member
abbrev pub has_member : Members → Bool
has_member no_members = false
has_member (member name k ms) = true

-- whether a type is lawful, in all its parts
abbrev mutual
  pub is_lawful : Kind → Bool
  is_lawful (scalar s) = is_lawful_scalar s
  is_lawful (words bound) = true
  is_lawful (sequence k bound) = is_lawful k
  is_lawful (array k n) = not (n == 0) && is_lawful k
  is_lawful (structure name ms) = has_member ms && (differ bytes_eq (member_names ms) && are_lawful ms)
  is_lawful (union name d cs) =
      (is_tag d && is_lawful d) && (differ int_eq (all_labels cs) && (has_one_default cs && cases_are_lawful cs))

  -- whether the types of all members are
  pub are_lawful : Members → Bool
  are_lawful no_members = true
  are_lawful (member name k ms) = is_lawful k && are_lawful ms

  -- whether the types of the members of all cases are
  pub cases_are_lawful : Cases → Bool
  cases_are_lawful no_cases = true
  cases_are_lawful (case labels is_default name k cs) = is_lawful k && cases_are_lawful cs

-- the same of a struct by its members, and of a union by its discriminator and its cases
abbrev pub is_lawful_struct : Members → Bool
is_lawful_struct ms = is_lawful (structure [] ms)

-- the same of a union
abbrev pub is_lawful_union : Kind → Cases → Bool
is_lawful_union d cs = is_lawful (union [] d cs)
