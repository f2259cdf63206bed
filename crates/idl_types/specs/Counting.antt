-- Leaves and levels of types, which are limited (own profile).
use Rattle.std.specs.Prelude.{ℕ, ◌+◌, ◌*◌, max, Option, Some, None, sum_by}
use Rattle.cdr_values.specs.Trees.{Kind, scalar, words, sequence, array, structure, union, Members, no_members, member, members_of, Cases, no_cases, case}
use Rattle.idl_types.specs.Things.{OperationView, Thing, constant, named, exception, interface}

-- how many leaves a type has: a primitive, enum or string is one, a sequence has one more than its element, an array its
-- element's as often as its length says, and a union one more than its cases
abbrev mutual
  pub leaves_of : Kind → ℕ
  leaves_of (scalar s) = 1
  leaves_of (words bound) = 1
  leaves_of (sequence k bound) = leaves_of k + 1
  leaves_of (array k n) = leaves_of k * n
  leaves_of (structure name ms) = leaves_of_members ms
  leaves_of (union name d cs) = leaves_of_cases cs + 1

  pub leaves_of_members : Members → ℕ
  leaves_of_members no_members = 0
  leaves_of_members (member name k ms) = leaves_of k + leaves_of_members ms

  pub leaves_of_cases : Cases → ℕ
  leaves_of_cases no_cases = 0
  leaves_of_cases (case labels is_default name k cs) = leaves_of k + leaves_of_cases cs

-- how many levels a type has: each struct, union, array and sequence is one above its deepest part
abbrev mutual
  pub levels_of : Kind → ℕ
  levels_of (scalar s) = 0
  levels_of (words bound) = 0
  levels_of (sequence k bound) = levels_of k + 1
  levels_of (array k n) = levels_of k + 1
  levels_of (structure name ms) = levels_of_members ms + 1
  levels_of (union name d cs) = levels_of_cases cs + 1

  pub levels_of_members : Members → ℕ
  levels_of_members no_members = 0
  levels_of_members (member name k ms) = max (levels_of k) (levels_of_members ms)

  pub levels_of_cases : Cases → ℕ
  levels_of_cases no_cases = 0
  levels_of_cases (case labels is_default name k cs) = max (levels_of k) (levels_of_cases cs)

-- the leaves of a result: none for `void`
abbrev pub result_leaves : Option Kind → ℕ
result_leaves None = 0
result_leaves (Some k) = leaves_of k

-- the leaves of an operation: one, and those of its result and its parameters
abbrev pub operation_leaves : OperationView → ℕ
operation_leaves o = 1 + result_leaves o.result + sum_by (λ p. leaves_of p.kind) o.params

-- the leaves of a thing: a constant is one, and an interface has those of its operations, inherited ones too
abbrev pub thing_leaves : Thing → ℕ
thing_leaves (constant c) = 1
thing_leaves (named t) = leaves_of t.kind
thing_leaves (exception e) = leaves_of_members (members_of e.members)
thing_leaves (interface i) = sum_by operation_leaves i.operations
