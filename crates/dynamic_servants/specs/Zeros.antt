-- The zero of a type, which a parameter that only comes out holds until it is set (own profile): 0, FALSE, the char 0, the empty
-- text or sequence, the first enumerator, the zeros of the elements or members, and of a union 0 with the member that it chooses.
use Rattle.std.specs.Prelude.{ℕ, pos, zero, suc, false, List, [], ◌∷◌, replicate, Option, Some, None}
use Rattle.cdr_values.specs.Trees.{Scalar, boolean, char, unsigned, signed, enumeration, Kind, scalar, words, sequence, array, structure, union, Members, no_members, member, Cases, no_cases, case, Value, truth, number, letter, text, items, chosen, label, Values, no_values, value, values_of}
use Rattle.cdr_values.specs.Choice.{choose}

-- that of a type whose values are numbers
abbrev pub zero_number : Scalar → Value
zero_number boolean = truth false
zero_number char = letter 0
zero_number (unsigned s) = number (pos 0)
zero_number (signed s) = number (pos 0)
zero_number (enumeration name labels) = label 0

unfoldable mutual
  -- that of a type
  pub zero_of : Kind → Value
  zero_of (scalar s) = zero_number s
  zero_of (words bound) = text []
  zero_of (sequence k bound) = items no_values
  zero_of (array k n) = items (values_of (replicate n (zero_of k)))
  zero_of (structure name ms) = items (values_of (zeros_of ms))
  zero_of (union name d cs) = chosen (pos 0) (zero_case cs (choose (pos 0) cs))

  -- those of members, in order
  pub zeros_of : Members → List Value
  zeros_of no_members = []
  zeros_of (member name k ms) = zero_of k ∷ zeros_of ms

  -- that of the member of the case at an index, where there is one
  pub zero_case : Cases → Option ℕ → Values
  zero_case cs None = no_values
  zero_case no_cases (Some i) = no_values
  zero_case (case labels is_default name k cs) (Some zero) = value (zero_of k) no_values
  zero_case (case labels is_default name k cs) (Some (suc i)) = zero_case cs (Some i)
