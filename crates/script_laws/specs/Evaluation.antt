-- The value of an expression without defaults: there is one, or a limit that is met, only where each operator has operands of its
-- kinds, each variable that is read has a value, each member that is read is there, each value has a type that it must fit where one
-- is due, and what is built has a value in each of its places.
use Rattle.std.specs.Prelude.{ℕ, pos, List, replicate, Option, Some, None, Ok, Err, if◌then◌else◌}
use Rattle.cdr_values.specs.Trees.{Kind, Value, number, items, values_of}
use Rattle.cdr_values.specs.Fitting.{is_of}
use Rattle.script_values.specs.declared.limit.Limit.TheVariants.{Misfit}
use Rattle.script_values.specs.Trees.{Term, literal, priority, slot, unary, binary, member_of, build, Terms, no_terms, term}
use Rattle.script_values.specs.Evaluation.{terms_len}
use Rattle.script_values.specs.Leaves.{sized}
use Rattle.script_laws.specs.Defined.{Defined, ◌and_then◌, there, got, put, all_put}
use Rattle.script_laws.specs.Operators.{defined_unary, defined_beside, defined_member}

-- a value that fits the type that is due, or the limit that it doesn't
abbrev pub defined_fit : Option Kind → Value → Defined Value
defined_fit None v = None
defined_fit (Some k) v = Some (if is_of v k then Ok v else Err Misfit)

-- as many places, in which nothing was put
abbrev pub holes_of : Terms → List (Option Value)
holes_of es = replicate (terms_len es) None

-- what was built, where a value was put in each place
abbrev pub whole : List (Option Value) → Defined Value
whole os = there (all_put os) and_then λ vs. Some (sized (items (values_of vs)))

-- the next ones, with this value in its place, which is there
abbrev pub then_put : (List (Option Value) → Defined (List (Option Value))) → List (Option Value) → ℕ → Value → Defined (List (Option Value))
then_put more os place v = there (put os place v) and_then more

-- the value of an expression, by the priority of its request and the variables, each with its value or without one yet
unfoldable mutual
  pub defined_value : ℕ → List (Option Value) → Term → Defined Value
  defined_value p slots (literal v) = Some (Ok v)
  defined_value p slots priority = Some (Ok (number (pos p)))
  defined_value p slots (slot n) = there (got slots n)
  defined_value p slots (unary o e) = defined_value p slots e and_then defined_unary o
  defined_value p slots (binary o a b) = defined_value p slots a and_then defined_beside o (defined_value p slots b)
  defined_value p slots (member_of e n) = defined_value p slots e and_then defined_member n
  defined_value p slots (build es) = defined_fill p slots es (holes_of es) and_then whole

  -- what is built, each value in its place, where it fits
  pub defined_fill : ℕ → List (Option Value) → Terms → List (Option Value) → Defined (List (Option Value))
  defined_fill p slots no_terms os = Some (Ok os)
  defined_fill p slots (term place k e es) os =
      defined_value p slots e and_then defined_fit k and_then then_put (defined_fill p slots es) os place
