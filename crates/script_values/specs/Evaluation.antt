-- The value of an expression: from left to right, up to the first limit.
use Rattle.std.specs.Prelude.{ℕ, suc, pos, Option, Some, None, Bool, true, false, List, replicate, Ok, Err, if◌then◌else◌, slice_set}
use Rattle.script_grammar.specs.declared.operator.Binary.{Binary}
use Rattle.script_grammar.specs.declared.operator.Binary.TheVariants as op
use Rattle.cdr_values.specs.Trees.{Kind, Value, truth, number, items, values_of}
use Rattle.cdr_values.specs.Fitting.{is_of}
use Rattle.script_values.specs.declared.limit.Limit.TheVariants.{Misfit}
use Rattle.script_values.specs.Trees.{Term, literal, priority, slot, unary, binary, member_of, build, Terms, no_terms, term}
use Rattle.script_values.specs.Operations.{Comes, ◌>>=◌, as_truth, as_items, applied, joined, blank, member_at}
use Rattle.script_values.specs.Leaves.{sized}

-- whether a value fits a type; none fits where there is no type
abbrev pub fits_in : Option Kind → Value → Bool
fits_in (Some k) v = is_of v k
fits_in None v = false

-- a value that fits
abbrev pub fitted : Option Kind → Value → Comes Value
fitted k v = if fits_in k v then Ok v else Err Misfit

-- what comes, where it fits
abbrev pub fit_in : Option Kind → Comes Value → Comes Value
fit_in k v = v >>= fitted k

-- how many there are
abbrev pub terms_len : Terms → ℕ
terms_len no_terms = 0
terms_len (term n k e es) = suc (terms_len es)

-- as many places, in which nothing was put
abbrev pub blanks_of : Terms → List Value
blanks_of es = replicate (terms_len es) blank

-- the truth of what comes
abbrev pub truth_from : Comes Value → Comes Value
truth_from v = v >>= λ x. Ok (truth (as_truth x))

-- what an operator makes of a value and of what comes after it, which is asked only where the value doesn't decide
abbrev pub beside : Binary → Comes Value → Value → Comes Value
beside op.And b x = if as_truth x then truth_from b else Ok (truth false)
beside op.Or b x = if as_truth x then Ok (truth true) else truth_from b
beside o b x = b >>= joined o x

-- the next ones, with this value in its place
abbrev pub then_put : (List Value → Comes (List Value)) → List Value → ℕ → Value → Comes (List Value)
then_put more vs place v = more (slice_set vs place v)

-- the value of an expression, by the priority of its request and the variables
unfoldable mutual
  pub value_at : ℕ → List Value → Term → Comes Value
  value_at p slots (literal v) = Ok v
  value_at p slots priority = Ok (number (pos p))
  value_at p slots (slot n) = Ok (member_at slots n)
  value_at p slots (unary o e) = value_at p slots e >>= applied o
  value_at p slots (binary o a b) = value_at p slots a >>= beside o (value_at p slots b)
  value_at p slots (member_of e n) = value_at p slots e >>= λ v. Ok (member_at (as_items v) n)
  value_at p slots (build es) = filled p slots es (blanks_of es) >>= λ vs. sized (items (values_of vs))

  -- what is built, each value in its place, where it fits
  pub filled : ℕ → List Value → Terms → List Value → Comes (List Value)
  filled p slots no_terms vs = Ok vs
  filled p slots (term place k e es) vs = fit_in k (value_at p slots e) >>= then_put (filled p slots es) vs place
