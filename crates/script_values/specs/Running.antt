-- What a block comes to.
use Rattle.std.specs.Prelude.{ℕ, List, Ok, if◌then◌else◌, slice_set}
use Rattle.cdr_values.specs.Trees.{Value, items, values_of}
use Rattle.script_values.specs.Trees.{Step, let_be, set, branch, leave, give, raise, Steps, no_steps, step}
use Rattle.script_values.specs.Operations.{Comes, ◌>>=◌, as_truth}
use Rattle.script_values.specs.Leaves.{sized}
use Rattle.script_values.specs.Evaluation.{value_at, filled, fit_in, blanks_of}

-- how a block ends: at its end, with a value, without one, or with an exception and its members
pub data End : Type 0 where
  next : End
  returned : Value → End
  gone : End
  raised : ℕ → Value → End

-- how it ended, and the variables then
abbrev pub Ran : Type 0
Ran = Comes (End × List Value)

-- a value was put into a slot
abbrev pub then_put : List Value → ℕ → Value → Ran
then_put slots n v = Ok (next, slice_set slots n v)

-- the block ended with a value
abbrev pub then_end : (Value → End) → List Value → Value → Ran
then_end end slots v = Ok (end v, slots)

-- one of two
abbrev pub one_of : Ran → Ran → Value → Ran
one_of a b v = if as_truth v then a else b

-- what follows is run only where the end was reached
abbrev pub behind : End → Ran → List Value → Ran
behind next more slots = more
behind (returned v) more slots = Ok (returned v, slots)
behind gone more slots = Ok (gone, slots)
behind (raised n v) more slots = Ok (raised n v, slots)

-- the same of a run
abbrev pub then_run : (List Value → Ran) → End × List Value → Ran
then_run more x = behind x.0 (more x.1) x.1

-- what a statement comes to, by the priority of its request and the variables
unfoldable mutual
  pub run_one : ℕ → Step → List Value → Ran
  run_one p (let_be n e) slots = value_at p slots e >>= then_put slots n
  run_one p (set n k e) slots = fit_in k (value_at p slots e) >>= then_put slots n
  run_one p (branch c a b) slots = value_at p slots c >>= one_of (run p a slots) (run p b slots)
  run_one p leave slots = Ok (gone, slots)
  run_one p (give k e) slots = fit_in k (value_at p slots e) >>= then_end returned slots
  run_one p (raise n es) slots = filled p slots es (blanks_of es) >>= (λ vs. sized (items (values_of vs))) >>= then_end (raised n) slots

  -- what a block comes to
  pub run : ℕ → Steps → List Value → Ran
  run p no_steps slots = Ok (next, slots)
  run p (step s ss) slots = run_one p s slots >>= then_run (run p ss)
