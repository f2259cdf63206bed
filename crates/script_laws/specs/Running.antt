-- What a block comes to without defaults: each condition is a truth, each value fits a type that is there, and each variable has a slot.
use Rattle.std.specs.Prelude.{ℕ, List, Option, Some, None, Ok, if◌then◌else◌}
use Rattle.std.specs.Option.{option_map}
use Rattle.cdr_values.specs.Trees.{Value, truth}
use Rattle.script_values.specs.Trees.{Step, let_be, set, branch, leave, give, raise, Steps, no_steps, step}
use Rattle.script_values.specs.Running.{End, next, returned, gone, raised}
use Rattle.script_laws.specs.Defined.{Defined, ◌and_then◌, there, put}
use Rattle.script_laws.specs.Evaluation.{defined_value, defined_fill, defined_fit, holes_of, whole}

-- how it ended, and the variables then, each with its value or without one yet
abbrev pub DefinedRun : Type 0
DefinedRun = Defined (End × List (Option Value))

-- a value was put into a slot, which is there
abbrev pub then_stored : List (Option Value) → ℕ → Value → DefinedRun
then_stored slots n v = there (option_map (λ os. (next, os)) (put slots n v))

-- the block ended with a value
abbrev pub then_end : (Value → End) → List (Option Value) → Value → DefinedRun
then_end end slots v = Some (Ok (end v, slots))

-- one of two, by a truth
abbrev pub one_of : DefinedRun → DefinedRun → Value → DefinedRun
one_of a b (truth x) = if x then a else b
one_of a b _ = None

-- what follows is run only where the end was reached
abbrev pub behind : End → DefinedRun → List (Option Value) → DefinedRun
behind next more slots = more
behind (returned v) more slots = Some (Ok (returned v, slots))
behind gone more slots = Some (Ok (gone, slots))
behind (raised n v) more slots = Some (Ok (raised n v, slots))

-- the same of a run
abbrev pub then_run : (List (Option Value) → DefinedRun) → End × List (Option Value) → DefinedRun
then_run more x = behind x.0 (more x.1) x.1

-- what a statement comes to, by the priority of its request and the variables
unfoldable mutual
  pub defined_one : ℕ → Step → List (Option Value) → DefinedRun
  defined_one p (let_be n e) slots = defined_value p slots e and_then then_stored slots n
  defined_one p (set n k e) slots = defined_value p slots e and_then defined_fit k and_then then_stored slots n
  defined_one p (branch c a b) slots = defined_value p slots c and_then one_of (defined_run p a slots) (defined_run p b slots)
  defined_one p leave slots = Some (Ok (gone, slots))
  defined_one p (give k e) slots = defined_value p slots e and_then defined_fit k and_then then_end returned slots
  defined_one p (raise n es) slots = defined_fill p slots es (holes_of es) and_then whole and_then then_end (raised n) slots

  -- what a block comes to
  pub defined_run : ℕ → Steps → List (Option Value) → DefinedRun
  defined_run p no_steps slots = Some (Ok (next, slots))
  defined_run p (step s ss) slots = defined_one p s slots and_then then_run (defined_run p ss)
