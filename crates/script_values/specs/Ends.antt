-- How a block ended.
use Rattle.std.specs.Prelude.{List, ◌≡◌, Result, Ok, Err}
use Rattle.cdr_values.specs.Trees.{Value}
use Rattle.cdr_values.specs.Values.{value_of}
use Rattle.script_values.specs.declared.limit.Stop.{Stop}
use Rattle.script_values.specs.declared.running.Flow.{Flow}
use Rattle.script_values.specs.declared.running.Flow.TheVariants.{Next, Returned, Lent, Left, Raised}
use Rattle.script_values.specs.Operations.{Comes, ◌>>=◌, member_at}
use Rattle.script_values.specs.Running.{End, next, returned, gone, raised, Ran, then_end}
use Rattle.script_values.specs.Gives.{Stops}

-- the end that the program names, by the variables then
abbrev pub end_of : List Value → Flow → End
end_of slots Next = next
end_of slots (Returned v) = returned (value_of v)
end_of slots (Lent n) = returned (member_at slots n)
end_of slots Left = gone
end_of slots (Raised n v) = raised n (value_of v)

-- how a block ended and what the variables hold then is this, or memory was wanting
abbrev pub Runs : Result Flow Stop → List Value → Ran → Type 0
Runs (Ok f) slots asked = asked ≡ Ok (end_of slots f, slots)
Runs (Err e) slots asked = Stops e asked

-- the block ended with the value that comes, or at its limit
abbrev pub Lends : Result Flow Stop → List Value → Comes Value → Type 0
Lends result slots comes = Runs result slots (comes >>= then_end returned slots)
