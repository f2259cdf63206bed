use Rattle.script_depths.proofs.LawProofs.{finds_what_it_takes, leaves_nothing, below_is_left}
use Rattle.script_depths.proofs.laws.no_script_meets_an_empty_stack.Goals as goal

pub returns-clause-found : goal.returns-clause-found
returns-clause-found c = finds_what_it_takes

pub returns-clause-left : goal.returns-clause-left
returns-clause-left c = leaves_nothing

pub returns-clause-below : goal.returns-clause-below
returns-clause-below c = below_is_left
