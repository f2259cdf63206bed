-- A variable that is returned.
use Rattle.std.proofs.Common.{◌≡◌, ℕ, List, [], Option, Result, Ok, ap, ◌∙◌}
use Rattle.cdr_values.specs.Trees.{Kind, Value}
use Rattle.idl_types.specs.Things.{Thing}
use Rattle.script_values.specs.declared.tree.Expr.{Expr}
use Rattle.script_values.specs.declared.running.Flow.{Flow}
use Rattle.script_values.specs.declared.limit.Stop.{Stop}
use Rattle.script_values.specs.Trees.{Term, slot, give, spine}
use Rattle.script_values.specs.Operations.{member_at}
use Rattle.script_values.specs.Evaluation.{value_at, fit_in}
use Rattle.script_values.specs.Running.{run_one}
use Rattle.script_values.specs.Ends.{Runs, Lends}
use Rattle.script_values.specs.Views.{first_of, term_of, joints_view}
use Rattle.script_values.proofs.Parts.{term_is}

-- an expression without links is its first part
pub no_links : (ts : List Thing) (e : Expr) → e.links.items ≡ [] → term_of ts e ≡ first_of ts e.form
no_links ts e none = term_is ts e ∙ ap (λ ls. spine (first_of ts e.form) (joints_view ts ls)) none

-- a variable that is lent is what a return of it comes to
pub lends_run : (r : Result Flow Stop) (p : ℕ) (k : Option Kind) (slots : List Value) (t : Term) (at : ℕ) → t ≡ slot at
    → Lends r slots (fit_in k (Ok (member_at slots at))) → Runs r slots (run_one p (give k t) slots)
unfolding run_one value_at
lends_run r p k slots t at e h = rw e h
