use Rattle.std.proofs.Common.{◌≡◌, drop, take, map, []}
use Rattle.servant_scripts.specs.Trees.{says_of}
use Rattle.servant_scripts.specs.Views.{say_of}
use Rattle.script_values.specs.Views.{steps_view}
use Rattle.script_checks.specs.Blocks.{lines}
use Rattle.script_checks.specs.Views.{ground_of, things_in, vars_view}
use Rattle.script_checks.specs.Done.{goal_of}
use Rattle.script_checks.proofs.blocks.+block.Given as goal

abbrev pub invariant-check_lines-loop-line : goal.invariant-check_lines-loop-line
invariant-check_lines-loop-line l =
    (lines (ground_of l.ground) (goal_of l.goal) (vars_view l.vars.items) l.lets
    (says_of (map say_of (drop l.line-index l.lines))) (steps_view (things_in l.ground) l.stmts.items)
    ≡ lines (ground_of l.ground) (goal_of l.goal) (vars_view l.initial.vars.items) l.fn.lets
    (says_of (map say_of l.lines)) [])
    × (take l.before l.vars.items ≡ l.initial.vars.items)
