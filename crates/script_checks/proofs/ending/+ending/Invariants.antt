use Rattle.std.proofs.Common.{◌≡◌, drop, map}
use Rattle.servant_scripts.specs.Trees.{says_of}
use Rattle.servant_scripts.specs.Views.{say_of}
use Rattle.script_checks.specs.Blocks.{ends}
use Rattle.script_checks.proofs.ending.+ending.Given as goal

abbrev pub invariant-ends-loop-line : goal.invariant-ends-loop-line
invariant-ends-loop-line l = ends (says_of (map say_of (drop l.line-index l.lines))) ≡ ends (says_of (map say_of l.lines))
