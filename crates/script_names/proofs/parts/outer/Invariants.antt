use Rattle.std.proofs.Common.{◌≡◌, length}
use Rattle.script_names.specs.Paths.{around}
use Rattle.script_names.proofs.parts.outer.Given as goal

abbrev pub invariant-loop-rest : goal.invariant-loop-rest
invariant-loop-rest l = around l.rest ≡ around l.path

abbrev pub decreases-loop-rest : goal.decreases-loop-rest
decreases-loop-rest l = length l.rest
