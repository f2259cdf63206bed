use Rattle.std.proofs.Common.{◌≡◌, length}
use Rattle.script_names.specs.Paths.{around}
use Rattle.script_names.specs.Finding.{first_inside}
use Rattle.script_names.specs.Contents.{known_of}
use Rattle.script_names.proofs.names.Names.outwards.Given as goal

abbrev pub invariant-loop-rest : goal.invariant-loop-rest
invariant-loop-rest l = first_inside (known_of l.self) l.name (around l.rest) ≡ first_inside (known_of l.self) l.name (around l.scope)

abbrev pub decreases-loop-rest : goal.decreases-loop-rest
decreases-loop-rest l = length l.rest
