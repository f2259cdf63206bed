use Rattle.std.proofs.Common.{◌≡◌, [], length}
use Rattle.script_names.specs.Paths.{around}
use Rattle.script_names.specs.Meanings.{unused}
use Rattle.script_names.specs.Views.{pairs_of, with_pairs}
use Rattle.script_names.proofs.putting.put_around.Given as goal

abbrev pub invariant-loop-rest : goal.invariant-loop-rest
invariant-loop-rest l = with_pairs (pairs_of l.index.entries) (unused [] (around l.rest)) ≡ with_pairs (pairs_of l.initial.index.entries) (unused [] (around l.path))

abbrev pub decreases-loop-rest : goal.decreases-loop-rest
decreases-loop-rest l = length l.rest
