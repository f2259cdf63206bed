use Rattle.std.proofs.Common.{◌≡◌, length}
use Rattle.cdr_values.specs.Lawful.{are_new}
use Rattle.cdr_values.proofs.LawfulLoops.{labels_in}
use Rattle.cdr_values.proofs.lawful.are_fresh.Given as goal

abbrev pub invariant-loop-rest : goal.invariant-loop-rest
invariant-loop-rest l = are_new l.rest (labels_in l.behind) ≡ are_new l.labels (labels_in l.behind)

abbrev pub decreases-loop-rest : goal.decreases-loop-rest
decreases-loop-rest l = length l.rest
