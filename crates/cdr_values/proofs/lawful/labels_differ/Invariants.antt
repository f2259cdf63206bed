use Rattle.std.proofs.Common.{◌≡◌, length}
use Rattle.std.specs.Ordering.{int_eq}
use Rattle.cdr_values.specs.Lawful.{differ}
use Rattle.cdr_values.proofs.LawfulLoops.{labels_in}
use Rattle.cdr_values.proofs.lawful.labels_differ.Given as goal

abbrev pub invariant-loop-rest : goal.invariant-loop-rest
invariant-loop-rest l = differ int_eq (labels_in l.rest) ≡ differ int_eq (labels_in l.cases)

abbrev pub decreases-loop-rest : goal.decreases-loop-rest
decreases-loop-rest l = length l.rest
