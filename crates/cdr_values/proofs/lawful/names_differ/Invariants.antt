use Rattle.std.proofs.Common.{◌≡◌, length}
use Rattle.std.specs.Str.{bytes_eq}
use Rattle.cdr_values.specs.Lawful.{differ}
use Rattle.cdr_values.proofs.LawfulLoops.{names_of}
use Rattle.cdr_values.proofs.lawful.names_differ.Given as goal

abbrev pub invariant-loop-rest : goal.invariant-loop-rest
invariant-loop-rest l = differ bytes_eq (names_of l.rest) ≡ differ bytes_eq (names_of l.members)

abbrev pub decreases-loop-rest : goal.decreases-loop-rest
decreases-loop-rest l = length l.rest
