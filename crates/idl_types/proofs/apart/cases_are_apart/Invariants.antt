use Rattle.std.proofs.Common.{◌≡◌, length}
use Rattle.cdr_values.specs.Kinds.{cases_view}
use Rattle.cdr_values.specs.Trees.{cases_of}
use Rattle.idl_types.specs.Apart.{are_apart, case_names}
use Rattle.idl_types.proofs.apart.cases_are_apart.Given as goal

abbrev pub invariant-loop-rest : goal.invariant-loop-rest
invariant-loop-rest l = are_apart (case_names (cases_of (cases_view l.rest))) ≡ are_apart (case_names (cases_of (cases_view l.cases)))

abbrev pub decreases-loop-rest : goal.decreases-loop-rest
decreases-loop-rest l = length l.rest
