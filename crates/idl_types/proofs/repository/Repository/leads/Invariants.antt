use Rattle.std.proofs.Common.{◌+◌, ◌≤◌}
use Rattle.idl_types.specs.Bases.{is_base_at}
use Rattle.idl_types.specs.Contents.{things_of}
use Rattle.idl_types.specs.Marked.{is_marked}
use Rattle.idl_types.specs.Walk.{Walked}
use Rattle.idl_types.proofs.repository.Repository.leads.Given as goal

abbrev pub invariant-loop-at : goal.invariant-loop-at
invariant-loop-at l = Walked (is_base_at (things_of l.self)) l.from l.at (is_marked l.marks.words) × (l.at ≤ l.from + 1)

abbrev pub decreases-loop-at : goal.decreases-loop-at
decreases-loop-at l = l.at
