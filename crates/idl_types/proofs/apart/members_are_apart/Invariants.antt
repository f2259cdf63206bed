use Rattle.std.proofs.Common.{◌≡◌, length}
use Rattle.cdr_values.specs.Kinds.{members_view}
use Rattle.cdr_values.specs.Lawful.{member_names}
use Rattle.cdr_values.specs.Trees.{members_of}
use Rattle.idl_types.specs.Apart.{are_apart}
use Rattle.idl_types.proofs.apart.members_are_apart.Given as goal

abbrev pub invariant-loop-rest : goal.invariant-loop-rest
invariant-loop-rest l = are_apart (member_names (members_of (members_view l.rest))) ≡ are_apart (member_names (members_of (members_view l.members)))

abbrev pub decreases-loop-rest : goal.decreases-loop-rest
decreases-loop-rest l = length l.rest
