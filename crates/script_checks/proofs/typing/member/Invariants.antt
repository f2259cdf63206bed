use Rattle.std.proofs.Common.{◌≡◌, drop}
use Rattle.cdr_values.specs.Trees.{members_of}
use Rattle.cdr_values.specs.Kinds.{members_view}
use Rattle.script_checks.specs.Operators.{find_member}
use Rattle.script_checks.proofs.typing.member.Given as goal

abbrev pub invariant-loop-index : goal.invariant-loop-index
invariant-loop-index l =
    find_member l.index (members_of (members_view (drop l.index l.members))) l.name
    ≡ find_member 0 (members_of (members_view l.members)) l.name
