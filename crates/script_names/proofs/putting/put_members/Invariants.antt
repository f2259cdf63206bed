use Rattle.std.proofs.Common.{◌≡◌, drop}
use Rattle.cdr_values.specs.Kinds.{members_view}
use Rattle.cdr_values.specs.Lawful.{member_names}
use Rattle.cdr_values.specs.Trees.{members_of}
use Rattle.script_names.specs.Meanings.{unused}
use Rattle.script_names.specs.Views.{pairs_of, with_pairs}
use Rattle.script_names.proofs.putting.put_members.Given as goal

abbrev pub invariant-loop-member : goal.invariant-loop-member
invariant-loop-member l = with_pairs (pairs_of l.index.entries) (unused l.scope (member_names (members_of (members_view (drop l.member-index l.members)))))
    ≡ with_pairs (pairs_of l.initial.index.entries) (unused l.scope (member_names (members_of (members_view l.members))))
