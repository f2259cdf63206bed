use Rattle.std.specs.Int.{w128}
use Rattle.std.proofs.lemmas.Int.{to_z-of_z}
use Rattle.cdr_values.proofs.OneMember.{one_member}
use Rattle.value_json.proofs.reading.chosen.Goals as goal

pub returns : goal.returns
returns c = rw (to_z-of_z w128 c.args.tag c.ranges.tag, ← c.in_ok-member.ensures.ok) (one_member c.args.tag c.in_ok-member.member)
