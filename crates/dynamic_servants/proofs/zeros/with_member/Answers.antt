use Rattle.std.proofs.Common.{pos, ap, ◌∙◌}
use Rattle.cdr_values.specs.Trees.{chosen, value, no_values}
use Rattle.cdr_values.specs.Values.{value_of}
use Rattle.cdr_values.specs.declared.value.IdlValue.{IdlValue}
use Rattle.cdr_values.proofs.OneMember.{one_member}
use Rattle.dynamic_servants.proofs.zeros.with_member.Goals as goal

pub returns : goal.returns
returns c = one_member (pos 0) c.in_ok-member.member ∙ ap (λ (v : IdlValue). chosen (pos 0) (value (value_of v) no_values)) c.in_ok-member.ensures.ok
