use Rattle.std.proofs.Common.{option_map}
use Rattle.service_contexts.proofs.FirstPolicies.{FoundSoFar}
use Rattle.service_contexts.proofs.publishing.find_policy.Given as goal

abbrev pub invariant-loop : goal.invariant-loop
invariant-loop l = FoundSoFar l.wanted l.count l.counter l.fn.reader l.reader (option_map (λ x. x.now) l.found)
