use Rattle.std.proofs.Common.{◌≤◌, ℕ, List, length, [], ◌∷◌, ap, sym, subst, ◌∙◌}
use Rattle.std.specs.Int.{w32}
use Rattle.orb_base.specs.declared.limits.TheConstants.{MAX_BODY}
use Rattle.orb_base.specs.declared.outcome.Outcome.TheVariants.{Returned}
use Rattle.cdr_core.specs.Field.{number}
use Rattle.name_calls.proofs.Written.{body_written, number_short}
use Rattle.name_calls.proofs.bodies.count.Goals as goal

pub returns-clause-value : goal.returns-clause-value
returns-clause-value c = ap Returned (c.in_ok-new.ensures ∙ body_written c.args.order c.new-writer.result c.put_u32.new.self (number w32 c.args.n ∷ []) c.finish.result.items c.new-writer.ensures c.in_ok-put_u32.ensures c.finish.ensures)

pub returns-clause-short : goal.returns-clause-short
returns-clause-short c = subst (λ (z : List ℕ). length z ≤ MAX_BODY) (sym (c.in_ok-new.ensures ∙ body_written c.args.order c.new-writer.result c.put_u32.new.self (number w32 c.args.n ∷ []) c.finish.result.items c.new-writer.ensures c.in_ok-put_u32.ensures c.finish.ensures)) (number_short c.args.order c.args.n)
