use Rattle.std.proofs.Common.{◌≤◌, ℕ, List, length, [], ◌∷◌, ap, sym, subst, ◌∙◌}
use Rattle.std.specs.Int.{w8, from_bool}
use Rattle.orb_base.specs.declared.limits.TheConstants.{MAX_BODY}
use Rattle.orb_base.specs.declared.outcome.Outcome.TheVariants.{Returned}
use Rattle.cdr_core.specs.Field.{number}
use Rattle.name_calls.proofs.Written.{body_written, octet_short}
use Rattle.name_calls.proofs.bodies.truth.Goals as goal

pub returns-clause-value : goal.returns-clause-value
returns-clause-value c = ap Returned (c.in_ok-new.ensures ∙ body_written c.args.order c.new-writer.result c.put_bool.new.self (number w8 (from_bool c.args.holds) ∷ []) c.finish.result.items c.new-writer.ensures c.in_ok-put_bool.ensures c.finish.ensures)

pub returns-clause-short : goal.returns-clause-short
returns-clause-short c = subst (λ (z : List ℕ). length z ≤ MAX_BODY) (sym (c.in_ok-new.ensures ∙ body_written c.args.order c.new-writer.result c.put_bool.new.self (number w8 (from_bool c.args.holds) ∷ []) c.finish.result.items c.new-writer.ensures c.in_ok-put_bool.ensures c.finish.ensures)) (octet_short c.args.order (from_bool c.args.holds))
