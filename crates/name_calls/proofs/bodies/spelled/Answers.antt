use Rattle.std.proofs.Common.{rules, ◌≡◌, ◌≤◌, ℕ, List, length, IfOk, sym, subst}
use Rattle.orb_base.specs.declared.limits.TheConstants.{MAX_BODY}
use Rattle.cdr_core.specs.Field.{string_fields}
use Rattle.name_calls.specs.Bodies.{body}
use Rattle.name_calls.proofs.Written.{body_written, text_short}
use Rattle.name_calls.proofs.bodies.spelled.Goals as goal

pub returns-clause-value : goal.returns-clause-value
returns-clause-value c = subst (λ (z : List ℕ). IfOk c.new.result (λ b. b ≡ z))
    (body_written c.args.order c.new-writer.result c.put_string.new.self (string_fields c.args.text.now) c.finish.result.items c.new-writer.ensures c.in_ok-put_string.ensures c.finish.ensures) c.new.ensures

pub returns-clause-short : goal.returns-clause-short
returns-clause-short c =
    let same : c.finish.result.items ≡ body c.args.order (string_fields c.args.text.now) = body_written c.args.order c.new-writer.result c.put_string.new.self (string_fields c.args.text.now) c.finish.result.items c.new-writer.ensures c.in_ok-put_string.ensures c.finish.ensures in
    let few : length c.finish.result.items ≤ MAX_BODY = subst (λ (z : List ℕ). length z ≤ MAX_BODY) (sym same) (text_short c.args.order c.args.text.now c.requires) in
    search rules
