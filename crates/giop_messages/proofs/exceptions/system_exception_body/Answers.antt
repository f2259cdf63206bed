-- A repository id is short, and so is the body.
use Rattle.std.proofs.Common.{◌≤◌, List, ℕ, length, sym, subst}
use Rattle.giop_messages.proofs.WritingLaws.{exception_short}
use Rattle.giop_messages.proofs.exceptions.system_exception_body.Goals as goal

pub returns-clause-short : goal.returns-clause-short
returns-clause-short c =
    let short : length c.in-Ok.id ≤ 64 = subst (λ (text : List ℕ). length text ≤ 64) (sym c.in-Ok.ensures.0) c.repository_id.ensures.short in
    exception_short c.args.order _ c.args.system.minor c.completion_status-code.result c.spell.result short c.spell.ensures
