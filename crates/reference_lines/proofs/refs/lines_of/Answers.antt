use Rattle.std.proofs.Common.{sym, ◌∙◌}
use Rattle.reference_lines.proofs.TextForms.{url_refused, ior_refused}
use Rattle.reference_lines.proofs.refs.lines_of.Goals as goal

pub returns-then-starts_with-clause-refused : goal.returns-then-starts_with-clause-refused
returns-then-starts_with-clause-refused c =
    url_refused c.location_lines.result c.args.text.now (sym c.starts_with.ensures.value ∙ c.if-starts_with.true)
    c.location_lines.ensures.refused

pub returns-else-starts_with-clause-refused : goal.returns-else-starts_with-clause-refused
returns-else-starts_with-clause-refused c =
    ior_refused c.reference_lines.result c.args.text.now (sym c.starts_with.ensures.value ∙ c.if-starts_with.false)
    c.reference_lines.ensures.refused
