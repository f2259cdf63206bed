use Rattle.std.proofs.Common.{◌∙◌, sym, ap}
use Rattle.script_names.specs.Meanings.{first_or_file}
use Rattle.script_names.proofs.Outward.{at_slash, at_other}
use Rattle.script_names.proofs.parts.outer.Goals as goal

pub returns-then-last-eq47 : goal.returns-then-last-eq47
returns-then-last-eq47 c = sym (ap first_or_file (sym c.loop-rest.invariant ∙ at_slash c.loop-rest.rest.now c.in-len1-up.len_at_least c.if-last-eq47.true))

pub loop-rest-preserved : goal.loop-rest-preserved
loop-rest-preserved c = sym (at_other c.loop-rest.rest.now c.in-len1-up.len_at_least c.if-last-eq47.false) ∙ c.loop-rest.invariant
