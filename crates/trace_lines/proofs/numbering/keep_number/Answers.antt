use Rattle.trace_lines.proofs.numbering.keep_number.Goals as goal

pub returns : goal.returns
returns c = λ other. c.in_ok-insert.ensures.updates.0 other
