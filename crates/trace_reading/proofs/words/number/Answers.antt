use Rattle.std.proofs.Common.{sym, arith}
use Rattle.trace_reading.proofs.Numerals.{numeral_utf8, number_unparsed}
use Rattle.trace_reading.proofs.words.number.Goals as goal

pub returns-in_default-clause-value : goal.returns-in_default-clause-value
returns-in_default-clause-value c = absurd (c.in_default.ensures.cases.0 (numeral_utf8 c.args.word.now (sym c.if-not-is_numeral.ensures)))

pub returns-in_default-parse-2-clause-value : goal.returns-in_default-parse-2-clause-value
returns-in_default-parse-2-clause-value c =
    let text = c.in-Ok.ensures.cases.0 in
    let h = c.in_default-parse.ensures.value in
    number_unparsed c.args.below c.args.word.now c.in_default-parse.field-0 (omega arith) (rw text at h.0) (sym c.if-not-is_numeral.ensures)
