use Rattle.std.proofs.Common.{◌∙◌, ap}
use Rattle.reference_lines.specs.RefsText.{text_of}
use Rattle.reference_lines.proofs.RefsLaws.{too_many, too_long, read_text, failed, wanting}
use Rattle.reference_lines.proofs.refs.refs_run.Goals as goal

pub returns-then-text-gt-MAX_REFERENCE : goal.returns-then-text-gt-MAX_REFERENCE
returns-then-text-gt-MAX_REFERENCE g c =
    let is = c.text_of-text.ensures ∙ ap text_of c.as_slice.ensures in
    too_long c.in-Whole.input.items c.text_of-text.result.now _ _ _ c.in-Whole.ensures.0 c.in-Whole.ensures.1 is c.if-text-gt-MAX_REFERENCE.true

pub returns-else-text-gt-MAX_REFERENCE : goal.returns-else-text-gt-MAX_REFERENCE
returns-else-text-gt-MAX_REFERENCE g c =
    let is = c.text_of-text.ensures ∙ ap text_of c.as_slice.ensures in
    read_text c.write_lines.result c.in-Whole.input.items c.text_of-text.result.now _ _ _ _
    c.in-Whole.ensures.0 c.in-Whole.ensures.1 c.in-Whole.ensures.2 c.in-Whole.ensures.3 is c.if-text-gt-MAX_REFERENCE.false c.write_lines.ensures

pub returns-in-TooLong : goal.returns-in-TooLong
returns-in-TooLong g c = too_many _ _ _ c.in-TooLong.ensures.0.0 c.in-TooLong.ensures.0.1 c.in-TooLong.ensures.0.2

pub returns-in-NoMemory : goal.returns-in-NoMemory
returns-in-NoMemory g c = wanting _ _ _ _ c.in-NoMemory.ensures.0 c.in-NoMemory.ensures.2
