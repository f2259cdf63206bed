use Rattle.std.proofs.Common.{sym, ◌∙◌}
use Rattle.value_json.proofs.Characters.{ascii_text}
use Rattle.value_json.proofs.texts.plain_text.Goals as goal

pub returns-in-Ok : goal.returns-in-Ok
returns-in-Ok c = c.in-Ok.ensures.cases.0 ∙ sym (ascii_text c.args.bytes.now c.if-not-is_ascii.ensures.cases c.in-Ok.ensures.cases.1)
