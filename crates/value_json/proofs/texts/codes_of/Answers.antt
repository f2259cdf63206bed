use Rattle.std.proofs.Common.{◌∙◌}
use Rattle.value_json.proofs.Characters.{ascii_codes}
use Rattle.value_json.proofs.texts.codes_of.Goals as goal

pub returns-then-is_ascii : goal.returns-then-is_ascii
returns-then-is_ascii c =
    ascii_codes c.args.text.now _ c.if-is_ascii.ensures.cases (c.in_ok-from_slice.ensures.items ∙ c.as_bytes.ensures.value)
