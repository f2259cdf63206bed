use Rattle.std.proofs.Common.{◌∙◌}
use Rattle.config_tables.proofs.Known.{any_known}
use Rattle.config_tables.proofs.scalars.is_word.Goals as goal

pub returns : goal.returns
returns c = c.is_one_of.ensures ∙ any_known c.args.words.now c.args.text.now
