use Rattle.std.proofs.Common.{◌∙◌}
use Rattle.script_names.proofs.Pairs.{looked}
use Rattle.script_names.proofs.names.Names.meaning.Goals as goal

pub returns : goal.returns
returns c = c.copied.ensures ∙ c.get.ensures.value ∙ looked c.args.id.now c.args.self.now.meanings.entries
