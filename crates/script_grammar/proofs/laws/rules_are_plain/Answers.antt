use Rattle.script_grammar.proofs.PlainRules.{script_plain}
use Rattle.script_grammar.proofs.laws.rules_are_plain.Goals as goal

pub returns : goal.returns
returns g c = script_plain g.B.Builder.act g.B.Builder.judge
