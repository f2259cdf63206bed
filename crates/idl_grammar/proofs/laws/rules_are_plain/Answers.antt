use Rattle.idl_grammar.proofs.PlainRules.{idl_plain}
use Rattle.idl_grammar.proofs.laws.rules_are_plain.Goals as goal

pub returns : goal.returns
returns g c = idl_plain g.B.Builder.act g.B.Builder.judge
