use Rattle.grammar.specs.Views.{language}
use Rattle.grammar.proofs.WholeTexts.{whole_complete}
use Rattle.grammar.proofs.laws.reads_each_text.Goals as goal

pub returns : goal.returns
returns g c = whole_complete (language g.B.Builder.inside g.B.Builder.act g.B.Builder.judge g.B.Builder.stop)
