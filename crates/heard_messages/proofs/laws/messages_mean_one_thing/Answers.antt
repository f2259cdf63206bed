use Rattle.heard_messages.proofs.OneMeaning.{hears_one, goes_on}
use Rattle.heard_messages.proofs.laws.messages_mean_one_thing.Goals as goal

pub returns-clause-one : goal.returns-clause-one
returns-clause-one g c = λ j ms bound serial a b h k. hears_one (g.J.Judge.means j) (g.met.J.Judge.one_way j) ms bound serial a b h k

pub returns-clause-on : goal.returns-clause-on
returns-clause-on g c = λ j ms new bound serial earlier all h k. goes_on (g.J.Judge.means j) (g.met.J.Judge.one_way j) ms new bound serial earlier all h k
