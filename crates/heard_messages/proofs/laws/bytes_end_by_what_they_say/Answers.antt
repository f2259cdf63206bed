use Rattle.heard_messages.proofs.Growth.{bytes_end}
use Rattle.heard_messages.proofs.laws.bytes_end_by_what_they_say.Goals as goal

pub returns : goal.returns
returns g c = λ j bytes calls end h. bytes_end (g.J.Judge.means j) (g.J.Judge.first j) bytes calls end h
