use Rattle.heard_messages.proofs.Growth.{heard_one}
use Rattle.heard_messages.proofs.laws.bytes_mean_one_thing.Goals as goal

pub returns : goal.returns
returns g c = λ j bytes a b e f h k. heard_one (g.J.Judge.means j) (g.met.J.Judge.one_way j) (g.J.Judge.first j) bytes a b e f h k
