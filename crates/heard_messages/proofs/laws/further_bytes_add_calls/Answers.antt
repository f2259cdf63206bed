use Rattle.heard_messages.proofs.Growth.{hearing_grows}
use Rattle.heard_messages.proofs.laws.further_bytes_add_calls.Goals as goal

pub returns : goal.returns
returns g c = λ j bytes more calls all e f h k. hearing_grows (g.J.Judge.means j) (g.met.J.Judge.one_way j) (g.J.Judge.first j) bytes more calls all e f h k
