use Rattle.heard_messages.proofs.Inputs.{stream_is_input, stream_has_input}
use Rattle.heard_messages.proofs.laws.whole_streams_are_inputs.Goals as goal

pub returns-clause-ending : goal.returns-clause-ending
returns-clause-ending g c = λ j bytes ended calls end h not_spent not_fault. stream_is_input (g.J.Judge.means j) (g.J.Judge.first j) bytes ended calls end h not_spent not_fault

pub returns-clause-calls : goal.returns-clause-calls
returns-clause-calls g c = λ j bytes ended calls end h. stream_has_input (g.J.Judge.means j) (g.J.Judge.first j) bytes ended calls end h
