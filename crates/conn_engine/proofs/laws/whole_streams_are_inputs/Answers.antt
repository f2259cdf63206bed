use Rattle.conn_engine.proofs.Inputs.{stream_is_input, stream_has_input}
use Rattle.conn_engine.proofs.laws.whole_streams_are_inputs.Goals as goal

pub returns-clause-ending : goal.returns-clause-ending
returns-clause-ending c = stream_is_input

pub returns-clause-calls : goal.returns-clause-calls
returns-clause-calls c = stream_has_input
