use Rattle.conn_engine.proofs.Growth.{hearing_grows}
use Rattle.conn_engine.proofs.laws.further_bytes_are_heard_behind.Goals as goal

pub returns : goal.returns
returns c = hearing_grows
