use Rattle.conn_engine.proofs.Growth.{heard_is_one}
use Rattle.conn_engine.proofs.laws.heard_so_far_is_one.Goals as goal

pub returns : goal.returns
returns c = heard_is_one
