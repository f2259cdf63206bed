use Rattle.config_tables.proofs.LeastKey.{least_unknown}
use Rattle.config_tables.proofs.laws.the_least_unknown_key_is_told.Goals as goal

-- the keys of a table ascend, as its length tells
pub returns : goal.returns
returns c = λ known k found. least_unknown known c.args.table.now k c.len.ensures.ordered found
