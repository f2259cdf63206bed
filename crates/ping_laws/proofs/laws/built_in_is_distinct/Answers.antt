use Rattle.ping_laws.proofs.HeardLaws as laws
use Rattle.ping_laws.proofs.laws.built_in_is_distinct.Goals as goal

pub returns : goal.returns
returns c = laws.built_in_is_distinct
