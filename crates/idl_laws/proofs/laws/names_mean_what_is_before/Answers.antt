use Rattle.idl_laws.proofs.Parts.{names_mean}
use Rattle.idl_laws.proofs.laws.names_mean_what_is_before.Goals as goal

pub returns : goal.returns
returns c = names_mean
