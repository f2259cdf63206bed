use Rattle.idl_laws.proofs.Apart.{names_apart, orb_free}
use Rattle.idl_laws.proofs.laws.names_are_apart.Goals as goal

pub returns-clause-apart : goal.returns-clause-apart
returns-clause-apart c = names_apart

pub returns-clause-orb : goal.returns-clause-orb
returns-clause-orb c = orb_free
