use Rattle.pipe_laws.proofs.Rising as laws
use Rattle.pipe_laws.proofs.laws.rising_offers_once.Goals as goal

pub returns : goal.returns
returns c = laws.rising_offers_once
