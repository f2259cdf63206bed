use Rattle.pipe_laws.proofs.Beginning as laws
use Rattle.pipe_laws.proofs.laws.begun_tells_lacks.Goals as goal

pub returns : goal.returns
returns c = laws.begun_tells_lacks
