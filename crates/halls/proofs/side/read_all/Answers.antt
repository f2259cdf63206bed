use Rattle.halls.proofs.Reading.{lacks_first}
use Rattle.halls.proofs.side.read_all.Goals as goal

pub returns-in-Err-clause-reads : goal.returns-in-Err-clause-reads
returns-in-Err-clause-reads g c = lacks_first _ _ _ _
