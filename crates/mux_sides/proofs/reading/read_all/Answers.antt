use Rattle.mux_sides.proofs.ReadLaws.{lacks_first}
use Rattle.mux_sides.proofs.reading.read_all.Goals as goal

pub returns-in-Err : goal.returns-in-Err
returns-in-Err g c = lacks_first _ _ _ c.requires.reads c.requires.loses
