use Rattle.idl_reader.proofs.WholeThings.{tells, tells_only}
use Rattle.idl_reader.proofs.reader.read_idl.Goals as goal

pub returns : goal.returns
returns c = record { exact = c.read_text.ensures; whole = tells _ _ c.read_text.ensures; only = tells_only _ _ c.read_text.ensures }
