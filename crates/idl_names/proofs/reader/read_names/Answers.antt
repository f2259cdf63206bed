use Rattle.idl_names.proofs.WholeNames.{tells, tells_only}
use Rattle.idl_names.proofs.reader.read_names.Goals as goal

pub returns : goal.returns
returns c = record { exact = c.read_text.ensures; whole = tells _ _ c.read_text.ensures; only = tells_only _ _ c.read_text.ensures }
